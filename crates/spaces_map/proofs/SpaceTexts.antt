-- The text of spaces, line by line.
use Rattle.std.proofs.Common.{◌≡◌, ◌≢◌, ◌<◌, ◌≤◌, ◌+◌, ℕ, true, false, cond, ltb, List, [], ◌∷◌, ◌++◌, Option, Some, None, length, refl, sym, ap, ◌∙◌, subst, arith, inl, inr, append_assoc}
use Rattle.std.specs.Prelude.{unwrap_or}
use Rattle.std.specs.List.{flat_map}
use Rattle.std.proofs.lemmas.Bool.{ltb-false}
use Rattle.std.proofs.lemmas.Grind.{flat_map-append}
use Rattle.std.proofs.lemmas.List.{append-nil, length_push}
use Rattle.spaces_map.specs.LineFaults.{IsLineFault, IsNoLine}
use Rattle.spaces_map.specs.Lines.{line_text}
use Rattle.spaces_map.specs.Texts.{HasNoLine, IsBadLine, IsFault, IsSpaces, MayFollow, Reaches, header, space_line, spaces_text}
use Rattle.spaces_map.specs.declared.error.SpacesError.{SpacesError}
use Rattle.spaces_map.specs.declared.error.SpacesError.TheVariants.{BadLine, SamePrefix, OutOfMemory}
use Rattle.spaces_map.specs.declared.space.Space.{Space}
use Rattle.spaces_map.proofs.Cuts.{Lacks, cut_once, no_byte}
use Rattle.spaces_map.proofs.Follows.{fits_push}
use Rattle.spaces_map.proofs.LineTexts.{one_line}

-- the first place, or the length
pub place_is : (p n : ℕ) (r : Option ℕ) → p ≤ n → r ≡ cond (ltb p n) (Some p) None → unwrap_or r n ≡ p
place_is p n r fits is =
    elim (ltb p n) as (λ v. ltb p n ≡ v → r ≡ cond v (Some p) None → unwrap_or r n ≡ p) [
      | true ↦ λ e same. ap (λ (o : Option ℕ). unwrap_or o n) same
      | false ↦ λ e same. let above : n ≤ p = ltb-false p n e in let end : n ≡ p = omega arith in ap (λ (o : Option ℕ). unwrap_or o n) same ∙ end
    ] refl is

-- ---- the first line

pub header_is : header ≡ 97 ∷ 117 ∷ 116 ∷ 104 ∷ 115 ∷ 112 ∷ 97 ∷ 99 ∷ 101 ∷ 115 ∷ 32 ∷ 49 ∷ 10 ∷ []
unfolding header
header_is = refl

pub no_header : (text first : List ℕ) → header ≡ first → ((rest : List ℕ) → text ≢ first ++ rest) → IsBadLine text 1
no_header text first same none = inl (refl, λ rest is. none rest (is ∙ ap (λ (l : List ℕ). l ++ rest) same))

pub begin : (text first rest : List ℕ) (spaces : List Space) → header ≡ first → text ≡ first ++ rest → spaces ≡ [] → IsSpaces spaces × (text ≡ spaces_text spaces ++ rest)
begin text first rest spaces same is none =
    let P : List Space → Type 0 = λ l. IsSpaces l × (text ≡ spaces_text l ++ rest) in
    let few : length {A = Space} [] ≤ 256 = omega arith in
    subst P (sym none) (record { few = few; each = tt }, is ∙ ap (λ (l : List ℕ). l ++ rest) (sym same ∙ sym (append-nil header)))

-- ---- a line

-- the end of the line stands in front
pub line_first : (space : Space) (more : List ℕ) → space_line space ++ more ≡ line_text space ++ 10 ∷ more
line_first space more = append_assoc (line_text space) (10 ∷ []) more

pub not_nil : (a b : List ℕ) → a ++ 10 ∷ b ≢ []
not_nil [] b e = cc
not_nil (x ∷ a) b e = cc

-- no line feed
no_line : (rest : List ℕ) → Lacks 10 rest → HasNoLine rest
no_line rest lacks space form more is = no_byte 10 rest (line_text space) more lacks (is ∙ line_first space more)

-- the line is another one
other_line : (rest line more : List ℕ) → rest ≡ line ++ 10 ∷ more → Lacks 10 line → IsNoLine line → HasNoLine rest
other_line rest line more cut first none space form behind is =
    none space form (cut_once 10 line more (line_text space) behind first (one_line space form) (sym cut ∙ is ∙ line_first space behind)).0

pub no_line_feed : (text rest : List ℕ) (spaces : List Space) (at : ℕ) → IsSpaces spaces × (text ≡ spaces_text spaces ++ rest) → at ≡ length spaces + 2 → rest ≢ [] → Lacks 10 rest → IsBadLine text at
no_line_feed text rest spaces at so_far is some lacks =
    inr (spaces, rest, record { spaces = so_far.0; is = so_far.1; at = is }, some, inr (no_line rest lacks))

-- the fault of the line is that of the text
pub fault_of : (text rest line more : List ℕ) (spaces : List Space) → IsSpaces spaces × (text ≡ spaces_text spaces ++ rest) → rest ≡ line ++ 10 ∷ more → Lacks 10 line →
    (error : SpacesError) → IsLineFault spaces line error → IsFault text error
fault_of text rest line more spaces so_far cut first (BadLine at) fault =
    let some : rest ≢ [] = λ e. not_nil line more (sym cut ∙ e) in
    let reaches : Reaches text at spaces rest = record { spaces = so_far.0; is = so_far.1; at = fault.0 } in
    elim fault.1 [
      | inl full ↦ inr (spaces, rest, reaches, some, inl full)
      | inr none ↦ inr (spaces, rest, reaches, some, inr (other_line rest line more cut first none))
    ]
fault_of text rest line more spaces so_far cut first (SamePrefix at) fault =
    let repeat = fault.2 in
    let is : rest ≡ space_line repeat.0 ++ more = cut ∙ ap (λ (l : List ℕ). l ++ 10 ∷ more) repeat.2 ∙ sym (line_first repeat.0 more) in (
      spaces,
      repeat.0,
      more,
      record { spaces = so_far.0; is = so_far.1 ∙ ap (λ (l : List ℕ). spaces_text spaces ++ l) is; at = fault.0 },
      fault.1,
      repeat.1,
      repeat.3,
    )
fault_of text rest line more spaces so_far cut first OutOfMemory fault = tt

-- one more line
pub next_line : (text rest line more : List ℕ) (spaces : List Space) (space : Space) → IsSpaces spaces × (text ≡ spaces_text spaces ++ rest) → rest ≡ line ++ 10 ∷ more →
    line ≡ line_text space → MayFollow spaces space → length spaces < 256 → IsSpaces (spaces ++ space ∷ []) × (text ≡ spaces_text (spaces ++ space ∷ []) ++ more)
next_line text rest line more spaces space so_far cut is follows room =
    let count = length_push spaces space in
    let few : length (spaces ++ space ∷ []) ≤ 256 = omega arith in
    let lines : List Space → List ℕ = λ l. flat_map space_line l in
    let one : rest ≡ space_line space ++ more = cut ∙ ap (λ (l : List ℕ). l ++ 10 ∷ more) is ∙ sym (line_first space more) in (
      record { few = few; each = fits_push MayFollow [] spaces space so_far.0.each follows },
      so_far.1 ∙ ap (λ (l : List ℕ). spaces_text spaces ++ l) one ∙ sym (append_assoc (spaces_text spaces) (space_line space) more)
          ∙ ap (λ (l : List ℕ). l ++ more) (
          append_assoc header (lines spaces) (space_line space) ∙ ap (λ (l : List ℕ). header ++ (lines spaces ++ l)) (sym (append-nil (space_line space)))
          ∙ ap (λ (l : List ℕ). header ++ l) (sym (flat_map-append space_line spaces (space ∷ [])))
          ),
    )

-- nothing left
pub all_lines : (text rest : List ℕ) (spaces : List Space) → text ≡ spaces_text spaces ++ rest → rest ≡ [] → text ≡ spaces_text spaces
all_lines text rest spaces is end = is ∙ ap (λ (l : List ℕ). spaces_text spaces ++ l) end ∙ append-nil (spaces_text spaces)
