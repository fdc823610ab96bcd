-- Extensions and then a proof, and how far a text goes on so.
use Rattle.std.proofs.Common.{◌≡◌, ◌+◌, ◌-◌, ◌≤◌, ◌==◌, not, ℕ, Bool, true, false, List, [], ◌∷◌, ◌++◌, refl, sym, ◌∙◌, ap, subst, length, length-append, append_assoc, append-nil, ◌⊎◌, inl, inr, arith}
use Rattle.std.specs.List.{AllByRecursion}
use Rattle.scram_text.specs.Bytes.{is_letter}
use Rattle.scram_text.specs.Contents.{has_letter}
use Rattle.scram_text.specs.Parts.{BreaksOff, HoldsFirst, HoldsTail, IsAttribute, IsTail, StandBefore, Then, before_commas, behind_commas}
use Rattle.scram_text.specs.Reaching.{Halts, Reaches}
use Rattle.scram_text.specs.declared.attribute.Attribute.TheVariants.{Inner, Proof}
use Rattle.scram_text.proofs.AttributeForms.{content_in}
use Rattle.scram_text.proofs.AttributeLaws.{attribute_of, attribute_whole, goes_nowhere, with_is}
use Rattle.scram_text.proofs.ByteTests.{both}
use Rattle.scram_text.proofs.EitherLaws.{either_halts}
use Rattle.scram_text.proofs.FormLaws.{moved, same_reach}
use Rattle.scram_text.proofs.PartLaws.{then_off, then_on}

abbrev pub IsMore : List ℕ → Type 0
IsMore t = Then (IsAttribute Inner) IsTail t ⊎ IsAttribute Proof t

-- nothing stands before the text itself
pub none_before : (text : List ℕ) → StandBefore text text
none_before text = record { parts = []; cut = refl; each = tt }

pub tail_word : (w : List ℕ) × IsTail w
tail_word = ((attribute_of Proof).0, record { last = (attribute_of Proof).0; before = none_before (attribute_of Proof).0; is_last = (attribute_of Proof).1 })

-- one more before
pub one_before : (text rest part more : List ℕ) → StandBefore rest text → rest ≡ part ++ 44 ∷ more → IsAttribute Inner part → StandBefore more text
one_before text rest part more before cut is = record {
  parts = before.parts ++ part ∷ [];
  cut = before.cut ∙ ap (λ (w : List ℕ). before_commas before.parts ++ w) cut ∙ joined before.parts;
  each = all before.parts before.each;
}
  where
    joined : (parts : List (List ℕ)) → before_commas parts ++ (part ++ 44 ∷ more) ≡ before_commas (parts ++ part ∷ []) ++ more
    joined [] = sym (append_assoc part (44 ∷ []) more) ∙ ap (λ (w : List ℕ). w ++ more) (sym (append-nil (part ++ 44 ∷ [])))
    joined (p ∷ ps) = append_assoc (p ++ 44 ∷ []) (before_commas ps) (part ++ 44 ∷ more) ∙ ap (λ (w : List ℕ). (p ++ 44 ∷ []) ++ w) (joined ps) ∙ sym (append_assoc (p ++ 44 ∷ []) (before_commas (ps ++ part ∷ [])) more)

    all : (parts : List (List ℕ)) → AllByRecursion (IsAttribute Inner) parts → AllByRecursion (IsAttribute Inner) (parts ++ part ∷ [])
    all [] each = (is, tt)
    all (p ∷ ps) each = (each.0, all ps each.1)

pub inner_before : (text rest content more : List ℕ) → StandBefore rest text → HoldsFirst Inner rest content more → StandBefore more text
inner_before text rest content more before first = one_before text rest first.part more before first.cut (with_is Inner first.part content first.is)

-- a tail is a proof, or an extension and a tail
pub tail_more : (t : List ℕ) → IsTail t → IsMore t
tail_more t tail = go tail.before.parts tail.before.cut tail.before.each
  where
    go : (parts : List (List ℕ)) → t ≡ before_commas parts ++ tail.last → AllByRecursion (IsAttribute Inner) parts → IsMore t
    go [] cut each = inr (subst (IsAttribute Proof) (sym cut) tail.is_last)
    go (p ∷ ps) cut each = inl (record {
      part = p;
      more = before_commas ps ++ tail.last;
      cut = cut ∙ append_assoc (p ++ 44 ∷ []) (before_commas ps) tail.last ∙ append_assoc p (44 ∷ []) (before_commas ps ++ tail.last);
      is_part = each.0;
      is_more = record { last = tail.last; before = record { parts = ps; cut = refl; each = each.1 }; is_last = tail.is_last };
    })

pub more_tail : (t : List ℕ) → IsMore t → IsTail t
more_tail t is = elim is [
  | inl then ↦ record {
    last = then.is_more.last;
    before = record {
      parts = then.part ∷ then.is_more.before.parts;
      cut = then.cut ∙ ap (λ (w : List ℕ). then.part ++ 44 ∷ w) then.is_more.before.cut ∙ sym (append_assoc then.part (44 ∷ []) (before_commas then.is_more.before.parts ++ then.is_more.last)) ∙ sym (append_assoc (then.part ++ 44 ∷ []) (before_commas then.is_more.before.parts) then.is_more.last);
      each = (then.is_part, then.is_more.before.each);
    };
    is_last = then.is_more.is_last;
  }
  | inr proof ↦ record { last = t; before = none_before t; is_last = proof }
]

same_halts : (text : List ℕ) (at : ℕ) → Halts IsMore text at → Halts IsTail text at
same_halts text at halts = record { reach = same_reach IsMore IsTail more_tail tail_more text at halts.reach; none = λ tail. halts.none (tail_more text tail) }

-- it stops here
pub tail_stops : (text : List ℕ) (m n at : ℕ) → m ≤ at → n ≤ at → (at ≡ m) ⊎ (at ≡ n) → BreaksOff (IsAttribute Inner) text m → Reaches (IsAttribute Proof) text n → (IsAttribute Proof text → ⊥) → Halts IsTail text at
tail_stops text m n at first second one off reach none =
    same_halts text at (either_halts (Then (IsAttribute Inner) IsTail) (IsAttribute Proof) text m n at first second one
    (then_off (IsAttribute Inner) (attribute_whole Inner) IsTail tail_word.0 tail_word.1 text m off) (record { reach = reach; none = none }))

-- an extension is no proof
not_proof : (b : ℕ) → has_letter Inner b ≡ true → has_letter Proof b ≡ false
not_proof b has = flip (b == 112) (both (is_letter b) (not (b == 112)) has).1
  where
    flip : (x : Bool) → not x ≡ true → x ≡ false
    flip true is = cc
    flip false is = refl

first_letter : (part more : List ℕ) → IsAttribute Inner part → (b : ℕ) (left : List ℕ) → part ++ 44 ∷ more ≡ b ∷ left → has_letter Proof b ≡ false
first_letter part more is b left e =
    let cut : is.first ∷ (is.more ++ 44 ∷ more) ≡ b ∷ left = sym (ap (λ (w : List ℕ). w ++ 44 ∷ more) is.cut) ∙ e in
    let same : is.first ≡ b = cc in
    subst (λ (x : ℕ). has_letter Proof x ≡ false) same (not_proof is.first is.leads)

-- it stops behind an extension
pub tail_on : (part text : List ℕ) (at : ℕ) → IsAttribute Inner part → Halts IsTail text at → Halts IsTail (part ++ 44 ∷ text) (length part + (1 + at))
tail_on part text at is halts =
    same_halts (part ++ 44 ∷ text) (length part + (1 + at)) (either_halts (Then (IsAttribute Inner) IsTail) (IsAttribute Proof) (part ++ 44 ∷ text) (length part + (1 + at)) 0 (length part + (1 + at)) (omega arith) (omega arith) (inl refl)
    (then_on (IsAttribute Inner) (attribute_whole Inner) IsTail part text at is halts)
    (record { reach = goes_nowhere Proof (part ++ 44 ∷ text) (first_letter part text is); none = none }))
  where
    none : IsAttribute Proof (part ++ 44 ∷ text) → ⊥
    none proof = let wrong : true ≡ false = sym proof.leads ∙ first_letter part text is proof.first proof.more proof.cut in cc

-- and behind all that stand before
pub tail_behind : (parts : List (List ℕ)) (text : List ℕ) (at : ℕ) → AllByRecursion (IsAttribute Inner) parts → Halts IsTail text at → Halts IsTail (before_commas parts ++ text) (length (before_commas parts) + at)
tail_behind [] text at each halts = moved IsTail text at (0 + at) (omega arith) halts
tail_behind (p ∷ ps) text at each halts =
    let rest = tail_behind ps text at each.1 halts in
    let P : List ℕ → Type 0 = λ t. Halts IsTail t (length (before_commas (p ∷ ps)) + at) in
    subst P (sym (append_assoc (p ++ 44 ∷ []) (before_commas ps) text ∙ append_assoc p (44 ∷ []) (before_commas ps ++ text)))
    (moved IsTail (p ++ 44 ∷ (before_commas ps ++ text)) (length p + (1 + (length (before_commas ps) + at))) (length (before_commas (p ∷ ps)) + at)
    (let e = length-append (p ++ 44 ∷ []) (before_commas ps) in let f = length-append p (44 ∷ []) in omega (arith, e, f)) (tail_on p (before_commas ps ++ text) (length (before_commas ps) + at) each.0 rest))

pub tail_halts : (text rest : List ℕ) (at : ℕ) → StandBefore rest text → Halts IsTail rest at → Halts IsTail text (length text - length rest + at)
tail_halts text rest at before halts =
    let P : List ℕ → Type 0 = λ t. Halts IsTail t (length text - length rest + at) in
    subst P (sym before.cut) (moved IsTail (before_commas before.parts ++ rest) (length (before_commas before.parts) + at) (length text - length rest + at)
    (let e = ap length before.cut ∙ length-append (before_commas before.parts) rest in omega (arith, e)) (tail_behind before.parts rest at before.each halts))

-- the commas that stand behind extensions stand before the next ones
pub commas_moved : (parts : List (List ℕ)) (last : List ℕ) → 44 ∷ (before_commas parts ++ last) ≡ behind_commas parts ++ 44 ∷ last
commas_moved [] last = refl
commas_moved (p ∷ ps) last =
    ap (λ (w : List ℕ). 44 ∷ w) (append_assoc (p ++ 44 ∷ []) (before_commas ps) last ∙ append_assoc p (44 ∷ []) (before_commas ps ++ last) ∙ ap (λ (w : List ℕ). p ++ w) (commas_moved ps last) ∙ sym (append_assoc p (behind_commas ps) (44 ∷ last)))

-- what holds in a tail
pub tail_in : (t : List ℕ) (tail : IsTail t) → HoldsTail t (content_in Proof tail.last tail.is_last).0
tail_in t tail = record { last = tail.last; before = tail.before; is = (content_in Proof tail.last tail.is_last).1 }
