-- A text is one client-first message at most.
use Rattle.std.proofs.Common.{◌≡◌, ℕ, List, [], ◌∷◌, ◌++◌, refl, sym, ◌∙◌, subst, append-nil, arith}
use Rattle.scram_text.specs.Bytes.{escaped}
use Rattle.scram_text.specs.ClientFirsts.{FirstParts, IsBare, SpellsClientFirst}
use Rattle.scram_text.specs.Flags.{flag_letter}
use Rattle.std.specs.Prelude.{IfOk}
use Rattle.std.specs.declared.result.Result.{Result}
use Rattle.std.specs.declared.result.Result.TheVariants.{Ok, Err}
use Rattle.scram_text.specs.ClientFirstAnswers.{AnswersClientFirst, parts_of}
use Rattle.scram_text.specs.declared.client_first.ClientFirst.{ClientFirst}
use Rattle.scram_text.specs.declared.error.ScramError.{ScramError}
use Rattle.scram_text.specs.Contents.{WritesName}
use Rattle.scram_text.specs.declared.attribute.Attribute.TheVariants.{Name, Nonce}
use Rattle.scram_text.specs.declared.flag.Flag.{Flag}
use Rattle.scram_text.specs.declared.flag.Flag.TheVariants.{N, Y}
use Rattle.scram_text.proofs.AttributeLaws.{content_whole}
use Rattle.scram_text.proofs.ExtensionLaws.{at_comma}
use Rattle.scram_text.proofs.PartLaws.{parted}
use Rattle.scram_text.proofs.WrittenNames.{escape_some, goes_on}

pub flag_unique : (f g : Flag) → flag_letter f ≡ flag_letter g → f ≡ g
flag_unique N N same = refl
flag_unique Y Y same = refl
flag_unique N Y same = absurd (omega (arith, same))
flag_unique Y N same = absurd (omega (arith, same))

-- a text writes one name
name_unique : (text a b : List ℕ) → WritesName text a → WritesName text b → a ≡ b
name_unique text a b wa wb =
    let next = goes_on a b [] (append-nil (escaped a) ∙ sym wa.written ∙ wb.written) in
    go next.tail next.whole next.left
  where
    go : (tail : List ℕ) → b ≡ a ++ tail → [] ≡ escaped tail → a ≡ b
    go [] whole left = sym (whole ∙ append-nil a)
    go (c ∷ tail) whole left = absurd (escape_some c (escaped tail) (sym left))

pub tail_of : {x y : ℕ} {s t : List ℕ} → x ∷ s ≡ y ∷ t → s ≡ t
tail_of same = cc

-- what stands behind the flag has one name and one nonce
bare_unique : (text v w m n a b : List ℕ) → IsBare text v m → IsBare text w n → WritesName v a → WritesName w b → (v ≡ w) × (m ≡ n)
bare_unique text v w m n a b x y names namesy =
    let same : v ++ 44 ∷ 114 ∷ 61 ∷ (m ++ x.extensions) ≡ w ++ 44 ∷ 114 ∷ 61 ∷ (n ++ y.extensions) = tail_of (tail_of (sym x.cut ∙ y.cut)) in
    let cut = parted v w (44 ∷ 114 ∷ 61 ∷ (m ++ x.extensions)) (44 ∷ 114 ∷ 61 ∷ (n ++ y.extensions)) (content_whole Name v (a, names)) (content_whole Name w (b, namesy)) refl refl same in
    let rest : m ++ x.extensions ≡ n ++ y.extensions = tail_of (tail_of (tail_of cut.1)) in
    (cut.0, (parted m n x.extensions y.extensions (content_whole Nonce m x.is_nonce) (content_whole Nonce n y.is_nonce) (at_comma x.extensions x.are_extensions) (at_comma y.extensions y.are_extensions) rest).0)

pub spelled_once : (text : List ℕ) (p q : FirstParts) → SpellsClientFirst text p → SpellsClientFirst text q → p ≡ q
spelled_once text p q x y =
    let same : flag_letter p.flag ∷ 44 ∷ 44 ∷ p.bare ≡ flag_letter q.flag ∷ 44 ∷ 44 ∷ q.bare = sym x.cut ∙ y.cut in
    let letter : flag_letter p.flag ≡ flag_letter q.flag = cc in
    let flag = flag_unique p.flag q.flag letter in
    let bare : p.bare ≡ q.bare = tail_of (tail_of (tail_of same)) in
    let B : List ℕ → Type 0 = λ t. IsBare t y.written q.nonce in
    let both = bare_unique p.bare x.written y.written p.nonce q.nonce p.name q.name x.is_bare (subst B (sym bare) y.is_bare) x.is_name y.is_name in
    let W : List ℕ → Type 0 = λ t. WritesName t q.name in
    let name = name_unique x.written p.name q.name x.is_name (subst W (sym both.0) y.is_name) in
    parts_same flag name both.1 bare
  where
    parts_same : p.flag ≡ q.flag → p.name ≡ q.name → p.nonce ≡ q.nonce → p.bare ≡ q.bare → p ≡ q
    parts_same f a n b i = record { flag = f i; name = a i; nonce = n i; bare = b i }

-- so a message that is read is the only one
pub only_answer : (text : List ℕ) (answer : Result ClientFirst ScramError) → AnswersClientFirst text answer → IfOk answer (λ m. (parts : FirstParts) → SpellsClientFirst text parts → parts ≡ parts_of m)
only_answer text (Ok m) told = λ parts spells. spelled_once text parts (parts_of m) spells told.0
only_answer text (Err error) told = tt
