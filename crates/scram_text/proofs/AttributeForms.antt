-- Texts that begin with an attribute.
use Rattle.std.proofs.Common.{◌≡◌, ◌+◌, ◌-◌, ◌==◌, ℕ, List, [], ◌∷◌, ◌++◌, true, refl, sym, ◌∙◌, ap, subst, length, length-append, append-nil, arith}
use Rattle.std.proofs.lemmas.Bool.Decides.{Decides-eqb}
use Rattle.scram_text.specs.Contents.{Holds, has_letter}
use Rattle.scram_text.specs.Parts.{BreaksOff, Ends, HoldsFirst, HoldsLast, IsAttribute, IsWith, Then}
use Rattle.scram_text.specs.Reaching.{Halts}
use Rattle.scram_text.specs.declared.attribute.Attribute.{Attribute}
use Rattle.scram_text.proofs.AttributeLaws.{attribute_of, attribute_whole, with_is}
use Rattle.scram_text.proofs.ExtensionLaws.{no_extensions}
use Rattle.scram_text.proofs.FormLaws.{moved}
use Rattle.scram_text.proofs.PartLaws.{then_off, then_on}

-- a text of an attribute alone, and one of an attribute and more
pub last_word : (a : Attribute) → (w : List ℕ) × Ends (IsAttribute a) w
last_word a = ((attribute_of a).0, record { part = (attribute_of a).0; more = []; cut = sym (append-nil (attribute_of a).0); is_part = (attribute_of a).1; extensions = no_extensions })

module _ (a : Attribute) (More : List ℕ → Type 0) where
  pub first_word : (w : List ℕ) → More w → (v : List ℕ) × Then (IsAttribute a) More v
  first_word w is = ((attribute_of a).0 ++ 44 ∷ w, record { part = (attribute_of a).0; more = w; cut = refl; is_part = (attribute_of a).1; is_more = is })

  -- the text stops at it, or behind it
  pub stops_at : (w : List ℕ) → More w → (text : List ℕ) (at : ℕ) → BreaksOff (IsAttribute a) text at → Halts (Then (IsAttribute a) More) text at
  stops_at w is text at off = then_off (IsAttribute a) (attribute_whole a) More w is text at off

  pub stops_behind : (text content rest : List ℕ) (at : ℕ) → HoldsFirst a text content rest → Halts More rest at → Halts (Then (IsAttribute a) More) text (length text - length rest + at)
  stops_behind text content rest at holds halts =
      let on = then_on (IsAttribute a) (attribute_whole a) More holds.part rest at (with_is a holds.part content holds.is) halts in
      let P : List ℕ → Type 0 = λ t. Halts (Then (IsAttribute a) More) t (length text - length rest + at) in
      subst P (sym holds.cut) (moved (Then (IsAttribute a) More) (holds.part ++ 44 ∷ rest) (length holds.part + (1 + at)) (length text - length rest + at)
      (let e : length text ≡ length holds.part + (1 + length rest) = ap length holds.cut ∙ length-append holds.part (44 ∷ rest) ∙ omega arith in omega arith) on)

-- what an attribute holds
pub content_in : (a : Attribute) (part : List ℕ) → IsAttribute a part → (content : List ℕ) × IsWith a part content
content_in a part is = (is.follows.more, record { letter = is.first; cut = is.cut ∙ ap (λ (w : List ℕ). is.first ∷ w) is.follows.cut ∙ ap (λ (x : ℕ). is.first ∷ x ∷ is.follows.more) ((Decides-eqb is.follows.first 61).0 is.follows.leads); has = is.leads; holds = is.follows.follows })

-- the attribute of the one letter that it may have
pub attribute_at : (a : Attribute) (letter : ℕ) (content : List ℕ) → has_letter a letter ≡ true → Holds a content → IsAttribute a (letter ∷ 61 ∷ content)
attribute_at a letter content has holds = with_is a (letter ∷ 61 ∷ content) content (record { letter = letter; cut = refl; has = has; holds = holds })

-- the same by the text behind it
pub cut_first : (a : Attribute) (letter : ℕ) (text content rest : List ℕ) → ((b : ℕ) → has_letter a b ≡ true → b ≡ letter) → HoldsFirst a text content rest → text ≡ letter ∷ 61 ∷ (content ++ 44 ∷ rest)
cut_first a letter text content rest one first =
    first.cut ∙ ap (λ (p : List ℕ). p ++ 44 ∷ rest) first.is.cut ∙ ap (λ (x : ℕ). x ∷ 61 ∷ (content ++ 44 ∷ rest)) (one first.is.letter first.is.has)

pub cut_last : (a : Attribute) (letter : ℕ) (text content : List ℕ) → ((b : ℕ) → has_letter a b ≡ true → b ≡ letter) → (last : HoldsLast a text content) → text ≡ letter ∷ 61 ∷ (content ++ last.more)
cut_last a letter text content one last =
    last.cut ∙ ap (λ (p : List ℕ). p ++ last.more) last.is.cut ∙ ap (λ (x : ℕ). x ∷ 61 ∷ (content ++ last.more)) (one last.is.letter last.is.has)

-- and from the parts of a form
pub first_in : (a : Attribute) (More : List ℕ → Type 0) (text : List ℕ) (then : Then (IsAttribute a) More text) → HoldsFirst a text (content_in a then.part then.is_part).0 then.more
first_in a More text then = record { part = then.part; cut = then.cut; is = (content_in a then.part then.is_part).1 }

pub last_in : (a : Attribute) (text : List ℕ) (ends : Ends (IsAttribute a) text) → HoldsLast a text (content_in a ends.part ends.is_part).0
last_in a text ends = record { part = ends.part; more = ends.more; cut = ends.cut; is = (content_in a ends.part ends.is_part).1; extensions = ends.extensions }

-- the letters
pub is_letter_of : (letter : ℕ) (b : ℕ) → (b == letter) ≡ true → b ≡ letter
is_letter_of letter b is = (Decides-eqb b letter).0 is
