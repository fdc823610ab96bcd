-- Messages as parts with commas between them (RFC 5802 section 5.1).
use Rattle.std.specs.Prelude.{◌≡◌, ◌⊎◌, ℕ, Bool, true, ◌==◌, List, [], ◌∷◌, ◌++◌}
use Rattle.std.specs.List.{AllByRecursion, flat_map}
use Rattle.scram_text.specs.Bytes.{HasNoComma}
use Rattle.scram_text.specs.Contents.{Holds, has_letter}
use Rattle.scram_text.specs.Reaching.{Reaches}
use Rattle.scram_text.specs.declared.attribute.Attribute.{Attribute}
use Rattle.scram_text.specs.declared.attribute.Attribute.TheVariants.{Extension, Inner, Proof}

-- a byte that passes the test, and then a text of the form
pub record LedBy (test : ℕ → Bool) (Form : List ℕ → Type 0) (text : List ℕ) : Type 0 where
  pub first : ℕ
  pub more : List ℕ
  pub cut : text ≡ first ∷ more
  pub leads : test first ≡ true
  pub follows : Form more

-- a letter, an equals sign and the content
abbrev pub IsAttribute : Attribute → List ℕ → Type 0
IsAttribute attribute = LedBy (has_letter attribute) (LedBy (λ b. b == 61) (Holds attribute))

-- a part of the one form, a comma, and a text of the other
pub record Then (Part More : List ℕ → Type 0) (text : List ℕ) : Type 0 where
  pub part : List ℕ
  pub more : List ℕ
  pub cut : text ≡ part ++ 44 ∷ more
  pub is_part : Part part
  pub is_more : More more

-- parts with a comma before each
abbrev pub behind_commas : List (List ℕ) → List ℕ
behind_commas parts = flat_map (λ part. 44 ∷ part) parts

-- any number of such attributes
pub record AreAll (attribute : Attribute) (text : List ℕ) : Type 0 where
  pub parts : List (List ℕ)
  pub cut : text ≡ behind_commas parts
  pub each : AllByRecursion (IsAttribute attribute) parts

-- extensions, and those that a proof may follow
abbrev pub AreExtensions : List ℕ → Type 0
AreExtensions = AreAll Extension

abbrev pub AreInner : List ℕ → Type 0
AreInner = AreAll Inner

-- parts with a comma behind each
abbrev pub before_commas : List (List ℕ) → List ℕ
before_commas parts = flat_map (λ part. part ++ 44 ∷ []) parts

-- extensions with a comma behind each stand before the rest
pub record StandBefore (rest text : List ℕ) : Type 0 where
  pub parts : List (List ℕ)
  pub cut : text ≡ before_commas parts ++ rest
  pub each : AllByRecursion (IsAttribute Inner) parts

-- any number of extensions, and then the proof
pub record IsTail (text : List ℕ) : Type 0 where
  pub last : List ℕ
  pub before : StandBefore last text
  pub is_last : IsAttribute Proof last

-- a last part of the form, and extensions
pub record Ends (Part : List ℕ → Type 0) (text : List ℕ) : Type 0 where
  pub part : List ℕ
  pub more : List ℕ
  pub cut : text ≡ part ++ more
  pub is_part : Part part
  pub extensions : AreExtensions more

-- nothing, or a text that begins with a comma
abbrev pub IsAtComma : List ℕ → Type 0
IsAtComma [] = Unit {0}
IsAtComma (b ∷ more) = b ≡ 44

-- the text's first part, and what stands behind it
pub record FirstPart (text part more : List ℕ) : Type 0 where
  pub cut : text ≡ part ++ more
  pub whole : HasNoComma part
  pub at_comma : IsAtComma more

-- the text begins with no part of the form that a comma follows, and goes on so far
pub record BreaksOff (Part : List ℕ → Type 0) (text : List ℕ) (at : ℕ) : Type 0 where
  pub part : List ℕ
  pub more : List ℕ
  pub first : FirstPart text part more
  pub ends : (more ≡ []) ⊎ (Part part → ⊥)
  pub reach : Reaches Part part at

-- the part is the attribute that holds the content
pub record IsWith (attribute : Attribute) (part content : List ℕ) : Type 0 where
  pub letter : ℕ
  pub cut : part ≡ letter ∷ 61 ∷ content
  pub has : has_letter attribute letter ≡ true
  pub holds : Holds attribute content

-- the text is the attribute that holds the content, a comma and the rest
pub record HoldsFirst (attribute : Attribute) (text content more : List ℕ) : Type 0 where
  pub part : List ℕ
  pub cut : text ≡ part ++ 44 ∷ more
  pub is : IsWith attribute part content

-- the text is the attribute that holds the content, and extensions
pub record HoldsLast (attribute : Attribute) (text content : List ℕ) : Type 0 where
  pub part : List ℕ
  pub more : List ℕ
  pub cut : text ≡ part ++ more
  pub is : IsWith attribute part content
  pub extensions : AreExtensions more

-- the text is extensions, and the proof that holds the content
pub record HoldsTail (text content : List ℕ) : Type 0 where
  pub last : List ℕ
  pub before : StandBefore last text
  pub is : IsWith Proof last content

-- a mandatory extension stands first
pub record IsMandatory (text : List ℕ) : Type 0 where
  pub more : List ℕ
  pub cut : text ≡ 109 ∷ 61 ∷ more
