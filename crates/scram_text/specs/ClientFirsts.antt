-- The first message of a client (RFC 5802 section 7: client-first-message).
use Rattle.std.specs.Prelude.{◌≡◌, ◌≤◌, ℕ, Bool, ◌==◌, true, List, ◌∷◌, ◌++◌, codes, length}
use Rattle.scram_text.specs.Bytes.{escaped, is_nonce_byte, some_of}
use Rattle.scram_text.specs.Contents.{WritesName}
use Rattle.scram_text.specs.Flags.{flag_letter, is_flag}
use Rattle.scram_text.specs.Parts.{AreExtensions, Ends, IsAttribute, LedBy, Then}
use Rattle.scram_text.specs.declared.attribute.Attribute.TheVariants.{Name as NamePart, Nonce as NoncePart}
use Rattle.scram_text.specs.declared.flag.Flag.{Flag}
use Rattle.auth_grammar.specs.declared.plain.TheConstants.{NAME_LIMIT}
use Rattle.scram_text.specs.declared.limits.TheConstants.{BARE_LIMIT, NONCE_LIMIT}

-- n=name,r=nonce and extensions, the name as it is written
pub record IsBare (text written nonce : List ℕ) : Type 0 where
  pub extensions : List ℕ
  pub cut : text ≡ codes "n=" ++ (written ++ (codes ",r=" ++ (nonce ++ extensions)))
  pub is_nonce : some_of is_nonce_byte nonce ≡ true
  pub are_extensions : AreExtensions extensions

-- the same without extensions
abbrev pub bare_text : List ℕ → List ℕ → List ℕ
bare_text name nonce = codes "n=" ++ (escaped name ++ (codes ",r=" ++ nonce))

-- what a client-first says
pub record FirstParts : Type 0 where
  pub flag : Flag
  pub name : List ℕ
  pub nonce : List ℕ
  pub bare : List ℕ

-- n,, or y,, and then bare
pub record SpellsClientFirst (text : List ℕ) (parts : FirstParts) : Type 0 where
  pub written : List ℕ
  pub cut : text ≡ flag_letter parts.flag ∷ codes ",," ++ parts.bare
  pub is_bare : IsBare parts.bare written parts.nonce
  pub is_name : WritesName written parts.name

-- the parts are short enough
pub record IsShort (parts : FirstParts) : Type 0 where
  pub bare : length parts.bare ≤ BARE_LIMIT
  pub name : length parts.name ≤ NAME_LIMIT
  pub nonce : length parts.nonce ≤ NONCE_LIMIT

-- the parts are those of some client-first that is taken
pub record IsClientFirst (parts : FirstParts) : Type 0 where
  pub text : List ℕ
  pub spells : SpellsClientFirst text parts
  pub short : IsShort parts

-- the same of a text alone, part by part
abbrev pub IsBareText : List ℕ → Type 0
IsBareText = Then (IsAttribute NamePart) (Ends (IsAttribute NoncePart))

abbrev pub is_comma : ℕ → Bool
is_comma b = b == 44

abbrev pub IsClientFirstText : List ℕ → Type 0
IsClientFirstText = LedBy is_flag (LedBy is_comma (LedBy is_comma IsBareText))

-- the client asks for channel binding
pub record AsksBinding (text : List ℕ) : Type 0 where
  pub more : List ℕ
  pub cut : text ≡ codes "p=" ++ more

-- behind the flag an authorization identity stands
pub record HasAuthzid (text : List ℕ) : Type 0 where
  pub flag : Flag
  pub more : List ℕ
  pub cut : text ≡ flag_letter flag ∷ codes ",a=" ++ more

-- bare begins with a mandatory extension
pub record HasMandatory (text : List ℕ) : Type 0 where
  pub flag : Flag
  pub more : List ℕ
  pub cut : text ≡ flag_letter flag ∷ codes ",,m=" ++ more

-- it is none of what is refused by itself
pub record IsPlainFirst (text : List ℕ) : Type 0 where
  pub no_binding : AsksBinding text → ⊥
  pub no_authzid : HasAuthzid text → ⊥
  pub no_mandatory : HasMandatory text → ⊥
