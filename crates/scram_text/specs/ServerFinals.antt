-- The last message of a server (RFC 5802 section 7: server-final-message).
use Rattle.std.specs.Prelude.{◌≡◌, ◌⊎◌, ℕ, List, ◌++◌, codes, true}
use Rattle.scram_text.specs.Bytes.{IsDigest, base64_text, is_value_byte, some_of}
use Rattle.scram_text.specs.Parts.{AreExtensions, Ends, IsAttribute}
use Rattle.scram_text.specs.declared.attribute.Attribute.TheVariants.{Signature, Fault}

-- what a server-final says: a signature, or why there is none
pub data FinalSaid : Type 0 where
  signed : List ℕ → FinalSaid
  failed : List ℕ → FinalSaid

-- v=signature, or e=value
abbrev pub server_final_text : FinalSaid → List ℕ
server_final_text (signed signature) = codes "v=" ++ base64_text signature
server_final_text (failed value) = codes "e=" ++ value

abbrev pub IsSaid : FinalSaid → Type 0
IsSaid (signed signature) = IsDigest signature
IsSaid (failed value) = some_of is_value_byte value ≡ true

-- and then extensions
pub record SpellsServerFinal (text : List ℕ) (said : FinalSaid) : Type 0 where
  pub extensions : List ℕ
  pub cut : text ≡ server_final_text said ++ extensions
  pub is_said : IsSaid said
  pub are_extensions : AreExtensions extensions

-- the same of a text alone
abbrev pub IsServerFinalText : List ℕ → Type 0
IsServerFinalText text = Ends (IsAttribute Signature) text ⊎ Ends (IsAttribute Fault) text
