-- The last message of a client (RFC 5802 section 7: client-final-message).
use Rattle.std.specs.Prelude.{◌≡◌, ℕ, List, ◌++◌, codes, true}
use Rattle.scram_text.specs.Bytes.{IsDigest, base64_text, is_nonce_byte, some_of}
use Rattle.scram_text.specs.Contents.{Holds}
use Rattle.scram_text.specs.Flags.{header}
use Rattle.scram_text.specs.Parts.{AreInner, IsAttribute, IsTail, Then}
use Rattle.scram_text.specs.declared.attribute.Attribute.TheVariants.{Binding, Nonce, Proof}
use Rattle.scram_text.specs.declared.flag.Flag.{Flag}

-- c=header,r=nonce
abbrev pub without_text : Flag → List ℕ → List ℕ
without_text flag nonce = codes "c=" ++ (base64_text (header flag) ++ (codes ",r=" ++ nonce))

-- and then extensions, none of which is p=: what the proof is over
pub record IsWithout (text : List ℕ) (flag : Flag) (nonce : List ℕ) : Type 0 where
  pub extensions : List ℕ
  pub cut : text ≡ without_text flag nonce ++ extensions
  pub is_nonce : some_of is_nonce_byte nonce ≡ true
  pub are_extensions : AreInner extensions

-- without the proof, and ,p=proof
abbrev pub client_final_text : List ℕ → List ℕ → List ℕ
client_final_text without proof = without ++ (codes ",p=" ++ base64_text proof)

-- what a client-final says
pub record ClientFinalParts : Type 0 where
  pub flag : Flag
  pub nonce : List ℕ
  pub without : List ℕ
  pub proof : List ℕ

pub record SpellsClientFinal (text : List ℕ) (parts : ClientFinalParts) : Type 0 where
  pub cut : text ≡ client_final_text parts.without parts.proof
  pub is_without : IsWithout parts.without parts.flag parts.nonce
  pub is_proof : IsDigest parts.proof

-- the same of a text alone, part by part
abbrev pub IsClientFinalText : List ℕ → Type 0
IsClientFinalText = Then (IsAttribute Binding) (Then (IsAttribute Nonce) IsTail)

-- the text is a client-final of these parts as they are written
pub record CutsClientFinal (text binding nonce proof : List ℕ) : Type 0 where
  pub extensions : List ℕ
  pub cut : text ≡ codes "c=" ++ (binding ++ (codes ",r=" ++ (nonce ++ (extensions ++ (codes ",p=" ++ proof)))))
  pub holds_binding : Holds Binding binding
  pub holds_nonce : Holds Nonce nonce
  pub holds_proof : Holds Proof proof
  pub are_extensions : AreInner extensions
