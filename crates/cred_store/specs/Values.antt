-- The values of secrets as text.
use Rattle.std.specs.Prelude.{◌≡◌, ◌==◌, ℕ, Bool, true, false, List, ◌∷◌, ◌++◌, codes, decimal}
use Rattle.std.specs.List.{list_any}
use Rattle.base64.specs.Engines.{standard}
use Rattle.base64.specs.GeneralPurpose.{encode_of}
use Rattle.scram_proof.specs.declared.keys.ScramKeys.{ScramKeys}
use Rattle.cred_store.specs.declared.entry.Secret.{Secret}
use Rattle.cred_store.specs.declared.entry.Secret.TheVariants.{Digest, Scram}

-- count,salt,stored,server
abbrev pub keys_line : List ℕ → List ℕ → List ℕ → List ℕ → List ℕ
keys_line count salt stored server = count ++ 44 ∷ (salt ++ 44 ∷ (stored ++ 44 ∷ server))

-- the count in decimal digits, the salt and the keys in base64 with padding (RFC 4648 section 4)
abbrev pub keys_text : ScramKeys → List ℕ
keys_text keys =
    keys_line (decimal keys.i) (encode_of standard keys.salt.items) (encode_of standard keys.stored) (encode_of standard keys.server)

-- the byte doesn't stand in the text
abbrev pub HasNo : ℕ → List ℕ → Type 0
HasNo byte text = list_any (λ b. b == byte) text ≡ false

-- a text with three commas at least, and the parts that the first three make
pub record HasKeyParts (text count salt stored server : List ℕ) : Type 0 where
  pub parts : text ≡ keys_line count salt stored server
  pub no_count : HasNo 44 count
  pub no_salt : HasNo 44 salt
  pub no_stored : HasNo 44 stored

abbrev pub text_of : Secret → List ℕ
text_of (Digest alg ha1) = ha1
text_of (Scram keys) = keys_text keys

-- how a flag is written
abbrev pub flag_text : Bool → List ℕ
flag_text true = codes "on"
flag_text false = codes "off"
