-- What stands behind the letter and the equals sign of a part (RFC 5802 section 7).
use Rattle.std.specs.Prelude.{◌≡◌, ◌==◌, ◌&&◌, not, ℕ, Bool, List, true, decimal}
use Rattle.auth_grammar.specs.Plain.{is_printable}
use Rattle.scram_text.specs.Bytes.{IsCount, IsDigest, IsSalt, base64_text, escaped, is_letter, is_nonce_byte, is_symbol, is_value_byte, some_of}
use Rattle.scram_text.specs.Flags.{header}
use Rattle.scram_text.specs.declared.attribute.Attribute.{Attribute}
use Rattle.scram_text.specs.declared.attribute.Attribute.TheVariants.{Name, Nonce, Extension, Inner, Binding, Salt, Count, Proof, Signature, Fault}
use Rattle.scram_text.specs.declared.flag.Flag.{Flag}
use Rattle.scram_text.specs.declared.runs.Class.{Class}
use Rattle.scram_text.specs.declared.runs.Class.TheVariants.{Nonce as NonceByte, Value as ValueByte, Symbol}

-- the bytes of a class
abbrev pub is_of : Class → ℕ → Bool
is_of NonceByte b = is_nonce_byte b
is_of ValueByte b = is_value_byte b
is_of Symbol b = is_symbol b

-- the text writes the name, which has one printable byte or more
pub record WritesName (text name : List ℕ) : Type 0 where
  pub plain : some_of is_printable name ≡ true
  pub written : text ≡ escaped name

-- the text writes the salt, the digest, the count, the header of a flag
pub record WritesSalt (text salt : List ℕ) : Type 0 where
  pub is_salt : IsSalt salt
  pub written : text ≡ base64_text salt

pub record WritesDigest (text digest : List ℕ) : Type 0 where
  pub is_digest : IsDigest digest
  pub written : text ≡ base64_text digest

pub record WritesCount (text : List ℕ) (i : ℕ) : Type 0 where
  pub is_count : IsCount i
  pub written : text ≡ decimal i

abbrev pub WritesHeader : List ℕ → Flag → Type 0
WritesHeader text flag = text ≡ base64_text (header flag)

-- the letters that an attribute may have
abbrev pub has_letter : Attribute → ℕ → Bool
has_letter Name b = b == 110
has_letter Nonce b = b == 114
has_letter Extension b = is_letter b
has_letter Inner b = is_letter b && not (b == 112)
has_letter Binding b = b == 99
has_letter Salt b = b == 115
has_letter Count b = b == 105
has_letter Proof b = b == 112
has_letter Signature b = b == 118
has_letter Fault b = b == 101

-- the text is what such an attribute may hold
abbrev pub Holds : Attribute → List ℕ → Type 0
Holds Name text = (name : List ℕ) × WritesName text name
Holds Nonce text = some_of (is_of NonceByte) text ≡ true
Holds Extension text = some_of (is_of ValueByte) text ≡ true
Holds Inner text = some_of (is_of ValueByte) text ≡ true
Holds Binding text = (flag : Flag) × WritesHeader text flag
Holds Salt text = (salt : List ℕ) × WritesSalt text salt
Holds Count text = (i : ℕ) × WritesCount text i
Holds Proof text = (digest : List ℕ) × WritesDigest text digest
Holds Signature text = (digest : List ℕ) × WritesDigest text digest
Holds Fault text = some_of (is_of ValueByte) text ≡ true
