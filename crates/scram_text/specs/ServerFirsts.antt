-- The first message of a server (RFC 5802 section 7: server-first-message).
use Rattle.std.specs.Prelude.{◌≡◌, ◌≤◌, ℕ, List, ◌++◌, codes, true, decimal, length}
use Rattle.scram_text.specs.Bytes.{IsCount, IsSalt, base64_text, is_nonce_byte, some_of}
use Rattle.scram_text.specs.Contents.{Holds}
use Rattle.scram_text.specs.Parts.{AreExtensions, Ends, IsAttribute, Then}
use Rattle.scram_text.specs.declared.attribute.Attribute.TheVariants.{Nonce, Salt, Count}
use Rattle.scram_text.specs.declared.limits.TheConstants.{FIRST_LIMIT}

-- r=nonce,s=salt,i=count
abbrev pub server_first_text : List ℕ → List ℕ → ℕ → List ℕ
server_first_text nonce salt i = codes "r=" ++ (nonce ++ (codes ",s=" ++ (base64_text salt ++ (codes ",i=" ++ decimal i))))

-- what a server-first says
pub record ServerFirstParts : Type 0 where
  pub nonce : List ℕ
  pub salt : List ℕ
  pub i : ℕ

-- and then extensions
pub record SpellsServerFirst (text : List ℕ) (parts : ServerFirstParts) : Type 0 where
  pub extensions : List ℕ
  pub cut : text ≡ server_first_text parts.nonce parts.salt parts.i ++ extensions
  pub is_nonce : some_of is_nonce_byte parts.nonce ≡ true
  pub is_salt : IsSalt parts.salt
  pub is_count : IsCount parts.i
  pub are_extensions : AreExtensions extensions

-- the parts are those of this server-first, which is taken
pub record IsServerFirst (text : List ℕ) (parts : ServerFirstParts) : Type 0 where
  pub spells : SpellsServerFirst text parts
  pub short : length text ≤ FIRST_LIMIT

-- the same of a text alone, part by part
abbrev pub IsServerFirstText : List ℕ → Type 0
IsServerFirstText = Then (IsAttribute Nonce) (Then (IsAttribute Salt) (Ends (IsAttribute Count)))

-- the text is a server-first of these parts as they are written
pub record CutsServerFirst (text nonce salt count : List ℕ) : Type 0 where
  pub extensions : List ℕ
  pub cut : text ≡ codes "r=" ++ (nonce ++ (codes ",s=" ++ (salt ++ (codes ",i=" ++ (count ++ extensions)))))
  pub holds_nonce : Holds Nonce nonce
  pub holds_salt : Holds Salt salt
  pub holds_count : Holds Count count
  pub are_extensions : AreExtensions extensions
