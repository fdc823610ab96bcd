-- HMAC with SHA-256 (RFC 2104 section 2, whose H is SHA-256 and whose B is 64).
use Rattle.std.specs.Prelude.{◌-◌, ◌++◌, ℕ, List, length, map, replicate, bit_xor, nat_le, if◌then◌else◌}
use Rattle.sha2.specs.Sha256.{sha256}
use Rattle.sha2.specs.Hashers.{Holds256}
use Rattle.auth_hash.specs.declared.mac.Mac.{Mac}
use Rattle.auth_hash.specs.declared.mac.TheConstants.{MAC_BLOCK, INNER_PAD, OUTER_PAD}

-- the key itself, or its digest where it is longer than a block
abbrev pub short_key : List ℕ → List ℕ
short_key key = if nat_le (length key) MAC_BLOCK then key else sha256 key

-- that key, filled up with zeros to a block
abbrev pub block_key : List ℕ → List ℕ
block_key key = short_key key ++ replicate (MAC_BLOCK - length (short_key key)) 0

-- the block that a key makes with a pad: each byte XOR the pad
abbrev pub padded_key : ℕ → List ℕ → List ℕ
padded_key pad key = map (bit_xor pad) (block_key key)

-- H(K XOR opad, H(K XOR ipad, text))
unfoldable pub hmac : List ℕ → List ℕ → List ℕ
hmac key text = sha256 (padded_key OUTER_PAD key ++ sha256 (padded_key INNER_PAD key ++ text))

-- the MAC is of the key and has taken the message
abbrev pub Authenticating : Mac → List ℕ → List ℕ → Type 0
Authenticating mac key message = Holds256 mac.inner (padded_key INNER_PAD key ++ message) × Holds256 mac.outer (padded_key OUTER_PAD key)
