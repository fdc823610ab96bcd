-- H of HTTP Digest (RFC 7616 section 3.3).
use Rattle.std.specs.Prelude.{ℕ, List}
use Rattle.std.specs.List.{join_with_byte}
use Rattle.hex.specs.Hex.{encode_lower}
use Rattle.md5.specs.Md5.{md5}
use Rattle.sha2.specs.Sha256.{sha256}
use Rattle.sha2.specs.Sha512.{sha512_256}
use Rattle.auth_hash.specs.declared.algorithm.Algorithm.{Algorithm}
use Rattle.auth_hash.specs.declared.algorithm.Algorithm.TheVariants.{Md5, Sha256, Sha512t256}

-- the digest of a message (RFC 1321, FIPS 180-4)
abbrev pub digest : Algorithm → List ℕ → List ℕ
digest Md5 message = md5 message
digest Sha256 message = sha256 message
digest Sha512t256 message = sha512_256 message

-- the digest in lower-case hexadecimal digits
unfoldable pub hash_text : Algorithm → List ℕ → List ℕ
hash_text algorithm message = encode_lower (digest algorithm message)

-- texts with a colon between each two
abbrev pub joined : List (List ℕ) → List ℕ
joined = join_with_byte 58
