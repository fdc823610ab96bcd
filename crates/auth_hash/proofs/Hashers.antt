-- What a hasher gives at its end is the hash text.
use Rattle.std.proofs.Common.{◌≡◌, ℕ, List, ap}
use Rattle.hex.specs.Hex.{encode_lower}
use Rattle.md5.specs.Md5.{Holds, md5}
use Rattle.sha2.specs.Hashers.{Holds256, Holds512_256}
use Rattle.sha2.specs.Sha256.{sha256}
use Rattle.sha2.specs.Sha512.{sha512_256}
use Rattle.md5.specs.declared.Md5.{Md5 as HasherMd5}
use Rattle.sha2.specs.declared.Sha256.{Sha256 as HasherSha256}
use Rattle.sha2.specs.declared.Sha512_256.{Sha512_256 as HasherSha512t256}
use Rattle.auth_hash.specs.Hash.{hash_text}
use Rattle.auth_hash.specs.Hasher.{StateHolds}
use Rattle.auth_hash.specs.declared.algorithm.Algorithm.{Algorithm}
use Rattle.auth_hash.specs.declared.algorithm.Algorithm.TheVariants.{Md5, Sha256, Sha512t256}
use Rattle.auth_hash.specs.declared.hasher.State.TheVariants as kept

-- the end of MD5
pub md5_text : (hasher : HasherMd5) (digest : List ℕ) → ((m : List ℕ) → Holds hasher m → digest ≡ md5 m)
    → (a : Algorithm) (m : List ℕ) → StateHolds (kept.Md5 hasher) a m → encode_lower digest ≡ hash_text a m
unfolding hash_text
md5_text hasher digest gives Md5 m held = ap encode_lower (gives m held)
md5_text hasher digest gives Sha256 m held = absurd held
md5_text hasher digest gives Sha512t256 m held = absurd held

-- the end of SHA-256
pub sha256_text : (hasher : HasherSha256) (digest : List ℕ) → ((m : List ℕ) → Holds256 hasher m → digest ≡ sha256 m)
    → (a : Algorithm) (m : List ℕ) → StateHolds (kept.Sha256 hasher) a m → encode_lower digest ≡ hash_text a m
unfolding hash_text
sha256_text hasher digest gives Md5 m held = absurd held
sha256_text hasher digest gives Sha256 m held = ap encode_lower (gives m held)
sha256_text hasher digest gives Sha512t256 m held = absurd held

-- the end of SHA-512/256
pub sha512t256_text : (hasher : HasherSha512t256) (digest : List ℕ) → ((m : List ℕ) → Holds512_256 hasher m → digest ≡ sha512_256 m)
    → (a : Algorithm) (m : List ℕ) → StateHolds (kept.Sha512t256 hasher) a m → encode_lower digest ≡ hash_text a m
unfolding hash_text
sha512t256_text hasher digest gives Md5 m held = absurd held
sha512t256_text hasher digest gives Sha256 m held = absurd held
sha512t256_text hasher digest gives Sha512t256 m held = ap encode_lower (gives m held)
