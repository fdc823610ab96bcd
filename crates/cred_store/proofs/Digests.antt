-- How long digests are.
use Rattle.std.proofs.Common.{◌≡◌, ℕ, List, length, arith}
use Rattle.hex.specs.Hex.{lower_digits}
use Rattle.hex.proofs.HexLemmas.{length-encode_with}
use Rattle.md5.specs.Md5.{md5}
use Rattle.md5.proofs.StandardFacts.{length-md5}
use Rattle.sha2.specs.Sha256.{sha256}
use Rattle.sha2.specs.Sha512.{sha512_256}
use Rattle.sha2.proofs.Facts256.{length-sha256}
use Rattle.sha2.proofs.Facts512.{length-sha512_256}
use Rattle.auth_hash.specs.Algorithm.{digits_of}
use Rattle.auth_hash.specs.Hash.{hash_text}
use Rattle.auth_hash.specs.declared.algorithm.Algorithm.{Algorithm}
use Rattle.auth_hash.specs.declared.algorithm.Algorithm.TheVariants.{Md5, Sha256, Sha512t256}

pub length_hash : (alg : Algorithm) (message : List ℕ) → length (hash_text alg message) ≡ digits_of alg
unfolding hash_text
length_hash Md5 message = omega (arith, length-encode_with lower_digits (md5 message), length-md5 message)
length_hash Sha256 message = omega (arith, length-encode_with lower_digits (sha256 message), length-sha256 message)
length_hash Sha512t256 message = omega (arith, length-encode_with lower_digits (sha512_256 message), length-sha512_256 message)
