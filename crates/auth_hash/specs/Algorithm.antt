-- The hash algorithms of HTTP Digest (RFC 7616 section 6.1).
use Rattle.std.specs.Prelude.{ℕ, Bool, true, false, List, codes}
use Rattle.auth_hash.specs.declared.algorithm.Algorithm.{Algorithm}
use Rattle.auth_hash.specs.declared.algorithm.Algorithm.TheVariants.{Md5, Sha256, Sha512t256}

-- how a field names an algorithm
abbrev pub algorithm_name : Algorithm → List ℕ
algorithm_name Md5 = codes "MD5"
algorithm_name Sha256 = codes "SHA-256"
algorithm_name Sha512t256 = codes "SHA-512-256"

-- how many hexadecimal digits the text of its digest has
abbrev pub digits_of : Algorithm → ℕ
digits_of Md5 = 32
digits_of Sha256 = 64
digits_of Sha512t256 = 64

-- whether two are one
abbrev pub same_algorithm : Algorithm → Algorithm → Bool
same_algorithm Md5 Md5 = true
same_algorithm Sha256 Sha256 = true
same_algorithm Sha512t256 Sha512t256 = true
same_algorithm a b = false
