-- The kinds of secrets.
use Rattle.std.specs.Prelude.{◌≡◌, ◌≤◌, ◌<◌, ◌^◌, ℕ, Bool, true, false, List, length, codes}
use Rattle.auth_hash.specs.Algorithm.{digits_of, same_algorithm}
use Rattle.auth_hash.specs.HexText.{IsHexText}
use Rattle.auth_hash.specs.declared.algorithm.Algorithm.{Algorithm}
use Rattle.auth_hash.specs.declared.algorithm.Algorithm.TheVariants.{Md5, Sha256, Sha512t256}
use Rattle.base64.specs.GeneralPurpose.{IsBytes}
use Rattle.scram_proof.specs.declared.keys.ScramKeys.{ScramKeys}
use Rattle.cred_store.specs.declared.entry.Secret.{Secret}
use Rattle.cred_store.specs.declared.entry.Secret.TheVariants.{Digest, Scram}
use Rattle.cred_store.specs.declared.kind.SecretKind.{SecretKind}
use Rattle.cred_store.specs.declared.kind.SecretKind.TheVariants as kinds

-- how a store names a kind
abbrev pub kind_name : SecretKind → List ℕ
kind_name (kinds.Digest Md5) = codes "md5"
kind_name (kinds.Digest Sha256) = codes "sha-256"
kind_name (kinds.Digest Sha512t256) = codes "sha-512-256"
kind_name kinds.ScramSha256 = codes "scram-sha-256"

abbrev pub kind_of : Secret → SecretKind
kind_of (Digest alg ha1) = kinds.Digest alg
kind_of (Scram keys) = kinds.ScramSha256

-- whether two kinds are one
abbrev pub same_kind : SecretKind → SecretKind → Bool
same_kind (kinds.Digest a) (kinds.Digest b) = same_algorithm a b
same_kind kinds.ScramSha256 kinds.ScramSha256 = true
same_kind a b = false

-- H(A1) in the hexadecimal digits of its algorithm
pub record IsDigest (alg : Algorithm) (ha1 : List ℕ) : Type 0 where
  pub form : IsHexText ha1
  pub digits : length ha1 ≡ digits_of alg

pub record IsKey (key : List ℕ) : Type 0 where
  pub long : length key ≡ 32
  pub bytes : IsBytes key

-- a salt of 1 to 32 bytes, an iteration count that isn't zero, and two keys
pub record IsKeys (keys : ScramKeys) : Type 0 where
  pub some_salt : 1 ≤ length keys.salt.items
  pub short_salt : length keys.salt.items ≤ 32
  pub salt_bytes : IsBytes keys.salt.items
  pub some_count : 1 ≤ keys.i
  pub count_fits : keys.i < 2 ^ 32
  pub stored : IsKey keys.stored
  pub server : IsKey keys.server

-- a secret of its kind's form
abbrev pub IsSecret : Secret → Type 0
IsSecret (Digest alg ha1) = IsDigest alg ha1
IsSecret (Scram keys) = IsKeys keys
