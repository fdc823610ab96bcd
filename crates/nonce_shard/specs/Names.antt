-- Names, and their texts.
use Rattle.std.specs.Prelude.{◌≡◌, ℕ, ◌^◌, ◌<◌, Bool, true, false, ◌&&◌, ◌==◌, nat_eq, List, ◌∷◌, ◌++◌, length}
use Rattle.std.specs.Int.{w16, w64, to_be_bytes}
use Rattle.std.specs.Cmp.Lexicographic.{pointwise}
use Rattle.base64.specs.Engines.{standard}
use Rattle.base64.specs.GeneralPurpose.{encode_of, IsBytes}
use Rattle.nonce_shard.specs.declared.names.TableName.{TableName}
use Rattle.nonce_shard.specs.declared.names.NameKind.{NameKind}
use Rattle.nonce_shard.specs.declared.names.NameKind.TheVariants.{Nonce, Exchange}

abbrev pub kind_byte : NameKind → ℕ
kind_byte Nonce = 1
kind_byte Exchange = 2

-- the 27 bytes of a name: its kind, its shard and its serial, each number's greatest byte first, and its random bytes
abbrev pub name_bytes : TableName → List ℕ
name_bytes n = kind_byte n.kind ∷ (to_be_bytes w16 n.shard ++ to_be_bytes w64 n.serial ++ n.random)

-- their base64
abbrev pub name_text : TableName → List ℕ
name_text n = encode_of standard (name_bytes n)

-- the numbers and bytes of a name are within their types
pub record IsName (n : TableName) : Type 0 where
  pub shard : n.shard < 2 ^ 16
  pub serial : n.serial < 2 ^ 64
  pub long : length n.random ≡ 16
  pub bytes : IsBytes n.random

-- whether two kinds of name are one
abbrev pub kinds_eq : NameKind → NameKind → Bool
kinds_eq Nonce Nonce = true
kinds_eq Nonce Exchange = false
kinds_eq Exchange Nonce = false
kinds_eq Exchange Exchange = true

-- whether two names are one
abbrev pub names_eq : TableName → TableName → Bool
names_eq a b = kinds_eq a.kind b.kind && (a.shard == b.shard) && (a.serial == b.serial) && pointwise nat_eq a.random b.random
