-- A text is that of one name of the nonce table.
use Rattle.std.proofs.Common.{◌≡◌, ℕ, List, [], ◌∷◌, drop, slice_index, refl, sym, ap, ◌∙◌, arith, Result, Ok}
use Rattle.std.specs.Int.{w16, w64, from_be_bytes}
use Rattle.std.proofs.lemmas.Nat.{from_be_bytes-to_be_bytes_2, from_be_bytes-to_be_bytes_8}
use Rattle.base64.specs.Engines.{standard}
use Rattle.base64.specs.GeneralPurpose.{decode_of, IsConsistent}
use Rattle.base64.proofs.EngineFacts.{decode_of-encode_of}
use Rattle.nonce_shard.specs.declared.names.NameKind.{NameKind}
use Rattle.nonce_shard.specs.declared.names.NameKind.TheVariants.{Nonce, Exchange}
use Rattle.nonce_shard.specs.declared.names.TableName.{TableName}
use Rattle.nonce_shard.specs.Names.{kind_byte, name_bytes, name_text, IsName}
use Rattle.nonce_shard.proofs.NameTexts.{name_bytes_fit}
use Rattle.nonce_shard.specs.Laws.{NamesOne}

same_inside : {B E : Type 0} (f : B → Result (List ℕ) E) (x y : B) (u v : List ℕ) → f x ≡ Ok u → f y ≡ Ok v → x ≡ y → u ≡ v
same_inside f x y u v p q e = cc

same_bytes : (a b : TableName) → IsName a → IsName b → name_text a ≡ name_text b → name_bytes a ≡ name_bytes b
same_bytes a b is_a is_b same =
    same_inside (decode_of standard) (name_text a) (name_text b) (name_bytes a) (name_bytes b)
    (decode_of-encode_of standard (name_bytes a) consistent (name_bytes_fit a is_a)) (decode_of-encode_of standard (name_bytes b) consistent (name_bytes_fit b is_b)) same
  where
    consistent : IsConsistent standard
    consistent = refl

same_kind : (a b : NameKind) → kind_byte a ≡ kind_byte b → a ≡ b
same_kind Nonce Nonce e = refl
same_kind Nonce Exchange e = absurd (omega (arith, e))
same_kind Exchange Nonce e = absurd (omega (arith, e))
same_kind Exchange Exchange e = refl

-- names of the same parts are one
pub same_parts : (a b : TableName) → a.kind ≡ b.kind → a.shard ≡ b.shard → a.serial ≡ b.serial → a.random ≡ b.random → a ≡ b
same_parts a b kind shard serial random =
    ap (λ (x : NameKind). let n : TableName = record { kind = x; shard = a.shard; serial = a.serial; random = a.random } in n) kind
    ∙ ap (λ (x : ℕ). let n : TableName = record { kind = b.kind; shard = x; serial = a.serial; random = a.random } in n) shard
    ∙ ap (λ (x : ℕ). let n : TableName = record { kind = b.kind; shard = b.shard; serial = x; random = a.random } in n) serial
    ∙ ap (λ (x : List ℕ). let n : TableName = record { kind = b.kind; shard = b.shard; serial = b.serial; random = x } in n) random

pub names_one : NamesOne
names_one a b is_a is_b same =
    let bytes = same_bytes a b is_a is_b same in
    let shards = ap (λ (bs : List ℕ). from_be_bytes w16 (slice_index bs 1 ∷ slice_index bs 2 ∷ [])) bytes in
    let serials = ap (λ (bs : List ℕ). from_be_bytes w64 (slice_index bs 3 ∷ slice_index bs 4 ∷ slice_index bs 5 ∷ slice_index bs 6 ∷ slice_index bs 7 ∷ slice_index bs 8 ∷ slice_index bs 9 ∷ slice_index bs 10 ∷ [])) bytes in
    same_parts a b
    (same_kind a.kind b.kind (ap (λ (bs : List ℕ). slice_index bs 0) bytes))
    (sym (from_be_bytes-to_be_bytes_2 a.shard is_a.shard) ∙ shards ∙ from_be_bytes-to_be_bytes_2 b.shard is_b.shard)
    (sym (from_be_bytes-to_be_bytes_8 a.serial is_a.serial) ∙ serials ∙ from_be_bytes-to_be_bytes_8 b.serial is_b.serial)
    (ap (drop 11) bytes)
