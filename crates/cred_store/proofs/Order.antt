-- Keys are in a total order.
use Rattle.std.proofs.Common.{◌≡◌, ℕ, Bool, true, false, ◌&&◌, List, [], ◌∷◌, ◌++◌, refl, sym, ◌∙◌}
use Rattle.std.specs.Cmp.{IsTotalOrder, both_tied}
use Rattle.std.specs.Cmp.Lexicographic.{slice_cmp, nat_list_cmp_total}
use Rattle.std.specs.List.{AllByRecursion}
use Rattle.std.specs.List.Sorted.{IsStrictlySortedBy}
use Rattle.std.specs.Ordering.{nat_cmp, is_eq}
use Rattle.std.specs.Str.{bytes_eq}
use Rattle.std.specs.declared.cmp.Ordering.TheVariants.{Less}
use Rattle.std.proofs.lemmas.Cmp.{on_total, then_total}
use Rattle.std.proofs.lemmas.Map.Text.{is_eq-slice_cmp}
use Rattle.auth_hash.specs.declared.algorithm.Algorithm.TheVariants.{Md5, Sha256, Sha512t256}
use Rattle.cred_store.specs.Keys.{Key, key_at, key_of, key_cmp, entry_cmp, IsRising}
use Rattle.cred_store.specs.Kinds.{kind_name, kind_of, same_kind}
use Rattle.cred_store.specs.LookUps.{is_keyed}
use Rattle.cred_store.specs.declared.entry.Entry.{Entry}
use Rattle.cred_store.specs.declared.kind.SecretKind.{SecretKind}
use Rattle.cred_store.specs.declared.kind.SecretKind.TheVariants as kinds

pub keys_total : IsTotalOrder key_cmp
keys_total =
    then_total (on_total (λ (k : Key). k.name) nat_list_cmp_total)
    (then_total (on_total (λ (k : Key). k.realm) nat_list_cmp_total) (on_total (λ (k : Key). k.kind) nat_list_cmp_total))

pub entries_total : IsTotalOrder entry_cmp
entries_total = on_total key_of keys_total

one_kind : (a b : SecretKind) → same_kind a b ≡ is_eq (slice_cmp nat_cmp (kind_name a) (kind_name b))
one_kind (kinds.Digest Md5) (kinds.Digest Md5) = refl
one_kind (kinds.Digest Md5) (kinds.Digest Sha256) = refl
one_kind (kinds.Digest Md5) (kinds.Digest Sha512t256) = refl
one_kind (kinds.Digest Md5) kinds.ScramSha256 = refl
one_kind (kinds.Digest Sha256) (kinds.Digest Md5) = refl
one_kind (kinds.Digest Sha256) (kinds.Digest Sha256) = refl
one_kind (kinds.Digest Sha256) (kinds.Digest Sha512t256) = refl
one_kind (kinds.Digest Sha256) kinds.ScramSha256 = refl
one_kind (kinds.Digest Sha512t256) (kinds.Digest Md5) = refl
one_kind (kinds.Digest Sha512t256) (kinds.Digest Sha256) = refl
one_kind (kinds.Digest Sha512t256) (kinds.Digest Sha512t256) = refl
one_kind (kinds.Digest Sha512t256) kinds.ScramSha256 = refl
one_kind kinds.ScramSha256 (kinds.Digest Md5) = refl
one_kind kinds.ScramSha256 (kinds.Digest Sha256) = refl
one_kind kinds.ScramSha256 (kinds.Digest Sha512t256) = refl
one_kind kinds.ScramSha256 kinds.ScramSha256 = refl

and_assoc : (a b c : Bool) → (a && b) && c ≡ a && (b && c)
and_assoc true b c = refl
and_assoc false b c = refl

-- an entry has a key exactly where their comparison is `Equal`
pub keyed : (name realm : List ℕ) (kind : SecretKind) (e : Entry) → is_keyed name realm kind e ≡ is_eq (key_cmp (key_of e) (key_at name realm kind))
keyed name realm kind e =
    and_assoc (bytes_eq e.name name) (bytes_eq e.realm realm) (same_kind (kind_of e.secret) kind)
    ∙ both_tied _ _ _ _ (sym (is_eq-slice_cmp e.name name))
    (both_tied _ _ _ _ (sym (is_eq-slice_cmp e.realm realm)) (one_kind (kind_of e.secret) kind))

-- ---- one more entry at the end

all_push : (P : Entry → Type 0) (xs : List Entry) (e : Entry) → AllByRecursion P xs → P e → AllByRecursion P (xs ++ e ∷ [])
all_push P [] e h p = (p, tt)
all_push P (x ∷ xs) e h p = (h.0, all_push P xs e h.1 p)

all_last : (P : Entry → Type 0) (xs : List Entry) (e : Entry) → AllByRecursion P (xs ++ e ∷ []) → P e
all_last P [] e h = h.0
all_last P (x ∷ xs) e h = all_last P xs e h.1

pub rising_push : (front : List Entry) (last e : Entry) → IsRising (front ++ last ∷ []) → entry_cmp last e ≡ Less → IsRising ((front ++ last ∷ []) ++ e ∷ [])
unfolding IsStrictlySortedBy
rising_push [] last e h below = ((below, tt), (tt, tt))
rising_push (x ∷ front) last e h below = (
  all_push (λ y. entry_cmp x y ≡ Less) (front ++ last ∷ []) e h.0
      (entries_total.trans x last e (all_last (λ y. entry_cmp x y ≡ Less) front last h.0) below),
  rising_push front last e h.1 below,
)

pub rising_one : (e : Entry) → IsRising (e ∷ [])
unfolding IsStrictlySortedBy
rising_one e = (tt, tt)

pub rising_none : IsRising []
unfolding IsStrictlySortedBy
rising_none = tt

-- of two neighbours the second is above the first
pub rising_between : (front : List Entry) (last next : Entry) (more : List Entry) → IsRising ((front ++ last ∷ []) ++ next ∷ more) → entry_cmp last next ≡ Less
unfolding IsStrictlySortedBy
rising_between [] last next more h = h.0.0
rising_between (x ∷ front) last next more h = rising_between front last next more h.1
