-- The order of the entries of a store.
use Rattle.std.specs.Prelude.{◌≡◌, ℕ, List}
use Rattle.std.specs.Cmp.Lexicographic.{slice_cmp}
use Rattle.std.specs.List.Sorted.{IsStrictlySortedBy}
use Rattle.std.specs.Ordering.{nat_cmp, ordering_then}
use Rattle.std.specs.declared.cmp.Ordering.{Ordering}
use Rattle.cred_store.specs.Kinds.{kind_name, kind_of}
use Rattle.cred_store.specs.declared.entry.Entry.{Entry}
use Rattle.cred_store.specs.declared.kind.SecretKind.{SecretKind}

-- what tells an entry from the others
pub record Key : Type 0 where
  pub name : List ℕ
  pub realm : List ℕ
  pub kind : List ℕ

abbrev pub key_at : List ℕ → List ℕ → SecretKind → Key
key_at name realm kind = record { name = name; realm = realm; kind = kind_name kind }

abbrev pub key_of : Entry → Key
key_of entry = key_at entry.name entry.realm (kind_of entry.secret)

-- by name, then realm, then kind, each by bytes
abbrev pub key_cmp : Key → Key → Ordering
key_cmp a b =
    ordering_then (slice_cmp nat_cmp a.name b.name)
    (ordering_then (slice_cmp nat_cmp a.realm b.realm) (slice_cmp nat_cmp a.kind b.kind))

-- how the entry's key stands to a key
abbrev pub Stands : Key → Ordering → Entry → Type 0
Stands key order entry = key_cmp (key_of entry) key ≡ order

abbrev pub entry_cmp : Entry → Entry → Ordering
entry_cmp a b = key_cmp (key_of a) (key_of b)

-- the key of each entry is below those of all that follow
abbrev pub IsRising : List Entry → Type 0
IsRising entries = IsStrictlySortedBy entry_cmp entries
