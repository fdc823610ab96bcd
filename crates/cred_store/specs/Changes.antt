-- How the entries of a store change.
use Rattle.std.specs.Prelude.{ℕ, Bool, not, if◌then◌else◌, List, [], ◌∷◌, filter, map}
use Rattle.std.specs.declared.cmp.Ordering.{Ordering}
use Rattle.std.specs.declared.cmp.Ordering.TheVariants.{Less, Equal, Greater}
use Rattle.cred_store.specs.Keys.{entry_cmp}
use Rattle.cred_store.specs.LookUps.{is_of}
use Rattle.cred_store.specs.declared.entry.Entry.{Entry}

-- one of three, by the answer of a comparison
abbrev pub by_order : Ordering → List Entry → List Entry → List Entry → List Entry
by_order Less less equal greater = less
by_order Equal less equal greater = equal
by_order Greater less equal greater = greater

-- the entry put in at its place, instead of the one that has its key, if there is one
abbrev pub put : Entry → List Entry → List Entry
put entry [] = entry ∷ []
put entry (first ∷ rest) = by_order (entry_cmp first entry) (first ∷ put entry rest) (entry ∷ rest) (entry ∷ first ∷ rest)

-- entries put in one after another, the last one first: of two that have one key the first stays
abbrev pub put_all : List Entry → List Entry → List Entry
put_all [] entries = entries
put_all (entry ∷ more) entries = put entry (put_all more entries)

-- the entries but those of this name and realm
abbrev pub without : List ℕ → List ℕ → List Entry → List Entry
without name realm entries = filter (λ entry. not (is_of name realm entry)) entries

-- an entry with this flag
abbrev pub flagged : Bool → Entry → Entry
flagged on entry = record entry { on = on }

-- an entry with this flag where it is of this name and realm
abbrev pub switched : List ℕ → List ℕ → Bool → Entry → Entry
switched name realm on entry = if is_of name realm entry then flagged on entry else entry

-- the entries, of which those of this name and realm have this flag
abbrev pub with_flag : List ℕ → List ℕ → Bool → List Entry → List Entry
with_flag name realm on entries = map (switched name realm on) entries
