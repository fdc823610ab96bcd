-- What `disable` and `enable` do: they read a store, and save it with the flag of the entries of a name in a realm.
use Rattle.std.specs.Prelude.{◌≡◌, ◌≢◌, ◌⊎◌, ℕ, Bool, true, false, List, Result, Ok, Err, codes, count_by}
use Rattle.connection_loop.specs.Account.{LinkState}
use Rattle.cred_store.specs.Changes.{with_flag}
use Rattle.cred_store.specs.LookUps.{is_of}
use Rattle.cred_store.specs.declared.entry.Entry.{Entry}
use Rattle.origin_core.specs.Outside.{FilesState}
use Rattle.authd.specs.Endings.{Ending, numbered_line}
use Rattle.authd.specs.Loading.{LoadsStore}
use Rattle.authd.specs.Printing.{Prints}
use Rattle.authd.specs.Saving.{Saves}
use Rattle.authd.specs.declared.failure.Failure.{Failure}

-- `disabled N` or `enabled N`
abbrev pub switched_line : Bool → ℕ → List ℕ
switched_line true count = numbered_line (codes "enabled ") count
switched_line false count = numbered_line (codes "disabled ") count

-- Where there are no such entries the files stay, and the line is printed.
abbrev pub SavesSome : {F : Type 0} → (F → FilesState) → F → F → List ℕ → ℕ → List Entry → List ℕ → LinkState → LinkState → Ending → Type 0
SavesSome at before now store count entries line link link' ending =
    ((count ≡ 0) × (now ≡ before) × (link'.left ≡ link.left) × Prints line link.written link'.written ending)
    ⊎ ((count ≢ 0) × Saves (at before) (at now) store entries line link link' ending)

-- Without a store nothing is printed.
abbrev pub SavesSwitched : {F : Type 0} → (F → FilesState) → F → F → List ℕ → List ℕ → List ℕ → Bool
    → Result (List Entry) Failure → LinkState → LinkState → Ending → Type 0
SavesSwitched at before now store name realm on (Err other) link link' ending = (now ≡ before) × (link' ≡ link) × (ending ≡ Err other)
SavesSwitched at before now store name realm on (Ok entries) link link' ending =
    SavesSome at before now store (count_by (is_of name realm) entries) (with_flag name realm on entries)
    (switched_line on (count_by (is_of name realm) entries)) link link' ending

abbrev pub Switches : {F : Type 0} → (F → FilesState) → List ℕ → List ℕ → List ℕ → Bool → F → F → LinkState → LinkState → Ending → Type 0
Switches {F} at store name realm on files files' link link' ending =
    (middle : F) × (entries : Result (List Entry) Failure) × LoadsStore at files middle store entries
    × SavesSwitched at middle files' store name realm on entries link link' ending
