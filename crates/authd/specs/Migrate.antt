-- What `migrate` does: it reads a store, and saves it as it is, which writes its text in the last version.
use Rattle.std.specs.Prelude.{◌≡◌, ℕ, List, length, Result, Ok, Err, codes}
use Rattle.connection_loop.specs.Account.{LinkState}
use Rattle.cred_store.specs.declared.entry.Entry.{Entry}
use Rattle.origin_core.specs.Outside.{FilesState}
use Rattle.authd.specs.Endings.{Ending, numbered_line}
use Rattle.authd.specs.Loading.{LoadsStore}
use Rattle.authd.specs.Saving.{Saves}
use Rattle.authd.specs.declared.failure.Failure.{Failure}

-- `migrated N`
abbrev pub migrated_line : ℕ → List ℕ
migrated_line count = numbered_line (codes "migrated ") count

-- Without a store nothing is printed.
abbrev pub SavesAgain : {F : Type 0} → (F → FilesState) → F → F → List ℕ → Result (List Entry) Failure → LinkState
    → LinkState → Ending → Type 0
SavesAgain at before now store (Err other) link link' ending = (now ≡ before) × (link' ≡ link) × (ending ≡ Err other)
SavesAgain at before now store (Ok entries) link link' ending =
    Saves (at before) (at now) store entries (migrated_line (length entries)) link link' ending

abbrev pub Migrates : {F : Type 0} → (F → FilesState) → List ℕ → F → F → LinkState → LinkState → Ending → Type 0
Migrates {F} at store files files' link link' ending =
    (middle : F) × (entries : Result (List Entry) Failure) × LoadsStore at files middle store entries
    × SavesAgain at middle files' store entries link link' ending
