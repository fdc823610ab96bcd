-- What `import` does: it reads a store and a text of htdigest, and saves the store with the secrets which that text says.
use Rattle.std.specs.Prelude.{◌≡◌, ℕ, ⊤, List, ◌∷◌, [], ◌++◌, length, Result, Ok, Err, codes, decimal}
use Rattle.std.specs.Str.Lines.{lines}
use Rattle.auth_io.specs.declared.files.FileAnswer.{FileAnswer}
use Rattle.connection_loop.specs.Account.{LinkState}
use Rattle.cred_store.specs.Changes.{put_all}
use Rattle.cred_store.specs.Htdigest.{ArePairs, FirstPairFault, imported}
use Rattle.cred_store.specs.declared.entry.Entry.{Entry}
use Rattle.cred_store.specs.declared.error.LineFault.{LineFault}
use Rattle.cred_store.specs.declared.error.StoreError.TheVariants.{BadLine}
use Rattle.origin_core.specs.Outside.{FilesState}
use Rattle.authd.specs.Endings.{Ending}
use Rattle.authd.specs.Loading.{ReadsFile, IsKept, text_in}
use Rattle.authd.specs.Saving.{Saves}
use Rattle.authd.specs.declared.failure.Failure.{Failure}
use Rattle.authd.specs.declared.failure.Failure.TheVariants as failure
use Rattle.authd.specs.declared.failure.Refusal.TheVariants as refusal
use Rattle.authd.specs.declared.import.Imported.{Imported}

-- `imported N`
abbrev pub imported_line : ℕ → List ℕ
imported_line count = codes "imported " ++ decimal count ++ 10 ∷ []

-- what a text of htdigest makes of a store, or why it is refused
abbrev pub TakesPairs : List ℕ → List Entry → Result Imported Failure → Type 0
TakesPairs text entries (Ok done) =
    (pairs : List Entry) × ArePairs (lines text) pairs × (done.count ≡ length (imported pairs))
    × (done.store ≡ put_all (imported pairs) entries)
TakesPairs text entries (Err (failure.Refused (refusal.HtdigestLine line))) = (why : LineFault) × FirstPairFault text (BadLine line why)
TakesPairs text entries (Err failure.OutOfMemory) = ⊤
TakesPairs text entries (Err other) = ⊥

-- the same of the text in an answer, where there is one
abbrev pub TakesText : Result (List ℕ) Failure → List Entry → Result Imported Failure → Type 0
TakesText (Err other) entries result = result ≡ Err other
TakesText (Ok text) entries result = TakesPairs text entries result

-- Where the store was read, the text of htdigest is.
abbrev pub LoadsPairs : {F : Type 0} → (F → FilesState) → F → F → List ℕ → Result (List Entry) Failure → Result Imported Failure → Type 0
LoadsPairs at before now name (Err other) result = (now ≡ before) × (result ≡ Err other)
LoadsPairs at before now name (Ok entries) result =
    (answer : FileAnswer) × ReadsFile (at before) (at now) name answer × TakesText (text_in refusal.HtdigestAbsent answer) entries result

-- A store that isn't there has no entries.
abbrev pub LoadsImport : {F : Type 0} → (F → FilesState) → F → F → List ℕ → List ℕ → Result Imported Failure → Type 0
LoadsImport {F} at before now store htdigest result =
    (middle : F) × (answer : FileAnswer) × ReadsFile (at before) (at middle) store answer
    × (entries : Result (List Entry) Failure) × IsKept answer entries × LoadsPairs at middle now htdigest entries result

-- Without what is to be saved no file changes, and nothing is printed.
abbrev pub SavesImport : {F : Type 0} → (F → FilesState) → F → F → List ℕ → Result Imported Failure → LinkState → LinkState
    → Ending → Type 0
SavesImport at before now store (Err other) link link' ending = (now ≡ before) × (link' ≡ link) × (ending ≡ Err other)
SavesImport at before now store (Ok done) link link' ending =
    Saves (at before) (at now) store done.store (imported_line done.count) link link' ending

abbrev pub Imports : {F : Type 0} → (F → FilesState) → List ℕ → List ℕ → F → F → LinkState → LinkState → Ending → Type 0
Imports {F} at store htdigest files files' link link' ending =
    (middle : F) × (result : Result Imported Failure) × LoadsImport at files middle store htdigest result
    × SavesImport at middle files' store result link link' ending
