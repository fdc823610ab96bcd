-- Saving a store: its text replaces its file, and then a line is printed.
use Rattle.std.specs.Prelude.{◌≡◌, ◌⊎◌, ℕ, List, Ok, Err}
use Rattle.auth_io.specs.Files.{ReplaceSays, ReplaceRose}
use Rattle.auth_io.specs.declared.files.Replaced.{Replaced}
use Rattle.auth_io.specs.declared.files.Replaced.TheVariants as replaced
use Rattle.connection_loop.specs.Account.{LinkState}
use Rattle.cred_store.specs.Texts.{store_text}
use Rattle.cred_store.specs.declared.entry.Entry.{Entry}
use Rattle.origin_core.specs.Outside.{FilesState}
use Rattle.authd.specs.Endings.{Ending}
use Rattle.authd.specs.Printing.{Prints}
use Rattle.authd.specs.declared.failure.Failure.TheVariants as failure
use Rattle.authd.specs.declared.failure.Fault.TheVariants as fault

-- one file was replaced by a text, with this answer
pub record ReplacesFile (before now : FilesState) (name text : List ℕ) (answer : Replaced) : Type 0 where
  pub says : ReplaceSays before.contents now.contents before.asked now.asked name text answer
  pub faults : ReplaceRose answer before.faults now.faults

abbrev pub ending_of : Replaced → Ending
ending_of replaced.Done = Ok tt
ending_of replaced.Failed = Err (failure.Fault fault.File)
ending_of replaced.OutOfMemory = Err failure.OutOfMemory

-- Where the file was replaced, the line is printed.
abbrev pub PrintsSaved : Ending → List ℕ → LinkState → LinkState → Ending → Type 0
PrintsSaved (Err other) line link link' ending = (ending ≡ Err other) × (link' ≡ link)
PrintsSaved (Ok done) line link link' ending = (link'.left ≡ link.left) × Prints line link.written link'.written ending

-- The file is replaced once, where there is memory for its text and for the line.
abbrev pub Saves : FilesState → FilesState → List ℕ → List Entry → List ℕ → LinkState → LinkState → Ending → Type 0
Saves before now name entries line link link' ending =
    ((ending ≡ Err failure.OutOfMemory) × (now ≡ before) × (link' ≡ link))
    ⊎ ((answer : Replaced) × ReplacesFile before now name (store_text entries) answer
    × PrintsSaved (ending_of answer) line link link' ending)
