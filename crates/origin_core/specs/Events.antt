-- What was done with files for requests, one after the other, and what it tells.
use Rattle.std.specs.Prelude.{◌≡◌, ◌≢◌, ℕ, List, [], ◌∷◌, ◌++◌, Option, ⊤}
use Rattle.auth_io.specs.Files.{Contents, ReadAnswers, ReadRose, ReplaceRose, read_entry, contents_after}
use Rattle.auth_io.specs.declared.files.Ending.{Ending}
use Rattle.auth_io.specs.declared.files.Ending.TheVariants.{Well, FailedBefore, FailedDone}
use Rattle.auth_io.specs.declared.files.FileAnswer.TheVariants.{OutOfMemory}
use Rattle.auth_io.specs.declared.files.Replaced.{Replaced}
use Rattle.auth_io.specs.declared.files.Replaced.TheVariants.{Done, Failed}
use Rattle.origin_core.specs.declared.carrying.TheConstants.{FILE_LIMIT}
use Rattle.origin_core.specs.declared.events.FileEvent.{FileEvent}
use Rattle.origin_core.specs.declared.events.FileEvent.TheVariants.{FileRead, FileReplaced}
use Rattle.origin_core.specs.declared.events.FileOperation.{FileOperation}
use Rattle.origin_core.specs.declared.events.FileOperation.TheVariants.{ReadFile, ReplaceFile}

-- the operation that was done
abbrev pub operation_of : FileEvent → FileOperation
operation_of (FileRead name answer) = ReadFile name
operation_of (FileReplaced name bytes ending) = ReplaceFile name bytes

-- what a replace that ended so answers
abbrev pub replaced_by : Ending → Replaced
replaced_by Well = Done
replaced_by FailedBefore = Failed
replaced_by FailedDone = Failed

-- the files that were asked for, and how each of these calls ended
abbrev pub files_in : List FileEvent → List (List ℕ × Ending)
files_in [] = []
files_in (FileRead name answer ∷ events) = read_entry name answer ++ files_in events
files_in (FileReplaced name bytes ending ∷ events) = (name, ending) ∷ files_in events

-- Each read was answered by the contents at its place, and each replace changed them as it ended.
abbrev pub ContentsPass : List FileEvent → Option Contents → Option Contents → Type 0
ContentsPass [] old new = new ≡ old
ContentsPass (FileRead name answer ∷ events) old new = ReadAnswers old name FILE_LIMIT answer × ContentsPass events old new
ContentsPass (FileReplaced name bytes ending ∷ events) old new = ContentsPass events (contents_after old name bytes ending) new

-- The count of file faults rose at each call that failed, and at no other.
abbrev pub FaultsPass : List FileEvent → ℕ → ℕ → Type 0
FaultsPass [] old new = new ≡ old
FaultsPass (FileRead name answer ∷ events) old new = (then : ℕ) × ReadRose answer old then × FaultsPass events then new
FaultsPass (FileReplaced name bytes ending ∷ events) old new =
    (then : ℕ) × ReplaceRose (replaced_by ending) old then × FaultsPass events then new

-- A call that found no memory is no event.
abbrev pub IsSound : FileEvent → Type 0
IsSound (FileRead name answer) = answer ≢ OutOfMemory
IsSound (FileReplaced name bytes ending) = ⊤
