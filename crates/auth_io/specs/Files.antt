-- What calls of files say of their contents.
use Rattle.std.specs.Prelude.{◌≡◌, ℕ, ◌<◌, ◌≤◌, List, [], ◌∷◌, ◌++◌, length, Option, Some, None, ⊤}
use Rattle.std.specs.Ordering.{nat_cmp}
use Rattle.std.specs.Cmp.Lexicographic.{slice_cmp}
use Rattle.std.specs.FinMap as map
use Rattle.auth_io.specs.Causes.{Rose}
use Rattle.auth_io.specs.declared.files.FileAnswer.{FileAnswer}
use Rattle.auth_io.specs.declared.files.FileAnswer.TheVariants.{Found, Absent, TooLarge, Failed, OutOfMemory}
use Rattle.auth_io.specs.declared.files.Ending.{Ending}
use Rattle.auth_io.specs.declared.files.Ending.TheVariants.{Well, FailedBefore, FailedDone}
use Rattle.auth_io.specs.declared.files.Replaced.{Replaced}
use Rattle.auth_io.specs.declared.files.Replaced.TheVariants.{Done, Failed as NotReplaced, OutOfMemory as NoMemory}

-- the bytes of each name
abbrev pub Contents : Type 0
Contents = map.FinMap (slice_cmp nat_cmp) (List ℕ)

-- the contents that a list of names and bytes spells. Of two entries with one name the first counts
abbrev pub contents_of : List (List ℕ × List ℕ) → Contents
contents_of entries = map.from_entries entries

-- the bytes of a name, if it is told that it is there
abbrev pub found_in : Option Contents → List ℕ → Option (List ℕ)
found_in None name = None
found_in (Some m) name = map.get m name

-- Where the contents are told, a read answers by them.
abbrev pub ReadAnswers : Option Contents → List ℕ → ℕ → FileAnswer → Type 0
ReadAnswers None name limit answer = ⊤
ReadAnswers (Some m) name limit (Found bytes) = (map.get m name ≡ Some bytes) × (length bytes ≤ limit)
ReadAnswers (Some m) name limit Absent = map.get m name ≡ None
ReadAnswers (Some m) name limit TooLarge = (bytes : List ℕ) × (map.get m name ≡ Some bytes) × (limit < length bytes)
ReadAnswers (Some m) name limit Failed = ⊤
ReadAnswers (Some m) name limit OutOfMemory = ⊤

-- a file that was found has at most this many bytes
abbrev pub HasAtMost : ℕ → FileAnswer → Type 0
HasAtMost limit (Found bytes) = length bytes ≤ limit
HasAtMost limit Absent = ⊤
HasAtMost limit TooLarge = ⊤
HasAtMost limit Failed = ⊤
HasAtMost limit OutOfMemory = ⊤

-- the list of what was asked has grown by this
abbrev pub AddsAsked : Option (List (List ℕ × Ending)) → Option (List (List ℕ × Ending)) → List (List ℕ × Ending) → Type 0
AddsAsked None new more = ⊤
AddsAsked (Some old) None more = ⊥
AddsAsked (Some old) (Some new) more = new ≡ old ++ more

-- what a read adds to that list
abbrev pub read_entry : List ℕ → FileAnswer → List (List ℕ × Ending)
read_entry name (Found bytes) = (name, Well) ∷ []
read_entry name Absent = (name, Well) ∷ []
read_entry name TooLarge = (name, Well) ∷ []
read_entry name Failed = (name, FailedBefore) ∷ []
read_entry name OutOfMemory = []

-- the count of file faults has risen where a read failed, and else stays
abbrev pub ReadRose : FileAnswer → ℕ → ℕ → Type 0
ReadRose (Found bytes) before now = now ≡ before
ReadRose Absent before now = now ≡ before
ReadRose TooLarge before now = now ≡ before
ReadRose Failed before now = Rose before now
ReadRose OutOfMemory before now = now ≡ before

-- the contents after a replace that ended so
abbrev pub contents_after : Option Contents → List ℕ → List ℕ → Ending → Option Contents
contents_after None name bytes ending = None
contents_after (Some m) name bytes Well = Some (map.insert m name bytes)
contents_after (Some m) name bytes FailedBefore = Some m
contents_after (Some m) name bytes FailedDone = Some (map.insert m name bytes)

-- the same for a replace
abbrev pub ReplaceRose : Replaced → ℕ → ℕ → Type 0
ReplaceRose Done before now = now ≡ before
ReplaceRose NotReplaced before now = Rose before now
ReplaceRose NoMemory before now = now ≡ before

abbrev pub IsFailure : Ending → Type 0
IsFailure Well = ⊥
IsFailure FailedBefore = ⊤
IsFailure FailedDone = ⊤

-- What a replace says of the contents and of what was asked. Where it failed, it ended in one of the two ways.
abbrev pub ReplaceSays : Option Contents → Option Contents → Option (List (List ℕ × Ending))
    → Option (List (List ℕ × Ending)) → List ℕ → List ℕ → Replaced → Type 0
ReplaceSays old new asked asked' name bytes Done = (new ≡ contents_after old name bytes Well) × AddsAsked asked asked' ((name, Well) ∷ [])
ReplaceSays old new asked asked' name bytes NotReplaced =
    (ending : Ending) × IsFailure ending × (new ≡ contents_after old name bytes ending) × AddsAsked asked asked' ((name, ending) ∷ [])
ReplaceSays old new asked asked' name bytes NoMemory = (new ≡ old) × (asked' ≡ asked)

-- no fault of the files
abbrev pub IsNoReadFault : FileAnswer → Type 0
IsNoReadFault (Found bytes) = ⊤
IsNoReadFault Absent = ⊤
IsNoReadFault TooLarge = ⊤
IsNoReadFault Failed = ⊥
IsNoReadFault OutOfMemory = ⊤
