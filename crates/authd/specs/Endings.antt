-- How the program ends: its status, and what it says of it.
use Rattle.std.specs.Prelude.{◌≡◌, ◌⊎◌, ℕ, ⊤, List, [], ◌∷◌, ◌++◌, take, Option, Result, Ok, Err, codes, decimal}
use Rattle.std.specs.Io.KnownBytes.{Appends}
use Rattle.auth_io.specs.Causes.{Rose}
use Rattle.origin_core.specs.Outside.{FilesState}
use Rattle.authd.specs.Outside.{Objects, Views, IsUntouched}
use Rattle.authd.specs.declared.failure.Failure.{Failure}
use Rattle.authd.specs.declared.failure.Failure.TheVariants as failure
use Rattle.authd.specs.declared.failure.Fault.{Fault}
use Rattle.authd.specs.declared.failure.Fault.TheVariants as fault
use Rattle.authd.specs.declared.failure.Refusal.{Refusal}
use Rattle.authd.specs.declared.failure.Refusal.TheVariants as refusal

abbrev pub Ending : Type 0
Ending = Result (Unit {0}) Failure

-- ---- what is told

abbrev pub status_of : Failure → ℕ
status_of failure.Usage = 2
status_of (failure.Refused refusal) = 3
status_of (failure.Fault fault) = 4
status_of (failure.Truncated at) = 5
status_of failure.Worn = 6
status_of failure.OutOfMemory = 7

-- words and a number on a line
abbrev pub numbered_line : List ℕ → ℕ → List ℕ
numbered_line words number = words ++ decimal number ++ 10 ∷ []

abbrev pub refusal_line : Refusal → List ℕ
refusal_line refusal.TooLong = codes "too long\n"
refusal_line (refusal.NotGrammar at) = numbered_line (codes "not grammar at ") at
refusal_line (refusal.Twice at) = numbered_line (codes "twice at ") at
refusal_line refusal.StoreAbsent = codes "store absent\n"
refusal_line refusal.SpacesAbsent = codes "spaces absent\n"
refusal_line refusal.HtdigestAbsent = codes "htdigest absent\n"
refusal_line refusal.FileTooLong = codes "file too long\n"
refusal_line refusal.NotForProxy = codes "not for a proxy\n"
refusal_line (refusal.StoreLine line) = numbered_line (codes "store line ") line
refusal_line (refusal.SpacesLine line) = numbered_line (codes "spaces line ") line
refusal_line (refusal.HtdigestLine line) = numbered_line (codes "htdigest line ") line

-- what is said of a failure, a line or nothing
abbrev pub line_of : Failure → List ℕ
line_of failure.Usage = codes "usage: authd COMMAND WORDS\n"
line_of (failure.Refused refusal) = refusal_line refusal
line_of (failure.Fault fault) = []
line_of (failure.Truncated at) = numbered_line (codes "truncated at ") at
line_of failure.Worn = []
line_of failure.OutOfMemory = []

-- The text was written whole, or a front of it up to a write that failed.
abbrev pub Tells : Option (List ℕ) → Option (List ℕ) → ℕ → ℕ → List ℕ → Type 0
Tells written written' faults faults' text =
    Appends written written' text ⊎ ((n : ℕ) × Appends written written' (take n text) × Rose faults faults')

-- The status is the failure's, and its line was told; or memory failed while it was told.
abbrev pub Reports : Ending → Option (List ℕ) → Option (List ℕ) → ℕ → ℕ → ℕ → Type 0
Reports (Ok done) written written' faults faults' status = (status ≡ 0) × Appends written written' []
Reports (Err failure) written written' faults faults' status =
    ((status ≡ status_of failure) × Tells written written' faults faults' (line_of failure))
    ⊎ ((status ≡ 7) × (n : ℕ) × Appends written written' (take n (line_of failure)))

-- why a text was not printed whole
abbrev pub IsPrintFailure : Failure → Type 0
IsPrintFailure (failure.Fault fault.Write) = ⊤
IsPrintFailure failure.OutOfMemory = ⊤
IsPrintFailure failure = ⊥

-- ---- what a failure says of the outside

-- its count has risen
abbrev pub FaultRose : {L F C W : Type 0} → Views L F C W → Objects L F C W → Objects L F C W → Fault → Type 0
FaultRose v before now fault.Read = Rose (v.read_faults before.link) (v.read_faults now.link)
FaultRose v before now fault.Write = Rose (v.write_faults before.link) (v.write_faults now.link)
FaultRose v before now fault.File = Rose ((v.files before.files).faults) ((v.files now.files).faults)
FaultRose v before now fault.Draw = Rose (v.word_faults before.random) (v.word_faults now.random)

-- At a refusal nothing was written, and no file changed. A fault has its cause.
abbrev pub FailureSays : {L F C W : Type 0} → Views L F C W → Objects L F C W → Objects L F C W → Failure → Type 0
FailureSays v before now failure.Usage = IsUntouched v before now
FailureSays v before now (failure.Refused refusal) = IsUntouched v before now
FailureSays v before now (failure.Fault fault) = FaultRose v before now fault
FailureSays v before now (failure.Truncated at) = ⊤
FailureSays v before now failure.Worn = ⊤
FailureSays v before now failure.OutOfMemory = ⊤

-- what the failure of a command that is given the link and the files alone says of them
abbrev pub LinkFilesSay : {L F : Type 0} → (L → Option (List ℕ)) → (L → ℕ) → (L → ℕ) → (F → FilesState) → L → L → F → F → Failure → Type 0
LinkFilesSay written reads writes files link link' f f' failure.Usage =
    (written link' ≡ written link) × ((files f').contents ≡ (files f).contents)
LinkFilesSay written reads writes files link link' f f' (failure.Refused refusal) =
    (written link' ≡ written link) × ((files f').contents ≡ (files f).contents)
LinkFilesSay written reads writes files link link' f f' (failure.Fault fault.Read) = Rose (reads link) (reads link')
LinkFilesSay written reads writes files link link' f f' (failure.Fault fault.Write) = Rose (writes link) (writes link')
LinkFilesSay written reads writes files link link' f f' (failure.Fault fault.File) = Rose ((files f).faults) ((files f').faults)
LinkFilesSay written reads writes files link link' f f' (failure.Fault fault.Draw) = ⊥
LinkFilesSay written reads writes files link link' f f' (failure.Truncated at) = ⊥
LinkFilesSay written reads writes files link link' f f' failure.Worn = ⊥
LinkFilesSay written reads writes files link link' f f' failure.OutOfMemory = ⊤

-- the same of one that is given the source of random words too
abbrev pub LinkFilesWordsSay : {L F W : Type 0} → (L → Option (List ℕ)) → (L → ℕ) → (L → ℕ) → (F → FilesState) → (W → ℕ) → L
    → L → F → F → W → W → Failure → Type 0
LinkFilesWordsSay written reads writes files draws link link' f f' random random' (failure.Fault fault.Draw) =
    Rose (draws random) (draws random')
LinkFilesWordsSay written reads writes files draws link link' f f' random random' failure =
    LinkFilesSay written reads writes files link link' f f' failure

-- the statuses of refusals
abbrev pub IsRefusal : ℕ → Type 0
IsRefusal status = (status ≡ 2) ⊎ (status ≡ 3)
