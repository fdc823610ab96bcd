-- What a form in memory was told of its calls: how much each takes at most, and which of them fail.
use Rattle.std.specs.Prelude.{◌≡◌, ℕ, ◌+◌, ◌-◌, ◌^◌, ◌==◌, min, max, Bool, true, false, nat_lt, if◌then◌else◌, List, [], ◌∷◌, ◌++◌, length, slice_index_or, Result, Ok, Err, ⊤}
use Rattle.std.specs.List.{list_any}
use Rattle.auth_io.specs.Files.{IsFailure}
use Rattle.auth_io.specs.declared.files.Ending.{Ending}
use Rattle.auth_io.specs.declared.files.Ending.TheVariants.{Well, FailedBefore, FailedDone}
use Rattle.auth_io.specs.declared.files.FileAnswer.{FileAnswer}
use Rattle.auth_io.specs.declared.files.FileAnswer.TheVariants as answer
use Rattle.auth_io.specs.declared.files.Replaced.{Replaced}
use Rattle.auth_io.specs.declared.files.Replaced.TheVariants as replaced
use Rattle.auth_io.specs.declared.stream.Failed.{Failed}
use Rattle.auth_io.specs.declared.stream.Wrote.{Wrote}
use Rattle.auth_io.specs.declared.stream.Wrote.TheVariants.{Taken, Failed as NotTaken, OutOfMemory}

-- the most that each call takes, the numbers of the calls that fail, counted from 1, and how many calls were made
pub record Plan : Type 0 where
  pub sizes : List ℕ
  pub failing : List ℕ
  pub calls : ℕ

-- one call more, as far as 64 bits can number them
abbrev pub one_more : ℕ → ℕ
one_more calls = min (calls + 1) (2 ^ 64 - 1)

abbrev pub is_listed : List ℕ → ℕ → Bool
is_listed numbers number = list_any (λ n. n == number) numbers

-- whether the next call fails
abbrev pub next_fails : Plan → Bool
next_fails p = is_listed p.failing (one_more p.calls)

-- How much the next call takes at most. A size of 0 counts as 1, and past the end of the sizes it takes all that it can.
abbrev pub next_size : Plan → ℕ
next_size p = if nat_lt p.calls (length p.sizes) then max (slice_index_or p.sizes p.calls 0) 1 else 2 ^ 64 - 1

abbrev pub after_call : Plan → Plan
after_call p = record p { calls = one_more p.calls }

-- A read that isn't to fail gives as much as there is, fits and is allowed.
abbrev pub ReadsBy : Bool → ℕ → ℕ → ℕ → Result ℕ Failed → Type 0
ReadsBy fails size there fits (Ok n) = (fails ≡ false) × (n ≡ min (min size fits) there)
ReadsBy fails size there fits (Err failed) = fails ≡ true

-- A write that isn't to fail takes as much as is given and allowed, or finds no memory for it.
abbrev pub WritesBy : Bool → ℕ → ℕ → Wrote → Type 0
WritesBy fails size given (Taken n) = (fails ≡ false) × (n ≡ min size given)
WritesBy fails size given NotTaken = fails ≡ true
WritesBy fails size given OutOfMemory = fails ≡ false

-- A file is read exactly where the call isn't to fail, or there is no memory for it.
abbrev pub FoundBy : Bool → FileAnswer → Type 0
FoundBy fails (answer.Found bytes) = fails ≡ false
FoundBy fails answer.Absent = fails ≡ false
FoundBy fails answer.TooLarge = fails ≡ false
FoundBy fails answer.Failed = fails ≡ true
FoundBy fails answer.OutOfMemory = ⊤

-- how a replace ends, by whether it is to fail at once, and whether it is to fail when all is done
abbrev pub planned_ending : Bool → Bool → Ending
planned_ending true fails_done = FailedBefore
planned_ending false true = FailedDone
planned_ending false false = Well

-- A file is replaced exactly where the call isn't to fail, or there is no memory for it. A failure is told as it is planned.
abbrev pub ReplacedBy : Ending → List (List ℕ × Ending) → List (List ℕ × Ending) → List ℕ → Replaced → Type 0
ReplacedBy ending asked asked' name replaced.Done = ending ≡ Well
ReplacedBy ending asked asked' name replaced.Failed = IsFailure ending × (asked' ≡ asked ++ (name, ending) ∷ [])
ReplacedBy ending asked asked' name replaced.OutOfMemory = ⊤
