-- What was read of an input of limited length.
use Rattle.std.specs.Prelude.{◌≡◌, ℕ, ◌+◌, ◌<◌, ◌≤◌, ⊤, Bool, true, false, List, [], ◌++◌, length, Option, Result, Ok, Err}
use Rattle.std.specs.Io.KnownBytes.{Consumes, IsAtEnd}
use Rattle.authd.specs.declared.failure.Failure.{Failure}
use Rattle.authd.specs.declared.failure.Failure.TheVariants as failure
use Rattle.authd.specs.declared.failure.Fault.TheVariants as fault
use Rattle.authd.specs.declared.failure.Refusal.TheVariants as refusal
use Rattle.authd.specs.declared.input.TheConstants.{INPUT_LIMIT}

-- all that there was to read, of no more bytes than an input may have
abbrev pub IsWhole : List ℕ → Option (List ℕ) → Type 0
IsWhole input left = (length input ≤ INPUT_LIMIT) × IsAtEnd left

-- what an answer says of the bytes that were read
abbrev pub IsInput : List ℕ → Option (List ℕ) → Result (List ℕ) Failure → Type 0
IsInput got left (Ok input) = (input ≡ got) × IsWhole got left
IsInput got left (Err (failure.Refused refusal.TooLong)) = length got ≡ INPUT_LIMIT + 1
IsInput got left (Err (failure.Fault fault.Read)) = ⊤
IsInput got left (Err failure.OutOfMemory) = ⊤
IsInput got left (Err other) = ⊥

abbrev pub ReadsInput : Option (List ℕ) → Option (List ℕ) → Result (List ℕ) Failure → Type 0
ReadsInput left left' result = (got : List ℕ) × Consumes left left' got × (length got ≤ INPUT_LIMIT + 1) × IsInput got left' result

-- what an answer says of one piece that was read behind an input
abbrev pub IsPiece : List ℕ → List ℕ → List ℕ → Option (List ℕ) → Result Bool Failure → Type 0
IsPiece input input' got left (Ok true) = (input' ≡ input ++ got) × (0 < length got)
IsPiece input input' got left (Ok false) = (input' ≡ input) × (got ≡ []) × IsAtEnd left
IsPiece input input' got left (Err (failure.Fault fault.Read)) = ⊤
IsPiece input input' got left (Err failure.OutOfMemory) = ⊤
IsPiece input input' got left (Err other) = ⊥

abbrev pub ReadsPiece : Option (List ℕ) → Option (List ℕ) → List ℕ → List ℕ → Result Bool Failure → Type 0
ReadsPiece left left' input input' result =
    (got : List ℕ) × Consumes left left' got × (length input + length got ≤ INPUT_LIMIT + 1) × IsPiece input input' got left' result
