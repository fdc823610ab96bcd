-- The password that an input begins with.
use Rattle.std.specs.Prelude.{◌≡◌, ◌⊎◌, ℕ, ◌≤◌, ⊤, true, false, List, [], ◌∷◌, ◌++◌, length, Option, Some, None, Result, Ok, Err}
use Rattle.std.specs.Io.KnownBytes.{Consumes, IsAtEnd}
use Rattle.std.specs.Str.Lines.{strip_carriage_return}
use Rattle.auth_grammar.specs.Plain.{is_password}
use Rattle.cred_store.specs.Values.{HasNo}
use Rattle.authd.specs.declared.failure.Failure.{Failure}
use Rattle.authd.specs.declared.failure.Failure.TheVariants as failure
use Rattle.authd.specs.declared.failure.Fault.TheVariants as fault

-- The bytes that were read are a line with its LF, before which a CR is dropped; or all that was left, or 130 bytes, without LF.
abbrev pub IsFirstLine : List ℕ → Option (List ℕ) → List ℕ → Type 0
IsFirstLine got left line =
    ((text : List ℕ) × (got ≡ text ++ 10 ∷ []) × HasNo 10 text × (line ≡ strip_carriage_return text))
    ⊎ ((line ≡ got) × HasNo 10 got × (IsAtEnd left ⊎ (length got ≡ 130)))

-- what an answer says of the bytes that were read
abbrev pub IsLine : List ℕ → Option (List ℕ) → Result (List ℕ) Failure → Type 0
IsLine got left (Ok line) = IsFirstLine got left line
IsLine got left (Err (failure.Fault fault.Read)) = ⊤
IsLine got left (Err failure.OutOfMemory) = ⊤
IsLine got left (Err other) = ⊥

-- No more than 130 bytes are read.
abbrev pub ReadsLine : Option (List ℕ) → Option (List ℕ) → Result (List ℕ) Failure → Type 0
ReadsLine left left' result = (got : List ℕ) × Consumes left left' got × (length got ≤ 130) × IsLine got left' result

-- what an answer says of one byte that was read
abbrev pub IsByte : List ℕ → Option (List ℕ) → Result (Option ℕ) Failure → Type 0
IsByte got left (Ok (Some byte)) = got ≡ byte ∷ []
IsByte got left (Ok None) = (got ≡ []) × IsAtEnd left
IsByte got left (Err (failure.Fault fault.Read)) = got ≡ []
IsByte got left (Err other) = ⊥

abbrev pub ReadsByte : Option (List ℕ) → Option (List ℕ) → Result (Option ℕ) Failure → Type 0
ReadsByte left left' result = (got : List ℕ) × Consumes left left' got × IsByte got left' result

-- a line as a password
abbrev pub IsPassword : Result (List ℕ) Failure → Result (List ℕ) Failure → Type 0
IsPassword (Err other) result = result ≡ Err other
IsPassword (Ok line) (Ok password) = (password ≡ line) × (is_password line ≡ true)
IsPassword (Ok line) (Err other) = (other ≡ failure.Usage) × (is_password line ≡ false)

abbrev pub ReadsPassword : Option (List ℕ) → Option (List ℕ) → Result (List ℕ) Failure → Type 0
ReadsPassword left left' result = (line : Result (List ℕ) Failure) × ReadsLine left left' line × IsPassword line result
