-- The password that an input begins with.
use Rattle.std.specs.Prelude.{◌≡◌, ◌⊎◌, ℕ, ◌≤◌, ⊤, false, ◌==◌, List, [], ◌∷◌, ◌++◌, length, Option, Some, None, Result, Ok, Err}
use Rattle.std.specs.Io.KnownBytes.{Consumes, IsAtEnd}
use Rattle.std.specs.List.{list_any}
use Rattle.std.specs.Str.Lines.{strip_carriage_return}
use Rattle.authget.specs.declared.stop.Stop.{Stop}

-- the text has no line feed
abbrev pub HasNoFeed : List ℕ → Type 0
HasNoFeed text = list_any (λ b. b == 10) text ≡ false

-- The bytes that were read are a line with its LF, before which a CR is dropped; or all that was left, or 130 bytes, without LF.
abbrev pub IsFirstLine : List ℕ → Option (List ℕ) → List ℕ → Type 0
IsFirstLine got left line =
    ((text : List ℕ) × (got ≡ text ++ 10 ∷ []) × HasNoFeed text × (line ≡ strip_carriage_return text))
    ⊎ ((line ≡ got) × HasNoFeed got × (IsAtEnd left ⊎ (length got ≡ 130)))

-- what an answer says of the bytes that were read
abbrev pub IsLine : List ℕ → Option (List ℕ) → Result (List ℕ) Stop → Type 0
IsLine got left (Ok line) = IsFirstLine got left line
IsLine got left (Err stop) = ⊤

-- No more than 130 bytes are read.
abbrev pub ReadsLine : Option (List ℕ) → Option (List ℕ) → Result (List ℕ) Stop → Type 0
ReadsLine left left' result = (got : List ℕ) × Consumes left left' got × (length got ≤ 130) × IsLine got left' result

-- what an answer says of one byte that was read
abbrev pub IsByte : List ℕ → Option (List ℕ) → Result (Option ℕ) Stop → Type 0
IsByte got left (Ok (Some byte)) = got ≡ byte ∷ []
IsByte got left (Ok None) = (got ≡ []) × IsAtEnd left
IsByte got left (Err stop) = got ≡ []

abbrev pub ReadsByte : Option (List ℕ) → Option (List ℕ) → Result (Option ℕ) Stop → Type 0
ReadsByte left left' result = (got : List ℕ) × Consumes left left' got × IsByte got left' result
