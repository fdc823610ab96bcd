-- The list of the reads of a link.
use Rattle.std.specs.Prelude.{◌≡◌, ℕ, List, [], ◌∷◌, ◌++◌, length, Option, Some, None, ⊤}

-- A told list of reads grows by the numbers of bytes that were read and written before this one.
abbrev pub NotesRead : Option (List (ℕ × ℕ)) → Option (List (ℕ × ℕ)) → ℕ → Option (List ℕ) → Type 0
NotesRead None new read written = ⊤
NotesRead (Some old) None read written = ⊥
NotesRead (Some old) (Some new) read (Some written) = new ≡ old ++ (read, length written) ∷ []
NotesRead (Some old) (Some new) read None = (n : ℕ) × (new ≡ old ++ (read, n) ∷ [])
