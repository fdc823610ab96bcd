-- The outside of the server, as far as it tells, and how it passes.
use Rattle.std.specs.Prelude.{ℕ, ◌≤◌, List, Option}
use Rattle.std.specs.List.{All}
use Rattle.auth_io.specs.Files.{Contents, AddsAsked}
use Rattle.auth_io.specs.declared.files.Ending.{Ending}
use Rattle.nonce_shard.specs.Seat.{Seat}
use Rattle.request_deciding.specs.Findings.{behind_in, found_in}
use Rattle.request_deciding.specs.Outside.{TablePassed, TableState, table_state}
use Rattle.request_deciding.specs.declared.events.Event.{Event}
use Rattle.origin_core.specs.Events.{ContentsPass, FaultsPass, IsSound, files_in}
use Rattle.origin_core.specs.declared.events.FileEvent.{FileEvent}

-- files at one moment: what they hold, what was asked of them, and the count of their faults
pub record FilesState : Type 0 where
  pub contents : Option Contents
  pub asked : Option (List (List ℕ × Ending))
  pub faults : ℕ

pub record Outside : Type 0 where
  pub files : FilesState
  pub table : TableState

abbrev pub files_state : {F : Type 0} → (F → Option Contents) → (F → Option (List (List ℕ × Ending))) → (F → ℕ) → F → FilesState
files_state contents asked faults f = record { contents = contents f; asked = asked f; faults = faults f }

abbrev pub outside_of : FilesState → TableState → Outside
outside_of files table = record { files = files; table = table }

-- the whole outside, by what files, a source of words and a seat tell
abbrev pub outside_at : {F W T : Type 0} → (F → Option Contents) → (F → Option (List (List ℕ × Ending))) → (F → ℕ)
    → (W → Option (List (List ℕ))) → (W → ℕ) → (T → Seat) → F → W → T → Outside
outside_at contents asked file_faults drawn word_faults seat f w t =
    outside_of (files_state contents asked file_faults f) (table_state drawn word_faults seat w t)

-- Files passed through exactly these events.
pub record FilesPassed (u v : FilesState) (events : List FileEvent) : Type 0 where
  pub sound : All IsSound events
  pub contents : ContentsPass events u.contents v.contents
  pub asked : AddsAsked u.asked v.asked (files_in events)
  pub faults : FaultsPass events u.faults v.faults
  pub later : u.faults ≤ v.faults

-- Between two moments exactly these events came.
pub record Passed (u v : Outside) (events : List (Event FileEvent)) : Type 0 where
  pub files : FilesPassed u.files v.files (behind_in events)
  pub table : TablePassed u.table v.table (found_in events)
