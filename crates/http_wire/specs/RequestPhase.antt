-- What a feed of requests knows of its bytes.
use Rattle.std.specs.Prelude.{◌≡◌, ℕ, Bool, true, false, List, take, slice_range, Some}
use Rattle.http_wire.specs.declared.request_head.Judged.TheVariants.{Sound}
use Rattle.http_wire.specs.declared.phase.Phase.{Phase}
use Rattle.http_wire.specs.declared.phase.Phase.TheVariants.{Searching, Body, Stopped}
use Rattle.http_wire.specs.HeadPlace.{head_place}
use Rattle.http_wire.specs.RequestChecks.{judge}
use Rattle.http_wire.specs.Search.{Tracks}
use Rattle.http_wire.specs.Requests.{Unfinished, Wrong, front}
use Rattle.http_wire.specs.declared.front.TheConstants.{HEAD_LIMIT}

-- ---- what a feed knows of its bytes

abbrev pub IsPhase : List ℕ → Phase → Type 0
IsPhase bytes (Searching place) = Tracks (take HEAD_LIMIT bytes) place
IsPhase bytes (Body head start end) =
    (head_place (take HEAD_LIMIT bytes) ≡ Some (start, end)) × (judge (slice_range bytes start end) ≡ Sound head)
IsPhase bytes (Stopped status) = front bytes ≡ Wrong status

-- the same, and it has looked at them all
abbrev pub IsSettled : List ℕ → Phase → Type 0
IsSettled bytes (Searching place) = Tracks (take HEAD_LIMIT bytes) place × (front bytes ≡ Unfinished false)
IsSettled bytes (Body head start end) = IsPhase bytes (Body head start end)
IsSettled bytes (Stopped status) = front bytes ≡ Wrong status

abbrev pub is_stopped : Phase → Bool
is_stopped (Searching place) = false
is_stopped (Body head start end) = false
is_stopped (Stopped status) = true
