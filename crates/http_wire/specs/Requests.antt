-- What stands at the front of a stream of requests.
use Rattle.std.specs.Prelude.{◌≡◌, ⊤, ℕ, Bool, false, List, [], ◌∷◌, length, take, drop, slice_range, if◌then◌else◌, nat_lt, Option, Some, None}
use Rattle.http_wire.specs.declared.request.Request.{Request}
use Rattle.http_wire.specs.declared.request_head.Judged.{Judged}
use Rattle.http_wire.specs.declared.request_head.Judged.TheVariants.{Sound, Faulty}
use Rattle.http_wire.specs.RequestChecks.{judge}
use Rattle.http_wire.specs.HeadPlace.{head_place, blank_len}
use Rattle.http_wire.specs.declared.front.TheConstants.{HEAD_LIMIT}

-- what stands at the front
pub data Front : Type 0 where
  -- no whole message; whether a Continue is due
  Unfinished : Bool → Front
  -- a message, before which a Continue may be due, and what follows it
  Whole : Bool → Request → List ℕ → Front
  Wrong : ℕ → Front

-- the request with that body
abbrev pub with_body : Request → List ℕ → Request
with_body request body = record request { body = body }

-- behind a head without fault
abbrev pub front_behind : Judged → List ℕ → Front
front_behind (Faulty status) bytes = Wrong status
front_behind (Sound head) bytes =
    if nat_lt (length bytes) head.body_len then Unfinished head.expects
    else Whole head.expects (with_body head.request (take head.body_len bytes)) (drop head.body_len bytes)

abbrev pub front_at : Option (ℕ × ℕ) → List ℕ → Front
front_at None bytes = if nat_lt (length bytes) HEAD_LIMIT then Unfinished false else Wrong 431
front_at (Some place) bytes = front_behind (judge (slice_range bytes place.0 place.1)) (drop place.1 bytes)

-- The first 16,384 bytes have the head's end.
unfoldable pub front : List ℕ → Front
front bytes = front_at (head_place (take HEAD_LIMIT bytes)) bytes

-- whether a Continue is due
abbrev pub is_due : Front → Bool
is_due (Unfinished due) = due
is_due (Whole due request rest) = due
is_due (Wrong status) = false

-- the stream is these messages, and then the rest
abbrev pub Cuts : List ℕ → List Request → List ℕ → Type 0
Cuts bytes [] rest = bytes ≡ rest
Cuts bytes (request ∷ requests) rest = (due : Bool) × (after : List ℕ) × (front bytes ≡ Whole due request after) × Cuts after requests rest

-- a whole message
abbrev pub IsWhole : Front → Type 0
IsWhole (Unfinished due) = ⊥
IsWhole (Whole due request rest) = ⊤
IsWhole (Wrong status) = ⊥

-- not whole empty lines alone
abbrev pub begun_at : List ℕ → Bool
begun_at bytes = nat_lt (blank_len bytes) (length bytes)
