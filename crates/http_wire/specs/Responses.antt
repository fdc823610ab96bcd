-- What stands at the front of a stream of responses (RFC 9112 sections 4, 6 and 7).
use Rattle.std.specs.Prelude.{ℕ, zero, suc, ◌+◌, Bool, ◌&&◌, List, [], ◌∷◌, ◌++◌, length, take, drop, if◌then◌else◌, ◌==◌, nat_lt, Option, Some, None}
use Rattle.http_wire.specs.declared.response.Response.{Response}
use Rattle.http_wire.specs.declared.response_checks.Framing.{Framing}
use Rattle.http_wire.specs.declared.response_checks.Framing.TheVariants.{Sized, TooLong, Chunked, UntilEnd}
use Rattle.http_wire.specs.declared.response_checks.JudgedResponse.{JudgedResponse}
use Rattle.http_wire.specs.declared.response_checks.JudgedResponse.TheVariants.{Sound, Informational, Faulty}
use Rattle.http_wire.specs.HeadPlace.{empty_line, head_len}
use Rattle.http_wire.specs.ChunkLine.{LineFront, Line, Unsure, NoLine, chunk_line, size_of}
use Rattle.http_wire.specs.ResponseChecks.{judge_response}
use Rattle.http_wire.specs.declared.front.TheConstants.{HEAD_LIMIT}
use Rattle.http_wire.specs.declared.response_checks.TheConstants.{RESPONSE_LIMIT}

-- what stands at the front
pub data ResponseFront : Type 0 where
  -- no whole response; the place that is told where the input ends here
  Incomplete : ℕ → ResponseFront
  -- a response, where the input ends here
  Open : Response → ResponseFront
  -- a response, and what follows it
  Complete : Response → List ℕ → ResponseFront
  -- a fault, and its place
  Broken : ℕ → ResponseFront

-- the response with more of its body
abbrev pub add : Response → List ℕ → Response
add response text = record response { body = response.body ++ text }

-- ---- bodies, which begin at the place `at`

-- a body of which that many bytes are missing
abbrev pub sized_body : Response → ℕ → ℕ → List ℕ → ResponseFront
sized_body response at left bytes =
    if nat_lt (length bytes) left then Incomplete at else Complete (add response (take left bytes)) (drop left bytes)

-- a body up to the end of the input
abbrev pub open_body : Response → ℕ → List ℕ → ResponseFront
open_body response at bytes = if nat_lt RESPONSE_LIMIT (length response.body + length bytes) then Broken at else Open (add response bytes)

-- the trailers are all up to the first empty line, and it
abbrev pub trailers_len : List ℕ → Option ℕ
trailers_len bytes = if nat_lt 0 (empty_line bytes) then Some (empty_line bytes) else head_len bytes

abbrev pub after_trailers : Response → ℕ → Option ℕ → List ℕ → ResponseFront
after_trailers response at None bytes = if nat_lt (length bytes) HEAD_LIMIT then Incomplete at else Broken at
after_trailers response at (Some n) bytes = Complete response (drop n bytes)

abbrev pub trailers : Response → ℕ → List ℕ → ResponseFront
trailers response at bytes = after_trailers response at (trailers_len (take HEAD_LIMIT bytes)) bytes

-- the CR LF behind a chunk, and the next chunk line; the bytes stand at `place`, and the chunk's line at `line_at`
abbrev pub chunk_end : (ℕ → List ℕ → ResponseFront) → ℕ → ℕ → ℕ → List ℕ → ResponseFront
chunk_end next at line_at place [] = Incomplete at
chunk_end next at line_at place (b ∷ []) = if b == 13 then Incomplete at else Broken line_at
chunk_end next at line_at place (b ∷ c ∷ bytes) = if b == 13 && c == 10 then next (place + 2) bytes else Broken line_at

-- a chunk of which that many bytes are missing
abbrev pub chunk_data : (Response → ℕ → List ℕ → ResponseFront) → Response → ℕ → ℕ → ℕ → ℕ → List ℕ → ResponseFront
chunk_data next response at line_at place left bytes =
    if nat_lt (length bytes) left then Incomplete at
    else chunk_end (next (add response (take left bytes))) at line_at (place + left) (drop left bytes)

-- behind a chunk line of that size
abbrev pub behind_line : (Response → ℕ → List ℕ → ResponseFront) → Response → ℕ → ℕ → ℕ → ℕ → List ℕ → ResponseFront
behind_line next response at line_at place size bytes =
    if size == 0 then trailers response at bytes
    else if nat_lt RESPONSE_LIMIT (length response.body + size) then Broken at
    else chunk_data next response at line_at place size bytes

abbrev pub at_line : (Response → ℕ → List ℕ → ResponseFront) → Response → ℕ → ℕ → LineFront → List ℕ → ResponseFront
at_line next response at place (Line n) bytes = behind_line next response at place (place + n) (size_of bytes) (drop n bytes)
at_line next response at place Unsure bytes = if nat_lt (length bytes) HEAD_LIMIT then Incomplete at else Broken place
at_line next response at place NoLine bytes = Broken place

-- The first 16,384 bytes have the end of a chunk line. Each chunk takes bytes, so that there are fewer than bytes.
abbrev pub chunks_in : ℕ → Response → ℕ → ℕ → List ℕ → ResponseFront
chunks_in zero response at place bytes = Incomplete at
chunks_in (suc rounds) response at place bytes =
    at_line (λ r p b. chunks_in rounds r at p b) response at place (chunk_line (take HEAD_LIMIT bytes)) bytes

unfoldable pub chunks : Response → ℕ → ℕ → List ℕ → ResponseFront
chunks response at place bytes = chunks_in (length bytes) response at place bytes

abbrev pub body_front : Response → Framing → ℕ → List ℕ → ResponseFront
body_front response (Sized size) at bytes = sized_body response at size bytes
body_front response TooLong at bytes = Broken at
body_front response Chunked at bytes = chunks response at at bytes
body_front response UntilEnd at bytes = open_body response at bytes

-- ---- responses, which begin at the place `at`

-- behind a head; an informational response is passed over
abbrev pub behind_head : (ℕ → List ℕ → ResponseFront) → JudgedResponse → ℕ → ℕ → List ℕ → ResponseFront
behind_head next Faulty at place bytes = Broken at
behind_head next Informational at place bytes = next place bytes
behind_head next (Sound head) at place bytes = body_front head.response head.framing place bytes

abbrev pub at_head : (ℕ → List ℕ → ResponseFront) → Bool → ℕ → Option ℕ → List ℕ → ResponseFront
at_head next to_head at None bytes = if nat_lt (length bytes) HEAD_LIMIT then Incomplete at else Broken at
at_head next to_head at (Some n) bytes = behind_head next (judge_response to_head (take n bytes)) at (at + n) (drop n bytes)

-- The first 16,384 bytes have the head's end. Each head takes bytes, so that there are fewer than bytes.
abbrev pub responses_in : ℕ → Bool → ℕ → List ℕ → ResponseFront
responses_in zero to_head at bytes = Incomplete at
responses_in (suc rounds) to_head at bytes =
    at_head (λ p b. responses_in rounds to_head p b) to_head at (head_len (take HEAD_LIMIT bytes)) bytes

-- the answer to a request, whose method may be HEAD
unfoldable pub response_front : Bool → ℕ → List ℕ → ResponseFront
response_front to_head at bytes = responses_in (length bytes) to_head at bytes
