-- What a feed of responses holds, and what it gives.
use Rattle.std.specs.Prelude.{◌≡◌, ⊤, ℕ, ◌-◌, Bool, true, false, List, [], ◌++◌, length}
use Rattle.http_wire.specs.declared.response.Response.{Response}
use Rattle.http_wire.specs.declared.response.NextResponse.{NextResponse}
use Rattle.http_wire.specs.declared.response.NextResponse.TheVariants.{Message, NeedMore, Bad, OutOfMemory}
use Rattle.http_wire.specs.declared.response_stage.Stage.{Stage}
use Rattle.http_wire.specs.declared.response_stage.Stage.TheVariants.{Head, Body, Stopped}
use Rattle.http_wire.specs.declared.response_stage.Part.{Part}
use Rattle.http_wire.specs.declared.response_stage.Part.TheVariants.{Known, ToEnd, SizeLine, Data, DataEnd, Trailers}
use Rattle.http_wire.specs.Responses.{ResponseFront, Incomplete, Open, Complete, Broken, sized_body, open_body, chunks, chunk_data, chunk_end, trailers, response_front}

-- what a feed holds: whether the request's method was HEAD, how many bytes came, which of them weren't taken, and what comes next
pub record HeldResponse : Type 0 where
  pub to_head : Bool
  pub count : ℕ
  pub rest : List ℕ
  pub stage : Stage

-- what stands at the front where a part of a body comes next
abbrev pub part_front : Response → ℕ → Part → ℕ → List ℕ → ResponseFront
part_front response at (Known left) place bytes = sized_body response at left bytes
part_front response at ToEnd place bytes = open_body response at bytes
part_front response at (SizeLine from part) place bytes = chunks response at place bytes
part_front response at (Data left line_at) place bytes = chunk_data (λ r p b. chunks r at p b) response at line_at place left bytes
part_front response at (DataEnd line_at) place bytes = chunk_end (λ p b. chunks response at p b) at line_at place bytes
part_front response at (Trailers from) place bytes = trailers response at bytes

abbrev pub stage_front : Bool → Stage → ℕ → List ℕ → ResponseFront
stage_front to_head (Head from) place bytes = response_front to_head place bytes
stage_front to_head (Body response at part) place bytes = part_front response at part place bytes
stage_front to_head (Stopped at) place bytes = Broken at

-- the place of the bytes that weren't taken
abbrev pub place_of : HeldResponse → ℕ
place_of held = held.count - length held.rest

-- what stands at the front when more bytes come
abbrev pub ahead : HeldResponse → List ℕ → ResponseFront
ahead held more = stage_front held.to_head held.stage (place_of held) (held.rest ++ more)

-- the feed stands for these bytes, which begin at that place
abbrev pub Holds : HeldResponse → ℕ → List ℕ → Type 0
Holds held at bytes = (more : List ℕ) → ahead held more ≡ response_front held.to_head at (bytes ++ more)

abbrev pub is_over_stage : Stage → Bool
is_over_stage (Head from) = false
is_over_stage (Body response at part) = false
is_over_stage (Stopped at) = true

-- whether a fault was told
abbrev pub is_over : HeldResponse → Bool
is_over held = is_over_stage held.stage

-- ---- what it gives

-- from now on it gives these, and nothing came
pub record Follows (front : List ℕ → ResponseFront) (old new : HeldResponse) : Type 0 where
  pub to_head : new.to_head ≡ old.to_head
  pub count : new.count ≡ old.count
  pub ahead : (more : List ℕ) → ahead new more ≡ front more

-- nothing came, and it gives what it gave
abbrev pub Stays : HeldResponse → HeldResponse → Type 0
Stays old new = Follows (λ more. ahead old more) old new

-- it goes on with the bytes that follow a response
abbrev pub StartsAgain : HeldResponse → HeldResponse → List ℕ → Type 0
StartsAgain old new rest = Follows (λ more. response_front old.to_head (old.count - length rest) (rest ++ more)) old new

abbrev pub IsUnfinished : ResponseFront → Type 0
IsUnfinished (Incomplete at) = ⊤
IsUnfinished (Open response) = ⊤
IsUnfinished (Complete response rest) = ⊥
IsUnfinished (Broken at) = ⊥

-- What next gives is what stands at the front.
abbrev pub GivesResponse : HeldResponse → HeldResponse → NextResponse → Type 0
GivesResponse old new (Message response) = (rest : List ℕ) × (ahead old [] ≡ Complete response rest) × StartsAgain old new rest
GivesResponse old new NeedMore = IsUnfinished (ahead old []) × Stays old new
GivesResponse old new (Bad at) = (ahead old [] ≡ Broken at) × Follows (λ more. Broken at) old new
GivesResponse old new OutOfMemory = (is_over old ≡ false) × Stays old new

-- what the end of the input makes of it
abbrev pub at_end : ResponseFront → ResponseFront
at_end (Incomplete at) = Broken at
at_end (Open response) = Complete response []
at_end (Complete response rest) = Complete response rest
at_end (Broken at) = Broken at

-- What finish gives is what stands at the front where nothing follows.
abbrev pub EndsResponse : HeldResponse → HeldResponse → NextResponse → Type 0
EndsResponse old new (Message response) = (rest : List ℕ) × (at_end (ahead old []) ≡ Complete response rest) × StartsAgain old new rest
EndsResponse old new NeedMore = ⊥
EndsResponse old new (Bad at) = (at_end (ahead old []) ≡ Broken at) × Follows (λ more. Broken at) old new
EndsResponse old new OutOfMemory = (is_over old ≡ false) × Stays old new
