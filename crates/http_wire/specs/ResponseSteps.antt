-- What a feed of responses knows of its bytes, and what a step of it does.
use Rattle.std.specs.Prelude.{◌≡◌, ⊤, ℕ, ◌<◌, ◌≤◌, Bool, false, ◌&&◌, ◌==◌, Option, Some, None, if◌then◌else◌, List, [], ◌∷◌, length, take}
use Rattle.http_wire.specs.declared.response.Response.{Response}
use Rattle.http_wire.specs.declared.response_stage.Stage.{Stage}
use Rattle.http_wire.specs.declared.response_stage.Stage.TheVariants.{Head, Body, Stopped}
use Rattle.http_wire.specs.declared.response_stage.Part.{Part}
use Rattle.http_wire.specs.declared.response_stage.Part.TheVariants.{Known, ToEnd, SizeLine, Data, DataEnd, Trailers}
use Rattle.http_wire.specs.declared.response_step.Step.{Step}
use Rattle.http_wire.specs.declared.response_step.Step.TheVariants.{On, Wait, Done, Fault, NoMemory}
use Rattle.http_wire.specs.declared.search.End.{End}
use Rattle.http_wire.specs.declared.search.End.TheVariants.{At, Missing}
use Rattle.http_wire.specs.Search.{GoesOn}
use Rattle.http_wire.specs.ChunkLine.{GoesOnLine}
use Rattle.http_wire.specs.Responses.{ResponseFront, Incomplete, Open, Complete, Broken, trailers_len}
use Rattle.http_wire.specs.ResponseFeed.{HeldResponse, place_of, ahead, is_over, Follows, StartsAgain}
use Rattle.http_wire.specs.declared.front.TheConstants.{HEAD_LIMIT}

-- ---- what it knows of its bytes

abbrev pub IsPart : List ℕ → Part → Type 0
IsPart rest (Known left) = ⊤
IsPart rest ToEnd = ⊤
IsPart rest (SizeLine from part) = GoesOnLine (take HEAD_LIMIT rest) from part
IsPart rest (Data left line_at) = 0 < left
IsPart rest (DataEnd line_at) = ⊤
IsPart rest (Trailers from) = GoesOn (take HEAD_LIMIT rest) 0 from

abbrev pub IsStage : List ℕ → Stage → Type 0
IsStage rest (Head from) = GoesOn (take HEAD_LIMIT rest) 0 from
IsStage rest (Body response at part) = IsPart rest part
IsStage rest (Stopped at) = ⊤

-- ---- what a step does

-- what stands there while it waits
abbrev pub part_waits : Response → ℕ → Part → ResponseFront
part_waits response at (Known left) = Incomplete at
part_waits response at ToEnd = Open response
part_waits response at (SizeLine from part) = Incomplete at
part_waits response at (Data left line_at) = Incomplete at
part_waits response at (DataEnd line_at) = Incomplete at
part_waits response at (Trailers from) = Incomplete at

abbrev pub stage_waits : Stage → ℕ → ResponseFront
stage_waits (Head from) place = Incomplete place
stage_waits (Body response at part) place = part_waits response at part
stage_waits (Stopped at) place = Broken at

abbrev pub Waits : HeldResponse → Type 0
Waits held = (ahead held [] ≡ stage_waits held.stage (place_of held)) × (is_over held ≡ false)

-- a step of a feed that would give these
abbrev pub Steps : (List ℕ → ResponseFront) → HeldResponse → HeldResponse → Step → Type 0
Steps front old new On = (is_over old ≡ false) × (length new.rest < length old.rest) × Follows front old new
Steps front old new Wait = Waits new × Follows front old new
Steps front old new (Done response) = (rest : List ℕ) × (front [] ≡ Complete response rest) × StartsAgain old new rest
Steps front old new (Fault at) = ((more : List ℕ) → front more ≡ Broken at) × Follows front old new
Steps front old new NoMemory = (is_over old ≡ false) × Follows front old new

-- the last step of a run
abbrev pub Runs : (List ℕ → ResponseFront) → HeldResponse → HeldResponse → Step → Type 0
Runs front old new On = ⊥
Runs front old new Wait = Waits new × Follows front old new
Runs front old new (Done response) = (rest : List ℕ) × (front [] ≡ Complete response rest) × StartsAgain old new rest
Runs front old new (Fault at) = ((more : List ℕ) → front more ≡ Broken at) × Follows front old new
Runs front old new NoMemory = (is_over old ≡ false) × Follows front old new

-- it waits in a stage, or tells a fault once 16,384 bytes are there
abbrev pub WaitsOrStops : HeldResponse → HeldResponse → Stage → ℕ → Step → Type 0
WaitsOrStops old new stage at On = ⊥
WaitsOrStops old new stage at Wait = (length old.rest < HEAD_LIMIT) × (new ≡ record old { stage = stage })
WaitsOrStops old new stage at (Done response) = ⊥
WaitsOrStops old new stage at (Fault place) = (HEAD_LIMIT ≤ length old.rest) × (place ≡ at) × (new ≡ record old { stage = Stopped at })
WaitsOrStops old new stage at NoMemory = ⊥

-- what a search for the end of the trailers finds in the first bytes
abbrev pub FindsTrailers : List ℕ → End → Type 0
FindsTrailers first (At end) = trailers_len first ≡ Some end
FindsTrailers first (Missing to) = (trailers_len first ≡ None) × GoesOn first 0 to

-- whether CR LF stands at the front, where the bytes tell
abbrev pub has_crlf : List ℕ → Option Bool
has_crlf [] = None
has_crlf (b ∷ []) = if b == 13 then None else Some false
has_crlf (b ∷ c ∷ bytes) = Some (b == 13 && c == 10)
