-- A client, a server and its nonce table of one shard, with whatever is lost, repeated or reordered between them.
use Rattle.std.specs.Prelude.{ℕ, ◌+◌, if◌then◌else◌, false, Bool, Option, Some, None, List, [], ◌∷◌, ◌++◌, slice_get, length, codes, decimal, ⊤}
use Rattle.std.specs.List.{list_any}
use Rattle.std.specs.Option.{option_map_or}
use Rattle.auth_grammar.specs.Names.{params_of, same_name, value_of}
use Rattle.auth_grammar.specs.declared.items.Item.{Item}
use Rattle.auth_grammar.specs.declared.items.Role.TheVariants.{Origin}
use Rattle.auth_decide.specs.Credentials.{Reads}
use Rattle.auth_decide.specs.declared.credentials.RequestCredentials.{RequestCredentials}
use Rattle.auth_decide.specs.declared.verdict.Ask.{Ask}
use Rattle.auth_decide.specs.declared.verdict.Ask.TheVariants.{Verdict}
use Rattle.auth_decide.specs.declared.verdict.Verdict.TheVariants as verdict
use Rattle.client_core.specs.Clients.{forgotten, new_state}
use Rattle.client_core.specs.Conclusions.{challenged_state}
use Rattle.client_core.specs.Digests.{has_nonce}
use Rattle.client_core.specs.Givings.{given}
use Rattle.client_core.specs.declared.request.Sent.{Sent}
use Rattle.client_core.specs.declared.request.Sent.TheVariants as sent
use Rattle.client_core.specs.declared.state.State.{State}
use Rattle.nonce_shard.specs.declared.calls.Call.{Call}
use Rattle.drill.specs.declared.event.DrillEvent.{DrillEvent}
use Rattle.drill.specs.declared.event.DrillEvent.TheVariants.{Challenge, Make, Deliver, Pass}
use Rattle.drill.specs.declared.tally.Tally.{Tally}
use Rattle.drill.specs.Requests.{can_answer, can_send, credentials_line, out_request, plain_request, request_with, response_with}
use Rattle.drill.specs.Deciding.{AreWords, calls_in, decided, draws_in, question, steps_for}

-- ---- states

-- what there is beside the table: the client, the requests that it made, in order, the clock, and how deliveries ended
pub record Scene : Type 0 where
  pub client : State
  pub made : List Item
  pub clock : ℕ
  pub tally : Tally

-- the same with the calls that the table has had
pub record World : Type 0 where
  pub scene : Scene
  pub calls : List Call

abbrev pub beginning : Scene
beginning = record {
  client = new_state Origin (codes "u") (codes "p");
  made = [];
  clock = 0;
  tally = record { delivered = 0; admitted = 0; stale = 0; refused = 0 };
}

abbrev pub start : World
start = record { scene = beginning; calls = [] }

-- An event, with the words that may be drawn in it, and what the lines of the request say that comes to the server in it.
pub record Happening : Type 0 where
  pub event : DrillEvent
  pub words : List ℕ
  pub credentials : RequestCredentials

-- ---- a challenge

-- the client is told the server's answer to a request without credentials, where it can be written
abbrev pub told : State → ℕ → List Item → State
told s moment items =
    if can_answer items then challenged_state s out_request (response_with items) moment items else s

abbrev pub answered : State → ℕ → Ask → State
answered s moment (Verdict (verdict.Challenge items)) = told s moment items
answered s moment _ = s

-- The client forgets its nonce and asks for a challenge.
abbrev pub challenged : World → List ℕ → RequestCredentials → World
challenged w words credentials =
    let q = question w.scene.clock plain_request credentials in
    record {
      scene = record w.scene { client = answered (forgotten w.scene.client) w.scene.clock (decided q words w.calls) };
      calls = w.calls ++ calls_in (steps_for q words w.calls);
    }

-- ---- a request

-- credentials of Digest, where they can be sent
abbrev pub items_in : Sent → List Item
items_in (sent.Digest item) = if can_send item then item ∷ [] else []
items_in _ = []

abbrev pub made_with : World → Sent × State → World
made_with w p = record w { scene = record w.scene { client = p.1; made = w.scene.made ++ items_in p.0 } }

-- Where the client has a nonce, it makes the next request.
abbrev pub making : World → List ℕ → World
making w words = if has_nonce w.scene.client then made_with w (given w.scene.client out_request w.scene.clock words) else w

-- ---- a delivery

-- an item that says that the nonce was stale (RFC 7616 section 3.3)
abbrev pub says_stale : Item → Bool
says_stale item = option_map_or (λ text. same_name text (codes "true")) (value_of (codes "stale") (params_of item.rest)) false

abbrev pub tallied : Tally → Ask → Tally
tallied t (Verdict (verdict.Admit user proof)) = record t { delivered = t.delivered + 1; admitted = t.admitted + 1 }
tallied t (Verdict (verdict.Challenge items)) =
    if list_any says_stale items then record t { delivered = t.delivered + 1; stale = t.stale + 1 }
    else record t { delivered = t.delivered + 1; refused = t.refused + 1 }
tallied t _ = record t { delivered = t.delivered + 1; refused = t.refused + 1 }

-- The server decides on the request.
abbrev pub delivering : World → List ℕ → RequestCredentials → Option Item → World
delivering w words credentials None = w
delivering w words credentials (Some item) =
    let q = question w.scene.clock (request_with item) credentials in
    record {
      scene = record w.scene { tally = tallied w.scene.tally (decided q words w.calls) };
      calls = w.calls ++ calls_in (steps_for q words w.calls);
    }

-- ---- runs

abbrev pub step_of : World → DrillEvent → List ℕ → RequestCredentials → World
step_of w Challenge words credentials = challenged w words credentials
step_of w Make words credentials = making w words
step_of w (Deliver k) words credentials = delivering w words credentials (slice_get w.scene.made k)
step_of w (Pass seconds) words credentials = record w { scene = record w.scene { clock = w.scene.clock + seconds } }

abbrev pub step : World → Happening → World
step w h = step_of w h.event h.words h.credentials

abbrev pub run : List Happening → World → World
run [] w = w
run (h ∷ happenings) w = run happenings (step w h)

-- the words that are drawn in an event, for the server's nonce or for the client
abbrev pub delivery_draws : World → List ℕ → RequestCredentials → Option Item → List (List ℕ)
delivery_draws w words credentials None = []
delivery_draws w words credentials (Some item) = draws_in (steps_for (question w.scene.clock (request_with item) credentials) words w.calls)

abbrev pub draws_of : World → DrillEvent → List ℕ → RequestCredentials → List (List ℕ)
draws_of w Challenge words credentials = draws_in (steps_for (question w.scene.clock plain_request credentials) words w.calls)
draws_of w Make words credentials = if has_nonce w.scene.client then words ∷ [] else []
draws_of w (Deliver k) words credentials = delivery_draws w words credentials (slice_get w.scene.made k)
draws_of w (Pass seconds) words credentials = []

abbrev pub draws : World → Happening → List (List ℕ)
draws w h = draws_of w h.event h.words h.credentials

-- the lines of credentials of the request that comes to the server
abbrev pub delivered_lines : Option Item → List (List ℕ)
delivered_lines None = []
delivered_lines (Some item) = credentials_line item ∷ []

abbrev pub lines_of : World → DrillEvent → List (List ℕ)
lines_of w (Deliver k) = delivered_lines (slice_get w.scene.made k)
lines_of w _ = []

-- Sixteen bytes are at hand, and the credentials are what the lines say.
pub record IsSound (w : World) (h : Happening) : Type 0 where
  pub words : AreWords h.words
  pub reads : Reads (lines_of w h.event) h.credentials

abbrev pub AreSound : List Happening → World → Type 0
AreSound [] w = ⊤
AreSound (h ∷ happenings) w = IsSound w h × AreSound happenings (step w h)

-- ---- the line

abbrev pub line_of : Scene → ℕ → List ℕ
line_of s steps =
    codes "steps " ++ decimal steps ++ codes " made " ++ decimal (length s.made) ++ codes " delivered " ++ decimal s.tally.delivered
    ++ codes " admitted " ++ decimal s.tally.admitted ++ codes " stale " ++ decimal s.tally.stale
    ++ codes " refused " ++ decimal s.tally.refused ++ 10 ∷ []
