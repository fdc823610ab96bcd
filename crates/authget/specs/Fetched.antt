-- What is sent, written and told, by what the outside gives.
use Rattle.std.specs.Prelude.{◌≡◌, ℕ, zero, suc, Bool, true, false, ◌==◌, if◌then◌else◌, List, [], ◌∷◌, ◌++◌, Option, Some, None, codes, decimal}
use Rattle.client_core.specs.Clients.{Concludes}
use Rattle.client_core.specs.Givings.{given}
use Rattle.client_core.specs.declared.outcome.Outcome.{Outcome}
use Rattle.client_core.specs.declared.outcome.Outcome.TheVariants as outcome
use Rattle.client_core.specs.declared.request.OutRequest.{OutRequest}
use Rattle.client_core.specs.declared.request.Sent.{Sent}
use Rattle.client_core.specs.declared.state.State.{State}
use Rattle.http_wire.specs.declared.response.Response.{Response}
use Rattle.authget.specs.Requests.{reply_in, request_for, text_with}
use Rattle.authget.specs.declared.end.End.{End}
use Rattle.authget.specs.declared.end.End.TheVariants as end
use Rattle.authget.specs.declared.plan.Plan.{Plan}

-- what the outside gives for one request: its moment, sixteen random bytes, and all bytes of its connection
pub record Round : Type 0 where
  pub moment : ℕ
  pub words : List ℕ
  pub bytes : List ℕ

-- ---- one request

-- what the client gives for a request, and keeps behind it
abbrev pub given_for : Plan → List ℕ → State → Round → Sent × State
given_for plan url s x = given s (request_for plan url) x.moment x.words

-- the text of the request
abbrev pub text_for : Plan → List ℕ → State → Round → List ℕ
text_for plan url s x = text_with plan url (given_for plan url s x).0

-- how the URL ends by an outcome, or None where it is asked for again
abbrev pub end_by : Outcome → Response → Option End
end_by outcome.Mutual response = Some (end.Got true response)
end_by outcome.OneWay response = Some (end.Got false response)
end_by outcome.Retry response = None
end_by outcome.Refused response = Some end.Refused
end_by outcome.WrongProof response = Some end.WrongProof
end_by (outcome.NoOffer kinds) response = Some end.NoOffer
end_by (outcome.Malformed at) response = Some end.Malformed

-- What a reply to such a request means for the URL, and what the client keeps then.
abbrev pub Hears : State → OutRequest → Sent → Option Response → ℕ → Option End → State → Type 0
Hears s request what None moment how t = (how ≡ Some end.Malformed) × (t ≡ s)
Hears s request what (Some response) moment how t =
    (outcome : Outcome) × Concludes s request what response moment outcome t × (how ≡ end_by outcome response)

-- the same of the reply in a round
abbrev pub Means : Plan → List ℕ → State → Round → Option End → State → Type 0
Means plan url s x how t =
    Hears (given_for plan url s x).1 (request_for plan url) (given_for plan url s x).0 (reply_in x.bytes) x.moment how t

-- ---- the requests for one URL

-- the texts that were sent, how the URL ended, what the client keeps then, and the rounds that are left
pub record Run : Type 0 where
  pub texts : List (List ℕ)
  pub how : End
  pub state : State
  pub left : List Round

abbrev pub ends : End → State → List Round → Run
ends how s left = record { texts = []; how = how; state = s; left = left }

-- these texts were sent first
abbrev pub behind : List (List ℕ) → Run → Run
behind texts run = record run { texts = texts ++ run.texts }

-- the URL has ended, or is asked for again
abbrev pub GoesOn : (Run → Type 0) → Option End → State → List Round → Run → Type 0
GoesOn Again (Some how) t left run = run ≡ ends how t left
GoesOn Again None t left run = Again run

-- At most so many requests are made for a URL. It is refused where each of them is to be made again.
unfoldable pub Gets : ℕ → Plan → List ℕ → State → List Round → Run → Type 0
Gets zero plan url s xs run = run ≡ ends end.Refused s xs
Gets (suc more) plan url s [] run = ⊥
Gets (suc more) plan url s (x ∷ xs) run =
    (how : Option End) × (t : State) × (later : Run)
    × Means plan url s x how t
    × GoesOn (Gets more plan url t xs) how t xs later
    × (run ≡ behind (text_for plan url s x ∷ []) later)

-- ---- all URLs

-- the exit status, what is written, what is told, and the texts that are sent
pub record Report : Type 0 where
  pub status : ℕ
  pub output : List ℕ
  pub lines : List ℕ
  pub texts : List (List ℕ)

abbrev pub nothing : Report
nothing = record { status = 0; output = []; lines = []; texts = [] }

-- the status of two reports: the later one counts, where it is a failure
abbrev pub worse : ℕ → ℕ → ℕ
worse first later = if later == 0 then first else later

-- one report, and then another
abbrev pub then_report : Report → Report → Report
then_report first later = record {
  status = worse first.status later.status;
  output = first.output ++ later.output;
  lines = first.lines ++ later.lines;
  texts = first.texts ++ later.texts;
}

abbrev pub status_by : Bool → ℕ
status_by true = 0
status_by false = 1

-- whether the server has proved itself
abbrev pub proof_words : Bool → List ℕ
proof_words true = codes " mutual\n"
proof_words false = codes " one-way\n"

-- what is told of a response
abbrev pub line_for : List ℕ → Bool → Response → List ℕ
line_for url proved response = url ++ codes " " ++ decimal response.status ++ proof_words proved

-- a URL whose response is written
abbrev pub got : List ℕ → Bool → Response → List (List ℕ) → Report
got url proved response texts =
    record { status = status_by proved; output = response.body; lines = line_for url proved response; texts = texts }

-- a URL that ends all
abbrev pub gave_up : ℕ → List (List ℕ) → Report
gave_up status texts = record { status = status; output = []; lines = []; texts = texts }

-- the next URL is fetched where this one's response is written
abbrev pub Follows : (List Round → Report → Type 0) → List ℕ → Run → End → Report → Type 0
Follows Next url run (end.Got proved response) report =
    (later : Report) × Next run.left later × (report ≡ then_report (got url proved response run.texts) later)
Follows Next url run end.Refused report = (run.left ≡ []) × (report ≡ gave_up 2 run.texts)
Follows Next url run end.WrongProof report = (run.left ≡ []) × (report ≡ gave_up 3 run.texts)
Follows Next url run end.Malformed report = (run.left ≡ []) × (report ≡ gave_up 4 run.texts)
Follows Next url run end.NoOffer report = (run.left ≡ []) × (report ≡ gave_up 8 run.texts)

-- Each URL takes at most 8 requests. No round is left over.
unfoldable pub FetchesAll : Plan → List (List ℕ) → State → List Round → Report → Type 0
FetchesAll plan [] s xs report = (xs ≡ []) × (report ≡ nothing)
FetchesAll plan (url ∷ urls) s xs report =
    (run : Run) × Gets 8 plan url s xs run × Follows (FetchesAll plan urls run.state) url run run.how report

-- what follows from these rounds where the client is in this state
abbrev pub Fetched : Plan → State → List Round → Report → Type 0
Fetched plan s xs report = FetchesAll plan plan.urls s xs report
