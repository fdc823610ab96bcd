-- A request on a connection of its own.
use Rattle.std.specs.Prelude.{◌≡◌, ◌⊎◌, ℕ, Bool, true, false, List, [], ◌∷◌, ◌++◌, take, Option, Result, Ok, Err}
use Rattle.std.specs.Io.KnownBytes.{Appends}
use Rattle.http_wire.specs.declared.response.Response.{Response}
use Rattle.client_core.specs.declared.state.State.{State}
use Rattle.authget.specs.Fetched.{Gets, Means, Round, behind, ends, text_for}
use Rattle.authget.specs.Outside.{CutBy, DialPassed, DialState, Outside, Passed, Stage, StopsAt, account_at, account_of, join}
use Rattle.authget.specs.Replies.{whole_of}
use Rattle.authget.specs.Requests.{peer_of, reply_in}
use Rattle.authget.specs.declared.end.End.{End}
use Rattle.authget.specs.declared.end.End.TheVariants.{Malformed}
use Rattle.authget.specs.declared.plan.Plan.{Plan}
use Rattle.authget.specs.declared.stop.Stop.{Stop}
use Rattle.authget.specs.declared.stop.Stop.TheVariants.{Fault, OutOfMemory}

-- The text was written whole, and the reply is that of all bytes of the connection; or it was written up to a byte.
abbrev pub Talks : Option (List ℕ) → Option (List ℕ) → Option (List ℕ) → List ℕ → Result (Option Response) Stop → Type 0
Talks left written written' text (Ok reply) =
    (got : List ℕ) × (reply ≡ reply_in (whole_of left got)) × Appends written written' text
Talks left written written' text (Err stop) = (n : ℕ) × Appends written written' (take n text)

-- no dial is told, for want of memory
abbrev pub IsUndialled : DialState → DialState → Stop → Type 0
IsUndialled u v stop = (stop ≡ OutOfMemory) × DialPassed u v [] [] []

-- the dial failed
abbrev pub IsUnconnected : DialState → DialState → List ℕ → Stop → Type 0
IsUnconnected u v peer stop = (stop ≡ Fault) × DialPassed u v ((peer, true) ∷ []) [] []

-- the connection was cut
abbrev pub IsCut : DialState → DialState → List ℕ → List ℕ → Stop → Type 0
IsCut u v peer text stop = (bytes : List ℕ) × (n : ℕ) × (failed : Bool) × CutBy failed stop
    × DialPassed u v ((peer, false) ∷ []) (bytes ∷ []) ((take n text, failed) ∷ [])

-- what an answer says of one dial
abbrev pub Exchanges : DialState → DialState → List ℕ → List ℕ → Result (Option Response) Stop → Type 0
Exchanges u v peer text (Ok reply) =
    (bytes : List ℕ) × (reply ≡ reply_in bytes) × DialPassed u v ((peer, false) ∷ []) (bytes ∷ []) ((text, false) ∷ [])
Exchanges u v peer text (Err stop) = IsUndialled u v stop ⊎ (IsUnconnected u v peer stop ⊎ IsCut u v peer text stop)

-- ---- one request

-- a request that came so far, and no further
pub record Begins (plan : Plan) (url : List ℕ) (s : State) (u v : Outside) (stop : Stop) : Type 0 where
  pub round : Round
  pub no_bytes : round.bytes ≡ []
  pub stage : Stage
  pub stops : StopsAt stage stop
  pub passed : Passed u v (account_at stage (peer_of plan) (text_for plan url s round) round)

-- a request and its reply
pub record Makes (plan : Plan) (url : List ℕ) (s t : State) (u v : Outside) (how : Option End) : Type 0 where
  pub round : Round
  pub means : Means plan url s round how t
  pub passed : Passed u v (account_of (peer_of plan) (round ∷ []) (text_for plan url s round ∷ []))

-- what an answer says of one request
abbrev pub Asks : Plan → List ℕ → State → State → Outside → Outside → Result (Option End) Stop → Type 0
Asks plan url s t u v (Ok how) = Makes plan url s t u v how
Asks plan url s t u v (Err stop) = Begins plan url s u v stop

-- ---- the requests for one URL

-- the requests for a URL, whatever comes behind them
pub record GetsAll (plan : Plan) (url : List ℕ) (s t : State) (u v : Outside) (how : End) : Type 0 where
  pub rounds : List Round
  pub texts : List (List ℕ)
  pub gets : (left : List Round) → Gets 8 plan url s (rounds ++ left) (behind texts (ends how t left))
  pub passed : Passed u v (account_of (peer_of plan) rounds texts)

-- requests for a URL, and one that was begun
pub record GetsSome (plan : Plan) (url : List ℕ) (s : State) (u v : Outside) (stop : Stop) : Type 0 where
  pub rounds : List Round
  pub texts : List (List ℕ)
  pub round : Round
  pub no_bytes : round.bytes ≡ []
  pub text : List ℕ
  pub now : State
  pub gets : Gets 8 plan url s (rounds ++ round ∷ []) (behind (texts ++ text ∷ []) (ends Malformed now []))
  pub stage : Stage
  pub stops : StopsAt stage stop
  pub passed : Passed u v (join (account_of (peer_of plan) rounds texts) (account_at stage (peer_of plan) text round))

-- what an answer says of one URL
abbrev pub GetsSo : Plan → List ℕ → State → State → Outside → Outside → Result End Stop → Type 0
GetsSo plan url s t u v (Ok how) = GetsAll plan url s t u v how
GetsSo plan url s t u v (Err stop) = GetsSome plan url s u v stop
