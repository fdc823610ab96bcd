-- What a server does over the whole input of a connection.
use Rattle.std.specs.Prelude.{Bool, true, false, ℕ, zero, suc, ◌+◌, ◌-◌, List, [], ◌∷◌, ◌++◌, length, if◌then◌else◌}
use Rattle.http_wire.specs.Requests.{Unfinished, Whole, Wrong, front, begun_at}
use Rattle.http_wire.specs.Answers.{continue_text, status_body, answer_text}
use Rattle.connection_loop.specs.Machine.{Machine, Said, Lacks, turn}
use Rattle.connection_loop.specs.declared.responder.Response.{Response}

-- where a session stops
pub data Stop (Q : Type 0) : Type 0 where
  -- between messages, at the end of the input
  AtEnd : Stop Q
  -- inside a message, at the end of the input
  Inside : Stop Q
  -- after a bad message
  AtBad : Stop Q
  -- after as many requests as may come
  AtLimit : Stop Q
  -- after a request that closes
  AtClose : Stop Q
  -- at a message that has no moment
  NoMoment : Stop Q
  -- at an ask that has no answer
  Lacking : Q → Stop Q

-- what a session draws on: the moments of its messages, and the calls to the outside with their answers
pub record Supply (E : Type 0) : Type 0 where
  pub moments : List ℕ
  pub events : List E

abbrev pub no_supply : {E : Type 0} → Supply E
no_supply = record { moments = []; events = [] }

pub record Session (S Q E : Type 0) : Type 0 where
  pub output : List ℕ
  pub asks : List Q
  pub requests : ℕ
  pub admitted : ℕ
  -- the bytes of the requests that were answered
  pub answered : ℕ
  pub stop : Stop Q
  -- the server's state then
  pub state : S
  -- what it did not draw on
  pub left : Supply E

-- what came before the rest of a session
pub record Past (Q : Type 0) : Type 0 where
  pub output : List ℕ
  pub asks : List Q
  pub requests : ℕ
  pub admitted : ℕ
  pub answered : ℕ

abbrev pub after : {S Q E : Type 0} → Past Q → Session S Q E → Session S Q E
after past rest = record {
  output = past.output ++ rest.output;
  asks = past.asks ++ rest.asks;
  requests = past.requests + rest.requests;
  admitted = past.admitted + rest.admitted;
  answered = past.answered + rest.answered;
  stop = rest.stop;
  state = rest.state;
  left = rest.left;
}

-- nothing more than this text
abbrev pub writes : {S Q E : Type 0} → List ℕ → Stop Q → S → Supply E → Session S Q E
writes output stop state left =
    record { output = output; asks = []; requests = 0; admitted = 0; answered = 0; stop = stop; state = state; left = left }

-- what is written for a message before it is whole
abbrev pub due_text : Bool → List ℕ
due_text waits = if waits then continue_text else []

-- where an input ends that has no whole message: between messages, where whole empty lines alone stand there
abbrev pub end_of_input : {Q : Type 0} → List ℕ → Stop Q
end_of_input input = if begun_at input then Inside else AtEnd

-- the reply to a bad message: its status in words, and that the connection closes
abbrev pub refusal : ℕ → ℕ → List ℕ
refusal status moment =
    answer_text (record { status = status; moment = moment; lines = []; body = status_body status; to_head = false; close = true })

-- whether the connection closes after a request, where this many may still come
abbrev pub is_last : Bool → ℕ → Bool
is_last true room = true
is_last false zero = true
is_last false (suc room) = false

-- A request that closes ends a session in which more could come.
abbrev pub closed_or : {S Q E : Type 0} → Bool → ℕ → S → Supply E → Session S Q E → Session S Q E
closed_or false room state left rest = rest
closed_or true zero state left rest = rest
closed_or true (suc room) state left rest = writes [] AtClose state left

-- what is counted of a response
abbrev pub admits : Response → ℕ
admits response = if response.admitted then 1 else 0

-- one request of this many bytes
abbrev pub request_past : {Q : Type 0} → List ℕ → ℕ → Response → List Q → Past Q
request_past put bytes response asks =
    record { output = put ++ response.text; asks = asks; requests = 1; admitted = admits response; answered = bytes }

-- the session from a state over an input, where this many requests may still come
unfoldable pub session : {S Q E : Type 0} → Machine S Q E → ℕ → S → List ℕ → Supply E → Session S Q E
session m zero state input supply = writes [] AtLimit state supply
session m (suc room) state input supply = elim (front input) [
  | Unfinished waits ↦ writes (due_text waits) (end_of_input input) state supply
  | Wrong status ↦ elim (supply.moments) [
    | [] ↦ writes [] NoMoment state supply
    | moment ∷ moments ↦ writes (refusal status moment) AtBad state (record { moments = moments; events = supply.events })
  ]
  | Whole waits request rest ↦ elim (supply.moments) [
    | [] ↦ writes (due_text waits) NoMoment state supply
    | moment ∷ moments ↦ elim (turn m (supply.events) state
        (record { request = request; last = is_last (request.closes) room; moment = moment }) []) [
          | Lacks ask now asks ↦ record {
            output = due_text waits;
            asks = asks;
            requests = 0;
            admitted = 0;
            answered = 0;
            stop = Lacking ask;
            state = now;
            left = record { moments = moments; events = [] };
          }
          | Said response now asks events ↦
              after (request_past (due_text waits) (length input - length rest) response asks)
              (closed_or (request.closes) room now (record { moments = moments; events = events })
              (session m room now rest (record { moments = moments; events = events })))
        ]
  ]
]
