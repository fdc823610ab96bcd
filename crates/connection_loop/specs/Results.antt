-- What each answer says of the session.
use Rattle.std.specs.Prelude.{◌≡◌, ℕ, ◌≤◌, false, List, [], ◌∷◌, ◌++◌, take, drop, length, Option, Some, None, Result, Ok, Err, ⊤, ◌⊎◌}
use Rattle.std.specs.Io.KnownBytes.{IsAtEnd}
use Rattle.std.specs.List.{AllByRecursion}
use Rattle.auth_io.specs.Told.{Adds}
use Rattle.http_wire.specs.declared.request.Request.{Request}
use Rattle.connection_loop.specs.Machine.{Machine}
use Rattle.connection_loop.specs.Session.{Session, Stop, AtEnd, Inside, AtBad, AtLimit, AtClose, NoMoment, Lacking, Supply, no_supply, session}
use Rattle.connection_loop.specs.Account.{Account, LinkState, LinkPassed, asks_of, supply_of, add}
use Rattle.connection_loop.specs.declared.responder.Lack.{Lack}
use Rattle.connection_loop.specs.declared.responder.Lack.TheVariants.{Random, Worn as TableWorn}
use Rattle.connection_loop.specs.declared.served.End.{End}
use Rattle.connection_loop.specs.declared.served.End.TheVariants.{Ended, CloseAsked, BadMessage, Limit}
use Rattle.connection_loop.specs.declared.served.Served.{Served}
use Rattle.connection_loop.specs.declared.served.ServeError.{ServeError}
use Rattle.connection_loop.specs.declared.served.ServeError.TheVariants.{Truncated, ReadFault, WriteFault, RandomFault, Worn, OutOfMemory}
use Rattle.connection_loop.specs.declared.serving.TheConstants.{REQUEST_LIMIT}

-- ---- an account against a session

-- The whole output and the asks are the session's, which stops so, with the server in this state. It leaves nothing over.
pub record Completes {S Q E : Type 0} (s : Session S Q E) (m : Machine S Q E) (a : Account E) (stop : Stop Q) (now : S) : Type 0 where
  pub output : s.output ≡ a.output
  pub asks : s.asks ≡ asks_of m a
  pub stops : s.stop ≡ stop
  pub state : s.state ≡ now
  pub none_left : s.left ≡ no_supply

-- The asks are the session's, which leaves nothing over, and the output is the front of its output.
pub record Begins {S Q E : Type 0} (s : Session S Q E) (m : Machine S Q E) (a : Account E) : Type 0 where
  pub output : (rest : List ℕ) × (s.output ≡ a.output ++ rest)
  pub asks : s.asks ≡ asks_of m a
  pub none_left : s.left ≡ no_supply

-- the session over what was read
abbrev pub read_session : {S Q E : Type 0} → Machine S Q E → S → Account E → Session S Q E
read_session m before a = session m REQUEST_LIMIT before a.input (supply_of a)

-- all that the link had to give, where it told so, and else what was read
abbrev pub whole_input : {E : Type 0} → Option (List ℕ) → Account E → List ℕ
whole_input None a = a.input
whole_input (Some input) a = input

-- the session over all of it
abbrev pub whole_session : {S Q E : Type 0} → Machine S Q E → S → Option (List ℕ) → Account E → Session S Q E
whole_session m before left a = session m REQUEST_LIMIT before (whole_input left a) (supply_of a)

-- ---- replies before reads

-- the end of the input is where a session waits for more
abbrev pub IsOpen : {Q : Type 0} → Stop Q → Type 0
IsOpen AtEnd = ⊤
IsOpen Inside = ⊤
IsOpen AtBad = ⊥
IsOpen AtLimit = ⊥
IsOpen AtClose = ⊥
IsOpen NoMoment = ⊥
IsOpen (Lacking ask) = ⊥

-- the session over the bytes that had been read before a read
abbrev pub session_before : {S Q E : Type 0} → Machine S Q E → S → Account E → ℕ × ℕ → Supply E → Session S Q E
session_before m before a r more = session m REQUEST_LIMIT before (take r.0 a.input) (add (supply_of a) more)

-- before this read all was written that the bytes before it call for, and no message in them ended the session
pub record IsPrompt {S Q E : Type 0} (m : Machine S Q E) (before : S) (a : Account E) (r : ℕ × ℕ) : Type 0 where
  pub in_input : r.0 ≤ length a.input
  pub in_output : r.1 ≤ length a.output
  pub wrote : (more : Supply E) → (session_before m before a r more).output ≡ take r.1 a.output
  pub open_still : (more : Supply E) → IsOpen ((session_before m before a r more).stop)

-- each read was so
abbrev pub ReadsPromptly : {S Q E : Type 0} → Machine S Q E → S → Account E → Type 0
ReadsPromptly m before a = AllByRecursion (IsPrompt m before a) a.reads

-- ---- answers

abbrev pub stop_of : {Q : Type 0} → End → Stop Q
stop_of Ended = AtEnd
stop_of CloseAsked = AtClose
stop_of BadMessage = AtBad
stop_of Limit = AtLimit

-- what the link has left is the end of what stands in its input behind this many bytes
abbrev pub IsEndBehind : Option (List ℕ) → ℕ → Option (List ℕ) → Type 0
IsEndBehind None answered left = ⊤
IsEndBehind (Some input) answered None = ⊥
IsEndBehind (Some input) answered (Some left) = (read : List ℕ) × (drop answered input ≡ read ++ left)

-- A connection that was served to its end: the session over all that the link had to give is complete and ended so.
-- What is left of the input follows the requests that were answered, and nothing is left where the input ended.
pub record IsServed {S Q E : Type 0} (m : Machine S Q E) (before now : S) (left left' : Option (List ℕ)) (a : Account E)
    (served : Served) : Type 0 where
  pub completes : Completes (whole_session m before left a) m a (stop_of served.end) now
  pub requests : served.requests ≡ (whole_session m before left a).requests
  pub admitted : served.admitted ≡ (whole_session m before left a).admitted
  pub behind : IsEndBehind left (whole_session m before left a).answered left'
  pub at_end : served.end ≡ Ended → IsAtEnd left'

-- The input ended inside the message behind this many bytes.
pub record IsTruncated {S Q E : Type 0} (m : Machine S Q E) (before now : S) (left left' : Option (List ℕ)) (a : Account E)
    (at : ℕ) : Type 0 where
  pub completes : Completes (whole_session m before left a) m a Inside now
  pub place : at ≡ (whole_session m before left a).answered
  pub at_end : IsAtEnd left'

-- A read failed: the session over what was read is complete and waits for more.
abbrev pub IsCutOff : {S Q E : Type 0} → Machine S Q E → S → S → Account E → Type 0
IsCutOff {Q = Q} m before now a = (stop : Stop Q) × IsOpen stop × Completes (read_session m before a) m a stop now

-- The session over what was read stops at an ask that has no answer, for this lack.
abbrev pub Stalls : {S Q E : Type 0} → Machine S Q E → (Lack → Q → Type 0) → S → S → Account E → Lack → Type 0
Stalls {Q = Q} m lacked before now a lack = (ask : Q) × lacked lack ask × Completes (read_session m before a) m a (Lacking ask) now

-- what an answer says of the session
abbrev pub Tells : {S Q E : Type 0} → Machine S Q E → (Lack → Q → Type 0) → S → S → Option (List ℕ) → Option (List ℕ)
    → Account E → Result Served ServeError → Type 0
Tells m lacked before now left left' a (Ok served) = IsServed m before now left left' a served
Tells m lacked before now left left' a (Err (Truncated at)) = IsTruncated m before now left left' a at
Tells m lacked before now left left' a (Err ReadFault) = IsCutOff m before now a
Tells m lacked before now left left' a (Err WriteFault) = Begins (read_session m before a) m a × ((read_session m before a).state ≡ now)
Tells m lacked before now left left' a (Err RandomFault) = Stalls m lacked before now a Random
Tells m lacked before now left left' a (Err (Worn calls)) = Stalls m lacked before now a (TableWorn calls)
Tells m lacked before now left left' a (Err OutOfMemory) = Begins (read_session m before a) m a

-- What a call took from the outside and gave to it is one account. Before each read all was written that is due,
-- and the answer says what the session over the account says.
pub record ServesSession {S Q E : Type 0} (m : Machine S Q E) (lacked : Lack → Q → Type 0) (passed : List E → Type 0)
    (link link' : LinkState) (shown shown' : Option (List ℕ)) (before now : S) (result : Result Served ServeError) : Type 0 where
  pub account : Account E
  pub linked : LinkPassed link link' account.input account.output account.reads
  pub moments : Adds shown shown' account.moments
  pub events : passed account.events
  pub prompt : ReadsPromptly m before account
  pub tells : Tells m lacked before now link.left link'.left account result

-- ---- an input of whole requests

-- no request but the last one closes
abbrev pub OnlyLastCloses : List Request → Type 0
OnlyLastCloses [] = ⊤
OnlyLastCloses (request ∷ []) = ⊤
OnlyLastCloses (request ∷ next ∷ requests) = (request.closes ≡ false) × OnlyLastCloses (next ∷ requests)

-- the input does not end the session inside a message, at a bad one, or at the limit
abbrev pub EndsWell : Result Served ServeError → Type 0
EndsWell (Ok served) = (served.end ≡ Ended) ⊎ (served.end ≡ CloseAsked)
EndsWell (Err (Truncated at)) = ⊥
EndsWell (Err ReadFault) = ⊤
EndsWell (Err WriteFault) = ⊤
EndsWell (Err RandomFault) = ⊤
EndsWell (Err (Worn calls)) = ⊤
EndsWell (Err OutOfMemory) = ⊤

-- the same, but it ends at the limit
abbrev pub EndsAtLimit : Result Served ServeError → Type 0
EndsAtLimit (Ok served) = served.end ≡ Limit
EndsAtLimit (Err (Truncated at)) = ⊥
EndsAtLimit (Err ReadFault) = ⊤
EndsAtLimit (Err WriteFault) = ⊤
EndsAtLimit (Err RandomFault) = ⊤
EndsAtLimit (Err (Worn calls)) = ⊤
EndsAtLimit (Err OutOfMemory) = ⊤
