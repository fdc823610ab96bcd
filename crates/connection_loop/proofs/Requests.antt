-- An input of whole requests.
use Rattle.std.proofs.Common.{◌≡◌, ◌∷◌, [], ◌<◌, ℕ, zero, suc, List, length, Bool, true, false, Option, Some, Result, Ok, Err, ◌⊎◌, inl, inr, sym, refl, ap, ◌∙◌, subst, arith}
use Rattle.std.specs.Prelude.{⊤}
use Rattle.http_wire.specs.declared.request.Request.{Request}
use Rattle.http_wire.specs.HeadPlace.{head_place}
use Rattle.http_wire.specs.Requests.{Unfinished, Whole, front, Cuts}
use Rattle.connection_loop.specs.Machine.{Machine, Turn, Said, Lacks, turn}
use Rattle.connection_loop.specs.Session.{Stop, AtEnd, Inside, AtBad, AtLimit, AtClose, NoMoment, Lacking, Supply, Session, closed_or, session}
use Rattle.connection_loop.specs.Account.{Account, LinkState, supply_of}
use Rattle.connection_loop.specs.Results.{stop_of, whole_input, whole_session, ServesSession, OnlyLastCloses, EndsWell, EndsAtLimit}
use Rattle.connection_loop.specs.declared.responder.Lack.{Lack}
use Rattle.connection_loop.specs.declared.served.End.{End}
use Rattle.connection_loop.specs.declared.served.End.TheVariants.{Ended, CloseAsked, BadMessage, Limit}
use Rattle.connection_loop.specs.declared.served.Served.{Served}
use Rattle.connection_loop.specs.declared.served.ServeError.{ServeError}
use Rattle.connection_loop.specs.declared.served.ServeError.TheVariants.{Truncated, ReadFault, WriteFault, RandomFault, Worn, OutOfMemory}
use Rattle.connection_loop.proofs.Sessions.{asks_at, session-said, session-lacks, session-waits}

-- ---- where the session stops

front_empty : front [] ≡ Unfinished false
unfolding front head_place
front_empty = refl

-- at a whole request it stops for want of its moment, at an ask, or as it goes on behind the request
turn_stop : {S Q E : Type 0} (P : Stop Q → Type 0) (m : Machine S Q E) (room : ℕ) (state : S) (input : List ℕ) (moment : ℕ) (moments : List ℕ) (events : List E) (waits : Bool) (request : Request) (rest : List ℕ) (t : Turn S Q E) →
    front input ≡ Whole waits request rest → turn m events state (asks_at request room moment) [] ≡ t → ((ask : Q) → P (Lacking ask)) →
    ((now : S) (left : Supply E) → P ((closed_or request.closes room now left (session m room now rest left)).stop)) →
    P ((session m (suc room) state input (record { moments = moment ∷ moments; events = events })).stop)
turn_stop {S = S} {Q = Q} {E = E} P m room state input moment moments events waits request rest (Lacks ask now asks) e t lacks on =
    subst P (sym (ap (λ (s : Session S Q E). s.stop) (session-lacks m room state now input moment moments events waits request rest ask asks e t))) (lacks ask)
turn_stop {S = S} {Q = Q} {E = E} P m room state input moment moments events waits request rest (Said response now asks left) e t lacks on =
    subst P (sym (ap (λ (s : Session S Q E). s.stop) (session-said m room state now input moment moments events left waits request rest response asks e t))) (on now (record { moments = moments; events = left }))

moment_stop : {S Q E : Type 0} (P : Stop Q → Type 0) (m : Machine S Q E) (room : ℕ) (state : S) (input moments : List ℕ) (events : List E) (waits : Bool) (request : Request) (rest : List ℕ) → front input ≡ Whole waits request rest →
    P NoMoment → ((ask : Q) → P (Lacking ask)) → ((now : S) (left : Supply E) → P ((closed_or request.closes room now left (session m room now rest left)).stop)) →
    P ((session m (suc room) state input (record { moments = moments; events = events })).stop)
unfolding session
moment_stop P m room state input [] events waits request rest e none lacks on = rw (e, session) none
moment_stop P m room state input (moment ∷ moments) events waits request rest e none lacks on =
    turn_stop P m room state input moment moments events waits request rest (turn m events state (asks_at request room moment) []) e refl lacks on

-- the input ended between messages, or a request closed, or something was wanting
abbrev StopsWell : {Q : Type 0} → Stop Q → Type 0
StopsWell AtEnd = ⊤
StopsWell Inside = ⊥
StopsWell AtBad = ⊥
StopsWell AtLimit = ⊥
StopsWell AtClose = ⊤
StopsWell NoMoment = ⊤
StopsWell (Lacking ask) = ⊤

abbrev StopsFull : {Q : Type 0} → Stop Q → Type 0
StopsFull AtEnd = ⊥
StopsFull Inside = ⊥
StopsFull AtBad = ⊥
StopsFull AtLimit = ⊤
StopsFull AtClose = ⊥
StopsFull NoMoment = ⊤
StopsFull (Lacking ask) = ⊤

closed_well : {S Q E : Type 0} (closes : Bool) (room : ℕ) (now : S) (left : Supply E) (s : Session S Q E) → StopsWell s.stop → StopsWell ((closed_or closes room now left s).stop)
closed_well false room now left s well = well
closed_well true zero now left s well = well
closed_well true (suc room) now left s well = tt

session_well : {S Q E : Type 0} (m : Machine S Q E) (requests : List Request) (room : ℕ) (state : S) (input : List ℕ) (supply : Supply E) → Cuts input requests [] → length requests < room → StopsWell ((session m room state input supply).stop)
session_well m requests zero state input supply cuts few = absurd (omega arith)
session_well {S = S} {Q = Q} {E = E} m [] (suc room) state input supply cuts few =
    subst (λ (l : List ℕ). StopsWell ((session m (suc room) state l supply).stop)) (sym cuts)
    (subst StopsWell (sym (ap (λ (s : Session S Q E). s.stop) (session-waits m room state [] supply false front_empty))) tt)
session_well m (request ∷ requests) (suc room) state input supply cuts few =
    moment_stop StopsWell m room state input supply.moments supply.events cuts.0 request cuts.1 cuts.2 tt (λ ask. tt)
    (λ now left. closed_well request.closes room now left (session m room now cuts.1 left) (session_well m requests room now cuts.1 left cuts.3 (omega arith)))

closed_full : {S Q E : Type 0} (closes : Bool) (room : ℕ) (now : S) (left : Supply E) (s : Session S Q E) → (closes ≡ true → room ≡ 0) → StopsFull s.stop → StopsFull ((closed_or closes room now left s).stop)
closed_full false room now left s last full = full
closed_full true zero now left s last full = full
closed_full true (suc room) now left s last full = absurd (let no : suc room ≡ 0 = last refl in omega arith)

last_closes : (request : Request) (requests : List Request) (room : ℕ) → OnlyLastCloses (request ∷ requests) → length requests ≡ room → request.closes ≡ true → room ≡ 0
last_closes request [] room only all closes = sym all
last_closes request (next ∷ requests) room only all closes = absurd (let no : true ≡ false = sym closes ∙ only.0 in cc)

rest_closes : (request : Request) (requests : List Request) → OnlyLastCloses (request ∷ requests) → OnlyLastCloses requests
rest_closes request [] only = tt
rest_closes request (next ∷ requests) only = only.1

session_full : {S Q E : Type 0} (m : Machine S Q E) (requests : List Request) (room : ℕ) (state : S) (input : List ℕ) (supply : Supply E) → Cuts input requests [] → length requests ≡ room → OnlyLastCloses requests →
    StopsFull ((session m room state input supply).stop)
unfolding session
session_full m [] zero state input supply cuts all only = tt
session_full m [] (suc room) state input supply cuts all only = absurd (omega arith)
session_full m (request ∷ requests) zero state input supply cuts all only = absurd (omega arith)
session_full m (request ∷ requests) (suc room) state input supply cuts all only =
    moment_stop StopsFull m room state input supply.moments supply.events cuts.0 request cuts.1 cuts.2 tt (λ ask. tt)
    (λ now left. closed_full request.closes room now left (session m room now cuts.1 left) (last_closes request requests room only (omega arith))
    (session_full m requests room now cuts.1 left cuts.3 (omega arith) (rest_closes request requests only)))

-- ---- the answer

ends_well_at : (Q : Type 0) (end : End) → StopsWell {Q = Q} (stop_of end) → (end ≡ Ended) ⊎ (end ≡ CloseAsked)
ends_well_at Q Ended well = inl refl
ends_well_at Q CloseAsked well = inr refl
ends_well_at Q BadMessage well = absurd well
ends_well_at Q Limit well = absurd well

ends_full_at : (Q : Type 0) (end : End) → StopsFull {Q = Q} (stop_of end) → end ≡ Limit
ends_full_at Q Ended full = absurd full
ends_full_at Q CloseAsked full = absurd full
ends_full_at Q BadMessage full = absurd full
ends_full_at Q Limit full = refl

-- where the link tells its input, that is the input of the whole session
told_stop : {S Q E : Type 0} (m : Machine S Q E) (before : S) (left : Option (List ℕ)) (a : Account E) (input : List ℕ) (stop : Stop Q) → left ≡ Some input → (whole_session m before left a).stop ≡ stop → (session m 4096 before input (supply_of a)).stop ≡ stop
told_stop m before left a input stop told stops = ap (λ (l : List ℕ). (session m 4096 before l (supply_of a)).stop) (sym (ap (λ (o : Option (List ℕ)). whole_input o a) told)) ∙ stops

-- fewer requests than may come
pub ends_well : {S Q E : Type 0} (m : Machine S Q E) (lacked : Lack → Q → Type 0) (passed : List E → Type 0) (link link' : LinkState) (shown shown' : Option (List ℕ)) (before now : S) (r : Result Served ServeError) →
    ServesSession m lacked passed link link' shown shown' before now r → (input : List ℕ) (requests : List Request) → link.left ≡ Some input → Cuts input requests [] → length requests < 4096 → EndsWell r
ends_well {Q = Q} m lacked passed link link' shown shown' before now (Ok served) s input requests told cuts few =
    ends_well_at Q served.end (subst StopsWell (told_stop m before link.left s.account input (stop_of served.end) told s.tells.completes.stops) (session_well m requests 4096 before input (supply_of s.account) cuts few))
ends_well m lacked passed link link' shown shown' before now (Err (Truncated at)) s input requests told cuts few =
    subst StopsWell (told_stop m before link.left s.account input Inside told s.tells.completes.stops) (session_well m requests 4096 before input (supply_of s.account) cuts few)
ends_well m lacked passed link link' shown shown' before now (Err ReadFault) s input requests told cuts few = tt
ends_well m lacked passed link link' shown shown' before now (Err WriteFault) s input requests told cuts few = tt
ends_well m lacked passed link link' shown shown' before now (Err RandomFault) s input requests told cuts few = tt
ends_well m lacked passed link link' shown shown' before now (Err (Worn calls)) s input requests told cuts few = tt
ends_well m lacked passed link link' shown shown' before now (Err OutOfMemory) s input requests told cuts few = tt

-- as many requests as may come
pub ends_at_limit : {S Q E : Type 0} (m : Machine S Q E) (lacked : Lack → Q → Type 0) (passed : List E → Type 0) (link link' : LinkState) (shown shown' : Option (List ℕ)) (before now : S) (r : Result Served ServeError) →
    ServesSession m lacked passed link link' shown shown' before now r → (input : List ℕ) (requests : List Request) → link.left ≡ Some input → Cuts input requests [] → length requests ≡ 4096 → OnlyLastCloses requests → EndsAtLimit r
ends_at_limit {Q = Q} m lacked passed link link' shown shown' before now (Ok served) s input requests told cuts all only =
    ends_full_at Q served.end (subst StopsFull (told_stop m before link.left s.account input (stop_of served.end) told s.tells.completes.stops) (session_full m requests 4096 before input (supply_of s.account) cuts all only))
ends_at_limit m lacked passed link link' shown shown' before now (Err (Truncated at)) s input requests told cuts all only =
    subst StopsFull (told_stop m before link.left s.account input Inside told s.tells.completes.stops) (session_full m requests 4096 before input (supply_of s.account) cuts all only)
ends_at_limit m lacked passed link link' shown shown' before now (Err ReadFault) s input requests told cuts all only = tt
ends_at_limit m lacked passed link link' shown shown' before now (Err WriteFault) s input requests told cuts all only = tt
ends_at_limit m lacked passed link link' shown shown' before now (Err RandomFault) s input requests told cuts all only = tt
ends_at_limit m lacked passed link link' shown shown' before now (Err (Worn calls)) s input requests told cuts all only = tt
ends_at_limit m lacked passed link link' shown shown' before now (Err OutOfMemory) s input requests told cuts all only = tt
