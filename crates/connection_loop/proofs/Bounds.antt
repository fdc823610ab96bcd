-- How many asks of a kind a session has that its events answer.
use Rattle.std.proofs.Common.{◌≡◌, ◌∷◌, [], ◌++◌, ◌≤◌, ◌+◌, ◌*◌, ℕ, zero, suc, List, map, Bool, true, false, cond, refl, sym, ap, ◌∙◌, arith}
use Rattle.std.proofs.Math.Nat.{mul-suc}
use Rattle.std.proofs.lemmas.List.{append-nil}
use Rattle.http_wire.specs.declared.request.Request.{Request}
use Rattle.http_wire.specs.Requests.{Front, Unfinished, Whole, Wrong, front, begun_at}
use Rattle.connection_loop.specs.Machine.{Machine, Incoming, Move, Asks, Says, Turn, Said, Lacks, turn, with_ask, asks_in}
use Rattle.connection_loop.specs.Session.{Stop, AtEnd, Inside, AtBad, AtLimit, AtClose, NoMoment, Lacking, Supply, Session, closed_or, session}
use Rattle.connection_loop.proofs.Turns.{turn-more, turn-lacks, turn-says}
use Rattle.connection_loop.proofs.Sessions.{asks_at, session-said, session-lacks}
use Rattle.connection_loop.proofs.Walks.{turn_uses}

-- how much asks weigh together
abbrev pub total : {Q : Type 0} → (Q → ℕ) → List Q → ℕ
total w [] = 0
total w (ask ∷ asks) = w ask + total w asks

abbrev pub lack_in : {S Q E : Type 0} → (Q → ℕ) → Turn S Q E → ℕ
lack_in w (Said response now asks left) = 0
lack_in w (Lacks ask now asks) = w ask

-- how much the ask weighs that a session stopped at
abbrev pub stop_weight : {Q : Type 0} → (Q → ℕ) → Stop Q → ℕ
stop_weight w AtEnd = 0
stop_weight w Inside = 0
stop_weight w AtBad = 0
stop_weight w AtLimit = 0
stop_weight w AtClose = 0
stop_weight w NoMoment = 0
stop_weight w (Lacking ask) = w ask

pub total-append : {Q : Type 0} (w : Q → ℕ) (xs ys : List Q) → total w (xs ++ ys) ≡ total w xs + total w ys
total-append w [] ys = omega arith
total-append w (x ∷ xs) ys = let below = total-append w xs ys in omega (arith, below)

with_ask_weight : {S Q E : Type 0} (w : Q → ℕ) (ask : Q) (t : Turn S Q E) (n : ℕ) → total w (asks_in t) + lack_in w t ≤ n → total w (asks_in (with_ask ask t)) + lack_in w (with_ask ask t) ≤ w ask + n
with_ask_weight w ask (Said response now asks left) n l = omega (arith, l)
with_ask_weight w ask (Lacks lacked now asks) n l = omega (arith, l)

asks_with : {S Q E : Type 0} (ask : Q) (t : Turn S Q E) → asks_in (with_ask ask t) ≡ ask ∷ asks_in t
asks_with ask (Said response now asks left) = refl
asks_with ask (Lacks lacked now asks) = refl

-- Each ask is paid for by what may still be spent on a request, whatever event answers it.
pub record Spends {S Q E : Type 0} (m : Machine S Q E) (w : Q → ℕ) (p : List E → ℕ) : Type 0 where
  pub pays : (state : S) (incoming : Incoming) (done : List E) (ask : Q) (now : S) → m.asked state incoming done ≡ Asks ask now
      → (w ask ≤ p done) × ((event : E) → m.ask_of event ≡ ask → w ask + p (done ++ event ∷ []) ≤ p done)

-- ---- one request

turn_end : {S Q E : Type 0} (m : Machine S Q E) (w : Q → ℕ) (p : List E → ℕ) → Spends m w p → (state : S) (incoming : Incoming) (done : List E) (move : Move Q S) → m.asked state incoming done ≡ move
    → total w (asks_in (turn m [] state incoming done)) + lack_in w (turn m [] state incoming done) ≤ p done
turn_end m w p s state incoming done (Asks ask now) e = let pays = (s.pays state incoming done ask now e).0 in rw (turn-lacks m state now incoming done ask e) (omega (arith, pays))
turn_end m w p s state incoming done (Says response now) e = rw (turn-says m [] state now incoming done response e) (omega arith)

turn_on : {S Q E : Type 0} (m : Machine S Q E) (w : Q → ℕ) (p : List E → ℕ) → Spends m w p → (event : E) (more : List E) (state : S) (incoming : Incoming) (done : List E) (move : Move Q S) → m.asked state incoming done ≡ move
    → (tail : List Q) → asks_in (turn m (event ∷ more) state incoming done) ++ tail ≡ map m.ask_of (event ∷ more)
    → (asks_in (turn m more state incoming (done ++ event ∷ [])) ++ tail ≡ map m.ask_of more → total w (asks_in (turn m more state incoming (done ++ event ∷ []))) + lack_in w (turn m more state incoming (done ++ event ∷ [])) ≤ p (done ++ event ∷ []))
    → total w (asks_in (turn m (event ∷ more) state incoming done)) + lack_in w (turn m (event ∷ more) state incoming done) ≤ p done
turn_on {S} {Q} {E} m w p s event more state incoming done (Asks ask now) e tail same below =
    let next = turn m more state incoming (done ++ event ∷ []) in
    let goes = turn-more m state now incoming done ask event more e in
    let all : ask ∷ (asks_in next ++ tail) ≡ m.ask_of event ∷ map m.ask_of more = ap (λ (l : List Q). l ++ tail) (sym (ap (λ (t : Turn S Q E). asks_in t) goes ∙ asks_with ask next)) ∙ same in
    let here : m.ask_of event ≡ ask = cc in
    let rest : asks_in next ++ tail ≡ map m.ask_of more = cc in
    let pays = (s.pays state incoming done ask now e).1 event here in
    let weighs = with_ask_weight w ask next (p (done ++ event ∷ [])) (below rest) in
    rw goes (omega (arith, pays, weighs))
turn_on m w p s event more state incoming done (Says response now) e tail same below = rw (turn-says m (event ∷ more) state now incoming done response e) (omega arith)

-- the asks of a request weigh at most what may be spent on it, where these events answer them and those that follow
turn_weighs : {S Q E : Type 0} (m : Machine S Q E) (w : Q → ℕ) (p : List E → ℕ) → Spends m w p → (events : List E) (state : S) (incoming : Incoming) (done : List E) (tail : List Q)
    → asks_in (turn m events state incoming done) ++ tail ≡ map m.ask_of events → total w (asks_in (turn m events state incoming done)) + lack_in w (turn m events state incoming done) ≤ p done
turn_weighs m w p s [] state incoming done tail same = turn_end m w p s state incoming done (m.asked state incoming done) refl
turn_weighs m w p s (event ∷ more) state incoming done tail same =
    turn_on m w p s event more state incoming done (m.asked state incoming done) refl tail same (turn_weighs m w p s more state incoming (done ++ event ∷ []) tail)

-- ---- a session

-- the asks of a session, and the one that it stopped at
abbrev pub weight_of : {S Q E : Type 0} → (Q → ℕ) → Session S Q E → ℕ
weight_of w s = total w s.asks + stop_weight w s.stop

closed_weighs : {S Q E : Type 0} (w : Q → ℕ) (closes : Bool) (room n : ℕ) (now : S) (left : Supply E) (s : Session S Q E) (asks : List Q) → (s.asks ≡ asks → weight_of w s ≤ n)
    → (closed_or closes room now left s).asks ≡ asks → weight_of w (closed_or closes room now left s) ≤ n
closed_weighs w false room n now left s asks later same = later same
closed_weighs w true zero n now left s asks later same = later same
closed_weighs w true (suc room) n now left s asks later same = omega arith

session_turn : {S Q E : Type 0} (m : Machine S Q E) (w : Q → ℕ) (n room : ℕ) (state : S) (input : List ℕ) (moment : ℕ) (moments : List ℕ) (events : List E) (waits : Bool) (request : Request) (rest : List ℕ) (t : Turn S Q E)
    → front input ≡ Whole waits request rest → turn m events state (asks_at request room moment) [] ≡ t
    → ((tail : List Q) → asks_in t ++ tail ≡ map m.ask_of events → total w (asks_in t) + lack_in w t ≤ n)
    → ((now : S) (supply : Supply E) → (session m room now rest supply).asks ≡ map m.ask_of supply.events → weight_of w (session m room now rest supply) ≤ n * room)
    → (session m (suc room) state input (record { moments = moment ∷ moments; events = events })).asks ≡ map m.ask_of events
    → weight_of w (session m (suc room) state input (record { moments = moment ∷ moments; events = events })) ≤ n * suc room
session_turn {S} {Q} {E} m w n room state input moment moments events waits request rest (Lacks lacked now asks) e t few below same =
    let is = session-lacks m room state now input moment moments events waits request rest lacked asks e t in
    let l = few [] (append-nil asks ∙ sym (ap (λ (x : Session S Q E). x.asks) is) ∙ same) in
    let size = mul-suc n room in
    rw is (omega (arith, l, size))
session_turn {S} {Q} {E} m w n room state input moment moments events waits request rest (Said response now asks left) e t few below same =
    let is = session-said m room state now input moment moments events left waits request rest response asks e t in
    let supply : Supply E = record { moments = moments; events = left } in
    let next = session m room now rest supply in
    let later = closed_or request.closes room now supply next in
    let all : asks ++ later.asks ≡ map m.ask_of events = sym (ap (λ (x : Session S Q E). x.asks) is) ∙ same in
    let l = few later.asks all in
    let u = turn_uses m state (asks_at request room moment) [] events response now asks left later.asks t all in
    let behind = closed_weighs w request.closes room (n * room) now supply next (map m.ask_of left) (below now supply) u.rest in
    let both = total-append w asks later.asks in
    let size = mul-suc n room in
    rw is (omega (arith, l, size, behind, both))

end_if : {Q : Type 0} (w : Q → ℕ) (begun : Bool) → stop_weight w (cond begun Inside AtEnd) ≡ 0
end_if w true = refl
end_if w false = refl

session_front : {S Q E : Type 0} (m : Machine S Q E) (w : Q → ℕ) (p : List E → ℕ) → Spends m w p → (room : ℕ) (state : S) (input moments : List ℕ) (events : List E) (at : Front) → front input ≡ at
    → ((now : S) (rest : List ℕ) (supply : Supply E) → (session m room now rest supply).asks ≡ map m.ask_of supply.events → weight_of w (session m room now rest supply) ≤ p [] * room)
    → (session m (suc room) state input (record { moments = moments; events = events })).asks ≡ map m.ask_of events
    → weight_of w (session m (suc room) state input (record { moments = moments; events = events })) ≤ p [] * suc room
unfolding session
session_front m w p s room state input moments events (Unfinished waits) e below same = let none = end_if w (begun_at input) in rw (e, session) (omega (arith, none))
session_front m w p s room state input [] events (Wrong status) e below same = rw (e, session) (omega arith)
session_front m w p s room state input (moment ∷ moments) events (Wrong status) e below same = rw (e, session) (omega arith)
session_front m w p s room state input [] events (Whole waits request rest) e below same = rw (e, session) (omega arith)
session_front m w p s room state input (moment ∷ moments) events (Whole waits request rest) e below same =
    session_turn m w (p []) room state input moment moments events waits request rest (turn m events state (asks_at request room moment) []) e refl
    (turn_weighs m w p s events state (asks_at request room moment) []) (λ now supply. below now rest supply) same

-- The asks of a session that its events answer weigh at most what a request may spend, for each request that may still come.
pub session_weighs : {S Q E : Type 0} (m : Machine S Q E) (w : Q → ℕ) (p : List E → ℕ) → Spends m w p → (room : ℕ) (state : S) (input : List ℕ) (supply : Supply E)
    → (session m room state input supply).asks ≡ map m.ask_of supply.events → weight_of w (session m room state input supply) ≤ p [] * room
unfolding session
session_weighs m w p s zero state input supply same = omega arith
session_weighs m w p s (suc room) state input supply same = session_front m w p s room state input supply.moments supply.events (front input) refl (session_weighs m w p s room) same
