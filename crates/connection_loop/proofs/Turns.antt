-- How the asks for one request go on.
use Rattle.std.proofs.Common.{◌≡◌, ◌∷◌, [], ◌++◌, ◌+◌, suc, List, length, map, sym, refl, ap, ◌∙◌, append_assoc, arith}
use Rattle.std.proofs.lemmas.List.{append-nil, map-append, length-map}
use Rattle.connection_loop.specs.Machine.{Machine, Move, Asks, Says, Incoming, Turn, Said, Lacks, with_ask, turn_asks, turn, asks_in, left_in}
use Rattle.connection_loop.specs.declared.responder.Response.{Response}

pub turn-more : {S Q E : Type 0} (m : Machine S Q E) (state now : S) (incoming : Incoming) (done : List E) (ask : Q) (event : E) (more : List E) →
    m.asked state incoming done ≡ Asks ask now → turn m (event ∷ more) state incoming done ≡ with_ask ask (turn m more state incoming (done ++ event ∷ []))
unfolding turn
turn-more m state now incoming done ask event more e = rw (e, turn) refl

pub turn-lacks : {S Q E : Type 0} (m : Machine S Q E) (state now : S) (incoming : Incoming) (done : List E) (ask : Q) →
    m.asked state incoming done ≡ Asks ask now → turn m [] state incoming done ≡ Lacks ask now []
unfolding turn
turn-lacks m state now incoming done ask e = rw (e, turn) refl

pub turn-says : {S Q E : Type 0} (m : Machine S Q E) (more : List E) (state now : S) (incoming : Incoming) (done : List E) (response : Response) →
    m.asked state incoming done ≡ Says response now → turn m more state incoming done ≡ Said response now [] more
unfolding turn
turn-says m [] state now incoming done response e = rw (e, turn) refl
turn-says m (event ∷ more) state now incoming done response e = rw (e, turn) refl

no_asks_of : {S Q E : Type 0} (m : Machine S Q E) (state : S) (incoming : Incoming) (done : List E) (move : Move Q S) → m.asked state incoming done ≡ move → asks_in (turn m [] state incoming done) ≡ []
unfolding turn
no_asks_of m state incoming done (Asks ask now) e = rw (e, turn) refl
no_asks_of m state incoming done (Says response now) e = rw (e, turn) refl

no_asks : {S Q E : Type 0} (m : Machine S Q E) (state : S) (incoming : Incoming) (done : List E) → asks_in (turn m [] state incoming done) ≡ []
no_asks m state incoming done = no_asks_of m state incoming done (m.asked state incoming done) refl

turn_asks-more : {S Q E : Type 0} (asks : List Q) (ask : Q) (t : Turn S Q E) → turn_asks asks (with_ask ask t) ≡ turn_asks (asks ++ ask ∷ []) t
turn_asks-more [] ask t = refl
turn_asks-more (a ∷ asks) ask t = ap (with_ask a) (turn_asks-more asks ask t)

turn_asks-said : {S Q E : Type 0} (asks : List Q) (response : Response) (now : S) (more : List E) → turn_asks asks (Said response now [] more) ≡ Said response now asks more
turn_asks-said [] response now more = refl
turn_asks-said (a ∷ asks) response now more = ap (with_ask a) (turn_asks-said asks response now more)

turn_asks-lacks : {S Q E : Type 0} (asks : List Q) (ask : Q) (now : S) → turn_asks {E = E} asks (Lacks ask now []) ≡ Lacks ask now asks
turn_asks-lacks [] ask now = refl
turn_asks-lacks (a ∷ asks) ask now = ap (with_ask a) (turn_asks-lacks asks ask now)

asks_in-with_ask : {S Q E : Type 0} (ask : Q) (t : Turn S Q E) → asks_in (with_ask ask t) ≡ ask ∷ asks_in t
asks_in-with_ask ask (Said response now asks more) = refl
asks_in-with_ask ask (Lacks lacked now asks) = refl

left_in-with_ask : {S Q E : Type 0} (ask : Q) (t : Turn S Q E) → left_in (with_ask ask t) ≡ left_in t
left_in-with_ask ask (Said response now asks more) = refl
left_in-with_ask ask (Lacks lacked now asks) = refl

asks_in-turn_asks : {S Q E : Type 0} (asks : List Q) (t : Turn S Q E) → asks_in (turn_asks asks t) ≡ asks ++ asks_in t
asks_in-turn_asks [] t = refl
asks_in-turn_asks (a ∷ asks) t = asks_in-with_ask a (turn_asks asks t) ∙ ap (λ l. a ∷ l) (asks_in-turn_asks asks t)

-- a request that stands so after these events
pub record Stands {S Q E : Type 0} (m : Machine S Q E) (state : S) (incoming : Incoming) (events : List E) : Type 0 where
  pub goes : (more : List E) → turn m (events ++ more) state incoming [] ≡ turn_asks (map m.ask_of events) (turn m more state incoming events)

pub at_start : {S Q E : Type 0} (m : Machine S Q E) (state : S) (incoming : Incoming) → Stands m state incoming []
at_start m state incoming = record { goes = λ more. refl }

-- one more event
pub at_event : {S Q E : Type 0} (m : Machine S Q E) (state now : S) (incoming : Incoming) (events : List E) (event : E) → Stands m state incoming events →
    m.asked state incoming events ≡ Asks (m.ask_of event) now → Stands m state incoming (events ++ event ∷ [])
at_event {Q = Q} {E = E} m state now incoming events event at e = record {
  goes = λ more.
      ap (λ (l : List E). turn m l state incoming []) (append_assoc events (event ∷ []) more)
      ∙ at.goes (event ∷ more)
      ∙ ap (turn_asks (map m.ask_of events)) (turn-more m state now incoming events (m.ask_of event) event more e)
      ∙ turn_asks-more (map m.ask_of events) (m.ask_of event) (turn m more state incoming (events ++ event ∷ []))
      ∙ ap (λ (l : List Q). turn_asks l (turn m more state incoming (events ++ event ∷ []))) (sym (map-append m.ask_of events (event ∷ [])));
}

pub at_response : {S Q E : Type 0} (m : Machine S Q E) (state now : S) (incoming : Incoming) (events : List E) (response : Response) → Stands m state incoming events →
    m.asked state incoming events ≡ Says response now → (more : List E) → turn m (events ++ more) state incoming [] ≡ Said response now (map m.ask_of events) more
at_response m state now incoming events response at e more =
    at.goes more
    ∙ ap (turn_asks (map m.ask_of events)) (turn-says m more state now incoming events response e)
    ∙ turn_asks-said (map m.ask_of events) response now more

-- nothing is left over
goes_to_end : {S Q E : Type 0} (m : Machine S Q E) (state : S) (incoming : Incoming) (events : List E) → Stands m state incoming events →
    turn m events state incoming [] ≡ turn_asks (map m.ask_of events) (turn m [] state incoming events)
goes_to_end {E = E} m state incoming events at = ap (λ (l : List E). turn m l state incoming []) (sym (append-nil events)) ∙ at.goes []

pub at_lack : {S Q E : Type 0} (m : Machine S Q E) (state now : S) (incoming : Incoming) (events : List E) (ask : Q) → Stands m state incoming events →
    m.asked state incoming events ≡ Asks ask now → turn m events state incoming [] ≡ Lacks ask now (map m.ask_of events)
at_lack m state now incoming events ask at e =
    goes_to_end m state incoming events at
    ∙ ap (turn_asks (map m.ask_of events)) (turn-lacks m state now incoming events ask e)
    ∙ turn_asks-lacks (map m.ask_of events) ask now

pub at_no_memory : {S Q E : Type 0} (m : Machine S Q E) (state : S) (incoming : Incoming) (events : List E) → Stands m state incoming events → asks_in (turn m events state incoming []) ≡ map m.ask_of events
at_no_memory {Q = Q} m state incoming events at =
    ap asks_in (goes_to_end m state incoming events at)
    ∙ asks_in-turn_asks (map m.ask_of events) (turn m [] state incoming events)
    ∙ ap (λ (l : List Q). map m.ask_of events ++ l) (no_asks m state incoming events)
    ∙ append-nil (map m.ask_of events)

-- each event was asked for, or is left
all_used_of : {S Q E : Type 0} (m : Machine S Q E) (event : E) (more : List E) (state : S) (incoming : Incoming) (done : List E) (move : Move Q S) → m.asked state incoming done ≡ move →
    (length (asks_in (turn m more state incoming (done ++ event ∷ []))) + length (left_in (turn m more state incoming (done ++ event ∷ []))) ≡ length more) →
    length (asks_in (turn m (event ∷ more) state incoming done)) + length (left_in (turn m (event ∷ more) state incoming done)) ≡ suc (length more)
unfolding turn
all_used_of {Q = Q} {E = E} m event more state incoming done (Asks ask now) e below =
    let next = turn m more state incoming (done ++ event ∷ []) in
    let is = turn-more m state now incoming done ask event more e in
    let asks : length (asks_in (turn m (event ∷ more) state incoming done)) ≡ suc (length (asks_in next)) = ap (λ t. length (asks_in t)) is ∙ ap (λ (l : List Q). length l) (asks_in-with_ask ask next) in
    let left : length (left_in (turn m (event ∷ more) state incoming done)) ≡ length (left_in next) = ap (λ t. length (left_in t)) is ∙ ap (λ (l : List E). length l) (left_in-with_ask ask next) in
    omega (arith, asks, left, below)
all_used_of m event more state incoming done (Says response now) e below = rw (e, turn) (omega arith)

none_used_of : {S Q E : Type 0} (m : Machine S Q E) (state : S) (incoming : Incoming) (done : List E) (move : Move Q S) → m.asked state incoming done ≡ move →
    length (asks_in (turn m [] state incoming done)) + length (left_in (turn m [] state incoming done)) ≡ 0
unfolding turn
none_used_of m state incoming done (Asks ask now) e = rw (e, turn) refl
none_used_of m state incoming done (Says response now) e = rw (e, turn) refl

all_used : {S Q E : Type 0} (m : Machine S Q E) (events : List E) (state : S) (incoming : Incoming) (done : List E) →
    length (asks_in (turn m events state incoming done)) + length (left_in (turn m events state incoming done)) ≡ length events
all_used m [] state incoming done = none_used_of m state incoming done (m.asked state incoming done) refl
all_used m (event ∷ more) state incoming done = all_used_of m event more state incoming done (m.asked state incoming done) refl (all_used m more state incoming (done ++ event ∷ []))

no_length : {A : Type 0} (l : List A) → length l ≡ 0 → l ≡ []
no_length [] e = refl
no_length (x ∷ l) e = absurd (omega (arith, e))

-- where all were asked for, none is left
pub none_left : {S Q E : Type 0} (m : Machine S Q E) (events : List E) (state : S) (incoming : Incoming) → asks_in (turn m events state incoming []) ≡ map m.ask_of events → left_in (turn m events state incoming []) ≡ []
none_left {Q = Q} m events state incoming e =
    let size : length (asks_in (turn m events state incoming [])) ≡ length events = ap (λ (l : List Q). length l) e ∙ simp length-map in
    let all = all_used m events state incoming [] in
    no_length (left_in (turn m events state incoming [])) (omega (arith, size, all))
