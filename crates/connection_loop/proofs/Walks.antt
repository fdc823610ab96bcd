-- How the events of one request answer what was asked for, one by one.
use Rattle.std.proofs.Common.{◌≡◌, List, [], ◌∷◌, ◌++◌, map, refl, sym, ap, ◌∙◌}
use Rattle.connection_loop.proofs.Turns.{turn-lacks, turn-more, turn-says}
use Rattle.connection_loop.specs.Machine.{Asks, Incoming, Lacks, Machine, Move, Said, Says, Turn, turn, with_ask}
use Rattle.connection_loop.specs.declared.responder.Response.{Response}

-- Each event answers what is asked after those before it, and then the response is said.
abbrev pub Walk : {S Q E : Type 0} → Machine S Q E → S → Incoming → List E → List E → Response → S → Type 0
Walk m state incoming done [] response now = m.asked state incoming done ≡ Says response now
Walk {S = S} m state incoming done (event ∷ events) response now =
    (between : S) × (m.asked state incoming done ≡ Asks (m.ask_of event) between) × Walk m state incoming (done ++ event ∷ []) events response now

-- the events that a response used, and the asks of those that it left
pub record Uses {S Q E : Type 0} (m : Machine S Q E) (state : S) (incoming : Incoming) (done events : List E) (response : Response) (now : S) (left : List E) (tail : List Q) : Type 0 where
  pub used : List E
  pub is : events ≡ used ++ left
  pub walk : Walk m state incoming done used response now
  pub rest : tail ≡ map m.ask_of left

with_ask_said : {S Q E : Type 0} (ask : Q) (t : Turn S Q E) (response : Response) (now : S) (asks : List Q) (left : List E) → with_ask ask t ≡ Said response now asks left
    → (more : List Q) × (t ≡ Said response now more left) × (asks ≡ ask ∷ more)
with_ask_said {S} {Q} {E} ask (Said r n more l) response now asks left e =
    let same : ◌≡◌ {A = Turn S Q E} (Said r n (ask ∷ more) l) (Said response now asks left) = e in
    (more, cc, cc)
with_ask_said {S} {Q} {E} ask (Lacks lacked n more) response now asks left e =
    absurd (let no : ◌≡◌ {A = Turn S Q E} (Lacks lacked n (ask ∷ more)) (Said response now asks left) = e in cc)

said_here : {S Q E : Type 0} (m : Machine S Q E) (state : S) (incoming : Incoming) (done events : List E) (response r : Response) (now n : S) (asks : List Q) (left : List E) (tail : List Q)
    → m.asked state incoming done ≡ Says r n → turn m events state incoming done ≡ Said response now asks left → asks ++ tail ≡ map m.ask_of events → Uses m state incoming done events response now left tail
said_here {S} {Q} {E} m state incoming done events response r now n asks left tail says t same =
    let is : ◌≡◌ {A = Turn S Q E} (Said r n [] events) (Said response now asks left) = sym (turn-says m events state n incoming done r says) ∙ t in
    let events_are : events ≡ left = cc in
    let move : ◌≡◌ {A = Move Q S} (Says r n) (Says response now) = cc in
    let none : ◌≡◌ {A = List Q} [] asks = cc in
    record {
      used = [];
      is = events_are;
      walk = says ∙ move;
      rest = ap (λ (l : List Q). l ++ tail) none ∙ same ∙ ap (map m.ask_of) events_are;
    }

pub turn_uses : {S Q E : Type 0} (m : Machine S Q E) (state : S) (incoming : Incoming) (done events : List E) (response : Response) (now : S) (asks : List Q) (left : List E) (tail : List Q)
    → turn m events state incoming done ≡ Said response now asks left → asks ++ tail ≡ map m.ask_of events → Uses m state incoming done events response now left tail
turn_uses {S} {Q} {E} m state incoming done [] response now asks left tail t same = by (m.asked state incoming done) refl
  where
    by : (move : Move Q S) → m.asked state incoming done ≡ move → Uses m state incoming done [] response now left tail
    by (Says r n) says = said_here m state incoming done [] response r now n asks left tail says t same
    by (Asks ask n) lacks = absurd (let no : ◌≡◌ {A = Turn S Q E} (Lacks ask n []) (Said response now asks left) = sym (turn-lacks m state n incoming done ask lacks) ∙ t in cc)
turn_uses {S} {Q} {E} m state incoming done (event ∷ events) response now asks left tail t same = by (m.asked state incoming done) refl
    (λ more s. turn_uses m state incoming (done ++ event ∷ []) events response now more left tail s)
  where
    by : (move : Move Q S) → m.asked state incoming done ≡ move
        → ((more : List Q) → turn m events state incoming (done ++ event ∷ []) ≡ Said response now more left → more ++ tail ≡ map m.ask_of events → Uses m state incoming (done ++ event ∷ []) events response now left tail)
        → Uses m state incoming done (event ∷ events) response now left tail
    by (Says r n) says later = said_here m state incoming done (event ∷ events) response r now n asks left tail says t same
    by (Asks ask n) asks_it later =
        let w = with_ask_said ask (turn m events state incoming (done ++ event ∷ [])) response now asks left (sym (turn-more m state n incoming done ask event events asks_it) ∙ t) in
        let all : ask ∷ (w.0 ++ tail) ≡ m.ask_of event ∷ map m.ask_of events = ap (λ (l : List Q). l ++ tail) (sym w.2) ∙ same in
        let here : ask ≡ m.ask_of event = cc in
        let u = later w.0 w.1 (let rest : w.0 ++ tail ≡ map m.ask_of events = cc in rest) in
        record {
          used = event ∷ u.used;
          is = ap (λ (l : List E). event ∷ l) u.is;
          walk = (n, asks_it ∙ ap (λ (a : Q). let move : Move Q S = Asks a n in move) here, u.walk);
          rest = u.rest;
        }
