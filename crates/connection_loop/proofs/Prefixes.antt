-- A session over some bytes is the front of the session over these and more.
use Rattle.std.proofs.Common.{◌≡◌, ◌∷◌, [], ◌++◌, ℕ, zero, suc, List, Bool, true, false, Option, Some, None, Result, Ok, Err, sym, refl, ap, ◌∙◌, subst, append_assoc}
use Rattle.std.proofs.lemmas.List.{append-nil}
use Rattle.std.specs.Io.KnownBytes.{Consumes}
use Rattle.connection_loop.specs.Account.{Account, asks_of, supply_of}
use Rattle.connection_loop.specs.Machine.{Machine, Turn, Said, Lacks, turn}
use Rattle.connection_loop.specs.Prefixes.{Extends, IsFront}
use Rattle.connection_loop.specs.Results.{Tells, read_session, whole_session}
use Rattle.connection_loop.specs.Session.{AtBad, NoMoment, Supply, Session, closed_or, due_text, refusal, session, writes}
use Rattle.connection_loop.specs.Steps.{due}
use Rattle.connection_loop.specs.declared.responder.Lack.{Lack}
use Rattle.connection_loop.specs.declared.served.Served.{Served}
use Rattle.connection_loop.specs.declared.served.ServeError.{ServeError}
use Rattle.connection_loop.specs.declared.served.ServeError.TheVariants.{Truncated, ReadFault, WriteFault, RandomFault, Worn, OutOfMemory}
use Rattle.connection_loop.proofs.Sessions.{asks_at, due_grows, session-limit, session-lacks, session-said, session-waits, whole_due}
use Rattle.http_wire.proofs.RequestLaws.{whole_more, wrong_more}
use Rattle.http_wire.specs.Requests.{Front, Unfinished, Whole, Wrong, front, is_due}

extends_same : {S Q E : Type 0} (s t : Session S Q E) → t ≡ s → Extends s t
extends_same {S} {Q} {E} s t is = record {
  output = ([], ap (λ (u : Session S Q E). u.output) is ∙ sym (append-nil s.output));
  asks = ([], ap (λ (u : Session S Q E). u.asks) is ∙ sym (append-nil s.asks));
}

abbrev due_of : Front → List ℕ
due_of at = due_text (is_due at)

-- whatever is supplied, the output begins with what is due
starts_due_at : {S Q E : Type 0} (m : Machine S Q E) (room : ℕ) (state : S) (input : List ℕ) (moments : List ℕ) (events : List E) (at : Front) → front input ≡ at →
    (rest : List ℕ) × ((session m (suc room) state input (record { moments = moments; events = events })).output ≡ due input ++ rest)
unfolding session
starts_due_at {S} {Q} {E} m room state input moments events (Unfinished waits) e =
    ([], ap (λ (s : Session S Q E). s.output) (session-waits m room state input (record { moments = moments; events = events }) waits e) ∙ sym (append-nil (due input)))
starts_due_at m room state input [] events (Wrong status) e =
    let none : due input ≡ [] = ap due_of e in
    let is : (session m (suc room) state input (record { moments = []; events = events })).output ≡ [] = rw (e, session) refl in
    ([], is ∙ sym none ∙ sym (append-nil (due input)))
starts_due_at m room state input (moment ∷ moments) events (Wrong status) e =
    let none : due input ≡ [] = ap due_of e in
    let is : (session m (suc room) state input (record { moments = moment ∷ moments; events = events })).output ≡ refusal status moment = rw (e, session) refl in
    (refusal status moment, is ∙ ap (λ (l : List ℕ). l ++ refusal status moment) (sym none))
starts_due_at m room state input [] events (Whole waits request rest) e =
    let is : (session m (suc room) state input (record { moments = []; events = events })).output ≡ due_text waits = rw (e, session) refl in
    ([], is ∙ sym (ap due_of e) ∙ sym (append-nil (due input)))
starts_due_at {S} {Q} {E} m room state input (moment ∷ moments) events (Whole waits request rest) e = by (turn m events state (asks_at request room moment) []) refl
  where
    by : (t : Turn S Q E) → turn m events state (asks_at request room moment) [] ≡ t → (rest : List ℕ) × ((session m (suc room) state input (record { moments = moment ∷ moments; events = events })).output ≡ due input ++ rest)
    by (Lacks lacked now asks) is =
        ([], ap (λ (s : Session S Q E). s.output) (session-lacks m room state now input moment moments events waits request rest lacked asks e is) ∙ sym (append-nil (due input)))
    by (Said response now asks events') is =
        let later = closed_or request.closes room now (record { moments = moments; events = events' }) (session m room now rest (record { moments = moments; events = events' })) in
        (response.text ++ later.output, ap (λ (s : Session S Q E). s.output) (session-said m room state now input moment moments events events' waits request rest response asks e is) ∙ append_assoc (due input) response.text later.output)

extends_closed : {S Q E : Type 0} (t : Bool) (room : ℕ) (state : S) (supply : Supply E) (s u : Session S Q E) → Extends s u → Extends (closed_or t room state supply s) (closed_or t room state supply u)
extends_closed false room state supply s u e = e
extends_closed true zero state supply s u e = e
extends_closed true (suc room) state supply s u e = extends_same _ _ refl

-- the same where bytes follow, by what stands at the front
extends_at : {S Q E : Type 0} (m : Machine S Q E) (room : ℕ) (more : List ℕ) →
    ((state : S) (input moments : List ℕ) (events : List E) → Extends (session m room state input (record { moments = moments; events = events })) (session m room state (input ++ more) (record { moments = moments; events = events }))) →
    (state : S) (input moments : List ℕ) (events : List E) (at : Front) → front input ≡ at →
    Extends (session m (suc room) state input (record { moments = moments; events = events })) (session m (suc room) state (input ++ more) (record { moments = moments; events = events }))
unfolding session
extends_at {S} {Q} {E} m room more again state input moments events (Unfinished waits) e =
    let short = session-waits m room state input (record { moments = moments; events = events }) waits e in
    let long = starts_due_at m room state (input ++ more) moments events (front (input ++ more)) refl in
    let grows = due_grows input more in
    let output : (session m (suc room) state input (record { moments = moments; events = events })).output ≡ due input = ap (λ (s : Session S Q E). s.output) short in
    let asks : (session m (suc room) state input (record { moments = moments; events = events })).asks ≡ [] = ap (λ (s : Session S Q E). s.asks) short in
    record {
      output = (grows.0 ++ long.0, long.1 ∙ ap (λ (l : List ℕ). l ++ long.0) grows.1 ∙ append_assoc (due input) grows.0 long.0 ∙ ap (λ (l : List ℕ). l ++ (grows.0 ++ long.0)) (sym output));
      asks = ((session m (suc room) state (input ++ more) (record { moments = moments; events = events })).asks, ap (λ (l : List Q). l ++ (session m (suc room) state (input ++ more) (record { moments = moments; events = events })).asks) (sym asks));
    }
extends_at m room more again state input [] events (Wrong status) e =
    let e' : front (input ++ more) ≡ Wrong status = wrong_more input more status e in
    let short : session m (suc room) state input (record { moments = []; events = events }) ≡ writes [] NoMoment state (record { moments = []; events = events }) = rw (e, session) refl in
    let long : session m (suc room) state (input ++ more) (record { moments = []; events = events }) ≡ writes [] NoMoment state (record { moments = []; events = events }) = rw (e', session) refl in
    extends_same _ _ (long ∙ sym short)
extends_at m room more again state input (moment ∷ moments) events (Wrong status) e =
    let e' : front (input ++ more) ≡ Wrong status = wrong_more input more status e in
    let short : session m (suc room) state input (record { moments = moment ∷ moments; events = events }) ≡ writes (refusal status moment) AtBad state (record { moments = moments; events = events }) = rw (e, session) refl in
    let long : session m (suc room) state (input ++ more) (record { moments = moment ∷ moments; events = events }) ≡ writes (refusal status moment) AtBad state (record { moments = moments; events = events }) = rw (e', session) refl in
    extends_same _ _ (long ∙ sym short)
extends_at m room more again state input [] events (Whole waits request rest) e =
    let e' : front (input ++ more) ≡ Whole waits request (rest ++ more) = whole_more input more waits request rest e in
    let short : session m (suc room) state input (record { moments = []; events = events }) ≡ writes (due_text waits) NoMoment state (record { moments = []; events = events }) = rw (e, session) refl in
    let long : session m (suc room) state (input ++ more) (record { moments = []; events = events }) ≡ writes (due_text waits) NoMoment state (record { moments = []; events = events }) = rw (e', session) refl in
    extends_same _ _ (long ∙ sym short)
extends_at {S} {Q} {E} m room more again state input (moment ∷ moments) events (Whole waits request rest) e = by (turn m events state (asks_at request room moment) []) refl
  where
    e' : front (input ++ more) ≡ Whole waits request (rest ++ more)
    e' = whole_more input more waits request rest e

    same_due : due (input ++ more) ≡ due input
    same_due = whole_due input more waits request rest e

    by : (t : Turn S Q E) → turn m events state (asks_at request room moment) [] ≡ t → Extends (session m (suc room) state input (record { moments = moment ∷ moments; events = events })) (session m (suc room) state (input ++ more) (record { moments = moment ∷ moments; events = events }))
    by (Lacks lacked now asks) is =
        let short = session-lacks m room state now input moment moments events waits request rest lacked asks e is in
        let long = session-lacks m room state now (input ++ more) moment moments events waits request (rest ++ more) lacked asks e' is in
        record {
          output = ([], ap (λ (s : Session S Q E). s.output) long ∙ same_due ∙ sym (ap (λ (s : Session S Q E). s.output) short) ∙ sym (append-nil _));
          asks = ([], ap (λ (s : Session S Q E). s.asks) long ∙ sym (ap (λ (s : Session S Q E). s.asks) short) ∙ sym (append-nil _));
        }
    by (Said response now asks events') is =
        let short = session-said m room state now input moment moments events events' waits request rest response asks e is in
        let long = session-said m room state now (input ++ more) moment moments events events' waits request (rest ++ more) response asks e' is in
        let supply : Supply E = record { moments = moments; events = events' } in
        let x = closed_or request.closes room now supply (session m room now rest supply) in
        let y = closed_or request.closes room now supply (session m room now (rest ++ more) supply) in
        let later = extends_closed request.closes room now supply (session m room now rest supply) (session m room now (rest ++ more) supply) (again now rest moments events') in
        record {
          output = (
            later.output.0,
            ap (λ (s : Session S Q E). s.output) long
                ∙ ap (λ (l : List ℕ). (l ++ response.text) ++ y.output) same_due
                ∙ ap (λ (l : List ℕ). (due input ++ response.text) ++ l) later.output.1
                ∙ sym (append_assoc (due input ++ response.text) x.output later.output.0)
                ∙ ap (λ (l : List ℕ). l ++ later.output.0) (sym (ap (λ (s : Session S Q E). s.output) short)),
          );
          asks = (
            later.asks.0,
            ap (λ (s : Session S Q E). s.asks) long
                ∙ ap (λ (l : List Q). asks ++ l) later.asks.1
                ∙ sym (append_assoc asks x.asks later.asks.0)
                ∙ ap (λ (l : List Q). l ++ later.asks.0) (sym (ap (λ (s : Session S Q E). s.asks) short)),
          );
        }

pub extends : {S Q E : Type 0} (m : Machine S Q E) (room : ℕ) (more : List ℕ) (state : S) (input moments : List ℕ) (events : List E) →
    Extends (session m room state input (record { moments = moments; events = events })) (session m room state (input ++ more) (record { moments = moments; events = events }))
extends m zero more state input moments events = extends_same _ _ (session-limit m state (input ++ more) (record { moments = moments; events = events }) ∙ sym (session-limit m state input (record { moments = moments; events = events })))
extends m (suc room) more state input moments events = extends_at m room more (extends m room more) state input moments events (front input) refl

-- ---- the account of a connection

whole_extends : {S Q E : Type 0} (m : Machine S Q E) (before : S) (left rest : Option (List ℕ)) (a : Account E) → Consumes left rest a.input → Extends (read_session m before a) (whole_session m before left a)
whole_extends m before None rest a took = extends_same _ _ refl
whole_extends m before (Some input) None a took = absurd took
whole_extends {S} {Q} {E} m before (Some input) (Some rest) a took =
    subst (λ (l : List ℕ). Extends (read_session m before a) (session m 4096 before l (supply_of a))) (sym took) (extends m 4096 rest before a.input a.moments a.events)

front_of_read : {S Q E : Type 0} (m : Machine S Q E) (before : S) (left rest : Option (List ℕ)) (a : Account E) (tail : List ℕ) → Consumes left rest a.input →
    (read_session m before a).output ≡ a.output ++ tail → (read_session m before a).asks ≡ asks_of m a → IsFront (whole_session m before left a) m a
front_of_read {Q = Q} m before left rest a tail took output asks =
    let e = whole_extends m before left rest a took in
    record {
      output = (tail ++ e.output.0, e.output.1 ∙ ap (λ (l : List ℕ). l ++ e.output.0) output ∙ append_assoc a.output tail e.output.0);
      asks = (e.asks.0, e.asks.1 ∙ ap (λ (l : List Q). l ++ e.asks.0) asks);
    }

front_of_whole : {S Q E : Type 0} (m : Machine S Q E) (before : S) (left : Option (List ℕ)) (a : Account E) →
    (whole_session m before left a).output ≡ a.output → (whole_session m before left a).asks ≡ asks_of m a → IsFront (whole_session m before left a) m a
front_of_whole m before left a output asks = record { output = ([], output ∙ sym (append-nil a.output)); asks = ([], asks ∙ sym (append-nil (asks_of m a))) }

-- However a connection ended, what was written and asked is the front of what the session over all bytes of its link has.
pub is_front : {S Q E : Type 0} (m : Machine S Q E) (lacked : Lack → Q → Type 0) (before now : S) (left rest : Option (List ℕ)) (a : Account E) (r : Result Served ServeError) →
    Consumes left rest a.input → Tells m lacked before now left rest a r → IsFront (whole_session m before left a) m a
is_front m lacked before now left rest a (Ok served) took t = front_of_whole m before left a t.completes.output t.completes.asks
is_front m lacked before now left rest a (Err (Truncated at)) took t = front_of_whole m before left a t.completes.output t.completes.asks
is_front m lacked before now left rest a (Err ReadFault) took t = front_of_read m before left rest a [] took (t.2.output ∙ sym (append-nil a.output)) t.2.asks
is_front m lacked before now left rest a (Err WriteFault) took t = front_of_read m before left rest a t.0.output.0 took t.0.output.1 t.0.asks
is_front m lacked before now left rest a (Err RandomFault) took t = front_of_read m before left rest a [] took (t.2.output ∙ sym (append-nil a.output)) t.2.asks
is_front m lacked before now left rest a (Err (Worn calls)) took t = front_of_read m before left rest a [] took (t.2.output ∙ sym (append-nil a.output)) t.2.asks
is_front m lacked before now left rest a (Err OutOfMemory) took t = front_of_read m before left rest a t.output.0 took t.output.1 t.asks
