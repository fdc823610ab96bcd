-- How a machine that decides first stands once a request is decided, and behind its verdict.
use Rattle.std.proofs.Common.{◌≡◌, ◌∷◌, [], ◌++◌, List, map, Result, Ok, Err, sym, refl, ap, ◌∙◌, subst, append_assoc}
use Rattle.std.proofs.lemmas.List.{append-nil, map-append}
use Rattle.std.specs.Prelude.{IfOk}
use Rattle.auth_decide.specs.declared.verdict.Verdict.{Verdict}
use Rattle.auth_grammar.specs.declared.octets.OutOfMemory.{OutOfMemory}
use Rattle.auth_grammar.specs.declared.items.Role.{Role}
use Rattle.connection_loop.proofs.Turns.{Stands, at_event, at_lack, at_no_memory, at_response, at_start}
use Rattle.connection_loop.specs.Machine.{Asks, Incoming, Machine, Move, Responds, Says}
use Rattle.connection_loop.specs.declared.responder.RespondError.{RespondError}
use Rattle.connection_loop.specs.declared.responder.RespondError.TheVariants.{Lacking, OutOfMemory as NoMemory}
use Rattle.connection_loop.specs.declared.responder.Response.{Response}
use Rattle.request_deciding.specs.Deciding.{AreInquired, AreWanted, Decides}
use Rattle.request_deciding.specs.Findings.{behind_in, found_in, inquiry_of, operation_of}
use Rattle.request_deciding.specs.Laws.{behind_in-append, found_in-append}
use Rattle.request_deciding.specs.Outside.{LackedBy, TableState}
use Rattle.request_deciding.specs.Serving.{Concludes, Course, Inquires, Next, lifted, move_by, move_in, next_in}
use Rattle.request_deciding.specs.declared.events.Event.{Event}
use Rattle.request_deciding.specs.declared.events.Event.TheVariants.{Found, Behind}
use Rattle.request_deciding.specs.declared.events.Finding.{Finding}
use Rattle.request_deciding.specs.declared.events.Operation.{Operation}
use Rattle.request_deciding.specs.declared.events.Operation.TheVariants.{Inquire, Behind as WantBehind}
use Rattle.request_deciding.specs.declared.server.Server.{Server}

-- what was found, and what was done behind the verdict
abbrev pub found_events : {E : Type 0} → List Finding → List (Event E)
found_events found = map Found found

abbrev pub behind_events : {E : Type 0} → List E → List (Event E)
behind_events done = map Behind done

pub found_in-found : (E : Type 0) (found : List Finding) → found_in (found_events {E = E} found) ≡ found
found_in-found E [] = refl
found_in-found E (finding ∷ found) = ap (λ (l : List Finding). finding ∷ l) (found_in-found E found)

found_in-behind : {E : Type 0} (done : List E) → found_in (behind_events done) ≡ []
found_in-behind [] = refl
found_in-behind (event ∷ done) = found_in-behind done

pub behind_in-found : (E : Type 0) (found : List Finding) → behind_in (found_events {E = E} found) ≡ []
behind_in-found E [] = refl
behind_in-found E (finding ∷ found) = behind_in-found E found

behind_in-behind : {E : Type 0} (done : List E) → behind_in (behind_events done) ≡ done
behind_in-behind [] = refl
behind_in-behind {E} (event ∷ done) = ap (λ (l : List E). event ∷ l) (behind_in-behind done)

-- both, one after the other
pub found_of : {E : Type 0} (found : List Finding) (done : List E) → found_in (found_events found ++ behind_events done) ≡ found
found_of {E} found done = found_in-append (found_events found) (behind_events done) ∙ ap (λ (l : List Finding). l ++ found_in (behind_events done)) (found_in-found E found)
    ∙ ap (λ (l : List Finding). found ++ l) (found_in-behind done) ∙ append-nil found

pub behind_of : {E : Type 0} (found : List Finding) (done : List E) → behind_in (found_events found ++ behind_events done) ≡ done
behind_of {E} found done = behind_in-append (found_events found) (behind_events done) ∙ ap (λ (l : List E). l ++ behind_in (behind_events done)) (behind_in-found E found) ∙ behind_in-behind done

-- A machine goes by its decisions at a request, and tells what it did.
pub record GoesBy {Q E : Type 0} (m : Machine Server (Operation Q) (Event E)) (role : Role) (course : Course Q E) (want_of : E → Q) (s : Server) (t : Incoming) : Type 0 where
  pub moves : (events : List (Event E)) → m.asked s t events ≡ move_in role course s t events
  pub tells : (event : Event E) → m.ask_of event ≡ operation_of want_of event

-- what it comes to after these
pub next_after : {Q E : Type 0} (m : Machine Server (Operation Q) (Event E)) (role : Role) (course : Course Q E) (want_of : E → Q) (s : Server) (t : Incoming) → GoesBy m role course want_of s t → (found : List Finding) (done : List E) (next : Next) →
    next_in role s t found ≡ next → m.asked s t (found_events found ++ behind_events done) ≡ move_by course s t next done
next_after {Q} {E} m role course want_of s t by found done next is =
    by.moves (found_events found ++ behind_events done)
    ∙ ap (λ (l : List Finding). move_by course s t (next_in role s t l) (behind_in (found_events found ++ behind_events done))) (found_of found done)
    ∙ ap (λ (l : List E). move_by course s t (next_in role s t found) l) (behind_of found done)
    ∙ ap (λ (n : Next). move_by course s t n done) is

next_first : {Q E : Type 0} (m : Machine Server (Operation Q) (Event E)) (role : Role) (course : Course Q E) (want_of : E → Q) (s : Server) (t : Incoming) → GoesBy m role course want_of s t → (found : List Finding) (next : Next) →
    next_in role s t found ≡ next → m.asked s t (found_events found) ≡ move_by course s t next []
next_first {Q} {E} m role course want_of s t by found next is =
    ap (λ (l : List (Event E)). m.asked s t l) (sym (append-nil (found_events found))) ∙ next_after m role course want_of s t by found [] next is

stands_from : {Q E : Type 0} (m : Machine Server (Operation Q) (Event E)) (role : Role) (course : Course Q E) (want_of : E → Q) (s : Server) (t : Incoming) → GoesBy m role course want_of s t → (done found : List Finding) →
    AreInquired role s t done found → Stands m s t (found_events done) → Stands m s t (found_events (done ++ found))
stands_from {Q} {E} m role course want_of s t by done [] are stands = subst (λ (l : List Finding). Stands m s t (found_events l)) (sym (append-nil done)) stands
stands_from {Q} {E} m role course want_of s t by done (finding ∷ found) are stands =
    let event : Event E = Found finding in
    let asks = next_first m role course want_of s t by done (Inquires (inquiry_of finding)) are.0
    ∙ ap (λ (o : Operation Q). let move : Move (Operation Q) Server = Asks o s in move) (sym (by.tells event)) in
    let one = at_event m s s t (found_events done) event stands asks in
    let here = subst (λ (l : List (Event E)). Stands m s t l) (sym (map-append {B = Event E} Found done (finding ∷ []))) one in
    subst (λ (l : List Finding). Stands m s t (found_events l)) (append_assoc done (finding ∷ []) found)
    (stands_from m role course want_of s t by (done ++ finding ∷ []) found are.1 here)

-- a machine after what was found for a decision
pub stands_decided : {Q E : Type 0} (m : Machine Server (Operation Q) (Event E)) (role : Role) (course : Course Q E) (want_of : E → Q) (s : Server) (t : Incoming) → GoesBy m role course want_of s t → (found : List Finding) →
    AreInquired role s t [] found → Stands m s t (found_events found)
stands_decided m role course want_of s t by found are = stands_from m role course want_of s t by [] found are (at_start m s t)

-- ---- behind the verdict

wanted_from : {Q E : Type 0} (m : Machine Server (Operation Q) (Event E)) (role : Role) (course : Course Q E) (want_of : E → Q) (s : Server) (t : Incoming) → GoesBy m role course want_of s t → (found : List Finding) (verdict : Verdict) →
    next_in role s t found ≡ Concludes verdict → (done events : List E) → AreWanted course want_of s t verdict done events → Stands m s t (found_events found ++ behind_events done) → Stands m s t (found_events found ++ behind_events (done ++ events))
wanted_from {Q} {E} m role course want_of s t by found verdict is done [] are stands = subst (λ (l : List E). Stands m s t (found_events found ++ behind_events l)) (sym (append-nil done)) stands
wanted_from {Q} {E} m role course want_of s t by found verdict is done (event ∷ events) are stands =
    let before : List (Event E) = found_events found ++ behind_events done in
    let here : Event E = Behind event in
    let asks = next_after m role course want_of s t by found done (Concludes verdict) is
    ∙ ap lifted are.0
    ∙ ap (λ (o : Operation Q). let move : Move (Operation Q) Server = Asks o s in move) (sym (by.tells here)) in
    let one = at_event m s s t before here stands asks in
    let same : before ++ here ∷ [] ≡ found_events found ++ behind_events (done ++ event ∷ []) =
    append_assoc (found_events found) (behind_events done) (here ∷ []) ∙ ap (λ (l : List (Event E)). found_events found ++ l) (sym (map-append {B = Event E} Behind done (event ∷ []))) in
    subst (λ (l : List E). Stands m s t (found_events found ++ behind_events l)) (append_assoc done (event ∷ []) events)
    (wanted_from m role course want_of s t by found verdict is (done ++ event ∷ []) events are.1 (subst (λ (l : List (Event E)). Stands m s t l) same one))

-- a machine after what was done behind a verdict
pub stands_behind : {Q E : Type 0} (m : Machine Server (Operation Q) (Event E)) (role : Role) (course : Course Q E) (want_of : E → Q) (s : Server) (t : Incoming) → GoesBy m role course want_of s t → (found : List Finding) (verdict : Verdict) →
    AreInquired role s t [] found → next_in role s t found ≡ Concludes verdict → (events : List E) → AreWanted course want_of s t verdict [] events → Stands m s t (found_events found ++ behind_events events)
stands_behind {Q} {E} m role course want_of s t by found verdict inquired is events wanted =
    wanted_from m role course want_of s t by found verdict is [] events wanted
    (subst (λ (l : List (Event E)). Stands m s t l) (sym (append-nil (found_events found))) (stands_decided m role course want_of s t by found inquired))

-- ---- answers

-- the answer to a request, by what carrying its verdict out gave
abbrev pub answer_of : Result Response OutOfMemory → Result Response RespondError
answer_of (Ok response) = Ok response
answer_of (Err error) = Err NoMemory

-- The verdict was carried out.
pub carried_out : {Q E : Type 0} (m : Machine Server (Operation Q) (Event E)) (role : Role) (course : Course Q E) (want_of : E → Q) (s : Server) (t : Incoming) → GoesBy m role course want_of s t → (before now : TableState) (verdict : Verdict) (d : Decides before now role s t (Ok verdict)) →
    (events : List E) → AreWanted course want_of s t verdict [] events → (result : Result Response OutOfMemory) → IfOk result (λ response. course s t verdict events ≡ Says response s) →
    Responds m (LackedBy before now) s s t (found_events d.found ++ behind_events events) (answer_of result)
carried_out m role course want_of s t by before now verdict d events wanted (Ok response) says =
    at_response m s s t (found_events d.found ++ behind_events events) response (stands_behind m role course want_of s t by d.found verdict d.inquired d.ends events wanted)
    (next_after m role course want_of s t by d.found events (Concludes verdict) d.ends ∙ ap lifted says)
carried_out m role course want_of s t by before now verdict d events wanted (Err error) says =
    at_no_memory m s t (found_events d.found ++ behind_events events) (stands_behind m role course want_of s t by d.found verdict d.inquired d.ends events wanted)

-- There was no verdict.
pub gives_up : {Q E : Type 0} (m : Machine Server (Operation Q) (Event E)) (role : Role) (course : Course Q E) (want_of : E → Q) (s : Server) (t : Incoming) → GoesBy m role course want_of s t → (before now : TableState) (error : RespondError) (d : Decides before now role s t (Err error)) →
    Responds m (LackedBy before now) s s t (found_events d.found) (Err error)
gives_up {Q} m role course want_of s t by before now (Lacking lack) d =
    let lacked : Operation Q = Inquire d.ends.0 in (
      lacked,
      at_lack m s s t (found_events d.found) lacked (stands_decided m role course want_of s t by d.found d.inquired) (next_first m role course want_of s t by d.found (Inquires d.ends.0) d.ends.1),
      (d.ends.0, refl, d.ends.2),
    )
gives_up m role course want_of s t by before now NoMemory d = at_no_memory m s t (found_events d.found) (stands_decided m role course want_of s t by d.found d.inquired)
