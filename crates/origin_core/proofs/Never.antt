-- A table of its own is never worn by one connection.
use Rattle.std.proofs.Common.{◌≡◌, ◌≢◌, ◌∷◌, [], ◌++◌, ◌≤◌, ◌<◌, ◌+◌, ℕ, suc, List, length, map, Option, Some, None, Result, Err, sym, refl, ap, ◌∙◌, subst, arith}
use Rattle.std.proofs.lemmas.List.{append-nil}
use Rattle.auth_decide.proofs.Calls.{calls_left, left_falls, asked_pays, Pays}
use Rattle.auth_decide.specs.Asks.{asked}
use Rattle.auth_decide.specs.Stages.{Answer, Words, Replied}
use Rattle.auth_decide.specs.declared.credentials.RequestCredentials.{RequestCredentials}
use Rattle.auth_decide.specs.declared.verdict.Ask.{Ask}
use Rattle.auth_decide.specs.declared.verdict.Ask.TheVariants as ask
use Rattle.auth_grammar.specs.declared.items.Role.TheVariants.{Origin}
use Rattle.connection_loop.proofs.Bounds.{Spends, session_weighs, stop_weight, total}
use Rattle.connection_loop.specs.Account.{Account, supply_of}
use Rattle.connection_loop.specs.Machine.{Incoming, Move, Asks, Says}
use Rattle.connection_loop.specs.Results.{Stalls, Tells, read_session}
use Rattle.connection_loop.specs.declared.responder.Lack.TheVariants.{Worn as TableWorn}
use Rattle.connection_loop.specs.declared.served.ServeError.{ServeError}
use Rattle.connection_loop.specs.declared.served.ServeError.TheVariants.{Worn}
use Rattle.connection_loop.specs.declared.served.Served.{Served}
use Rattle.nonce_shard.proofs.JournalSeat.{never_worn}
use Rattle.nonce_shard.specs.Journal.{Journal, seat_of}
use Rattle.nonce_shard.specs.declared.calls.Call.{Call}
use Rattle.request_deciding.proofs.Decisions.{answers_in-append}
use Rattle.request_deciding.specs.Findings.{answers_in, behind_in, calls_in, credentials_in, found_in}
use Rattle.request_deciding.specs.Laws.{found_in-append}
use Rattle.request_deciding.specs.Outside.{TableState, TablePassed, LackedBy}
use Rattle.request_deciding.specs.Serving.{lifted, move_by, next_by_ask, next_with, question_of}
use Rattle.request_deciding.specs.declared.events.Event.{Event}
use Rattle.request_deciding.specs.declared.events.Event.TheVariants.{Found, Behind}
use Rattle.request_deciding.specs.declared.events.Finding.TheVariants.{CredentialsRead, Drew, Called}
use Rattle.request_deciding.specs.declared.events.Inquiry.{Inquiry}
use Rattle.request_deciding.specs.declared.events.Inquiry.TheVariants.{ReadCredentials, Draw, CallTable}
use Rattle.request_deciding.specs.declared.events.Operation.{Operation}
use Rattle.request_deciding.specs.declared.events.Operation.TheVariants.{Inquire, Behind as WantBehind}
use Rattle.request_deciding.specs.declared.server.Server.{Server}
use Rattle.origin_core.specs.Serving.{course, origin}
use Rattle.origin_core.specs.declared.alone.TheConstants.{CONNECTION_CALLS}
use Rattle.origin_core.specs.declared.events.FileEvent.{FileEvent}
use Rattle.origin_core.specs.declared.events.FileOperation.{FileOperation}

-- what is done for a request, what it wants, and what comes next
abbrev Done : Type 0
Done = Event FileEvent

abbrev Wanted : Type 0
Wanted = Operation FileOperation

abbrev Moved : Type 0
Moved = Move Wanted Server

-- calls of the table
abbrev calls_for : Inquiry → ℕ
calls_for (ReadCredentials lines) = 0
calls_for Draw = 0
calls_for (CallTable shard call) = 1

abbrev weight : Wanted → ℕ
weight (Inquire inquiry) = calls_for inquiry
weight (WantBehind wanted) = 0

-- how many calls a request may still make
abbrev budget : List Done → ℕ
budget events = calls_left (answers_in (found_in events)) 3

-- ---- one more event

answers_more : (events : List Done) (event : Done) → answers_in (found_in (events ++ event ∷ [])) ≡ answers_in (found_in events) ++ answers_in (found_in (event ∷ []))
answers_more events event = ap answers_in (found_in-append events (event ∷ [])) ∙ answers_in-append (found_in events) (found_in (event ∷ []))

falls_by : (answers : List Answer) (event : Done) → calls_left (answers ++ answers_in (found_in (event ∷ []))) 3 ≤ calls_left answers 3
falls_by answers (Found (CredentialsRead lines credentials)) = let same = ap (λ (l : List Answer). calls_left l 3) (append-nil answers) in omega (arith, same)
falls_by answers (Found (Drew words)) = left_falls answers (Words words) 3
falls_by answers (Found (Called shard call reply)) = left_falls answers (Replied reply) 3
falls_by answers (Behind event) = let same = ap (λ (l : List Answer). calls_left l 3) (append-nil answers) in omega (arith, same)

budget_falls : (events : List Done) (event : Done) → budget (events ++ event ∷ []) ≤ budget events
budget_falls events event =
    let size = ap (λ (l : List Answer). calls_left l 3) (answers_more events event) in
    let few = falls_by (answers_in (found_in events)) event in
    omega (arith, size, few)

-- ---- each ask is paid for

abbrev IsPaid : Wanted → List Done → Type 0
IsPaid wanted done = (weight wanted ≤ budget done) × ((event : Done) → origin.ask_of event ≡ wanted → weight wanted + budget (done ++ event ∷ []) ≤ budget done)

-- what is no call
light : (done : List Done) (wanted : Wanted) → weight wanted ≡ 0 → IsPaid wanted done
light done wanted is = (omega (arith, is), λ event same. let few = budget_falls done event in omega (arith, is, few))

-- a call
paid_call : (done : List Done) (shard : ℕ) (call : Call) → ((answer : Answer) → suc (calls_left (answers_in (found_in done) ++ answer ∷ []) 3) ≤ calls_left (answers_in (found_in done)) 3) → IsPaid (Inquire (CallTable shard call)) done
paid_call done shard call pays = ((let some = pays (Words []) in omega (arith, some)), each)
  where
    each : (event : Done) → origin.ask_of event ≡ Inquire (CallTable shard call) → 1 + budget (done ++ event ∷ []) ≤ budget done
    each (Found (Called n c reply)) same =
        let size = ap (λ (l : List Answer). calls_left l 3) (answers_more done (Found (Called n c reply))) in
        let few = pays (Replied reply) in
        omega (arith, size, few)
    each (Found (CredentialsRead lines credentials)) same = absurd (let no : ◌≡◌ {A = Wanted} (Inquire (ReadCredentials lines)) (Inquire (CallTable shard call)) = same in cc)
    each (Found (Drew words)) same = absurd (let no : ◌≡◌ {A = Wanted} (Inquire Draw) (Inquire (CallTable shard call)) = same in cc)
    each (Behind event) same = absurd (let no : ◌≡◌ {A = Wanted} (origin.ask_of (Behind event)) (Inquire (CallTable shard call)) = same in cc)

same_ask : (a b : Wanted) (s now : Server) → ◌≡◌ {A = Moved} (Asks a s) (Asks b now) → a ≡ b
same_ask a b s now is = cc

-- what a verdict calls for is no call
behind_light : (move : Move FileOperation Server) (wanted : Wanted) (now : Server) → lifted move ≡ Asks wanted now → weight wanted ≡ 0
behind_light (Asks operation s) wanted now is = ap weight (sym (same_ask (WantBehind operation) wanted s now is))
behind_light (Says response s) wanted now is = absurd (let no : ◌≡◌ {A = Moved} (Says response s) (Asks wanted now) = is in cc)

paid_ask : (s now : Server) (t : Incoming) (done : List Done) (wanted : Wanted) (credentials : RequestCredentials) (next : Ask) → next ≡ asked (question_of Origin s t credentials) (answers_in (found_in done))
    → move_by course s t (next_by_ask next) (behind_in done) ≡ Asks wanted now → IsPaid wanted done
paid_ask s now t done wanted credentials ask.Draw is moves = light done wanted (ap weight (sym (same_ask (Inquire Draw) wanted s now moves)))
paid_ask s now t done wanted credentials (ask.Table shard call) is moves =
    let pays = subst (Pays 3 (answers_in (found_in done))) (sym is) (asked_pays (question_of Origin s t credentials) (answers_in (found_in done))) tt in
    subst (λ (w : Wanted). IsPaid w done) (same_ask (Inquire (CallTable shard call)) wanted s now moves) (paid_call done shard call pays)
paid_ask s now t done wanted credentials (ask.Verdict verdict) is moves = light done wanted (behind_light (course s t verdict (behind_in done)) wanted now moves)

paid_with : (s now : Server) (t : Incoming) (done : List Done) (wanted : Wanted) (credentials : Option RequestCredentials) → move_by course s t (next_with Origin s t credentials (found_in done)) (behind_in done) ≡ Asks wanted now → IsPaid wanted done
paid_with s now t done wanted None moves = light done wanted (ap weight (sym (same_ask (Inquire (ReadCredentials _)) wanted s now moves)))
paid_with s now t done wanted (Some credentials) moves = paid_ask s now t done wanted credentials (asked (question_of Origin s t credentials) (answers_in (found_in done))) refl moves

spends : Spends origin weight budget
spends = record { pays = λ s t done wanted now moves. paid_with s now t done wanted (credentials_in (found_in done)) moves }

-- the calls in events
calls_weigh : (events : List Done) → length (calls_in (found_in events)) ≡ total weight (map origin.ask_of events)
calls_weigh [] = refl
calls_weigh (Found (CredentialsRead lines credentials) ∷ events) = let below = calls_weigh events in omega (arith, below)
calls_weigh (Found (Drew words) ∷ events) = let below = calls_weigh events in omega (arith, below)
calls_weigh (Found (Called shard call reply) ∷ events) = let below = calls_weigh events in omega (arith, below)
calls_weigh (Behind event ∷ events) = let below = calls_weigh events in omega (arith, below)

-- A session that lacks a table's reply has made fewer calls than 3 for each of its requests.
stalls_early : (u v : TableState) (before now : Server) (a : Account Done) (calls : ℕ) → Stalls origin (LackedBy u v) before now a (TableWorn calls) →
    (length (calls_in (found_in a.events)) < CONNECTION_CALLS) × ((shard : ℕ) × (v.seat.noted shard ≡ calls) × (calls ≡ u.seat.limit))
stalls_early u v before now a calls (operation, lacked, completes) =
    let few = session_weighs origin weight budget spends 4096 before a.input (supply_of a) completes.asks in
    let asks : total weight (read_session origin before a).asks ≡ total weight (map origin.ask_of a.events) = ap (total weight) completes.asks in
    let stop : stop_weight weight (read_session origin before a).stop ≡ 1 =
    ap (stop_weight weight) completes.stops ∙ ap weight (lacked.1 ∙ ap (λ (i : Inquiry). let wanted : Wanted = Inquire i in wanted) lacked.2.2) in
    let made = calls_weigh a.events in
    (omega (arith, few, asks, stop, made), (lacked.2.0, lacked.2.4, lacked.2.5))

worn_early : (u v : TableState) (before now : Server) (left left' : Option (List ℕ)) (a : Account Done) (calls : ℕ) (result : Result Served ServeError) → result ≡ Err (Worn calls) → Tells origin (LackedBy u v) before now left left' a result →
    (length (calls_in (found_in a.events)) < CONNECTION_CALLS) × ((shard : ℕ) × (v.seat.noted shard ≡ calls) × (calls ≡ u.seat.limit))
worn_early u v before now left left' a calls result is tells =
    stalls_early u v before now a calls (subst (λ (r : Result Served ServeError). Tells origin (LackedBy u v) before now left left' a r) is tells)

-- A journal that has room for all calls of a session is never worn by it.
pub never : (j k : Journal) (u v : TableState) (before now : Server) (left left' : Option (List ℕ)) (a : Account Done) (calls : ℕ) (result : Result Served ServeError) → j.calls ≡ [] → CONNECTION_CALLS ≤ j.limit → u.seat ≡ seat_of j → v.seat ≡ seat_of k →
    TablePassed u v (found_in a.events) → Tells origin (LackedBy u v) before now left left' a result → result ≢ Err (Worn calls)
never j k u v before now left left' a calls result fresh room old new passed tells is =
    let early = worn_early u v before now left left' a calls result is tells in
    never_worn j k (calls_in (found_in a.events)) early.1.0 fresh (rw (old, new) at passed.calls) (let few = early.0 in omega (arith, few, room))
    (ap (λ s. s.noted early.1.0) (sym new) ∙ early.1.1 ∙ early.1.2 ∙ ap (λ s. s.limit) old)
