-- How the account of a connection grows, step by step, to its end.
use Rattle.std.proofs.Common.{◌≡◌, ◌∷◌, [], ◌++◌, ◌<◌, ◌≤◌, ◌+◌, ◌-◌, ℕ, List, length, map, take, drop, Option, Some, None, Result, Ok, Err, sym, refl, ap, ◌∙◌, subst, append_assoc, length-append, arith}
use Rattle.std.proofs.lemmas.List.{append-nil, map-append, take-append-le, drop-append-le}
use Rattle.std.proofs.Math.Seq.{take-append-add}
use Rattle.std.specs.List.{AllByRecursion}
use Rattle.std.specs.Io.KnownBytes.{Consumes, IsAtEnd}
use Rattle.http_wire.specs.RequestFeed.{Held}
use Rattle.connection_loop.specs.Machine.{Machine}
use Rattle.connection_loop.specs.Session.{Stop, Inside, Lacking, Supply, no_supply, Session, Past, after, session}
use Rattle.connection_loop.specs.Account.{Account, asks_of, supply_of, add, join, no_account, shifted}
use Rattle.connection_loop.specs.Results.{Completes, Begins, IsOpen, stop_of, whole_input, IsPrompt, IsEndBehind, Tells}
use Rattle.connection_loop.specs.Steps.{Place, place_at, session_from, MayFollow, StallsAt, Follows, GoesOn, LeavesNone, IsPromptAt}
use Rattle.connection_loop.proofs.Sessions.{session-limit}
use Rattle.connection_loop.proofs.Steps.{add_nothing, past_with, room_is}
use Rattle.connection_loop.specs.declared.responder.Lack.{Lack}
use Rattle.connection_loop.specs.declared.responder.Lack.TheVariants.{Random, Worn as TableWorn}
use Rattle.connection_loop.specs.declared.served.End.{End}
use Rattle.connection_loop.specs.declared.served.End.TheVariants.{Ended, CloseAsked, BadMessage, Limit}
use Rattle.connection_loop.specs.declared.served.Served.{Served}
use Rattle.connection_loop.specs.declared.served.ServeError.{ServeError}
use Rattle.connection_loop.specs.declared.served.ServeError.TheVariants.{Truncated, ReadFault, WriteFault, RandomFault, Worn, OutOfMemory}

-- where a connection begins
abbrev pub start : {S : Type 0} → S → Place S
start state = record { room = 4096; state = state; ahead = []; requests = 0; admitted = 0; answered = 0 }

-- ---- the account so far

-- the session from the start is what was done, followed by the session from here, whatever follows
pub record Reached {S Q E : Type 0} (m : Machine S Q E) (before now : S) (a : Account E) (held : Held) (requests admitted : ℕ) : Type 0 where
  pub goes : (rest : List ℕ) (more : Supply E) →
      session m 4096 before (a.input ++ rest) (add (supply_of a) more)
      ≡ after (record { output = a.output; asks = asks_of m a; requests = requests; admitted = admitted; answered = held.at }) (session m (4096 - requests) now (held.rest ++ rest) more)
  pub counted : held.at + length held.rest ≡ length a.input

-- sessions with the same parts are the same
same_session : {S Q E : Type 0} (s t : Session S Q E) → s.output ≡ t.output → s.asks ≡ t.asks → s.requests ≡ t.requests → s.admitted ≡ t.admitted → s.answered ≡ t.answered → s.stop ≡ t.stop → s.state ≡ t.state → s.left ≡ t.left → s ≡ t
same_session s t o c r d w e n f = λ i. record { output = o i; asks = c i; requests = r i; admitted = d i; answered = w i; stop = e i; state = n i; left = f i }

abbrev none_yet : {Q : Type 0} → Past Q
none_yet = record { output = []; asks = []; requests = 0; admitted = 0; answered = 0 }

nothing_before : {S Q E : Type 0} (s : Session S Q E) → after none_yet s ≡ s
nothing_before s = same_session (after none_yet s) s refl refl (omega arith) (omega arith) (omega arith) refl refl refl

pub at_first : {S Q E : Type 0} (m : Machine S Q E) (before : S) (held : Held) → held.rest ≡ [] → held.at ≡ 0 → Reached m before before no_account held 0 0
at_first m before held empty first = record {
  goes = λ rest more.
      sym (nothing_before (session m 4096 before rest more))
      ∙ ap (λ (n : ℕ). after (record { output = []; asks = []; requests = 0; admitted = 0; answered = n }) (session m 4096 before rest more)) (sym first)
      ∙ ap (λ (l : List ℕ). after (record { output = []; asks = []; requests = 0; admitted = 0; answered = held.at }) (session m 4096 before (l ++ rest) more)) (sym empty);
  counted = let none : length held.rest ≡ 0 = ap (λ (l : List ℕ). length l) empty in omega (arith, none, first);
}

asks-join : {S Q E : Type 0} (m : Machine S Q E) (a b : Account E) → asks_of m (join a b) ≡ asks_of m a ++ asks_of m b
asks-join m a b = map-append m.ask_of a.events b.events

-- a session after two parts
after_after : {S Q E : Type 0} (p q : Past Q) (s : Session S Q E) →
    after p (after q s) ≡ after (record { output = p.output ++ q.output; asks = p.asks ++ q.asks; requests = p.requests + q.requests; admitted = p.admitted + q.admitted; answered = p.answered + q.answered }) s
after_after p q s = same_session (after p (after q s)) (after (record { output = p.output ++ q.output; asks = p.asks ++ q.asks; requests = p.requests + q.requests; admitted = p.admitted + q.admitted; answered = p.answered + q.answered }) s)
    (sym (append_assoc p.output q.output s.output)) (sym (append_assoc p.asks q.asks s.asks)) (omega arith) (omega arith) (omega arith) refl refl refl

add_add : {E : Type 0} (a b c : Supply E) → add (add a b) c ≡ add a (add b c)
add_add a b c =
    let m = append_assoc a.moments b.moments c.moments in
    let r = append_assoc a.events b.events c.events in
    λ i. record { moments = m i; events = r i }

abbrev past_of : {S Q E : Type 0} → Machine S Q E → Account E → Held → ℕ → ℕ → Past Q
past_of m a held requests admitted = record { output = a.output; asks = asks_of m a; requests = requests; admitted = admitted; answered = held.at }

-- one more request
pub go_on : {S Q E : Type 0} (m : Machine S Q E) (before now next : S) (a u : Account E) (held kept : Held) (requests admitted one : ℕ) → requests < 4096 →
    Reached m before now a held requests admitted → GoesOn m (place_at now held requests admitted) next u kept one → Reached m before next (join a u) kept (requests + 1) (admitted + one)
go_on {S = S} {Q = Q} {E = E} m before now next a u held kept requests admitted one few reached on = record {
  goes = λ rest more.
      let room = room_is 4096 requests few in
      let later = session m (4096 - (requests + 1)) next (kept.rest ++ rest) more in
      ap (λ (l : List ℕ). session m 4096 before l (add (supply_of (join a u)) more)) (append_assoc a.input u.input rest)
      ∙ ap (session m 4096 before (a.input ++ (u.input ++ rest))) (add_add (supply_of a) (supply_of u) more)
      ∙ reached.goes (u.input ++ rest) (add (supply_of u) more)
      ∙ ap (λ (l : List ℕ). after (past_of m a held requests admitted) (session m (4096 - requests) now l (add (supply_of u) more))) (sym (append_assoc held.rest u.input rest))
      ∙ ap (λ (n : ℕ). after (past_of m a held requests admitted) (session m n now ((held.rest ++ u.input) ++ rest) (add (supply_of u) more))) room
      ∙ ap (after (past_of m a held requests admitted)) (on.goes (4096 - (requests + 1)) room rest more)
      ∙ after_after (past_of m a held requests admitted) (past_with u.output (asks_of m u) one on.bytes) later
      ∙ ap (λ (cs : List Q). after (record { output = a.output ++ u.output; asks = cs; requests = requests + 1; admitted = admitted + one; answered = held.at + on.bytes }) later) (sym (asks-join m a u))
      ∙ ap (λ (n : ℕ). after (record { output = a.output ++ u.output; asks = asks_of m (join a u); requests = requests + 1; admitted = admitted + one; answered = n }) later) (sym on.place_is);
  counted =
      let sizes : length (a.input ++ u.input) ≡ length a.input + length u.input = length-append a.input u.input in
      let ahead_sizes : length (held.rest ++ u.input) ≡ length held.rest + length u.input = length-append held.rest u.input in
      omega (arith, reached.counted, on.counted, on.place_is);
}

-- ---- the end

session_joined : {S Q E : Type 0} (m : Machine S Q E) (before now : S) (a u : Account E) (held : Held) (requests admitted : ℕ) (rest : List ℕ) → Reached m before now a held requests admitted →
    session_from m (start before) (join a u) rest ≡ after (past_of m a held requests admitted) (session_from m (place_at now held requests admitted) u rest)
session_joined m before now a u held requests admitted rest reached =
    ap (λ (l : List ℕ). session m 4096 before l (supply_of (join a u))) (append_assoc a.input u.input rest)
    ∙ reached.goes (u.input ++ rest) (supply_of u)
    ∙ ap (λ (l : List ℕ). after (past_of m a held requests admitted) (session m (4096 - requests) now l (supply_of u))) (sym (append_assoc held.rest u.input rest))

completes_joined : {S Q E : Type 0} (m : Machine S Q E) (a u : Account E) (held : Held) (s t : Session S Q E) (requests admitted : ℕ) (stop : Stop Q) (now : S) → s ≡ after (past_of m a held requests admitted) t → Completes t m u stop now → Completes s m (join a u) stop now
completes_joined {S = S} {Q = Q} {E = E} m a u held s t requests admitted stop now e c = record {
  output = ap (λ (x : Session S Q E). x.output) e ∙ ap (λ (l : List ℕ). a.output ++ l) c.output;
  asks = ap (λ (x : Session S Q E). x.asks) e ∙ ap (λ (l : List Q). asks_of m a ++ l) c.asks ∙ sym (asks-join m a u);
  stops = ap (λ (x : Session S Q E). x.stop) e ∙ c.stops;
  state = ap (λ (x : Session S Q E). x.state) e ∙ c.state;
  none_left = ap (λ (x : Session S Q E). x.left) e ∙ c.none_left;
}

begins_joined : {S Q E : Type 0} (m : Machine S Q E) (a u : Account E) (held : Held) (s t : Session S Q E) (requests admitted : ℕ) → s ≡ after (past_of m a held requests admitted) t → Begins t m u → Begins s m (join a u)
begins_joined {S = S} {Q = Q} {E = E} m a u held s t requests admitted e c = record {
  output = (c.output.0, ap (λ (x : Session S Q E). x.output) e ∙ ap (λ (l : List ℕ). a.output ++ l) c.output.1 ∙ sym (append_assoc a.output u.output c.output.0));
  asks = ap (λ (x : Session S Q E). x.asks) e ∙ ap (λ (l : List Q). asks_of m a ++ l) c.asks ∙ sym (asks-join m a u);
  none_left = ap (λ (x : Session S Q E). x.left) e ∙ c.none_left;
}

stalls_joined : {S Q E : Type 0} (m : Machine S Q E) (lacked lacked' : Lack → Q → Type 0) (before now next : S) (a u : Account E) (held : Held) (requests admitted : ℕ) (lack : Lack) →
    ((lack : Lack) (ask : Q) → lacked lack ask → lacked' lack ask) → Reached m before now a held requests admitted →
    StallsAt m lacked (place_at now held requests admitted) next u lack → StallsAt m lacked' (start before) next (join a u) lack
stalls_joined m lacked lacked' before now next a u held requests admitted lack later reached f =
    (f.0, later lack f.0 f.1, completes_joined m a u held _ _ requests admitted (Lacking f.0) next (session_joined m before now a u held requests admitted [] reached) f.2)

-- what the last step says of the session from its place, all of it says of the session from the start
pub finish : {S Q E : Type 0} (m : Machine S Q E) (lacked lacked' : Lack → Q → Type 0) (before now next : S) (a u : Account E) (held : Held) (requests admitted : ℕ) (r : Result Served ServeError) →
    ((lack : Lack) (ask : Q) → lacked lack ask → lacked' lack ask) → Reached m before now a held requests admitted →
    Follows m lacked (place_at now held requests admitted) next u r → Follows m lacked' (start before) next (join a u) r
finish {S = S} {Q = Q} {E = E} m lacked lacked' before now next a u held requests admitted (Ok served) later reached f = λ rest may.
    let e = session_joined m before now a u held requests admitted rest reached in
    let here = f rest may in
    let asked : (session_from m (start before) (join a u) rest).requests ≡ requests + (session_from m (place_at now held requests admitted) u rest).requests = ap (λ (x : Session S Q E). x.requests) e in
    let some : (session_from m (start before) (join a u) rest).admitted ≡ admitted + (session_from m (place_at now held requests admitted) u rest).admitted = ap (λ (x : Session S Q E). x.admitted) e in
    let size : (session_from m (start before) (join a u) rest).answered ≡ held.at + (session_from m (place_at now held requests admitted) u rest).answered = ap (λ (x : Session S Q E). x.answered) e in
    let whole : length (a.input ++ u.input) ≡ length a.input + length u.input = length-append a.input u.input in
    let ahead : length (held.rest ++ u.input) ≡ length held.rest + length u.input = length-append held.rest u.input in
    record {
      completes = completes_joined m a u held _ _ requests admitted _ next e here.completes;
      requests = omega (arith, asked, here.requests);
      admitted = omega (arith, some, here.admitted);
      within = omega (arith, size, whole, ahead, here.within, reached.counted);
    }
finish {S = S} {Q = Q} {E = E} m lacked lacked' before now next a u held requests admitted (Err (Truncated at)) later reached f =
    let e = session_joined m before now a u held requests admitted [] reached in
    let size : (session_from m (start before) (join a u) []).answered ≡ held.at + (session_from m (place_at now held requests admitted) u []).answered = ap (λ (x : Session S Q E). x.answered) e in
    (completes_joined m a u held _ _ requests admitted Inside next e f.0, omega (arith, size, f.1))
finish m lacked lacked' before now next a u held requests admitted (Err ReadFault) later reached f =
    (f.0, f.1, completes_joined m a u held _ _ requests admitted f.0 next (session_joined m before now a u held requests admitted [] reached) f.2)
finish {S = S} {Q = Q} {E = E} m lacked lacked' before now next a u held requests admitted (Err WriteFault) later reached f =
    let e = session_joined m before now a u held requests admitted [] reached in
    (begins_joined m a u held _ _ requests admitted e f.0, ap (λ (x : Session S Q E). x.state) e ∙ f.1)
finish m lacked lacked' before now next a u held requests admitted (Err RandomFault) later reached f = stalls_joined m lacked lacked' before now next a u held requests admitted Random later reached f
finish m lacked lacked' before now next a u held requests admitted (Err (Worn calls)) later reached f = stalls_joined m lacked lacked' before now next a u held requests admitted (TableWorn calls) later reached f
finish m lacked lacked' before now next a u held requests admitted (Err OutOfMemory) later reached f = begins_joined m a u held _ _ requests admitted (session_joined m before now a u held requests admitted [] reached) f

-- after as many requests as may come
pub at_limit : {S Q E : Type 0} (m : Machine S Q E) (lacked : Lack → Q → Type 0) (before now : S) (a : Account E) (held : Held) (requests admitted : ℕ) → requests ≡ 4096 → Reached m before now a held requests admitted →
    Follows m lacked (start before) now a (Ok (record { requests = 4096; admitted = admitted; end = Limit }))
at_limit {S = S} {Q = Q} {E = E} m lacked before now a held requests admitted all reached = λ rest may.
    let none : 4096 - requests ≡ 0 = omega (arith, all) in
    let e = ap (session m 4096 before (a.input ++ rest)) (sym (add_nothing a)) ∙ reached.goes rest no_supply
    ∙ ap (λ (n : ℕ). after (past_of m a held requests admitted) (session m n now (held.rest ++ rest) no_supply)) none
    ∙ ap (after (past_of m a held requests admitted)) (session-limit m now (held.rest ++ rest) no_supply) in
    let asked : (session_from m (start before) a rest).requests ≡ requests + 0 = ap (λ (x : Session S Q E). x.requests) e in
    let some : (session_from m (start before) a rest).admitted ≡ admitted + 0 = ap (λ (x : Session S Q E). x.admitted) e in
    let size : (session_from m (start before) a rest).answered ≡ held.at + 0 = ap (λ (x : Session S Q E). x.answered) e in
    record {
      completes = record {
        output = ap (λ (x : Session S Q E). x.output) e ∙ append-nil a.output;
        asks = ap (λ (x : Session S Q E). x.asks) e ∙ append-nil (asks_of m a);
        stops = ap (λ (x : Session S Q E). x.stop) e;
        state = ap (λ (x : Session S Q E). x.state) e;
        none_left = ap (λ (x : Session S Q E). x.left) e;
      };
      requests = omega (arith, asked, all);
      admitted = omega (arith, some);
      within = omega (arith, size, reached.counted);
    }

-- ---- reads

-- reads before the last step stay prompt
prompt_before : {S Q E : Type 0} (m : Machine S Q E) (before : S) (a u : Account E) (r : ℕ × ℕ) → IsPrompt m before a r → IsPrompt m before (join a u) r
prompt_before {S = S} {Q = Q} {E = E} m before a u r p = record {
  in_input = let size : length (a.input ++ u.input) ≡ length a.input + length u.input = length-append a.input u.input in omega (arith, p.in_input);
  in_output = let size : length (a.output ++ u.output) ≡ length a.output + length u.output = length-append a.output u.output in omega (arith, p.in_output);
  wrote = λ more. ap (λ (s : Session S Q E). s.output) (is more) ∙ p.wrote (add (supply_of u) more) ∙ sym (take-append-le r.1 a.output u.output p.in_output);
  open_still = λ more. subst IsOpen (sym (ap (λ (s : Session S Q E). s.stop) (is more))) (p.open_still (add (supply_of u) more));
}
  where
    is : (more : Supply E) → session m 4096 before (take r.0 (a.input ++ u.input)) (add (supply_of (join a u)) more) ≡ session m 4096 before (take r.0 a.input) (add (supply_of a) (add (supply_of u) more))
    is more = ap (λ (l : List ℕ). session m 4096 before l (add (supply_of (join a u)) more)) (take-append-le r.0 a.input u.input p.in_input)
        ∙ ap (λ (s : Supply E). session m 4096 before (take r.0 a.input) s) (add_add (supply_of a) (supply_of u) more)

-- reads in it are
prompt_since : {S Q E : Type 0} (m : Machine S Q E) (before now : S) (a u : Account E) (held : Held) (requests admitted : ℕ) (r : ℕ × ℕ) → Reached m before now a held requests admitted →
    IsPromptAt m (place_at now held requests admitted) u r → IsPrompt m before (join a u) (shifted (length a.input) (length a.output) r)
prompt_since {S = S} {Q = Q} {E = E} m before now a u held requests admitted r reached p = record {
  in_input = let size : length (a.input ++ u.input) ≡ length a.input + length u.input = length-append a.input u.input in omega (arith, p.in_input);
  in_output = let size : length (a.output ++ u.output) ≡ length a.output + length u.output = length-append a.output u.output in omega (arith, p.in_output);
  wrote = λ more. ap (λ (s : Session S Q E). s.output) (is more) ∙ ap (λ (l : List ℕ). a.output ++ l) (p.wrote more) ∙ sym (take-append-add a.output u.output r.1);
  open_still = λ more. subst IsOpen (sym (ap (λ (s : Session S Q E). s.stop) (is more))) (p.open_still more);
}
  where
    is : (more : Supply E) → session m 4096 before (take (length a.input + r.0) (a.input ++ u.input)) (add (supply_of (join a u)) more)
        ≡ after (past_of m a held requests admitted) (session m (4096 - requests) now (held.rest ++ take r.0 u.input) (add (supply_of u) more))
    is more = ap (λ (l : List ℕ). session m 4096 before l (add (supply_of (join a u)) more)) (take-append-add a.input u.input r.0)
        ∙ ap (λ (s : Supply E). session m 4096 before (a.input ++ take r.0 u.input) s) (add_add (supply_of a) (supply_of u) more)
        ∙ reached.goes (take r.0 u.input) (add (supply_of u) more)

all_before : {S Q E : Type 0} (m : Machine S Q E) (before : S) (a u : Account E) (reads : List (ℕ × ℕ)) → AllByRecursion (IsPrompt m before a) reads → AllByRecursion (IsPrompt m before (join a u)) reads
all_before m before a u [] all = tt
all_before m before a u (r ∷ reads) all = (prompt_before m before a u r all.0, all_before m before a u reads all.1)

all_since : {S Q E : Type 0} (m : Machine S Q E) (before now : S) (a u : Account E) (held : Held) (requests admitted : ℕ) (reads : List (ℕ × ℕ)) → Reached m before now a held requests admitted →
    AllByRecursion (IsPromptAt m (place_at now held requests admitted) u) reads → AllByRecursion (IsPrompt m before (join a u)) (map (shifted (length a.input) (length a.output)) reads)
all_since m before now a u held requests admitted [] reached all = tt
all_since m before now a u held requests admitted (r ∷ reads) reached all =
    (prompt_since m before now a u held requests admitted r reached all.0, all_since m before now a u held requests admitted reads reached all.1)

all_append : (P : ℕ × ℕ → Type 0) (xs ys : List (ℕ × ℕ)) → AllByRecursion P xs → AllByRecursion P ys → AllByRecursion P (xs ++ ys)
all_append P [] ys p q = q
all_append P (x ∷ xs) ys p q = (p.0, all_append P xs ys p.1 q)

pub prompt_join : {S Q E : Type 0} (m : Machine S Q E) (before now : S) (a u : Account E) (held : Held) (requests admitted : ℕ) → Reached m before now a held requests admitted →
    AllByRecursion (IsPrompt m before a) a.reads → AllByRecursion (IsPromptAt m (place_at now held requests admitted) u) u.reads → AllByRecursion (IsPrompt m before (join a u)) (join a u).reads
prompt_join m before now a u held requests admitted reached p q =
    all_append (IsPrompt m before (join a u)) a.reads (map (shifted (length a.input) (length a.output)) u.reads) (all_before m before a u a.reads p) (all_since m before now a u held requests admitted u.reads reached q)

-- ---- all that the link had to give

-- what was read and what is left are what there was
told_input : {E : Type 0} (left left' : Option (List ℕ)) (a : Account E) → Consumes left left' a.input → (rest : List ℕ) × (whole_input left a ≡ a.input ++ rest) × (IsAtEnd left' → rest ≡ [])
told_input None left' a took = ([], sym (append-nil a.input), λ _. refl)
told_input (Some input) None a took = absurd took
told_input (Some input) (Some rest) a took = (rest, took, λ e. e)

may_follow : (end : End) (rest : List ℕ) → (end ≡ Ended → rest ≡ []) → MayFollow end rest
may_follow Ended rest h = h refl
may_follow CloseAsked rest h = tt
may_follow BadMessage rest h = tt
may_follow Limit rest h = tt

end_behind : {E : Type 0} (left left' : Option (List ℕ)) (a : Account E) (answered : ℕ) → Consumes left left' a.input → answered ≤ length a.input → IsEndBehind left answered left'
end_behind None left' a answered took within = tt
end_behind (Some input) None a answered took within = took
end_behind (Some input) (Some left) a answered took within = (drop answered a.input, ap (drop answered) took ∙ drop-append-le answered a.input left within)

-- the answer, of the session over all that the link had to give
pub tells : {S Q E : Type 0} (m : Machine S Q E) (lacked : Lack → Q → Type 0) (before now : S) (left left' : Option (List ℕ)) (a : Account E) (r : Result Served ServeError) → Consumes left left' a.input → LeavesNone left' r →
    Follows m lacked (start before) now a r → Tells m lacked before now left left' a r
tells {S = S} {Q = Q} {E = E} m lacked before now left left' a (Ok served) took none f =
    let told = told_input left left' a took in
    let here = f told.0 (may_follow served.end told.0 (λ e. told.2 (none e))) in
    let P : List ℕ → Type 0 = λ l. Completes (session m 4096 before l (supply_of a)) m a (stop_of served.end) now × (served.requests ≡ (session m 4096 before l (supply_of a)).requests)
    × (served.admitted ≡ (session m 4096 before l (supply_of a)).admitted) × ((session m 4096 before l (supply_of a)).answered ≤ length a.input) in
    let whole = subst P (sym told.1) (here.completes, omega (arith, here.requests), omega (arith, here.admitted), here.within) in
    record {
      completes = whole.0;
      requests = whole.1;
      admitted = whole.2;
      behind = end_behind left left' a _ took whole.3;
      at_end = none;
    }
tells m lacked before now left left' a (Err (Truncated at)) took none f =
    let told = told_input left left' a took in
    let P : List ℕ → Type 0 = λ l. Completes (session m 4096 before l (supply_of a)) m a Inside now × (at ≡ (session m 4096 before l (supply_of a)).answered) in
    let whole = subst P (ap (λ (l : List ℕ). a.input ++ l) (sym (told.2 none)) ∙ sym told.1) (f.0, omega (arith, f.1)) in
    record { completes = whole.0; place = whole.1; at_end = none }
tells m lacked before now left left' a (Err ReadFault) took none f = subst (λ (l : List ℕ). (stop : Stop _) × IsOpen stop × Completes (session m 4096 before l (supply_of a)) m a stop now) (append-nil a.input) f
tells m lacked before now left left' a (Err WriteFault) took none f = subst (λ (l : List ℕ). Begins (session m 4096 before l (supply_of a)) m a × ((session m 4096 before l (supply_of a)).state ≡ now)) (append-nil a.input) f
tells m lacked before now left left' a (Err RandomFault) took none f = subst (λ (l : List ℕ). (ask : _) × lacked Random ask × Completes (session m 4096 before l (supply_of a)) m a (Lacking ask) now) (append-nil a.input) f
tells m lacked before now left left' a (Err (Worn calls)) took none f = subst (λ (l : List ℕ). (ask : _) × lacked (TableWorn calls) ask × Completes (session m 4096 before l (supply_of a)) m a (Lacking ask) now) (append-nil a.input) f
tells m lacked before now left left' a (Err OutOfMemory) took none f = subst (λ (l : List ℕ). Begins (session m 4096 before l (supply_of a)) m a) (append-nil a.input) f
