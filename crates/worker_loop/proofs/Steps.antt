-- From connection to connection.
use Rattle.std.proofs.Common.{◌≡◌, ◌≢◌, ◌<◌, ◌+◌, ℕ, Bool, true, false, ◌||◌, List, [], ◌∷◌, ◌++◌, length, Option, Result, Ok, Err, refl, sym, ap, ◌∙◌, subst, append-nil, length-append, arith}
use Rattle.std.proofs.lemmas.Bool.Decides.{nat_tests}
use Rattle.std.specs.List.{AllByRecursion}
use Rattle.std.specs.Prelude.{nat_lt}
use Rattle.auth_io.proofs.Handing.{HandsAll_one, TakesAll_one}
use Rattle.auth_io.specs.Causes.{Rose}
use Rattle.auth_io.specs.Handing.{Handed, HandsFirst, HandsOut, StartsEmpty, TakesBack, has_fault}
use Rattle.auth_io.specs.Told.{Adds}
use Rattle.auth_io.specs.declared.stream.Failed.{Failed}
use Rattle.connection_loop.proofs.Prefixes.{is_front}
use Rattle.connection_loop.specs.Account.{LinkState}
use Rattle.connection_loop.specs.Results.{ServesSession}
use Rattle.connection_loop.specs.declared.served.Served.{Served}
use Rattle.connection_loop.specs.declared.served.ServeError.{ServeError}
use Rattle.connection_loop.specs.declared.served.ServeError.TheVariants.{Truncated, ReadFault, WriteFault, RandomFault, Worn, OutOfMemory}
use Rattle.worker_loop.proofs.Chaining.{all_append, passes_none, passes_then}
use Rattle.worker_loop.specs.Connections.{Connection, HasLinkFault, Passes, WorkerState}
use Rattle.worker_loop.specs.Ends.{after, is_no_memory}
use Rattle.worker_loop.specs.Service.{IsLawful, Service}
use Rattle.worker_loop.specs.Workers.{Serves, ServesOne, WentOn, wants_memory}
use Rattle.worker_loop.specs.declared.finish.After.{After}
use Rattle.worker_loop.specs.declared.finish.After.TheVariants.{Stop}
use Rattle.worker_loop.specs.declared.finish.Finish.TheVariants as finish

-- ---- one connection

or_true : (b : Bool) → (b || true) ≡ true
or_true true = refl
or_true false = refl

above_none : (r : ℕ) → 0 < r → nat_lt 0 r ≡ true
above_none r h = grind (arith, nat_tests)

read_failed : (r w : ℕ) → 0 < r → has_fault r w ≡ true
read_failed r w h = ap (λ (b : Bool). b || nat_lt 0 w) (above_none r h)

write_failed : (r w : ℕ) → 0 < w → has_fault r w ≡ true
write_failed r w h = ap (λ (b : Bool). nat_lt 0 r || b) (above_none w h) ∙ or_true (nat_lt 0 r)

link_fault : (result : Result Served ServeError) (r r' w w' : ℕ) → r ≡ 0 → w ≡ 0 → (result ≡ Err ReadFault → Rose r r') → (result ≡ Err WriteFault → Rose w w') → HasLinkFault result (has_fault r' w')
link_fault (Ok served) r r' w w' p q f g = tt
link_fault (Err (Truncated at)) r r' w w' p q f g = tt
link_fault (Err ReadFault) r r' w w' p q f g = let rose : Rose r r' = f refl in read_failed r' w' (omega arith)
link_fault (Err WriteFault) r r' w w' p q f g = let rose : Rose w w' = g refl in write_failed r' w' (omega arith)
link_fault (Err RandomFault) r r' w w' p q f g = tt
link_fault (Err (Worn calls)) r r' w w' p q f g = tt
link_fault (Err OutOfMemory) r r' w w' p q f g = tt

-- A connection was handed out, served, and taken back.
pub one_served : {S Q E O : Type 0} (k : Service S Q E O) (u v : WorkerState O) (coming : Option (List (List ℕ))) (h : Option Handed) (n : ℕ) (link link' : LinkState) (r r' w w' : ℕ) (result : Result Served ServeError) (how : After) →
    HandsFirst u.coming coming link.left → v.coming ≡ coming → HandsOut u.handed h → StartsEmpty h link.written → TakesBack h v.handed link'.written (has_fault r' w') →
    r ≡ 0 → w ≡ 0 → (result ≡ Err ReadFault → Rose r r') → (result ≡ Err WriteFault → Rose w w') → n ≡ u.faults → v.faults ≡ n →
    ServesSession k.machine (k.lacked u.server v.server) (k.passed u.server v.server) link link' (k.shown u.server) (k.shown v.server) (k.state u.server) (k.state v.server) result → k.ends u.server v.server result → how ≡ after result →
    ServesOne k u v (Ok how)
one_served {S} {Q} {E} {O} k u v coming h n link link' r r' w w' result how hands still out empty back p q f g first faults session ends is =
    let account = session.account in
    let c : Connection E O = record { left = link.left; rest = link'.left; account = account; result = result; failed = has_fault r' w'; before = u.server; now = v.server } in (
      c,
      record {
        coming = HandsAll_one u.coming v.coming link.left (subst (λ (l : Option (List (List ℕ))). HandsFirst u.coming l link.left) (sym still) hands);
        handed = TakesAll_one u.handed h v.handed link.written link'.written account.output (has_fault r' w') out empty session.linked.took back;
        chain = (refl, refl);
        shown = subst (λ (l : List ℕ). Adds (k.shown u.server) (k.shown v.server) l) (sym (append-nil account.moments)) session.moments;
        outside = subst (λ (l : List E). k.passed u.server v.server l) (sym (append-nil account.events)) session.events;
        each = (
          record {
            gave = session.linked.gave;
            moments = session.moments;
            events = session.events;
            front = is_front k.machine (k.lacked u.server v.server) (k.state u.server) (k.state v.server) link.left link'.left account result session.linked.gave session.tells;
            tells = session.tells;
            ends = ends;
            link_fault = link_fault result r r' w w' p q f g;
          },
          tt,
        );
      },
      is,
      faults ∙ first,
    )

-- ---- those so far

-- after each of them the worker went on
pub record Going {S Q E O : Type 0} (k : Service S Q E O) (u v : WorkerState O) (served : ℕ) (wanted : Bool) : Type 0 where
  pub connections : List (Connection E O)
  pub passes : Passes k u v connections
  pub number : length connections ≡ served
  pub went_on : AllByRecursion WentOn connections
  pub wants : wants_memory connections ≡ wanted
  pub faults : v.faults ≡ u.faults

pub going_none : {S Q E O : Type 0} (k : Service S Q E O) (laws : IsLawful k) (u : WorkerState O) → Going k u u 0 false
going_none k laws u = record { connections = []; passes = passes_none k laws u; number = refl; went_on = tt; wants = refl; faults = refl }

or_assoc : (a b c : Bool) → ((a || b) || c) ≡ (a || (b || c))
or_assoc true b c = refl
or_assoc false b c = refl

wants_append : {E O : Type 0} (cs ds : List (Connection E O)) → wants_memory (cs ++ ds) ≡ (wants_memory cs || wants_memory ds)
wants_append [] ds = refl
wants_append (c ∷ cs) ds = ap (λ (b : Bool). is_no_memory (after c.result) || b) (wants_append cs ds) ∙ sym (or_assoc (is_no_memory (after c.result)) (wants_memory cs) (wants_memory ds))

or_false : (b : Bool) → (b || false) ≡ b
or_false true = refl
or_false false = refl

-- The worker goes on after one more.
pub goes_on : {S Q E O : Type 0} (k : Service S Q E O) (laws : IsLawful k) (u v w : WorkerState O) (served : ℕ) (wanted : Bool) (how : After) → how ≢ Stop → Going k u v served wanted → ServesOne k v w (Ok how) → Going k u w (served + 1) (wanted || is_no_memory how)
goes_on k laws u v w served wanted how on have one =
    let c = one.0 in
    let sizes : length (have.connections ++ c ∷ []) ≡ length have.connections + 1 = length-append have.connections (c ∷ []) in
    record {
      connections = have.connections ++ c ∷ [];
      passes = passes_then k laws u v w have.connections (c ∷ []) have.passes one.1;
      number = omega (arith, sizes, have.number);
      went_on = all_append WentOn have.connections (c ∷ []) have.went_on ((λ is. on (one.2 ∙ is)), tt);
      wants = wants_append have.connections (c ∷ []) ∙ ap (λ (b : Bool). b || (is_no_memory (after c.result) || false)) have.wants ∙ ap (λ (b : Bool). wanted || b) (or_false (is_no_memory (after c.result)) ∙ ap is_no_memory (sym one.2));
      faults = one.3 ∙ have.faults;
    }

-- ---- how it ends

pub stops_worn : {S Q E O : Type 0} (k : Service S Q E O) (laws : IsLawful k) (u v w : WorkerState O) (served stated : ℕ) (wanted : Bool) → served < stated → Going k u v served wanted → ServesOne k v w (Ok Stop) → Serves k u w stated finish.Worn
stops_worn k laws u v w served stated wanted below have one =
    let c = one.0 in
    let sizes : length (have.connections ++ c ∷ []) ≡ length have.connections + 1 = length-append have.connections (c ∷ []) in
    record {
      connections = have.connections ++ c ∷ [];
      passes = passes_then k laws u v w have.connections (c ∷ []) have.passes one.1;
      finishes = record {
        number = omega (arith, sizes, have.number, below);
        front = have.connections;
        last = c;
        are = refl;
        went_on = have.went_on;
        stops = sym one.2;
        faults = one.3 ∙ have.faults;
      };
    }

pub stops_at_fault : {S Q E O : Type 0} (k : Service S Q E O) (laws : IsLawful k) (u v w : WorkerState O) (served stated : ℕ) (wanted : Bool) (failed : Failed) → served < stated → Going k u v served wanted → ServesOne k v w (Err failed) → Serves k u w stated finish.AcceptFault
stops_at_fault k laws u v w served stated wanted failed below have none =
    record {
      connections = have.connections ++ [];
      passes = passes_then k laws u v w have.connections [] have.passes none.0;
      finishes = rw (append-nil have.connections) (record {
        number = omega (arith, have.number, below);
        went_on = have.went_on;
        faults = subst (λ (n : ℕ). Rose n w.faults) have.faults none.1;
      });
    }

pub ends_well : {S Q E O : Type 0} (k : Service S Q E O) (u v : WorkerState O) (stated : ℕ) → Going k u v stated false → Serves k u v stated finish.Well
ends_well k u v stated have = record {
  connections = have.connections;
  passes = have.passes;
  finishes = (record { number = have.number; went_on = have.went_on; faults = have.faults }, have.wants);
}

pub ends_wanting : {S Q E O : Type 0} (k : Service S Q E O) (u v : WorkerState O) (stated : ℕ) → Going k u v stated true → Serves k u v stated finish.OutOfMemory
ends_wanting k u v stated have = record {
  connections = have.connections;
  passes = have.passes;
  finishes = (record { number = have.number; went_on = have.went_on; faults = have.faults }, have.wants);
}
