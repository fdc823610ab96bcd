-- The end of several workers.
use Rattle.std.proofs.Common.{◌≡◌, ◌≢◌, ◌<◌, ℕ, suc, Bool, true, false, cond, List, [], ◌∷◌, ◌++◌, length, get_or, Result, Ok, Err, refl, sym, ◌∙◌, subst, inl, inr, arith}
use Rattle.std.proofs.lemmas.List.{get_or-map, length-map}
use Rattle.std.specs.List.{AllByRecursion}
use Rattle.std.specs.Prelude.{◌⊎◌, IfOk, map, nat_lt}
use Rattle.auth_grammar.specs.declared.octets.OutOfMemory.{OutOfMemory}
use Rattle.auth_io.specs.Causes.{Rose}
use Rattle.connection_loop.specs.Results.{Tells}
use Rattle.connection_loop.specs.declared.responder.Lack.TheVariants as lack
use Rattle.connection_loop.specs.declared.served.Served.{Served}
use Rattle.connection_loop.specs.declared.served.ServeError.{ServeError}
use Rattle.connection_loop.specs.declared.served.ServeError.TheVariants as error
use Rattle.worker_loop.proofs.Chaining.{all_last}
use Rattle.worker_loop.specs.Connections.{Chains, Connection, IsConnection, WorkerState, events_of}
use Rattle.worker_loop.specs.Ends.{after, rank, worse, worst_of}
use Rattle.worker_loop.specs.Seating.{EndsAsWorst}
use Rattle.worker_loop.specs.Service.{IsLawful, Service}
use Rattle.worker_loop.specs.Workers.{Serves}
use Rattle.worker_loop.specs.declared.finish.After.TheVariants.{Stop}
use Rattle.worker_loop.specs.declared.finish.Finish.{Finish}
use Rattle.worker_loop.specs.declared.finish.Finish.TheVariants.{Well, Worn, AcceptFault}

-- ---- the worst of several

one_of_two : (b : Bool) (f g : Finish) → (cond b g f ≡ f) ⊎ (cond b g f ≡ g)
one_of_two true f g = inr refl
one_of_two false f g = inl refl

-- It is the first, or that of one of the others.
is_of_one : (f : Finish) (fs : List Finish) → (worst_of f fs ≡ f) ⊎ ((k : ℕ) × (k < length fs) × ((d : Finish) → get_or fs k d ≡ worst_of f fs))
is_of_one f [] = inl refl
is_of_one f (g ∷ fs) = elim (is_of_one (worse f g) fs) [
  | inl is ↦ elim (one_of_two (nat_lt (rank f) (rank g)) f g) [
    | inl first ↦ inl (is ∙ first)
    | inr here ↦ inr (0, omega arith, λ d. sym (is ∙ here))
  ]
  | inr there ↦ inr (suc there.0, omega (arith, there.1), λ d. there.2 d)
]

-- the place of one that ended as the worst
pub place_in : (fs : List Finish) → worst_of Well fs ≢ Well → (k : ℕ) × (k < length fs) × ((d : Finish) → get_or fs k d ≡ worst_of Well fs)
place_in fs h = elim (is_of_one Well fs) [ inl is ↦ absurd (h is) | inr there ↦ there ]

pub place_of_worst : {X : Type 0} (f : X → Finish) (xs : List X) → worst_of Well (map f xs) ≢ Well → (k : ℕ) × (k < length xs) × ((d : X) → f (get_or xs k d) ≡ worst_of Well (map f xs))
place_of_worst {X} f xs h =
    let there = place_in (map f xs) h in
    let sizes : length (map f xs) ≡ length xs = length-map xs f in
    let below : there.0 < length xs = omega (arith, there.1) in
    (there.0, below, λ d. sym (get_or-map f xs there.0 d Well below) ∙ there.2 Well)

-- ---- what an end says of a worker

pub fault_rose : {S Q E O : Type 0} (k : Service S Q E O) (u v : WorkerState O) (stated : ℕ) (f : Finish) → Serves k u v stated f → f ≡ AcceptFault → Rose u.faults v.faults
fault_rose k u v stated f p is = by (subst (λ (e : Finish). Serves k u v stated e) is p)
  where
    by : Serves k u v stated AcceptFault → Rose u.faults v.faults
    by q = let stopped = q.finishes in stopped.faults

-- the last of them began when those before it were done, and ended when all was
last_began : {S Q E O : Type 0} (k : Service S Q E O) (laws : IsLawful k) (u v : O) (cs : List (Connection E O)) (c : Connection E O) → AllByRecursion (IsConnection k) (cs ++ c ∷ []) → Chains u (cs ++ c ∷ []) v → k.passed u c.before (events_of cs) × (v ≡ c.now)
last_began {E = E} {O = O} k laws u v [] c each p = (subst (λ (o : O). k.passed u o []) (sym p.0) (laws.passed_none u), p.1)
last_began {E = E} {O = O} k laws u v (d ∷ cs) c each p =
    let rest = last_began k laws d.now v cs c each.1 p.1 in
    let first : k.passed u d.now d.account.events = subst (λ (o : O). k.passed o d.now d.account.events) p.0 each.0.events in
    (laws.passed_join u d.now c.before d.account.events (events_of cs) first rest.0, rest.1)

lacked_at_last : {S Q E O : Type 0} (k : Service S Q E O) (c : Connection E O) → after c.result ≡ Stop → IsConnection k c → (calls : ℕ) × (ask : Q) × k.lacked c.before c.now (lack.Worn calls) ask
lacked_at_last {S} {Q} {E} {O} k c stops is = by c.result stops is.tells
  where
    by : (r : Result Served ServeError) → after r ≡ Stop → Tells k.machine (k.lacked c.before c.now) (k.state c.before) (k.state c.now) c.left c.rest c.account r → (calls : ℕ) × (ask : Q) × k.lacked c.before c.now (lack.Worn calls) ask
    by (Ok served) e t = absurd cc
    by (Err (error.Truncated at)) e t = absurd cc
    by (Err error.ReadFault) e t = absurd cc
    by (Err error.WriteFault) e t = absurd cc
    by (Err error.RandomFault) e t = absurd cc
    by (Err (error.Worn calls)) e t = (calls, t.0, t.1)
    by (Err error.OutOfMemory) e t = absurd cc

lacked_where_worn : {S Q E O : Type 0} (k : Service S Q E O) (laws : IsLawful k) (u v : WorkerState O) (stated : ℕ) → Serves k u v stated Worn → (calls : ℕ) × (ask : Q) × k.lacked u.server v.server (lack.Worn calls) ask
lacked_where_worn {S} {Q} {E} {O} k laws u v stated p =
    let stopped = p.finishes in
    let each = subst (λ (l : List (Connection E O)). AllByRecursion (IsConnection k) l) stopped.are p.passes.each in
    let chain = subst (λ (l : List (Connection E O)). Chains u.server l v.server) stopped.are p.passes.chain in
    let began = last_began k laws u.server v.server stopped.front stopped.last each chain in
    let lacked = lacked_at_last k stopped.last stopped.stops (all_last (IsConnection k) stopped.front stopped.last each) in
    (lacked.0, lacked.1, subst (λ (o : O). k.lacked u.server o (lack.Worn lacked.0) lacked.1) (sym began.1) (laws.lacked_later u.server stopped.last.before stopped.last.now (events_of stopped.front) began.0 (lack.Worn lacked.0) lacked.1 lacked.2))

pub worn_lacked : {S Q E O : Type 0} (k : Service S Q E O) (laws : IsLawful k) (u v : WorkerState O) (stated : ℕ) (f : Finish) → Serves k u v stated f → f ≡ Worn → (calls : ℕ) × (ask : Q) × k.lacked u.server v.server (lack.Worn calls) ask
worn_lacked k laws u v stated f p is = lacked_where_worn k laws u v stated (subst (λ (e : Finish). Serves k u v stated e) is p)

-- ---- several of them

-- what holds of each place, where something else does
pub ends_then : (r : Result Finish OutOfMemory) (n : ℕ) (P P' : ℕ → Finish → Type 0) → ((k : ℕ) (f : Finish) → P k f → P' k f) → IfOk r (λ whole. EndsAsWorst n whole P) → IfOk r (λ whole. EndsAsWorst n whole P')
ends_then (Ok whole) n P P' g h = record { finishes = h.finishes; as_many = h.as_many; worst = h.worst; places = λ k f below. g k (get_or h.finishes k f) (h.places k f below) }
ends_then (Err e) n P P' g h = tt

-- the place that ended as all did
pub place_of_end : (r : Result Finish OutOfMemory) (f : Finish) (n : ℕ) (P : ℕ → Finish → Type 0) → f ≢ Well → r ≡ Ok f → IfOk r (λ whole. EndsAsWorst n whole P) → (k : ℕ) × (k < n) × P k f
place_of_end r f n P not_well is h = by (subst (λ (q : Result Finish OutOfMemory). IfOk q (λ whole. EndsAsWorst n whole P)) is h)
  where
    by : EndsAsWorst n f P → (k : ℕ) × (k < n) × P k f
    by ends =
        let there = place_in ends.finishes (λ e. not_well (ends.worst ∙ e)) in
        let below : there.0 < n = omega (arith, there.1, ends.as_many) in
        (there.0, below, subst (λ (e : Finish). P there.0 e) (there.2 Well ∙ sym ends.worst) (ends.places there.0 Well below))
