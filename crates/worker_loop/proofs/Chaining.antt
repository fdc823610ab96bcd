-- Connections that were served one after the other.
use Rattle.std.proofs.Common.{◌≡◌, ℕ, List, [], ◌∷◌, ◌++◌, map, refl, sym, ap, ◌∙◌, subst, append_assoc}
use Rattle.std.proofs.lemmas.List.{map-append}
use Rattle.std.specs.List.{AllByRecursion}
use Rattle.auth_io.proofs.Handing.{HandsAll_none, HandsAll_then, TakesAll_none, TakesAll_then}
use Rattle.auth_io.proofs.Passing.{Adds_none, Adds_trans}
use Rattle.auth_io.specs.Told.{Adds}
use Rattle.worker_loop.specs.Connections.{Chains, Connection, IsConnection, Passes, WorkerState, entry_of, events_of, left_of, moments_of}
use Rattle.worker_loop.specs.Service.{IsLawful, Service}

-- ---- lists

events_of-append : {E O : Type 0} (cs ds : List (Connection E O)) → events_of (cs ++ ds) ≡ events_of cs ++ events_of ds
events_of-append [] ds = refl
events_of-append {E} (c ∷ cs) ds = ap (λ (l : List E). c.account.events ++ l) (events_of-append cs ds) ∙ sym (append_assoc c.account.events (events_of cs) (events_of ds))

moments_of-append : {E O : Type 0} (cs ds : List (Connection E O)) → moments_of (cs ++ ds) ≡ moments_of cs ++ moments_of ds
moments_of-append [] ds = refl
moments_of-append (c ∷ cs) ds = ap (λ (l : List ℕ). c.account.moments ++ l) (moments_of-append cs ds) ∙ sym (append_assoc c.account.moments (moments_of cs) (moments_of ds))

pub all_append : {A : Type 0} (P : A → Type 0) (xs ys : List A) → AllByRecursion P xs → AllByRecursion P ys → AllByRecursion P (xs ++ ys)
all_append P [] ys p q = q
all_append P (x ∷ xs) ys p q = (p.0, all_append P xs ys p.1 q)

pub all_last : {A : Type 0} (P : A → Type 0) (xs : List A) (y : A) → AllByRecursion P (xs ++ y ∷ []) → P y
all_last P [] y p = p.0
all_last P (x ∷ xs) y p = all_last P xs y p.1

chains_from : {E O : Type 0} (u v w : O) (ds : List (Connection E O)) → v ≡ u → Chains v ds w → Chains u ds w
chains_from {E} {O} u v w ds is q = subst (λ (o : O). Chains o ds w) is q

chains_then : {E O : Type 0} (u v w : O) (cs ds : List (Connection E O)) → Chains u cs v → Chains v ds w → Chains u (cs ++ ds) w
chains_then u v w [] ds p q = chains_from u v w ds p q
chains_then u v w (c ∷ cs) ds p q = (p.0, chains_then c.now v w cs ds p.1 q)

-- ---- all of them

pub passes_none : {S Q E O : Type 0} (k : Service S Q E O) (laws : IsLawful k) (u : WorkerState O) → Passes k u u []
passes_none k laws u = record {
  coming = HandsAll_none u.coming;
  handed = TakesAll_none u.handed;
  chain = refl;
  shown = Adds_none (k.shown u.server);
  outside = laws.passed_none u.server;
  each = tt;
}

-- These were served, and then those.
pub passes_then : {S Q E O : Type 0} (k : Service S Q E O) (laws : IsLawful k) (u v w : WorkerState O) (cs ds : List (Connection E O)) → Passes k u v cs → Passes k v w ds → Passes k u w (cs ++ ds)
passes_then {E = E} k laws u v w cs ds p q = record {
  coming = rw (map-append left_of cs ds) (HandsAll_then u.coming v.coming w.coming (map left_of cs) (map left_of ds) p.coming q.coming);
  handed = rw (map-append entry_of cs ds) (TakesAll_then u.handed v.handed w.handed (map entry_of cs) (map entry_of ds) p.handed q.handed);
  chain = chains_then u.server v.server w.server cs ds p.chain q.chain;
  shown = subst (λ (l : List ℕ). Adds (k.shown u.server) (k.shown w.server) l) (sym (moments_of-append cs ds)) (Adds_trans (k.shown u.server) (k.shown v.server) (k.shown w.server) (moments_of cs) (moments_of ds) p.shown q.shown);
  outside = subst (λ (l : List E). k.passed u.server w.server l) (sym (events_of-append cs ds)) (laws.passed_join u.server v.server w.server (events_of cs) (events_of ds) p.outside q.outside);
  each = all_append (IsConnection k) cs ds p.each q.each;
}
