-- What one place of the lists says.
use Rattle.std.proofs.Common.{◌≡◌, ℕ, ◌<◌, List, Option, Result, Ok, Err, ap, subst}
use Rattle.std.specs.Prelude.{IfOk, OnErr}
use Rattle.auth_decide.specs.declared.site.Site.{Site}
use Rattle.auth_grammar.specs.declared.octets.OutOfMemory.{OutOfMemory}
use Rattle.auth_io.specs.Files.{Contents}
use Rattle.auth_io.specs.Handing.{Handed}
use Rattle.auth_io.specs.declared.files.Ending.{Ending}
use Rattle.nonce_shard.specs.Seat.{SameSeat, Seat}
use Rattle.origin_core.specs.Laws.{passed_none, passed_then}
use Rattle.request_deciding.specs.Findings.{found_in}
use Rattle.request_deciding.specs.Laws.{lacked_later}
use Rattle.worker_loop.specs.Connections.{worker_state}
use Rattle.worker_loop.specs.Seating.{EndsAsWorst, ServesPlace}
use Rattle.worker_loop.specs.Service.{IsLawful, Service}
use Rattle.worker_loop.specs.Workers.{Serves}
use Rattle.worker_loop.specs.declared.finish.Finish.{Finish}
use Rattle.worker_loop.specs.declared.finish.Finish.TheVariants.{Well}
use Rattle.listen_core.specs.Service.{outside_at}
use Rattle.listen_core.specs.Workers.{origin_service, seat_of, server_of, state_of, worker_of}
use Rattle.listen_core.specs.declared.server.OriginServer.{OriginServer}
use Rattle.listen_core.specs.declared.workers.Worker.{Worker}

abbrev made_of : {F C W T : Type 0} → F → C → W → T → OriginServer F C W T
made_of files clock random seat = record { files = files; clock = clock; random = random; seat = seat }

same_parts : {F C W T : Type 0} (a a' : F) (b b' : C) (c c' : W) (d d' : T) → a ≡ a' → b ≡ b' → c ≡ c' → d ≡ d' → made_of a b c d ≡ made_of a' b' c' d'
same_parts a a' b b' c c' d d' p q r s = cc

same_server : {A F C W T : Type 0} (accept : A) (server : OriginServer F C W T) (worker : Worker A F C W) (seat : T) → worker_of accept server ≡ worker → seat_of accept server ≡ seat → server ≡ server_of worker seat
same_server {A} {F} {C} {W} {T} accept server worker seat p q =
    same_parts server.files worker.files server.clock worker.clock server.random worker.random server.seat seat
    (ap (λ (w : Worker A F C W). w.files) p) (ap (λ (w : Worker A F C W). w.clock) p) (ap (λ (w : Worker A F C W). w.random) p) q

same_accept : {A F C W T : Type 0} (accept : A) (server : OriginServer F C W T) (worker : Worker A F C W) → worker_of accept server ≡ worker → accept ≡ worker.accept
same_accept {A} {F} {C} {W} {T} accept server worker p = ap (λ (w : Worker A F C W). w.accept) p

at_same : {A O : Type 0} (P : A → O → A → O → Type 0) (a a' : A) (s s' : O) (b b' : A) (t t' : O) → a ≡ a' → s ≡ s' → b ≡ b' → t ≡ t' → P a s b t → P a' s' b' t'
at_same P a a' s s' b b' t t' p q r u h =
    subst (λ t. P a' s' b' t) u (subst (λ b. P a' s' b t) r (subst (λ s. P a' s b t) q (subst (λ a. P a s b t) p h)))

-- The worker and its seat there have served.
pub serves_there : {S Q E A F C W T : Type 0} (k : Service S Q E (OriginServer F C W T)) (coming : A → Option (List (List ℕ))) (handed : A → Option Handed) (faults : A → ℕ) (w w' : Worker A F C W) (t t' : T) (stated : ℕ) (finish : Finish) →
    ServesPlace k coming handed faults worker_of seat_of w t w' t' stated finish → Serves k (state_of coming handed faults w t) (state_of coming handed faults w' t') stated finish
serves_there k coming handed faults w w' t t' stated finish p =
    at_same (λ a s b u. Serves k (worker_state coming handed faults a s) (worker_state coming handed faults b u) stated finish) _ _ _ _ _ _ _ _
    (same_accept p.accept p.server w p.worker_before) (same_server p.accept p.server w t p.worker_before p.seat_before)
    (same_accept p.accept' p.server' w' p.worker_after) (same_server p.accept' p.server' w' t' p.worker_after p.seat_after)
    p.serves

-- ---- how a site is served

pub origin_laws : {F C W T : Type 0} (contents : F → Option Contents) (asked : F → Option (List (List ℕ × Ending))) (file_faults : F → ℕ) (shown : C → Option (List ℕ)) (drawn : W → Option (List (List ℕ))) (random_faults : W → ℕ) (seat : T → Seat) (site : Site) →
    IsLawful (origin_service contents asked file_faults shown drawn random_faults seat site)
origin_laws {F} {C} {W} {T} contents asked file_faults shown drawn random_faults seat site =
    let at = λ (s : OriginServer F C W T). outside_at contents asked file_faults drawn random_faults seat s in
    record {
      passed_none = λ a. passed_none (at a);
      passed_join = λ a b c xs ys p q. passed_then (at a) (at b) (at c) xs ys p q;
      lacked_later = λ a b c xs p. lacked_later (at a).table (at b).table (at c).table (found_in xs) p.table;
    }

-- what holds at a place, whether the workers served or the lists went back as they were
pub at_place : {X Y : Type 0} (r : Result Finish OutOfMemory) (n : ℕ) (P : ℕ → Finish → Type 0) (k : ℕ) → k < n → IfOk r (λ whole. EndsAsWorst n whole P) → OnErr r Y → ((f : Finish) → P k f → X) → (Y → X) → X
at_place (Ok whole) n P k below ends refused served given = served _ (ends.places k Well below)
at_place (Err e) n P k below ends refused served given = given refused

-- The seat there has grown by calls alone.
pub same_seat : {A F C W T : Type 0} (contents : F → Option Contents) (asked : F → Option (List (List ℕ × Ending))) (file_faults : F → ℕ) (shown : C → Option (List ℕ)) (drawn : W → Option (List (List ℕ))) (random_faults : W → ℕ) (seat : T → Seat) (site : Site)
    (coming : A → Option (List (List ℕ))) (handed : A → Option Handed) (faults : A → ℕ) (w w' : Worker A F C W) (t t' : T) (stated : ℕ) (finish : Finish) →
    ServesPlace (origin_service contents asked file_faults shown drawn random_faults seat site) coming handed faults worker_of seat_of w t w' t' stated finish → SameSeat (seat t) (seat t')
same_seat contents asked file_faults shown drawn random_faults seat site coming handed faults w w' t t' stated finish p =
    (serves_there (origin_service contents asked file_faults shown drawn random_faults seat site) coming handed faults w w' t t' stated finish p).passes.outside.table.calls.same
