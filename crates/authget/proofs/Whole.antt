-- The program as a whole.
use Rattle.std.proofs.Common.{◌≡◌, ◌⊎◌, ℕ, true, List, [], Option, Some, None, Result, Ok, Err, take, refl, sym, ◌∙◌, subst, inl, inr}
use Rattle.auth_io.proofs.Passing.{Appends_none}
use Rattle.std.specs.Io.KnownBytes.{Appends}
use Rattle.client_core.specs.declared.state.State.{State}
use Rattle.client_core.specs.Clients.{fits, new_state}
use Rattle.authget.specs.Endings.{Accepts, Does, Done, Ending, FetchesSo, IsRefused, Performs, Refused, Stopped, TellsUsage, World, status_of, usage_line}
use Rattle.authget.specs.Passwords.{ReadsLine}
use Rattle.authget.specs.Requests.{role_of}
use Rattle.authget.specs.Stops.{stop_status}
use Rattle.authget.specs.Telling.{Heard, Tells}
use Rattle.authget.specs.declared.plan.Plan.{Plan}
use Rattle.authget.specs.declared.stop.Stop.{Stop}
use Rattle.authget.specs.declared.stop.Stop.TheVariants.{OutOfMemory}

-- ---- what was performed

abbrev accepts : (asked : Option Plan) (u v : World) (plan : Plan) (line : List ℕ) → Some plan ≡ asked → ReadsLine u.left v.left (Ok line) → fits plan.name line ≡ true → Accepts asked u v
accepts asked u v plan line is reads fit = record { plan = plan; asks = sym is; line = line; reads = reads; fit = fit }

pub performs_done : (asked : Option Plan) (u v : World) (plan : Plan) (line : List ℕ) (client : State) (status : ℕ) → Some plan ≡ asked → ReadsLine u.left v.left (Ok line) →
    (client ≡ new_state (role_of plan.proxy) plan.name line) → fits plan.name line ≡ true → FetchesSo plan client u.scene v.scene (Ok status) → Performs asked u v (Ok (Some status))
performs_done asked u v plan line client status is reads new fit done =
    let so = subst (λ (s : State). FetchesSo plan s u.scene v.scene (Ok status)) new done in
    (accepts asked u v plan line is reads fit, so.0, so.1, so.2)

pub performs_broken : (asked : Option Plan) (u v : World) (plan : Plan) (line : List ℕ) (client : State) (stop : Stop) → Some plan ≡ asked → ReadsLine u.left v.left (Ok line) →
    (client ≡ new_state (role_of plan.proxy) plan.name line) → fits plan.name line ≡ true → FetchesSo plan client u.scene v.scene (Err stop) → Performs asked u v (Err stop)
performs_broken asked u v plan line client stop is reads new fit broken =
    let so = subst (λ (s : State). FetchesSo plan s u.scene v.scene (Err stop)) new broken in
    inr (accepts asked u v plan line is reads fit, so)

-- ---- what the program does

pub does_done : (asked : Option Plan) (u v : World) (status : ℕ) → Performs asked u v (Ok (Some status)) → (ending : Ending) × (status ≡ status_of ending) × Does asked u v ending
does_done asked u v status p = (Done p.1, p.3, (p.0, p.2))

-- the same world but for diag
pub record OnlyTold (v w : World) : Type 0 where
  pub outside : w.scene.outside ≡ v.scene.outside
  pub output : w.scene.output ≡ v.scene.output
  pub left : w.left ≡ v.left

refused_then : (asked : Option Plan) (u v w : World) → OnlyTold v w → IsRefused asked u v → IsRefused asked u w
refused_then None u v w same p = ((same.outside ∙ p.0.0, same.output ∙ p.0.1), same.left ∙ p.1)
refused_then (Some plan) u v w same p =
    ((same.outside ∙ p.0.0, same.output ∙ p.0.1), p.1, subst (λ l. ReadsLine u.left l (Ok p.1)) (sym same.left) p.2, p.3)

pub does_refused : (asked : Option Plan) (u v w : World) (status : ℕ) → Performs asked u v (Ok None) → OnlyTold v w → TellsUsage v.scene.diag w.scene.diag status →
    (ending : Ending) × (status ≡ status_of ending) × Does asked u w ending
does_refused asked u v w status p same (inl told) =
    (Refused, told.0, (refused_then asked u v w same p.0, subst (λ (h : Heard). Tells h w.scene.diag usage_line) p.1 told.1))
does_refused asked u v w status p same (inr told) =
    (Stopped OutOfMemory, told.0, inr (inl (refused_then asked u v w same p.0, refl, told.1, subst (λ (h : Heard). Appends h.written w.scene.diag.written (take told.1 usage_line)) p.1 told.2)))

pub does_stopped : (asked : Option Plan) (u v : World) (stop : Stop) → Performs asked u v (Err stop) → (ending : Ending) × (stop_status stop ≡ status_of ending) × Does asked u v ending
does_stopped asked u v stop (inl p) =
    (Stopped stop, refl, inl (p.0, subst (λ (h : Heard). Appends u.scene.diag.written h.written []) (sym p.1) (Appends_none u.scene.diag.written)))
does_stopped asked u v stop (inr p) = (Stopped stop, refl, inr (inr p))

-- the words by another name
pub by_words : {A : Type 0} (a b : A) → a ≡ b → (f : A → Option Plan) (u v : World) (result : Result (Option ℕ) Stop) → Performs (f a) u v result → Performs (f b) u v result
by_words a b same f u v result p = subst (λ x. Performs (f x) u v result) same p

-- one error by two names
pub stop_same : {A : Type 0} (result : Result A Stop) (a b c : Stop) → result ≡ Err a → a ≡ b → result ≡ Err c → b ≡ c
stop_same result a b c p q r = cc

-- a count of the outside or of the output has risen
pub rose_in : (A B C : Type 0) → A ⊎ B → A ⊎ (C ⊎ B)
rose_in A B C (inl r) = inl r
rose_in A B C (inr r) = inr (inr r)
