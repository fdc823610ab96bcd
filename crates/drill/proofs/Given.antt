-- Credentials of Digest have its scheme.
use Rattle.std.proofs.Common.{◌≡◌, inl, inr, ℕ, Bool, true, false, codes, List, Option, Some, None, refl, ap, subst}
use Rattle.std.specs.Prelude.{if◌then◌else◌}
use Rattle.client_core.specs.Digests.{DrewAtMost, can_use, given_by_nonce, given_with, next_draw}
use Rattle.client_core.specs.Givings.{again_by, again_given, again_next, by_choice, given, given_at, or_choice}
use Rattle.client_core.specs.Scrams.{can_reuse}
use Rattle.client_core.specs.declared.request.OutRequest.{OutRequest}
use Rattle.client_core.specs.declared.request.Sent.{Sent}
use Rattle.client_core.specs.declared.request.Sent.TheVariants as sent
use Rattle.client_core.specs.declared.state.Chosen.{Chosen}
use Rattle.client_core.specs.declared.state.Chosen.TheVariants.{Nothing, Digest, Scram}
use Rattle.client_core.specs.declared.state.DigestChoice.{DigestChoice}
use Rattle.client_core.specs.declared.state.Exchange.{Exchange}
use Rattle.client_core.specs.declared.state.Progress.{Progress}
use Rattle.client_core.specs.declared.state.Progress.TheVariants as progress
use Rattle.client_core.specs.declared.state.Reuse.{Reuse}
use Rattle.client_core.specs.declared.state.State.{State}

abbrev pub IsDigestSent : Sent → Type 0
IsDigestSent (sent.Digest item) = item.scheme ≡ codes "Digest"
IsDigestSent sent.Nothing = Unit {0}
IsDigestSent (sent.ScramFirst item) = Unit {0}
IsDigestSent (sent.ScramFinal item) = Unit {0}
IsDigestSent (sent.ScramAgain item) = Unit {0}

by_nonce : (s : State) (request : OutRequest) (words : List ℕ) (choice : DigestChoice) (nonce : Option (List ℕ)) → IsDigestSent (given_by_nonce s request words choice nonce).0
by_nonce s request words choice None = tt
by_nonce s request words choice (Some nonce) = by (can_use s.role s.drawn choice nonce request)
  where
    by : (b : Bool) → IsDigestSent (if b then given_with s choice (next_draw s.drawn choice nonce words) request else (sent.Nothing, s)).0
    by true = refl
    by false = tt

chosen_sent : (s : State) (request : OutRequest) (words : List ℕ) (choice : Chosen) → IsDigestSent (by_choice s request words choice).0
chosen_sent s request words Nothing = tt
chosen_sent s request words (Digest choice) = by_nonce s request words choice choice.nonce
chosen_sent s request words (Scram choice) = tt

again_by_sent : (s : State) (request : OutRequest) (moment : ℕ) (words : List ℕ) (x : Exchange) (reuse : Option Reuse) → IsDigestSent (or_choice s request words (again_by s moment words x reuse)).0
again_by_sent s request moment words x None = chosen_sent s request words s.choice
again_by_sent s request moment words x (Some reuse) = by (can_reuse s.drawn reuse moment)
  where
    by : (b : Bool) → IsDigestSent (or_choice s request words (if b then Some (again_next s x reuse words) else None)).0
    by true = tt
    by false = chosen_sent s request words s.choice

again_sent : (s : State) (request : OutRequest) (moment : ℕ) (words : List ℕ) (p : Progress) (reuse : Option Reuse) → IsDigestSent (or_choice s request words (again_given s moment words p reuse)).0
again_sent s request moment words progress.Nothing reuse = chosen_sent s request words s.choice
again_sent s request moment words (progress.Begun first) reuse = chosen_sent s request words s.choice
again_sent s request moment words (progress.Answered x) reuse = chosen_sent s request words s.choice
again_sent s request moment words (progress.Finished x nonce) reuse = again_by_sent s request moment words x reuse

at_sent : (s : State) (request : OutRequest) (moment : ℕ) (words : List ℕ) (p : Progress) → IsDigestSent (given_at s request moment words p).0
at_sent s request moment words (progress.Answered x) = tt
at_sent s request moment words progress.Nothing = again_sent s request moment words s.progress s.reuse
at_sent s request moment words (progress.Begun first) = again_sent s request moment words s.progress s.reuse
at_sent s request moment words (progress.Finished x nonce) = again_sent s request moment words s.progress s.reuse

pub digest_sent : (s : State) (request : OutRequest) (moment : ℕ) (words : List ℕ) → IsDigestSent (given s request moment words).0
digest_sent s request moment words = at_sent s request moment words s.progress

-- ---- the role

by_nonce_role : (s : State) (request : OutRequest) (words : List ℕ) (choice : DigestChoice) (nonce : Option (List ℕ)) → (given_by_nonce s request words choice nonce).1.role ≡ s.role
by_nonce_role s request words choice None = refl
by_nonce_role s request words choice (Some nonce) = by (can_use s.role s.drawn choice nonce request)
  where
    by : (b : Bool) → (if b then given_with s choice (next_draw s.drawn choice nonce words) request else (sent.Nothing, s)).1.role ≡ s.role
    by true = refl
    by false = refl

chosen_role : (s : State) (request : OutRequest) (words : List ℕ) (choice : Chosen) → (by_choice s request words choice).1.role ≡ s.role
chosen_role s request words Nothing = refl
chosen_role s request words (Digest choice) = by_nonce_role s request words choice choice.nonce
chosen_role s request words (Scram choice) = refl

again_by_role : (s : State) (request : OutRequest) (moment : ℕ) (words : List ℕ) (x : Exchange) (reuse : Option Reuse) → (or_choice s request words (again_by s moment words x reuse)).1.role ≡ s.role
again_by_role s request moment words x None = chosen_role s request words s.choice
again_by_role s request moment words x (Some reuse) = by (can_reuse s.drawn reuse moment)
  where
    by : (b : Bool) → (or_choice s request words (if b then Some (again_next s x reuse words) else None)).1.role ≡ s.role
    by true = refl
    by false = chosen_role s request words s.choice

again_role : (s : State) (request : OutRequest) (moment : ℕ) (words : List ℕ) (p : Progress) (reuse : Option Reuse) → (or_choice s request words (again_given s moment words p reuse)).1.role ≡ s.role
again_role s request moment words progress.Nothing reuse = chosen_role s request words s.choice
again_role s request moment words (progress.Begun first) reuse = chosen_role s request words s.choice
again_role s request moment words (progress.Answered x) reuse = chosen_role s request words s.choice
again_role s request moment words (progress.Finished x nonce) reuse = again_by_role s request moment words x reuse

at_role : (s : State) (request : OutRequest) (moment : ℕ) (words : List ℕ) (p : Progress) → (given_at s request moment words p).1.role ≡ s.role
at_role s request moment words (progress.Answered x) = refl
at_role s request moment words progress.Nothing = again_role s request moment words s.progress s.reuse
at_role s request moment words (progress.Begun first) = again_role s request moment words s.progress s.reuse
at_role s request moment words (progress.Finished x nonce) = again_role s request moment words s.progress s.reuse

pub given_role : (s t : State) (request : OutRequest) (moment : ℕ) (words : List ℕ) (what : Sent) → given s request moment words ≡ (what, t) → t.role ≡ s.role
given_role s t request moment words what is = subst (λ (p : Sent × State). p.1.role ≡ s.role) is (at_role s request moment words s.progress)

pub drew_role : (s t : State) → DrewAtMost s t → t.role ≡ s.role
drew_role s t (inl same) = ap (λ (x : State). x.role) same
drew_role s t (inr drew) = ap (λ (x : State). x.role) drew.1
