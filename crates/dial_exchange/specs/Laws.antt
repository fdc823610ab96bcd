-- What passed in two parts passed in one.
use Rattle.std.proofs.Common.{◌≡◌, ◌∷◌, [], ◌++◌, ℕ, Bool, true, false, List, Option, sym, refl, ap, subst}
use Rattle.std.proofs.lemmas.List.Elements.{All-nil, All-append}
use Rattle.auth_io.proofs.Handing.{HandsAll_none, HandsAll_then, TakesAll_none, TakesAll_then}
use Rattle.auth_io.proofs.Passing.{Adds_trans, Adds_none}
use Rattle.auth_io.specs.Dialling.{Dialled}
use Rattle.auth_io.specs.Handing.{HandsAll, TakesAll}
use Rattle.auth_io.specs.Told.{Adds}
use Rattle.dial_exchange.specs.Dials.{DialPassed, DialState, FaultsPass, LinkFaultsPass, dialled_in, ended_in, lefts_in}
use Rattle.dial_exchange.specs.Exchanges.{IsSound}
use Rattle.dial_exchange.specs.declared.events.DialEvent.{DialEvent}
use Rattle.dial_exchange.specs.declared.events.DialEvent.TheVariants.{NotReached, Exchanged}

-- ---- the parts of a list of events

dialled_in-append : (xs ys : List DialEvent) → dialled_in (xs ++ ys) ≡ dialled_in xs ++ dialled_in ys
dialled_in-append [] ys = refl
dialled_in-append (NotReached outgoing ∷ xs) ys = ap (λ (l : Dialled). (outgoing.authority, true) ∷ l) (dialled_in-append xs ys)
dialled_in-append (Exchanged outgoing x ∷ xs) ys = ap (λ (l : Dialled). (outgoing.authority, false) ∷ l) (dialled_in-append xs ys)

lefts_in-append : (xs ys : List DialEvent) → lefts_in (xs ++ ys) ≡ lefts_in xs ++ lefts_in ys
lefts_in-append [] ys = refl
lefts_in-append (NotReached outgoing ∷ xs) ys = lefts_in-append xs ys
lefts_in-append (Exchanged outgoing x ∷ xs) ys = ap (λ (l : List (Option (List ℕ))). x.left ∷ l) (lefts_in-append xs ys)

ended_in-append : (xs ys : List DialEvent) → ended_in (xs ++ ys) ≡ ended_in xs ++ ended_in ys
ended_in-append [] ys = refl
ended_in-append (NotReached outgoing ∷ xs) ys = ended_in-append xs ys
ended_in-append (Exchanged outgoing x ∷ xs) ys = ap (λ (l : List (List ℕ × Bool)). (x.sent, x.failed) ∷ l) (ended_in-append xs ys)

faults_then : (xs ys : List DialEvent) (a b c : ℕ) → FaultsPass xs a b → FaultsPass ys b c → FaultsPass (xs ++ ys) a c
faults_then [] ys a b c p q = subst (λ (n : ℕ). FaultsPass ys n c) p q
faults_then (NotReached outgoing ∷ xs) ys a b c p q = (p.0, p.1, faults_then xs ys p.0 b c p.2 q)
faults_then (Exchanged outgoing x ∷ xs) ys a b c p q = faults_then xs ys a b c p q

link_faults_then : (xs ys : List DialEvent) (a b c : ℕ) → LinkFaultsPass xs a b → LinkFaultsPass ys b c → LinkFaultsPass (xs ++ ys) a c
link_faults_then [] ys a b c p q = subst (λ (n : ℕ). LinkFaultsPass ys n c) p q
link_faults_then (NotReached outgoing ∷ xs) ys a b c p q = link_faults_then xs ys a b c p q
link_faults_then (Exchanged outgoing x ∷ xs) ys a b c p q = (p.0, p.1, link_faults_then xs ys p.0 b c p.2 q)

-- ---- the dial

pub dial_none : (u : DialState) → DialPassed u u []
dial_none u = record {
  sound = All-nil IsSound;
  dialled = Adds_none u.dialled;
  coming = HandsAll_none u.coming;
  handed = TakesAll_none u.handed;
  faults = refl;
  link_faults = refl;
}

pub dial_then : (u v w : DialState) (xs ys : List DialEvent) → DialPassed u v xs → DialPassed v w ys → DialPassed u w (xs ++ ys)
dial_then u v w xs ys p q = record {
  sound = All-append IsSound xs ys p.sound q.sound;
  dialled = subst (λ (l : Dialled). Adds u.dialled w.dialled l) (sym (dialled_in-append xs ys))
      (Adds_trans u.dialled v.dialled w.dialled (dialled_in xs) (dialled_in ys) p.dialled q.dialled);
  coming = subst (λ (l : List (Option (List ℕ))). HandsAll u.coming w.coming l) (sym (lefts_in-append xs ys))
      (HandsAll_then u.coming v.coming w.coming (lefts_in xs) (lefts_in ys) p.coming q.coming);
  handed = subst (λ (l : List (List ℕ × Bool)). TakesAll u.handed w.handed l) (sym (ended_in-append xs ys))
      (TakesAll_then u.handed v.handed w.handed (ended_in xs) (ended_in ys) p.handed q.handed);
  faults = faults_then xs ys u.faults v.faults w.faults p.faults q.faults;
  link_faults = link_faults_then xs ys u.link_faults v.link_faults w.link_faults p.link_faults q.link_faults;
}
