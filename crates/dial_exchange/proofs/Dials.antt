-- What one exchange does to a dial.
use Rattle.std.proofs.Common.{◌≡◌, ◌∷◌, [], ◌≤◌, ℕ, List, Bool, true, false, Option, Some, None, Result, Ok, Err, refl, sym, ap, ◌∙◌, subst}
use Rattle.std.specs.Prelude.{IfOk, IfSome}
use Rattle.std.proofs.lemmas.List.Elements.{All-nil, All-cons}
use Rattle.std.specs.Io.KnownBytes.{Appends, Consumes}
use Rattle.auth_grammar.specs.declared.octets.OutOfMemory.{OutOfMemory}
use Rattle.auth_io.proofs.Handing.{HandsAll_none, HandsAll_one, TakesAll_none, TakesAll_one}
use Rattle.auth_io.specs.Causes.{Rose}
use Rattle.auth_io.specs.Dialling.{Dialled}
use Rattle.auth_io.specs.Handing.{Handed, HandsAll, HandsFirst, HandsOut, RoseIfFailed, StartsEmpty, TakesAll, TakesBack, has_fault}
use Rattle.auth_io.specs.Told.{Adds}
use Rattle.dial_exchange.proofs.Statuses.{received_fine}
use Rattle.dial_exchange.specs.Exchanges.{IsFineReception, IsFrontOf, IsSound, received}
use Rattle.dial_exchange.specs.Dials.{DialPassed, DialState}
use Rattle.dial_exchange.specs.Talking.{Exchanges, Says, SendsOnce, TalkState, Talks}
use Rattle.dial_exchange.specs.declared.events.DialEvent.{DialEvent}
use Rattle.dial_exchange.specs.declared.events.DialEvent.TheVariants.{NotReached, Exchanged}
use Rattle.dial_exchange.specs.declared.events.Exchange.{Exchange}
use Rattle.dial_exchange.specs.declared.events.Outgoing.{Outgoing}
use Rattle.dial_exchange.specs.declared.events.Reception.{Reception}
use Rattle.dial_exchange.specs.declared.events.Reception.TheVariants.{Failed}

-- no connection was handed out
same_coming : (a b : Option (List (List ℕ))) → b ≡ a → HandsAll a b []
same_coming a b e = subst (λ (o : Option (List (List ℕ))). HandsAll a o []) (sym e) (HandsAll_none a)

same_handed : (a b : Option Handed) → b ≡ a → TakesAll a b []
same_handed a b e = subst (λ (o : Option Handed). TakesAll a o []) (sym e) (TakesAll_none a)

pub dials_none : (outgoing : Outgoing) (u v : DialState) (error : OutOfMemory) → Adds u.dialled v.dialled [] → v.coming ≡ u.coming → v.handed ≡ u.handed → v.faults ≡ u.faults → v.link_faults ≡ u.link_faults → Exchanges outgoing u v (Err error)
dials_none outgoing u v error dialled coming handed faults link_faults = record {
  events = [];
  passed = record {
    sound = All-nil IsSound;
    dialled = dialled;
    coming = same_coming u.coming v.coming coming;
    handed = same_handed u.handed v.handed handed;
    faults = faults;
    link_faults = link_faults;
  };
  sends = tt;
}

pub dials_failed : (outgoing : Outgoing) (u v : DialState) → Adds u.dialled v.dialled ((outgoing.authority, true) ∷ []) → v.coming ≡ u.coming → v.handed ≡ u.handed → Rose u.faults v.faults → v.link_faults ≡ u.link_faults → Exchanges outgoing u v (Ok Failed)
dials_failed outgoing u v dialled coming handed rose link_faults = record {
  events = NotReached outgoing ∷ [];
  passed = record {
    sound = All-cons IsSound (NotReached outgoing) [] tt (All-nil IsSound);
    dialled = dialled;
    coming = same_coming u.coming v.coming coming;
    handed = same_handed u.handed v.handed handed;
    faults = (v.faults, rose, refl);
    link_faults = link_faults;
  };
  sends = (refl, refl, refl);
}

-- what was given stands at the front of what there was
gave_front : (x : Option (List ℕ)) (a b : Option (List ℕ)) (given : List ℕ) → x ≡ a → Consumes a b given → IfSome x (λ (left : List ℕ). IsFrontOf given left)
gave_front x a b given e p = subst (λ (o : Option (List ℕ)). IfSome o (λ (left : List ℕ). IsFrontOf given left)) (sym e) (of a b p)
  where
    of : (a b : Option (List ℕ)) → Consumes a b given → IfSome a (λ (left : List ℕ). IsFrontOf given left)
    of None b p = tt
    of (Some l) None p = absurd p
    of (Some l) (Some r) p = (r, p)

sends_once : (outgoing : Outgoing) (x : Exchange) (result : Result Reception OutOfMemory) → Says outgoing.to_head x.given x.ending result → SendsOnce outgoing (Exchanged outgoing x ∷ []) result
sends_once outgoing x (Ok reception) says = (refl, says.0, says.1)
sends_once outgoing x (Err error) says = refl

-- a connection before it was used, and as it came back
pub dials_once : (outgoing : Outgoing) (u m v : DialState) (before now : TalkState) (result : Result Reception OutOfMemory) → Adds u.dialled m.dialled ((outgoing.authority, false) ∷ []) → HandsFirst u.coming m.coming before.left → StartsEmpty m.handed before.written → HandsOut u.handed m.handed →
    m.faults ≡ u.faults → m.link_faults ≡ u.link_faults → before.read_faults ≡ 0 → before.write_faults ≡ 0 → Talks outgoing before now result →
    TakesBack m.handed v.handed now.written (has_fault now.read_faults now.write_faults) → v.dialled ≡ m.dialled → v.coming ≡ m.coming → v.faults ≡ m.faults → RoseIfFailed (has_fault now.read_faults now.write_faults) m.link_faults v.link_faults →
    Exchanges outgoing u v result
dials_once outgoing u m v before now result dialled coming empty handed faults link_faults no_read no_write talks back same_dialled same_coming same_faults rose =
    let x = talks.exchange in
    let failed : has_fault now.read_faults now.write_faults ≡ x.failed = sym talks.told in
    let takes : TakesBack m.handed v.handed now.written x.failed = subst (λ (b : Bool). TakesBack m.handed v.handed now.written b) failed back in
    let event = Exchanged outgoing x in
    record {
      events = event ∷ [];
      passed = record {
        sound = All-cons IsSound event [] (record { gave = gave_front x.left before.left now.left x.given talks.left talks.gave; ended = talks.ended; fails = talks.fails no_read no_write }) (All-nil IsSound);
        dialled = subst (λ (o : Option Dialled). Adds u.dialled o ((outgoing.authority, false) ∷ [])) (sym same_dialled) dialled;
        coming = subst (λ (o : Option (List (List ℕ))). HandsAll u.coming o (x.left ∷ [])) (sym same_coming)
            (subst (λ (o : Option (List ℕ)). HandsAll u.coming m.coming (o ∷ [])) (sym talks.left) (HandsAll_one u.coming m.coming before.left coming));
        handed = TakesAll_one u.handed m.handed v.handed before.written now.written x.sent x.failed handed empty talks.took takes;
        faults = same_faults ∙ faults;
        link_faults = (v.link_faults, subst (λ (n : ℕ). RoseIfFailed x.failed n v.link_faults) link_faults (subst (λ (b : Bool). RoseIfFailed b m.link_faults v.link_faults) failed rose), refl);
      };
      sends = sends_once outgoing x result talks.says;
    }

-- what came is final, where it is a response
pub exchanges_fine : (outgoing : Outgoing) (u v : DialState) (result : Result Reception OutOfMemory) → Exchanges outgoing u v result → IfOk result (λ (r : Reception). IsFineReception r)
exchanges_fine outgoing u v (Err error) x = tt
exchanges_fine outgoing u v (Ok reception) x = by x.events x.sends
  where
    by : (events : List DialEvent) → SendsOnce outgoing events (Ok reception) → IsFineReception reception
    by [] sends = absurd sends
    by (event ∷ other ∷ events) sends = absurd sends
    by (event ∷ []) sends = subst IsFineReception (sym sends.2) (received_fine event)
