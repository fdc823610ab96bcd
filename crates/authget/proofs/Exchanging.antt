-- One request on a connection.
use Rattle.std.proofs.Common.{◌≡◌, ◌⊎◌, ℕ, Bool, true, false, List, [], ◌∷◌, ◌≤◌, map, take, Option, Some, None, Result, Ok, Err, OnOk, refl, ap, ◌∙◌, subst, inl, inr, arith}
use Rattle.std.proofs.lemmas.Bool.Decides.{nat_tests}
use Rattle.std.specs.Io.KnownBytes.{Appends}
use Rattle.auth_io.specs.Causes.{Rose}
use Rattle.auth_io.specs.Handing.{Handed, HandsAll, HandsFirst, HandsOut, RoseIfFailed, StartsEmpty, TakesBack, has_fault}
use Rattle.auth_io.specs.Told.{Adds}
use Rattle.auth_io.proofs.Handing.{TakesAll_one}
use Rattle.http_wire.specs.declared.response.Response.{Response}
use Rattle.authget.specs.Exchanges.{Exchanges, Talks}
use Rattle.authget.specs.Outside.{DialPassed, DialState}
use Rattle.authget.specs.Replies.{whole_of}
use Rattle.authget.specs.declared.stop.Stop.{Stop}
use Rattle.authget.specs.declared.stop.Stop.TheVariants.{Fault, OutOfMemory}

hands_whole : (a b : Option (List (List ℕ))) (left : Option (List ℕ)) (got : List ℕ) → HandsFirst a b left → HandsAll a b (Some (whole_of left got) ∷ [])
hands_whole None b left got p = tt
hands_whole (Some x) None left got p = absurd p
hands_whole (Some x) (Some y) None got p = absurd p
hands_whole (Some x) (Some y) (Some left) got p = ap (λ (l : List (List ℕ)). map {B = Option (List ℕ)} Some l) p

-- a connection that was dialled and is back
connected : (u v : DialState) (peer : List ℕ) (mid : Option Handed) (left before now : Option (List ℕ)) (got output : List ℕ) (failed : Bool) →
    Adds u.dialled v.dialled ((peer, false) ∷ []) → HandsFirst u.coming v.coming left → HandsOut u.handed mid → StartsEmpty mid before →
    TakesBack mid v.handed now failed → Appends before now output →
    DialPassed u v ((peer, false) ∷ []) (whole_of left got ∷ []) ((output, failed) ∷ [])
connected u v peer mid left before now got output failed dialled coming out empty back wrote = record {
  dialled = dialled;
  coming = hands_whole u.coming v.coming left got coming;
  handed = TakesAll_one u.handed mid v.handed before now output failed out empty wrote back;
}

first_failed : (a b : ℕ) → 1 ≤ a → has_fault a b ≡ true
first_failed a b p = grind (arith, nat_tests)

second_failed : (a b : ℕ) → 1 ≤ b → has_fault a b ≡ true
second_failed a b p = grind (arith, nat_tests)

-- a count that rose from 0 isn't 0
failed_by : (r r' w w' : ℕ) → r ≡ 0 → w ≡ 0 → Rose r r' ⊎ Rose w w' → has_fault r' w' ≡ true
failed_by r r' w w' p q (inl rose) = first_failed r' w' (omega (arith, p, rose))
failed_by r r' w w' p q (inr rose) = second_failed r' w' (omega (arith, q, rose))

failed_not : (r r' w w' : ℕ) → r ≡ 0 → w ≡ 0 → r' ≡ r → w' ≡ w → has_fault r' w' ≡ false
failed_not r r' w w' p q s t = rw (s ∙ p, t ∙ q) refl

-- what one dial gives, by what its connection gave
pub exchanged : (u v : DialState) (peer text : List ℕ) (mid : Option Handed) (left before now : Option (List ℕ)) (r r' w w' : ℕ) (result : Result (Option Response) Stop) →
    Adds u.dialled v.dialled ((peer, false) ∷ []) → HandsFirst u.coming v.coming left → HandsOut u.handed mid → StartsEmpty mid before →
    TakesBack mid v.handed now (has_fault r' w') → r ≡ 0 → w ≡ 0 →
    Talks left before now text result → OnOk result (r' ≡ r) → OnOk result (w' ≡ w) → (result ≡ Err Fault → Rose r r' ⊎ Rose w w') → Exchanges u v peer text result
exchanged u v peer text mid left before now r r' w w' (Ok reply) dialled coming out empty back p q talks kept kept' fault =
    let clean = failed_not r r' w w' p q kept kept' in (
      whole_of left talks.0,
      talks.1,
      connected u v peer mid left before now talks.0 text false dialled coming out empty (subst (TakesBack mid v.handed now) clean back) talks.2,
    )
exchanged u v peer text mid left before now r r' w w' (Err Fault) dialled coming out empty back p q talks kept kept' fault =
    inr (inr (
      whole_of left [],
      talks.0,
      has_fault r' w',
      failed_by r r' w w' p q (fault refl),
      connected u v peer mid left before now [] (take talks.0 text) (has_fault r' w') dialled coming out empty back talks.1,
    ))
exchanged u v peer text mid left before now r r' w w' (Err OutOfMemory) dialled coming out empty back p q talks kept kept' fault =
    inr (inr (
      whole_of left [],
      talks.0,
      has_fault r' w',
      tt,
      connected u v peer mid left before now [] (take talks.0 text) (has_fault r' w') dialled coming out empty back talks.1,
    ))

-- ---- the counts of what dials

rose_of : (failed : Bool) (a b : ℕ) → failed ≡ true → RoseIfFailed failed a b → Rose a b
rose_of true a b is rose = rose
rose_of false a b is rose = absurd (cc)

pub link_rose : (r r' w w' a b : ℕ) → r ≡ 0 → w ≡ 0 → Rose r r' ⊎ Rose w w' → RoseIfFailed (has_fault r' w') a b → Rose a b
link_rose r r' w w' a b p q rose counted = rose_of (has_fault r' w') a b (failed_by r r' w w' p q rose) counted

same_of : (failed : Bool) (a b : ℕ) → failed ≡ false → RoseIfFailed failed a b → b ≡ a
same_of true a b is rose = absurd (cc)
same_of false a b is rose = rose

pub link_same : (r r' w w' a b : ℕ) → r ≡ 0 → w ≡ 0 → r' ≡ r → w' ≡ w → RoseIfFailed (has_fault r' w') a b → b ≡ a
link_same r r' w w' a b p q s t counted = same_of (has_fault r' w') a b (failed_not r r' w w' p q s t) counted

pub links_same : (result : Result (Option Response) Stop) (r r' w w' a b : ℕ) → r ≡ 0 → w ≡ 0 → OnOk result (r' ≡ r) → OnOk result (w' ≡ w) → RoseIfFailed (has_fault r' w') a b → OnOk result (b ≡ a)
links_same (Ok reply) r r' w w' a b p q s t counted = link_same r r' w w' a b p q s t counted
links_same (Err stop) r r' w w' a b p q s t counted = tt
