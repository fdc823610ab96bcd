-- No nonce is given with one count twice.
use Rattle.std.proofs.Common.{◌≡◌, ◌≢◌, ◌⊎◌, ◌+◌, ◌-◌, ◌≤◌, ◌<◌, ◌^◌, ℕ, Bool, true, false, cond, List, [], ◌∷◌, Option, Some, None, refl, sym, ap, ◌∙◌, subst, inl, inr, arith}
use Rattle.std.specs.Prelude.{if◌then◌else◌, nat_lt, ◌&&◌}
use Rattle.std.proofs.lemmas.Bool.Decides.{nat_tests}
use Rattle.auth_grammar.specs.Names.{params_of}
use Rattle.auth_grammar.specs.declared.items.Item.{Item}
use Rattle.auth_grammar.specs.declared.items.Param.{Param}
use Rattle.digest_fields.specs.Credentials.{Credentials, credentials_params}
use Rattle.digest_fields.specs.Field.{given}
use Rattle.digest_fields.specs.Nc.{nc_number, nc_text}
use Rattle.digest_fields.specs.declared.field.FieldName.TheVariants as field
use Rattle.digest_fields.proofs.Counts.{nc_number-nc_text}
use Rattle.digest_fields.proofs.Lookups.{lookups}
use Rattle.client_core.specs.declared.request.OutRequest.{OutRequest}
use Rattle.client_core.specs.declared.request.Sent.{Sent}
use Rattle.client_core.specs.declared.request.Sent.TheVariants as sent
use Rattle.client_core.specs.declared.state.Chosen.{Chosen}
use Rattle.client_core.specs.declared.state.Chosen.TheVariants.{Nothing, Digest, Scram}
use Rattle.client_core.specs.declared.state.DigestChoice.{DigestChoice}
use Rattle.client_core.specs.declared.state.Exchange.{Exchange}
use Rattle.client_core.specs.declared.state.Progress.{Progress}
use Rattle.client_core.specs.declared.state.Progress.TheVariants as progress
use Rattle.client_core.specs.declared.state.Reuse.{Reuse}
use Rattle.client_core.specs.declared.state.State.{State}
use Rattle.client_core.specs.Counts.{Drawn, count_of, with_count}
use Rattle.client_core.specs.Digests.{DrewAtMost, can_use, credentials_with, digest_given, given_by_nonce, given_with, next_draw}
use Rattle.client_core.specs.Domains.{lets_pass}
use Rattle.client_core.specs.Givings.{again_by, again_given, again_next, by_choice, given as given_of, given_at, or_choice}
use Rattle.client_core.specs.Scrams.{can_reuse}
use Rattle.client_core.specs.Laws.{AreDistinct, SrUse, UseSrs, UsesSr, GivesSrOnce, Call, Gave, Failed, Other, GivesOnce, IsOther, Leave, Leaves, Use, use_in, uses}
use Rattle.client_core.proofs.CountLaws.{count-with_grows, count-with_same}

-- ---- one call

-- a call draws no count, or the next one of a text
abbrev Draws : Drawn → Drawn → Type 0
Draws d e = (e ≡ d) ⊎ ((n : List ℕ) × (e ≡ with_count d n (count_of d n + 1)))

grows : (d e : Drawn) → Draws d e → (n : List ℕ) → count_of d n ≤ count_of e n
grows d e (inl same) n = subst (λ (x : Drawn). count_of d n ≤ count_of x n) (sym same) (omega arith)
grows d e (inr drawn) n =
    subst (λ (x : Drawn). count_of d n ≤ count_of x n) (sym drawn.1) (count-with_grows d drawn.0 n (count_of d drawn.0 + 1) (omega arith))

-- a use that has the next count of a nonce
pub record IsNext (d e : Drawn) (one : Use) : Type 0 where
  pub nonce : List ℕ
  pub count : ℕ
  pub fits : count < 2 ^ 32
  pub next : count_of d nonce < count
  pub is : one ≡ (Some nonce, Some (nc_text count))
  pub after : count_of e nonce ≡ count

abbrev AreNext : Drawn → Drawn → Sent → Type 0
AreNext d e (sent.Digest item) = IsNext d e (use_in (params_of item.rest))
AreNext d e sent.Nothing = Unit {0}
AreNext d e (sent.ScramFirst item) = Unit {0}
AreNext d e (sent.ScramFinal item) = Unit {0}
AreNext d e (sent.ScramAgain item) = Unit {0}

nonce_found : (c : Credentials) → given field.Nonce (credentials_params c) ≡ Some c.nonce
unfolding credentials_params
nonce_found c = simp lookups

count_found : (c : Credentials) → given field.Nc (credentials_params c) ≡ Some c.nc
unfolding credentials_params
count_found c = simp lookups

use_found : (c : Credentials) → use_in (credentials_params c) ≡ (Some c.nonce, Some c.nc)
use_found c = rw (nonce_found c, count_found c) refl

first_of_two : (a b : Bool) → a && b ≡ true → a ≡ true
first_of_two true b e = refl
first_of_two false b e = e

abbrev GivesNext : State → Sent × State → Type 0
GivesNext s p = Draws s.drawn p.1.drawn × AreNext s.drawn p.1.drawn p.0

by_test : (s : State) (request : OutRequest) (words : List ℕ) (choice : DigestChoice) (nonce : List ℕ) (b : Bool)
    → can_use s.role s.drawn choice nonce request ≡ b
    → GivesNext s (if b then given_with s choice (next_draw s.drawn choice nonce words) request else (sent.Nothing, s))
by_test s request words choice nonce false is = (inl refl, tt)
by_test s request words choice nonce true is =
    let left : nat_lt (count_of s.drawn nonce) (2 ^ 32 - 1) ≡ true = first_of_two (nat_lt (count_of s.drawn nonce) (2 ^ 32 - 1)) (lets_pass s.role choice.challenge.domain request) is in
    let below : count_of s.drawn nonce + 1 < 2 ^ 32 = grind (arith, nat_tests) in (
      inr (nonce, refl),
      record {
        nonce = nonce;
        count = count_of s.drawn nonce + 1;
        fits = below;
        next = omega arith;
        is = use_found (credentials_with s.user choice.challenge (next_draw s.drawn choice nonce words) request);
        after = count-with_same s.drawn nonce (count_of s.drawn nonce + 1);
      },
    )

by_nonce : (s : State) (request : OutRequest) (words : List ℕ) (choice : DigestChoice) (nonce : Option (List ℕ))
    → GivesNext s (given_by_nonce s request words choice nonce)
by_nonce s request words choice None = (inl refl, tt)
by_nonce s request words choice (Some nonce) = by_test s request words choice nonce (can_use s.role s.drawn choice nonce request) refl

by_digest : (s : State) (request : OutRequest) (words : List ℕ) (choice : Chosen) → GivesNext s (digest_given s request words choice)
by_digest s request words Nothing = (inl refl, tt)
by_digest s request words (Scram choice) = (inl refl, tt)
by_digest s request words (Digest choice) = by_nonce s request words choice choice.nonce

chosen_next : (s : State) (request : OutRequest) (words : List ℕ) (choice : Chosen) → GivesNext s (by_choice s request words choice)
chosen_next s request words Nothing = (inl refl, tt)
chosen_next s request words (Digest choice) = by_digest s request words (Digest choice)
chosen_next s request words (Scram choice) = (inl refl, tt)

reused_next : (s : State) (request : OutRequest) (words : List ℕ) (x : Exchange) (reuse : Reuse) (b : Bool)
    → GivesNext s (or_choice s request words (if b then Some (again_next s x reuse words) else None))
reused_next s request words x reuse true = (inr (reuse.sr, refl), tt)
reused_next s request words x reuse false = chosen_next s request words s.choice

again_by_next : (s : State) (request : OutRequest) (moment : ℕ) (words : List ℕ) (x : Exchange) (reuse : Option Reuse)
    → GivesNext s (or_choice s request words (again_by s moment words x reuse))
again_by_next s request moment words x None = chosen_next s request words s.choice
again_by_next s request moment words x (Some reuse) = reused_next s request words x reuse (can_reuse s.drawn reuse moment)

again_given_next : (s : State) (request : OutRequest) (moment : ℕ) (words : List ℕ) (progress : Progress) (reuse : Option Reuse)
    → GivesNext s (or_choice s request words (again_given s moment words progress reuse))
again_given_next s request moment words progress.Nothing reuse = chosen_next s request words s.choice
again_given_next s request moment words (progress.Begun first) reuse = chosen_next s request words s.choice
again_given_next s request moment words (progress.Answered x) reuse = chosen_next s request words s.choice
again_given_next s request moment words (progress.Finished x nonce) reuse = again_by_next s request moment words x reuse

given_next : (s : State) (request : OutRequest) (moment : ℕ) (words : List ℕ) (progress : Progress) → GivesNext s (given_at s request moment words progress)
given_next s request moment words (progress.Answered x) = (inl refl, tt)
given_next s request moment words progress.Nothing = again_given_next s request moment words s.progress s.reuse
given_next s request moment words (progress.Begun first) = again_given_next s request moment words s.progress s.reuse
given_next s request moment words (progress.Finished x nonce) = again_given_next s request moment words s.progress s.reuse

gave_next : (s t : State) (request : OutRequest) (moment : ℕ) (words : List ℕ) (what : Sent) → given_of s request moment words ≡ (what, t) → GivesNext s (what, t)
gave_next s t request moment words what e = subst (λ (p : Sent × State). GivesNext s p) e (given_next s request moment words s.progress)

failed_draws : (s t : State) → DrewAtMost s t → Draws s.drawn t.drawn
failed_draws s t (inl same) = inl (ap (λ (x : State). x.drawn) same)
failed_draws s t (inr drew) = inr (drew.0, ap (λ (x : State). x.drawn) drew.1)

leaves_draws : (s t : State) (call : Call) → Leaves s call t → Draws s.drawn t.drawn
leaves_draws s t (Gave request moment words what) e = (gave_next s t request moment words what e).0
leaves_draws s t Failed e = failed_draws s t e
leaves_draws s t Other e = inl e

-- ---- calls one behind the other

-- a use whose count is greater than what was drawn of its nonce
pub record IsLater (d : Drawn) (one : Use) : Type 0 where
  pub nonce : List ℕ
  pub count : ℕ
  pub fits : count < 2 ^ 32
  pub later : count_of d nonce < count
  pub is : one ≡ (Some nonce, Some (nc_text count))

abbrev AreLater : Drawn → List Use → Type 0
AreLater d [] = Unit {0}
AreLater d (one ∷ more) = IsLater d one × AreLater d more

later_before : (d e : Drawn) → Draws d e → (more : List Use) → AreLater e more → AreLater d more
later_before d e draws [] h = tt
later_before d e draws (one ∷ more) h =
    let low : count_of d h.0.nonce ≤ count_of e h.0.nonce = grows d e draws h.0.nonce in
    let above : count_of e h.0.nonce < h.0.count = h.0.later in
    (record { nonce = h.0.nonce; count = h.0.count; fits = h.0.fits; later = omega arith; is = h.0.is }, later_before d e draws more h.1)

next_later : (d e : Drawn) (one : Use) → IsNext d e one → IsLater d one
next_later d e one h = record { nonce = h.nonce; count = h.count; fits = h.fits; later = h.next; is = h.is }

with_call : (s u t : State) (call : Call) (calls : List Call) → Leaves s call u → AreLater u.drawn (uses calls) → AreLater s.drawn (uses (call ∷ calls))
with_call s u t (Gave request moment words sent.Nothing) calls e h = later_before s.drawn u.drawn (leaves_draws s u (Gave request moment words sent.Nothing) e) (uses calls) h
with_call s u t (Gave request moment words (sent.Digest item)) calls e h = (
  next_later s.drawn u.drawn (use_in (params_of item.rest)) (gave_next s u request moment words (sent.Digest item) e).1,
  later_before s.drawn u.drawn (leaves_draws s u (Gave request moment words (sent.Digest item)) e) (uses calls) h,
)
with_call s u t (Gave request moment words (sent.ScramFirst item)) calls e h = later_before s.drawn u.drawn (leaves_draws s u (Gave request moment words (sent.ScramFirst item)) e) (uses calls) h
with_call s u t (Gave request moment words (sent.ScramFinal item)) calls e h = later_before s.drawn u.drawn (leaves_draws s u (Gave request moment words (sent.ScramFinal item)) e) (uses calls) h
with_call s u t (Gave request moment words (sent.ScramAgain item)) calls e h = later_before s.drawn u.drawn (leaves_draws s u (Gave request moment words (sent.ScramAgain item)) e) (uses calls) h
with_call s u t Failed calls e h = later_before s.drawn u.drawn (leaves_draws s u Failed e) (uses calls) h
with_call s u t Other calls e h = later_before s.drawn u.drawn (leaves_draws s u Other e) (uses calls) h

are_later : (s t : State) (calls : List Call) → Leave s calls t → AreLater s.drawn (uses calls)
are_later s t [] h = tt
are_later s t (call ∷ calls) h = with_call s h.0 t call calls h.1 (are_later h.0 t calls h.2)

-- ---- nothing comes twice

one_nonce : (a b x y : List ℕ) → (let p : Use = (Some a, Some x) in p) ≡ (Some b, Some y) → a ≡ b
one_nonce a b x y e = let first : Some a ≡ Some b = ap (λ (p : Use). p.0) e in cc

one_count : (a b x y : List ℕ) → (let p : Use = (Some a, Some x) in p) ≡ (Some b, Some y) → x ≡ y
one_count a b x y e = let second : Some x ≡ Some y = ap (λ (p : Use). p.1) e in cc

apart : (d e : Drawn) (one other : Use) → IsNext d e one → IsLater e other → one ≢ other
apart d e one other h later same =
    let both : (let p : Use = (Some h.nonce, Some (nc_text h.count)) in p) ≡ (Some later.nonce, Some (nc_text later.count)) = sym h.is ∙ same ∙ later.is in
    let nonce : h.nonce ≡ later.nonce = one_nonce h.nonce later.nonce (nc_text h.count) (nc_text later.count) both in
    let texts : nc_text h.count ≡ nc_text later.count = one_count h.nonce later.nonce (nc_text h.count) (nc_text later.count) both in
    let count : h.count ≡ later.count = sym (nc_number-nc_text h.count h.fits) ∙ ap nc_number texts ∙ nc_number-nc_text later.count later.fits in
    let here : count_of e later.nonce ≡ h.count = ap (λ (n : List ℕ). count_of e n) (sym nonce) ∙ h.after in
    let above : count_of e later.nonce < later.count = later.later in
    omega arith

others : (d e : Drawn) (one : Use) → IsNext d e one → (more : List Use) → AreLater e more → IsOther one more
others d e one h [] later = tt
others d e one h (other ∷ more) later = (apart d e one other h later.0, others d e one h more later.1)

distinct_with : (s u t : State) (call : Call) (calls : List Call) → Leaves s call u → AreLater u.drawn (uses calls) → AreDistinct (uses calls) → AreDistinct (uses (call ∷ calls))
distinct_with s u t (Gave request moment words (sent.Digest item)) calls e later h =
    (others s.drawn u.drawn (use_in (params_of item.rest)) (gave_next s u request moment words (sent.Digest item) e).1 (uses calls) later, h)
distinct_with s u t (Gave request moment words sent.Nothing) calls e later h = h
distinct_with s u t (Gave request moment words (sent.ScramFirst item)) calls e later h = h
distinct_with s u t (Gave request moment words (sent.ScramFinal item)) calls e later h = h
distinct_with s u t (Gave request moment words (sent.ScramAgain item)) calls e later h = h
distinct_with s u t Failed calls e later h = h
distinct_with s u t Other calls e later h = h

pub gives_once : GivesOnce
gives_once s t [] h = tt
gives_once s t (call ∷ calls) h = distinct_with s h.0 t call calls h.1 (are_later h.0 t calls h.2) (gives_once h.0 t calls h.2)

-- ---- an `sr`

-- a use of an `sr` by its next count
pub record IsNextSr (d e : Drawn) (words : List ℕ) (item : Item) : Type 0 where
  pub one : SrUse
  pub uses : UsesSr words item one
  pub next : count_of d one.sr < one.count
  pub after : count_of e one.sr ≡ one.count

abbrev AreNextSr : Drawn → Drawn → List ℕ → Sent → Type 0
AreNextSr d e words (sent.ScramAgain item) = IsNextSr d e words item
AreNextSr d e words sent.Nothing = Unit {0}
AreNextSr d e words (sent.Digest item) = Unit {0}
AreNextSr d e words (sent.ScramFirst item) = Unit {0}
AreNextSr d e words (sent.ScramFinal item) = Unit {0}

abbrev GivesSr : State → List ℕ → Sent × State → Type 0
GivesSr s words p = AreNextSr s.drawn p.1.drawn words p.0

sr_by_nonce : (s : State) (request : OutRequest) (words : List ℕ) (choice : DigestChoice) (nonce : Option (List ℕ)) → GivesSr s words (given_by_nonce s request words choice nonce)
sr_by_nonce s request words choice None = tt
sr_by_nonce s request words choice (Some nonce) = by (can_use s.role s.drawn choice nonce request)
  where
    by : (b : Bool) → GivesSr s words (if b then given_with s choice (next_draw s.drawn choice nonce words) request else (sent.Nothing, s))
    by true = tt
    by false = tt

sr_chosen : (s : State) (request : OutRequest) (words : List ℕ) (choice : Chosen) → GivesSr s words (by_choice s request words choice)
sr_chosen s request words Nothing = tt
sr_chosen s request words (Digest choice) = sr_by_nonce s request words choice choice.nonce
sr_chosen s request words (Scram choice) = tt

sr_reused : (s : State) (request : OutRequest) (words : List ℕ) (x : Exchange) (reuse : Reuse) (b : Bool)
    → GivesSr s words (or_choice s request words (if b then Some (again_next s x reuse words) else None))
sr_reused s request words x reuse true = record {
  one = record { sr = reuse.sr; count = count_of s.drawn reuse.sr + 1 };
  uses = record { exchange = x; is = refl };
  next = omega arith;
  after = count-with_same s.drawn reuse.sr (count_of s.drawn reuse.sr + 1);
}
sr_reused s request words x reuse false = sr_chosen s request words s.choice

sr_again_by : (s : State) (request : OutRequest) (moment : ℕ) (words : List ℕ) (x : Exchange) (reuse : Option Reuse) → GivesSr s words (or_choice s request words (again_by s moment words x reuse))
sr_again_by s request moment words x None = sr_chosen s request words s.choice
sr_again_by s request moment words x (Some reuse) = sr_reused s request words x reuse (can_reuse s.drawn reuse moment)

sr_again : (s : State) (request : OutRequest) (moment : ℕ) (words : List ℕ) (p : Progress) (reuse : Option Reuse) → GivesSr s words (or_choice s request words (again_given s moment words p reuse))
sr_again s request moment words progress.Nothing reuse = sr_chosen s request words s.choice
sr_again s request moment words (progress.Begun first) reuse = sr_chosen s request words s.choice
sr_again s request moment words (progress.Answered x) reuse = sr_chosen s request words s.choice
sr_again s request moment words (progress.Finished x nonce) reuse = sr_again_by s request moment words x reuse

sr_given : (s : State) (request : OutRequest) (moment : ℕ) (words : List ℕ) (p : Progress) → GivesSr s words (given_at s request moment words p)
sr_given s request moment words (progress.Answered x) = tt
sr_given s request moment words progress.Nothing = sr_again s request moment words s.progress s.reuse
sr_given s request moment words (progress.Begun first) = sr_again s request moment words s.progress s.reuse
sr_given s request moment words (progress.Finished x nonce) = sr_again s request moment words s.progress s.reuse

sr_gave : (s t : State) (request : OutRequest) (moment : ℕ) (words : List ℕ) (what : Sent) → given_of s request moment words ≡ (what, t) → GivesSr s words (what, t)
sr_gave s t request moment words what e = subst (λ (p : Sent × State). GivesSr s words p) e (sr_given s request moment words s.progress)

-- uses whose counts are greater than what was drawn
abbrev AreLaterSr : Drawn → List SrUse → Type 0
AreLaterSr d [] = Unit {0}
AreLaterSr d (one ∷ more) = (count_of d one.sr < one.count) × AreLaterSr d more

sr_before : (d e : Drawn) → Draws d e → (more : List SrUse) → AreLaterSr e more → AreLaterSr d more
sr_before d e draws [] h = tt
sr_before d e draws (one ∷ more) h =
    let low = grows d e draws one.sr in
    let above = h.0 in
    (omega arith, sr_before d e draws more h.1)

sr_apart : (e : Drawn) (one other : SrUse) → count_of e one.sr ≡ one.count → count_of e other.sr < other.count → one ≢ other
sr_apart e one other after later same =
    let here : count_of e other.sr ≡ other.count = subst (λ (u : SrUse). count_of e u.sr ≡ u.count) same after in
    omega arith

sr_others : (e : Drawn) (one : SrUse) → count_of e one.sr ≡ one.count → (more : List SrUse) → AreLaterSr e more → IsOther one more
sr_others e one after [] later = tt
sr_others e one after (other ∷ more) later = (sr_apart e one other after later.0, sr_others e one after more later.1)

record SrFound (d : Drawn) (calls : List Call) : Type 0 where
  pub uses : List SrUse
  pub said : UseSrs calls uses
  pub later : AreLaterSr d uses
  pub distinct : AreDistinct uses

sr_with : (s u : State) (call : Call) (calls : List Call) → Leaves s call u → SrFound u.drawn calls → SrFound s.drawn (call ∷ calls)
sr_with s u (Gave request moment words (sent.ScramAgain item)) calls e f =
    let n : IsNextSr s.drawn u.drawn words item = sr_gave s u request moment words (sent.ScramAgain item) e in
    record {
      uses = n.one ∷ f.uses;
      said = (n.one, f.uses, refl, n.uses, f.said);
      later = (n.next, sr_before s.drawn u.drawn (leaves_draws s u (Gave request moment words (sent.ScramAgain item)) e) f.uses f.later);
      distinct = (sr_others u.drawn n.one n.after f.uses f.later, f.distinct);
    }
sr_with s u (Gave request moment words sent.Nothing) calls e f =
    record { uses = f.uses; said = f.said; later = sr_before s.drawn u.drawn (leaves_draws s u (Gave request moment words sent.Nothing) e) f.uses f.later; distinct = f.distinct }
sr_with s u (Gave request moment words (sent.Digest item)) calls e f =
    record { uses = f.uses; said = f.said; later = sr_before s.drawn u.drawn (leaves_draws s u (Gave request moment words (sent.Digest item)) e) f.uses f.later; distinct = f.distinct }
sr_with s u (Gave request moment words (sent.ScramFirst item)) calls e f =
    record { uses = f.uses; said = f.said; later = sr_before s.drawn u.drawn (leaves_draws s u (Gave request moment words (sent.ScramFirst item)) e) f.uses f.later; distinct = f.distinct }
sr_with s u (Gave request moment words (sent.ScramFinal item)) calls e f =
    record { uses = f.uses; said = f.said; later = sr_before s.drawn u.drawn (leaves_draws s u (Gave request moment words (sent.ScramFinal item)) e) f.uses f.later; distinct = f.distinct }
sr_with s u Failed calls e f = record { uses = f.uses; said = f.said; later = sr_before s.drawn u.drawn (leaves_draws s u Failed e) f.uses f.later; distinct = f.distinct }
sr_with s u Other calls e f = record { uses = f.uses; said = f.said; later = sr_before s.drawn u.drawn (leaves_draws s u Other e) f.uses f.later; distinct = f.distinct }

sr_found : (s t : State) (calls : List Call) → Leave s calls t → SrFound s.drawn calls
sr_found s t [] h = record { uses = []; said = refl; later = tt; distinct = tt }
sr_found s t (call ∷ calls) h = sr_with s h.0 call calls h.1 (sr_found h.0 t calls h.2)

pub gives_sr_once : GivesSrOnce
gives_sr_once s t calls h = let f = sr_found s t calls h in (f.uses, f.said, f.distinct)
