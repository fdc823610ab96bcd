-- What holds after whatever happened.
use Rattle.std.proofs.Common.{◌≡◌, ◌≢◌, ◌⊎◌, inl, inr, ℕ, ◌+◌, ◌≤◌, ◌<◌, ◌^◌, Bool, true, false, if◌then◌else◌, length, slice_get, List, [], ◌∷◌, ◌++◌, append-nil, Option, Some, None, All, refl, sym, ap, ◌∙◌, subst, arith}
use Rattle.std.proofs.lemmas.List.Elements.{All-nil, All-cons, All-head, All-tail, All-append}
use Rattle.auth_grammar.specs.Names.{params_of}
use Rattle.auth_grammar.specs.declared.items.Item.{Item}
use Rattle.digest_fields.specs.Field.{given as given_field}
use Rattle.digest_fields.specs.Nc.{nc_number, nc_text}
use Rattle.digest_fields.specs.declared.field.FieldName.TheVariants as field
use Rattle.digest_fields.proofs.Counts.{nc_number-nc_text}
use Rattle.client_core.specs.Counts.{Drawn, count_of, with_count}
use Rattle.client_core.specs.Digests.{has_nonce}
use Rattle.client_core.specs.Givings.{given}
use Rattle.client_core.specs.declared.request.Sent.{Sent}
use Rattle.client_core.specs.declared.state.State.{State}
use Rattle.client_core.proofs.CountLaws.{count-with_grows, count-with_same}
use Rattle.nonce_shard.specs.Laws.{Uses}
use Rattle.nonce_shard.specs.Names.{name_text}
use Rattle.nonce_shard.specs.declared.calls.Call.{Call}
use Rattle.nonce_shard.specs.declared.names.TableName.{TableName}
use Rattle.auth_decide.specs.Credentials.{Reads}
use Rattle.auth_decide.specs.declared.credentials.RequestCredentials.{RequestCredentials}
use Rattle.drill.specs.declared.event.DrillEvent.{DrillEvent}
use Rattle.drill.specs.declared.event.DrillEvent.TheVariants.{Challenge, Make, Deliver, Pass}
use Rattle.drill.specs.Deciding.{AreWords, calls_in, question, steps_for}
use Rattle.drill.specs.Requests.{can_send, credentials_line, out_request, plain_request, request_with}
use Rattle.drill.specs.World.{AreSound, Happening, World, delivered_lines, delivering, items_in, lines_of, made_with, run, start, step, step_of}
use Rattle.drill.proofs.Deliveries.{Delivered, IsNoUse, UsesNone, UsesOne, delivery, its_use}
use Rattle.drill.proofs.Known.{Draw, GivesKnown, GivesNext, GivesNone, IsDraw, Knows, given_known, made_count, made_item, made_nonce, new_knows}
use Rattle.drill.proofs.Lists.{all_get, all_weaker, get_snoc}
use Rattle.drill.proofs.Plain.{plain_step}
use Rattle.drill.proofs.Repeats.{line_read}

-- ---- what holds

-- a request that was made by a draw, whose count is at most the greatest that was drawn
pub record IsMade (drawn : Drawn) (item : Item) : Type 0 where
  pub draw : Draw
  pub is : item ≡ made_item draw
  pub form : IsDraw draw
  pub can : can_send item ≡ true
  pub below : draw.count ≤ count_of drawn draw.nonce

-- a use of a count that was drawn
abbrev pub IsDrawnUse : Drawn → Call → Type 0
IsDrawnUse drawn call = (n : TableName) (count : ℕ) → Uses n count call.what → count ≤ count_of drawn (name_text n)

-- no use of that draw
abbrev pub SparesIt : Draw → Call → Type 0
SparesIt draw call = (n : TableName) → Uses n draw.count call.what → name_text n ≡ draw.nonce → ⊥

abbrev nonce_in : Item → Option (List ℕ)
nonce_in item = given_field field.Nonce (params_of item.rest)

abbrev count_in : Item → Option (List ℕ)
count_in item = given_field field.Nc (params_of item.rest)

pub record Holds (w : World) : Type 0 where
  pub knows : Knows w.scene.client
  pub made : All (IsMade w.scene.client.drawn) w.scene.made
  pub apart : (i j : ℕ) (a b : Item) → slice_get w.scene.made i ≡ Some a → slice_get w.scene.made j ≡ Some b → nonce_in a ≡ nonce_in b → count_in a ≡ count_in b → i ≡ j
  pub used : All (IsDrawnUse w.scene.client.drawn) w.calls

-- the request at that place was not used
abbrev pub IsSpared : ℕ → World → Type 0
IsSpared k w = (draw : Draw) → slice_get w.scene.made k ≡ Some (made_item draw) → draw.count < 2 ^ 32 → All (SparesIt draw) w.calls

-- both, where that request wasn't delivered
pub record Kept (k : ℕ) (w v : World) : Type 0 where
  pub holds : Holds v
  pub spared : IsSpared k w → IsSpared k v

start_holds : Holds start
start_holds = record {
  knows = new_knows;
  made = All-nil (IsMade start.scene.client.drawn);
  apart = λ i j a b here there nonces counts. absurd (let no : None ≡ Some a = here in cc);
  used = All-nil (IsDrawnUse start.scene.client.drawn);
}

start_spared : (k : ℕ) → IsSpared k start
start_spared k draw is fits = absurd (let no : None ≡ Some (made_item draw) = is in cc)

-- ---- draws

two_nonces : (a b : Draw) → nonce_in (made_item a) ≡ nonce_in (made_item b) → a.nonce ≡ b.nonce
two_nonces a b e = let same : Some a.nonce ≡ Some b.nonce = sym (made_nonce a) ∙ e ∙ made_nonce b in cc

two_counts : (a b : Draw) → a.count < 2 ^ 32 → b.count < 2 ^ 32 → count_in (made_item a) ≡ count_in (made_item b) → a.count ≡ b.count
two_counts a b fits others e =
    let texts : nc_text a.count ≡ nc_text b.count = (let same : Some (nc_text a.count) ≡ Some (nc_text b.count) = sym (made_count a) ∙ e ∙ made_count b in cc) in
    sym (nc_number-nc_text a.count fits) ∙ ap nc_number texts ∙ nc_number-nc_text b.count others

-- ---- calls that use nothing more

more_calls : (k : ℕ) (w v : World) (more : List Call) → Knows v.scene.client → v.scene.client.drawn ≡ w.scene.client.drawn → v.scene.made ≡ w.scene.made → v.calls ≡ w.calls ++ more
    → All (IsDrawnUse w.scene.client.drawn) more → ((draw : Draw) → slice_get w.scene.made k ≡ Some (made_item draw) → draw.count < 2 ^ 32 → All (SparesIt draw) more) → Holds w → Kept k w v
more_calls k w v more knows drawn made calls drawn_uses spares h = record {
  holds = record {
    knows = knows;
    made = subst (λ (d : Drawn). All (IsMade d) v.scene.made) (sym drawn) (subst (λ (l : List Item). All (IsMade w.scene.client.drawn) l) (sym made) h.made);
    apart = λ i j a b here there. h.apart i j a b (ap (λ (l : List Item). slice_get l i) (sym made) ∙ here) (ap (λ (l : List Item). slice_get l j) (sym made) ∙ there);
    used = subst (λ (d : Drawn). All (IsDrawnUse d) v.calls) (sym drawn)
        (subst (λ (l : List Call). All (IsDrawnUse w.scene.client.drawn) l) (sym calls) (All-append (IsDrawnUse w.scene.client.drawn) w.calls more h.used drawn_uses));
  };
  spared = λ spared draw is fits.
      let there : slice_get w.scene.made k ≡ Some (made_item draw) = ap (λ (l : List Item). slice_get l k) (sym made) ∙ is in
      subst (λ (l : List Call). All (SparesIt draw) l) (sym calls) (All-append (SparesIt draw) w.calls more (spared draw there fits) (spares draw there fits));
}

no_use_drawn : (d : Drawn) (calls : List Call) → All IsNoUse calls → All (IsDrawnUse d) calls
no_use_drawn d calls none = all_weaker IsNoUse (IsDrawnUse d) calls (λ call no n count uses. absurd (no n count uses)) none

no_use_spares : (draw : Draw) (calls : List Call) → All IsNoUse calls → All (SparesIt draw) calls
no_use_spares draw calls none = all_weaker IsNoUse (SparesIt draw) calls (λ call no n uses same. no n draw.count uses) none

-- ---- a challenge

challenge_keeps : (k : ℕ) (w : World) (words : List ℕ) (credentials : RequestCredentials) → Reads [] credentials → Holds w → Kept k w (step_of w Challenge words credentials)
challenge_keeps k w words credentials reads h =
    let p = plain_step w words credentials reads h.knows in
    let more : List Call = calls_in (steps_for (question w.scene.clock plain_request credentials) words w.calls) in
    more_calls k w (step_of w Challenge words credentials) more p.knows p.drawn refl refl (no_use_drawn w.scene.client.drawn more p.no_use) (λ draw is fits. no_use_spares draw more p.no_use) h

-- ---- a request is made

abbrev GrowsTo : Drawn → Drawn → Type 0
GrowsTo d e = (m : List ℕ) → count_of d m ≤ count_of e m

made_then : (d e : Drawn) → GrowsTo d e → (made : List Item) → All (IsMade d) made → All (IsMade e) made
made_then d e grows made all = all_weaker (IsMade d) (IsMade e) made (λ item m.
    let low = grows m.draw.nonce in
    let below = m.below in
    record { draw = m.draw; is = m.is; form = m.form; can = m.can; below = omega arith }) all

used_then : (d e : Drawn) → GrowsTo d e → (calls : List Call) → All (IsDrawnUse d) calls → All (IsDrawnUse e) calls
used_then d e grows calls all = all_weaker (IsDrawnUse d) (IsDrawnUse e) calls (λ call below n count uses. (let low = grows (name_text n) in let b = below n count uses in omega arith)) all

old_new : (w : World) (draw : Draw) (i : ℕ) (a : Item) → Holds w → IsDraw draw → draw.count ≡ count_of w.scene.client.drawn draw.nonce + 1 → slice_get w.scene.made i ≡ Some a
    → nonce_in a ≡ nonce_in (made_item draw) → count_in a ≡ count_in (made_item draw) → ⊥
old_new w draw i a h form next here nonces counts =
    let m = all_get (IsMade w.scene.client.drawn) w.scene.made i a h.made here in
    let nonce : m.draw.nonce ≡ draw.nonce = two_nonces m.draw draw (sym (ap nonce_in m.is) ∙ nonces) in
    let count : m.draw.count ≡ draw.count = two_counts m.draw draw m.form.fits form.fits (sym (ap count_in m.is) ∙ counts) in
    let same : count_of w.scene.client.drawn m.draw.nonce ≡ count_of w.scene.client.drawn draw.nonce = ap (count_of w.scene.client.drawn) nonce in
    let below = m.below in
    omega arith

made_apart : (w : World) (draw : Draw) → Holds w → IsDraw draw → draw.count ≡ count_of w.scene.client.drawn draw.nonce + 1 → (i j : ℕ) (a b : Item)
    → (slice_get w.scene.made i ≡ Some a) ⊎ ((i ≡ length w.scene.made) × (a ≡ made_item draw)) → (slice_get w.scene.made j ≡ Some b) ⊎ ((j ≡ length w.scene.made) × (b ≡ made_item draw))
    → nonce_in a ≡ nonce_in b → count_in a ≡ count_in b → i ≡ j
made_apart w draw h form next i j a b (inl here) (inl there) nonces counts = h.apart i j a b here there nonces counts
made_apart w draw h form next i j a b (inl here) (inr there) nonces counts =
    absurd (old_new w draw i a h form next here (nonces ∙ ap nonce_in there.1) (counts ∙ ap count_in there.1))
made_apart w draw h form next i j a b (inr here) (inl there) nonces counts =
    absurd (old_new w draw j b h form next there (sym nonces ∙ ap nonce_in here.1) (sym counts ∙ ap count_in here.1))
made_apart w draw h form next i j a b (inr here) (inr there) nonces counts = here.0 ∙ sym there.0

-- the client drew a count, and what it gave is kept or not
drew_keeps : (k : ℕ) (w v : World) (draw : Draw) (b : Bool) → Holds w → Knows v.scene.client → v.scene.client.drawn ≡ with_count w.scene.client.drawn draw.nonce draw.count
    → draw.count ≡ count_of w.scene.client.drawn draw.nonce + 1 → IsDraw draw → can_send (made_item draw) ≡ b
    → v.scene.made ≡ w.scene.made ++ (if b then made_item draw ∷ [] else []) → v.calls ≡ w.calls → Kept k w v
drew_keeps k w v draw false h knows drawn next form can made calls =
    let same : v.scene.made ≡ w.scene.made = made ∙ append-nil w.scene.made in
    let grows : GrowsTo w.scene.client.drawn v.scene.client.drawn = λ m. subst (λ (d : Drawn). count_of w.scene.client.drawn m ≤ count_of d m) (sym drawn)
    (count-with_grows w.scene.client.drawn draw.nonce m draw.count (omega (arith, next))) in
    record {
      holds = record {
        knows = knows;
        made = subst (λ (l : List Item). All (IsMade v.scene.client.drawn) l) (sym same) (made_then w.scene.client.drawn v.scene.client.drawn grows w.scene.made h.made);
        apart = λ i j a b here there. h.apart i j a b (ap (λ (l : List Item). slice_get l i) (sym same) ∙ here) (ap (λ (l : List Item). slice_get l j) (sym same) ∙ there);
        used = subst (λ (l : List Call). All (IsDrawnUse v.scene.client.drawn) l) (sym calls) (used_then w.scene.client.drawn v.scene.client.drawn grows w.calls h.used);
      };
      spared = λ spared d is fits. subst (λ (l : List Call). All (SparesIt d) l) (sym calls) (spared d (ap (λ (l : List Item). slice_get l k) (sym same) ∙ is) fits);
    }
drew_keeps k w v draw true h knows drawn next form can made calls =
    let item : Item = made_item draw in
    let grows : GrowsTo w.scene.client.drawn v.scene.client.drawn = λ m. subst (λ (d : Drawn). count_of w.scene.client.drawn m ≤ count_of d m) (sym drawn)
    (count-with_grows w.scene.client.drawn draw.nonce m draw.count (omega (arith, next))) in
    let here : count_of v.scene.client.drawn draw.nonce ≡ draw.count = ap (λ (d : Drawn). count_of d draw.nonce) drawn ∙ count-with_same w.scene.client.drawn draw.nonce draw.count in
    let last : IsMade v.scene.client.drawn item = record { draw = draw; is = refl; form = form; can = can; below = omega arith } in
    record {
      holds = record {
        knows = knows;
        made = subst (λ (l : List Item). All (IsMade v.scene.client.drawn) l) (sym made) (All-append (IsMade v.scene.client.drawn) w.scene.made (item ∷ [])
            (made_then w.scene.client.drawn v.scene.client.drawn grows w.scene.made h.made) (All-cons (IsMade v.scene.client.drawn) item [] last (All-nil (IsMade v.scene.client.drawn))));
        apart = λ i j a b one two nonces counts. made_apart w draw h form next i j a b
            (get_snoc w.scene.made item i a (ap (λ (l : List Item). slice_get l i) (sym made) ∙ one))
            (get_snoc w.scene.made item j b (ap (λ (l : List Item). slice_get l j) (sym made) ∙ two)) nonces counts;
        used = subst (λ (l : List Call). All (IsDrawnUse v.scene.client.drawn) l) (sym calls) (used_then w.scene.client.drawn v.scene.client.drawn grows w.calls h.used);
      };
      spared = λ spared d is fits. subst (λ (l : List Call). All (SparesIt d) l) (sym calls)
          (by spared d fits (get_snoc w.scene.made item k (made_item d) (ap (λ (l : List Item). slice_get l k) (sym made) ∙ is)));
    }
  where
    by : IsSpared k w → (d : Draw) → d.count < 2 ^ 32 → (slice_get w.scene.made k ≡ Some (made_item d)) ⊎ ((k ≡ length w.scene.made) × (made_item d ≡ made_item draw)) → All (SparesIt d) w.calls
    by spared d fits (inl there) = spared d there fits
    by spared d fits (inr new) =
        let nonce : d.nonce ≡ draw.nonce = two_nonces d draw (ap nonce_in new.1) in
        let count : d.count ≡ draw.count = two_counts d draw fits form.fits (ap count_in new.1) in
        all_weaker (IsDrawnUse w.scene.client.drawn) (SparesIt d) w.calls (λ call below n uses same.
        let b : d.count ≤ count_of w.scene.client.drawn (name_text n) = below n d.count uses in
        let t : count_of w.scene.client.drawn (name_text n) ≡ count_of w.scene.client.drawn draw.nonce = ap (count_of w.scene.client.drawn) (same ∙ nonce) in
        omega arith) h.used

stays_kept : (k : ℕ) (w : World) → Holds w → Kept k w w
stays_kept k w h = record { holds = h; spared = λ spared. spared }

given_keeps : (k : ℕ) (w : World) (words : List ℕ) (p : Sent × State) → Holds w → GivesKnown w.scene.client words p → Kept k w (made_with w p)
given_keeps k w words p h (GivesNone is) =
    let same : made_with w p ≡ w = ap (made_with w) is ∙ ap (λ (l : List Item). let v : World = record w { scene = record w.scene { made = l } } in v) (append-nil w.scene.made) in
    subst (Kept k w) (sym same) (stays_kept k w h)
given_keeps k w words p h (GivesNext draw what knows drawn next form) =
    drew_keeps k w (made_with w p) draw (can_send (made_item draw)) h knows drawn next form refl (ap (λ (s : Sent). w.scene.made ++ items_in s) what) refl

make_keeps : (k : ℕ) (w : World) (words : List ℕ) (b : Bool) → AreWords words → Holds w → Kept k w (if b then made_with w (given w.scene.client out_request w.scene.clock words) else w)
make_keeps k w words false form h = stays_kept k w h
make_keeps k w words true form h = given_keeps k w words (given w.scene.client out_request w.scene.clock words) h (given_known w.scene.client w.scene.clock words h.knows form.long)

-- ---- a delivery

deliver_keeps : (k j : ℕ) (w : World) (words : List ℕ) (credentials : RequestCredentials) (o : Option Item) → (j ≡ k → ⊥) → slice_get w.scene.made j ≡ o → Reads (delivered_lines o) credentials → Holds w
    → Kept k w (delivering w words credentials o)
deliver_keeps k j w words credentials None other there reads h = stays_kept k w h
deliver_keeps k j w words credentials (Some item) other there reads h =
    let m = all_get (IsMade w.scene.client.drawn) w.scene.made j item h.made there in
    let P : Item → Type 0 = λ x. can_send x ≡ true → Reads (credentials_line x ∷ []) credentials → slice_get w.scene.made j ≡ Some x → Kept k w (delivering w words credentials (Some x)) in
    subst P (sym m.is) (λ can says at_j.
    by m.draw m.form m.below at_j (delivery w.scene.clock m.draw credentials words w.calls m.form (line_read (made_item m.draw) credentials can says) says)) m.can reads there
  where
    by : (d : Draw) → IsDraw d → d.count ≤ count_of w.scene.client.drawn d.nonce → slice_get w.scene.made j ≡ Some (made_item d)
        → Delivered w.scene.clock d credentials words w.calls → Kept k w (delivering w words credentials (Some (made_item d)))
    by d form below at_j (UsesNone out none never) =
        let more : List Call = calls_in (steps_for (question w.scene.clock (request_with (made_item d)) credentials) words w.calls) in
        more_calls k w (delivering w words credentials (Some (made_item d))) more h.knows refl refl refl (no_use_drawn w.scene.client.drawn more none) (λ draw is fits. no_use_spares draw more none) h
    by d form below at_j (UsesOne n named name_form inside u) =
        let call : Call = its_use w.scene.clock d credentials n in
        let number : nc_number (nc_text d.count) ≡ d.count = nc_number-nc_text d.count form.fits in
        let drawn_use : IsDrawnUse w.scene.client.drawn call = λ m count uses.
        let counts : d.count ≡ count = sym number ∙ uses.1 in
        let names : count_of w.scene.client.drawn (name_text m) ≡ count_of w.scene.client.drawn d.nonce = ap (count_of w.scene.client.drawn) (ap name_text (sym uses.0) ∙ sym named) in
        omega arith in
        more_calls k w (delivering w words credentials (Some (made_item d))) (call ∷ u.more) h.knows refl refl (ap (λ (l : List Call). w.calls ++ l) u.done)
        (All-cons (IsDrawnUse w.scene.client.drawn) call u.more drawn_use (no_use_drawn w.scene.client.drawn u.more u.no_more))
        (λ draw is fits. All-cons (SparesIt draw) call u.more
        (λ m uses same.
        let counts : d.count ≡ draw.count = sym number ∙ uses.1 in
        let nonces : d.nonce ≡ draw.nonce = named ∙ ap name_text uses.0 ∙ same in
        other (h.apart j k (made_item d) (made_item draw) at_j is
        (made_nonce d ∙ ap Some nonces ∙ sym (made_nonce draw)) (made_count d ∙ ap (λ (c : ℕ). Some (nc_text c)) counts ∙ sym (made_count draw))))
        (no_use_spares draw u.more u.no_more)) h

-- ---- all steps

step_of_keeps : (k : ℕ) (w : World) (event : DrillEvent) (words : List ℕ) (credentials : RequestCredentials) → AreWords words → Reads (lines_of w event) credentials → event ≢ Deliver k → Holds w
    → Kept k w (step_of w event words credentials)
step_of_keeps k w Challenge words credentials form reads other h = challenge_keeps k w words credentials reads h
step_of_keeps k w Make words credentials form reads other h = make_keeps k w words (has_nonce w.scene.client) form h
step_of_keeps k w (Deliver j) words credentials form reads other h =
    deliver_keeps k j w words credentials (slice_get w.scene.made j) (λ same. other (ap Deliver same)) refl reads h
step_of_keeps k w (Pass seconds) words credentials form reads other h = record {
  holds = record { knows = h.knows; made = h.made; apart = h.apart; used = h.used };
  spared = λ spared. spared;
}

run_keeps : (k : ℕ) (hs : List Happening) (w : World) → AreSound hs w → All (λ (h : Happening). h.event ≢ Deliver k) hs → Holds w → Kept k w (run hs w)
run_keeps k [] w sound others holds = stays_kept k w holds
run_keeps k (h ∷ hs) w sound others holds =
    let O : Happening → Type 0 = λ x. x.event ≢ Deliver k in
    let one = step_of_keeps k w h.event h.words h.credentials sound.0.words sound.0.reads (All-head O h hs others) holds in
    let rest = run_keeps k hs (step w h) sound.1 (All-tail O h hs others) one.holds in
    record { holds = rest.holds; spared = λ spared. rest.spared (one.spared spared) }

pub kept_now : (k : ℕ) (before : List Happening) → AreSound before start → All (λ (h : Happening). h.event ≢ Deliver k) before → Holds (run before start) × IsSpared k (run before start)
kept_now k before sound others =
    let r = run_keeps k before start sound others start_holds in
    (r.holds, r.spared (start_spared k))
