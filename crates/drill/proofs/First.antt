-- A made request is admitted at its first delivery exactly where its nonce is live and its count in the window.
use Rattle.std.proofs.Common.{◌≡◌, ◌↔◌, ℕ, ◌+◌, ◌<◌, ◌^◌, true, true≢false, slice_get, List, [], ◌∷◌, Option, Some, All, IfSome, refl, sym, ap, ◌∙◌, subst}
use Rattle.auth_grammar.specs.Names.{params_of}
use Rattle.auth_grammar.specs.declared.items.Item.{Item}
use Rattle.digest_fields.specs.Field.{given as given_field}
use Rattle.digest_fields.specs.Nc.{nc_number, nc_text}
use Rattle.digest_fields.specs.declared.field.FieldName.TheVariants as field
use Rattle.digest_fields.proofs.Counts.{nc_number-nc_text}
use Rattle.count_window.specs.Window.{high}
use Rattle.count_window.specs.declared.window.TheConstants.{WIDTH}
use Rattle.nonce_shard.specs.Laws.{Uses}
use Rattle.nonce_shard.specs.Names.{name_text}
use Rattle.nonce_shard.specs.Sizes.{single_sizes}
use Rattle.nonce_shard.specs.declared.calls.Call.{Call}
use Rattle.nonce_shard.specs.declared.names.TableName.{TableName}
use Rattle.nonce_shard.proofs.OneName.{names_one}
use Rattle.auth_decide.specs.Credentials.{Reads}
use Rattle.auth_decide.specs.Stages.{Question}
use Rattle.auth_decide.specs.declared.credentials.CredentialsField.TheVariants as read
use Rattle.auth_decide.specs.declared.credentials.RequestCredentials.{RequestCredentials}
use Rattle.admission.specs.Admission.{AreValid}
use Rattle.admission.specs.Outcomes.{IsUnusedBehind, counts_behind}
use Rattle.admission.proofs.Exact.{exactly}
use Rattle.admission.proofs.Lines.{from_read}
use Rattle.drill.specs.declared.event.DrillEvent.TheVariants.{Deliver}
use Rattle.drill.specs.Deciding.{decided, question, steps_for}
use Rattle.drill.specs.Laws.{AdmitsFirst, AdmitsHere, AdmitsUser, MayCome}
use Rattle.drill.specs.Requests.{can_send, credentials_line, request_with}
use Rattle.drill.specs.Site.{space}
use Rattle.drill.specs.World.{AreSound, Happening, IsSound, World, run, start}
use Rattle.drill.proofs.Counts.{never_admitted}
use Rattle.drill.proofs.Decided.{steps_asked}
use Rattle.drill.proofs.Deliveries.{Delivered, UsesNone, UsesOne, candidate, decides, delivery, made_question, well_made}
use Rattle.drill.proofs.Kept.{Holds, IsMade, IsSpared, SparesIt, kept_now}
use Rattle.drill.proofs.Known.{Draw, IsDraw, made_count, made_item, made_nonce}
use Rattle.drill.proofs.Lists.{all_get, all_weaker}
use Rattle.drill.proofs.Repeats.{line_read, lines_sound, sound_first, sound_rest}

-- it is admitted where its credentials are valid
valid_here : (moment : ℕ) (draw : Draw) (credentials : RequestCredentials) (words : List ℕ) (calls : List Call) → IsDraw draw → credentials.field ≡ read.Item (made_item draw)
    → Reads (credentials_line (made_item draw) ∷ []) credentials
    → AdmitsUser (decided (made_question moment draw credentials) words calls) ↔ AreValid single_sizes (made_question moment draw credentials) space (candidate draw) (steps_for (made_question moment draw credentials) words calls)
valid_here moment draw credentials words calls form field reads =
    let q : Question = made_question moment draw credentials in
    let d = decides q words calls in
    let e = exactly single_sizes q space (candidate draw) (from_read q space (candidate draw) (well_made moment draw credentials form field) reads) reads
    (steps_for q words calls) (steps_asked q words calls) d.0 d.1 in
    (λ a. e.0 (subst AdmitsUser d.1 a), λ v. subst AdmitsUser (sym d.1) (e.1 v))

-- what the nonce and the count are
pub record Says (draw : Draw) (n : TableName) (count : ℕ) : Type 0 where
  pub its_nonce : draw.nonce ≡ name_text n
  pub its_count : draw.count ≡ count

says : (draw : Draw) (n : TableName) (count : ℕ) → IsDraw draw → count < 2 ^ 32 → given_field field.Nonce (params_of (made_item draw).rest) ≡ Some (name_text n)
    → given_field field.Nc (params_of (made_item draw).rest) ≡ Some (nc_text count) → Says draw n count
says draw n count form fits nonces counts =
    let texts : nc_text draw.count ≡ nc_text count = (let same : Some (nc_text draw.count) ≡ Some (nc_text count) = sym (made_count draw) ∙ counts in cc) in
    record {
      its_nonce = (let same : Some draw.nonce ≡ Some (name_text n) = sym (made_nonce draw) ∙ nonces in cc);
      its_count = sym (nc_number-nc_text draw.count form.fits) ∙ ap nc_number texts ∙ nc_number-nc_text count fits;
    }

at : (P : List Call → Type 0) {o : Option (List Call)} {calls : List Call} → o ≡ Some calls → IfSome o P → P calls
at P is holds = subst (λ (x : Option (List Call)). IfSome x P) is holds

put : (P : List Call → Type 0) {o : Option (List Call)} {calls : List Call} → o ≡ Some calls → P calls → IfSome o P
put P is holds = subst (λ (x : Option (List Call)). IfSome x P) (sym is) holds

comes : (w : World) (h : Happening) (k : ℕ) (draw : Draw) → Holds w → IsDraw draw → h.credentials.field ≡ read.Item (made_item draw) → Reads (credentials_line (made_item draw) ∷ []) h.credentials
    → AdmitsUser (decided (made_question w.scene.clock draw h.credentials) h.words w.calls) → MayCome w h (made_item draw)
comes w h k draw holds form is reads admits = by (delivery w.scene.clock draw h.credentials h.words w.calls form is reads)
  where
    by : Delivered w.scene.clock draw h.credentials h.words w.calls → MayCome w h (made_item draw)
    by (UsesNone out none never) = absurd (never admits)
    by (UsesOne n named name_form inside u) =
        let v = (valid_here w.scene.clock draw h.credentials h.words w.calls form is reads).0 admits in
        let same : v.nonce ≡ n = names_one v.nonce n v.form name_form (sym v.named ∙ named) in
        let live = at _ u.behind v.live in
        let unused = at _ u.behind v.unused in
        let W : ℕ → Type 0 = λ c. high (counts_behind single_sizes v.nonce w.calls) < c + WIDTH in
        record {
          nonce = v.nonce;
          form = v.form;
          shard = v.within;
          count = draw.count;
          fits = form.fits;
          its_nonce = made_nonce draw ∙ ap Some v.named;
          its_count = made_count draw;
          live = live;
          in_window = subst W (nc_number-nc_text draw.count form.fits) unused.in_window;
        }

came : (w : World) (h : Happening) (k : ℕ) (draw : Draw) → Holds w → All (SparesIt draw) w.calls → IsDraw draw → h.credentials.field ≡ read.Item (made_item draw)
    → Reads (credentials_line (made_item draw) ∷ []) h.credentials → MayCome w h (made_item draw) → AdmitsUser (decided (made_question w.scene.clock draw h.credentials) h.words w.calls)
came w h k draw holds spared form is reads m = by (delivery w.scene.clock draw h.credentials h.words w.calls form is reads)
  where
    by : Delivered w.scene.clock draw h.credentials h.words w.calls → AdmitsUser (decided (made_question w.scene.clock draw h.credentials) h.words w.calls)
    by (UsesNone out none never) = absurd (out m.nonce (says draw m.nonce m.count form m.fits m.its_nonce m.its_count).its_nonce m.form m.shard)
    by (UsesOne n named name_form inside u) =
        let s = says draw m.nonce m.count form m.fits m.its_nonce m.its_count in
        let number : nc_number (nc_text draw.count) ≡ draw.count = nc_number-nc_text draw.count form.fits in
        let Q : Call → Type 0 = λ call. Uses m.nonce (nc_number (nc_text draw.count)) call.what → ⊥ in
        let W : ℕ → Type 0 = λ c. high (counts_behind single_sizes m.nonce w.calls) < c + WIDTH in
        let unused : IsUnusedBehind single_sizes m.nonce (nc_number (nc_text draw.count)) w.calls = record {
          in_window = subst W (sym (number ∙ s.its_count)) m.in_window;
          new = never_admitted single_sizes m.nonce.shard w.calls m.nonce (nc_number (nc_text draw.count))
              (all_weaker (SparesIt draw) Q w.calls (λ call spares uses. spares m.nonce (subst (λ (c : ℕ). Uses m.nonce c call.what) number uses) (sym s.its_nonce)) spared);
        } in
        (valid_here w.scene.clock draw h.credentials h.words w.calls form is reads).1 (record {
          nonce = m.nonce;
          named = s.its_nonce;
          form = m.form;
          within = m.shard;
          right = refl;
          live = put _ u.behind m.live;
          unused = put _ u.behind unused;
          session = λ session. absurd (true≢false (sym session));
        })

pub first_exactly : AdmitsFirst
first_exactly before h k item sound event made others =
    let w : World = run before start in
    let earlier : AreSound before start = sound_first before (h ∷ []) start sound in
    let now : IsSound w h = (sound_rest before (h ∷ []) start sound).0 in
    let kept = kept_now k before earlier others in
    let m = all_get (IsMade w.scene.client.drawn) w.scene.made k item kept.0.made made in
    let reads : Reads (credentials_line item ∷ []) h.credentials = lines_sound w h k item event made now in
    let E : Item → Type 0 = λ x. can_send x ≡ true → slice_get w.scene.made k ≡ Some x → Reads (credentials_line x ∷ []) h.credentials → AdmitsHere w h k ↔ MayCome w h x in
    subst E (sym m.is) (by w h k event m.draw kept.0 kept.1 m.form) m.can made reads
  where
    by : (w : World) (h : Happening) (k : ℕ) → h.event ≡ Deliver k → (draw : Draw) → Holds w → IsSpared k w → IsDraw draw → can_send (made_item draw) ≡ true → slice_get w.scene.made k ≡ Some (made_item draw)
        → Reads (credentials_line (made_item draw) ∷ []) h.credentials → AdmitsHere w h k ↔ MayCome w h (made_item draw)
    by w h k event draw holds spared form can there reads =
        let is = line_read (made_item draw) h.credentials can reads in (
          λ a.
              let same : a.item ≡ made_item draw = (let both : Some a.item ≡ Some (made_item draw) = sym a.made ∙ there in cc) in
              let A : Item → Type 0 = λ x. AdmitsUser (decided (question w.scene.clock (request_with x) h.credentials) h.words w.calls) in
              comes w h k draw holds form is reads (subst A same a.admitted),
          λ m. record { event = event; item = made_item draw; made = there; admitted = came w h k draw holds (spared draw there form.fits) form is reads m },
        )
