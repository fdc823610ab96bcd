-- No made request is admitted twice.
use Rattle.std.proofs.Common.{◌≡◌, ◌⊎◌, inl, inr, ◌<◌, ℕ, Bool, true, false, not, nat_lt, nat_le, codes, slice_get, length, List, [], ◌∷◌, ◌++◌, append-nil, append_assoc, Option, Some, None, All, refl, sym, ap, ◌∙◌, subst, true≢false}
use Rattle.std.specs.Prelude.{Ok, if◌then◌else◌}
use Rattle.std.specs.List.{list_all}
use Rattle.std.proofs.lemmas.Bool.{and_parts}
use Rattle.std.proofs.lemmas.List.Elements.{All-nil, All-cons, All-append}
use Rattle.auth_grammar.specs.Items.{SpellsCredentials}
use Rattle.auth_grammar.specs.Names.{has_repeat, params_of, same_name}
use Rattle.auth_grammar.specs.Valid.{are_valid_params, is_token_text, is_valid, is_valid_param, is_valid_rest}
use Rattle.auth_grammar.specs.declared.items.Item.{Item}
use Rattle.auth_grammar.specs.declared.items.Quoting.TheVariants as quoting
use Rattle.auth_grammar.specs.declared.items.Rest.{Rest}
use Rattle.auth_grammar.specs.declared.items.Rest.TheVariants.{Empty, Token68, Params}
use Rattle.auth_grammar.proofs.Written.{credentials_written}
use Rattle.digest_fields.specs.Credentials.{Credentials, credentials_of}
use Rattle.digest_fields.specs.Nc.{nc_number}
use Rattle.nonce_shard.specs.Laws.{Uses}
use Rattle.nonce_shard.specs.Names.{IsName, name_text}
use Rattle.nonce_shard.specs.Replies.{reply}
use Rattle.nonce_shard.specs.Sizes.{single_sizes}
use Rattle.nonce_shard.specs.declared.calls.Call.{Call}
use Rattle.nonce_shard.specs.declared.calls.Reply.TheVariants.{Fresh}
use Rattle.nonce_shard.specs.declared.names.TableName.{TableName}
use Rattle.nonce_shard.proofs.NoTwice.{admits_once}
use Rattle.nonce_shard.proofs.OneName.{names_one}
use Rattle.spaces_map.specs.declared.space.Space.{Space}
use Rattle.auth_decide.specs.Asks.{use_of}
use Rattle.auth_decide.specs.VerifiedCredentials.{verified}
use Rattle.auth_decide.specs.Credentials.{LinesSay, Reads, SpellsOne}
use Rattle.scram_text.specs.Items.{scram_scheme}
use Rattle.auth_decide.specs.Stages.{Question}
use Rattle.auth_decide.specs.declared.candidate.Candidate.{Candidate}
use Rattle.auth_decide.specs.declared.credentials.CredentialsField.{CredentialsField}
use Rattle.auth_decide.specs.declared.credentials.CredentialsField.TheVariants as read
use Rattle.auth_decide.specs.declared.credentials.RequestCredentials.{RequestCredentials}
use Rattle.auth_decide.specs.declared.verdict.Ask.{Ask}
use Rattle.auth_decide.specs.declared.verdict.Ask.TheVariants.{Draw, Table, Verdict}
use Rattle.auth_decide.specs.declared.verdict.Verdict.{Verdict as VerdictValue}
use Rattle.admission.specs.Admission.{IsDigestAdmitted}
use Rattle.admission.specs.Exchanges.{IsScramAdmitted}
use Rattle.admission.specs.Outcomes.{Admits}
use Rattle.admission.specs.Steps.{Step}
use Rattle.admission.proofs.Exact.{Held, IsHeld, NotHeld, held_or_not, well_named, well_run}
use Rattle.admission.proofs.Lines.{IsRead, read_item, to_read}
use Rattle.admission.proofs.NoOther.{no_other}
use Rattle.admission.proofs.Outcomes.{AreUsed, Outcome, outcome, without_nonce}
use Rattle.admission.proofs.Runs.{use_step}
use Rattle.client_core.specs.Digests.{has_nonce}
use Rattle.client_core.specs.Givings.{given}
use Rattle.client_core.specs.declared.request.Sent.{Sent}
use Rattle.client_core.specs.declared.request.Sent.TheVariants as sent
use Rattle.drill.specs.declared.event.DrillEvent.{DrillEvent}
use Rattle.drill.specs.declared.event.DrillEvent.TheVariants.{Challenge, Make, Deliver, Pass}
use Rattle.drill.specs.Deciding.{calls_in, decided, question, steps_for}
use Rattle.drill.specs.Laws.{AdmitsEachOnce, AdmitsHere, AdmitsUser}
use Rattle.drill.specs.Requests.{can_send, credentials_line, out_request, plain_request, request_with}
use Rattle.drill.specs.World.{AreSound, Happening, IsSound, World, delivered_lines, delivering, items_in, lines_of, made_with, run, start, step, step_of}
use Rattle.drill.proofs.Decided.{steps_asked, steps_placed}
use Rattle.drill.proofs.Given.{IsDigestSent, digest_sent}
use Rattle.drill.proofs.Lists.{all_get, calls_more, get_more}

-- ---- a made request

-- it can be written, and is of Digest
pub record IsSent (item : Item) : Type 0 where
  pub can : can_send item ≡ true
  pub digest : item.scheme ≡ codes "Digest"

single_rest : (rest : Rest) → is_valid_rest rest ≡ true → has_repeat (params_of rest) ≡ false
single_rest Empty e = refl
single_rest (Token68 text) e = refl
single_rest (Params params) e = negated (has_repeat params) (and_parts (list_all is_valid_param params) (not (has_repeat params)) (and_parts (nat_lt 0 (length params)) (are_valid_params params) e).1).1
  where
    negated : (b : Bool) → not b ≡ true → b ≡ false
    negated true e = absurd (true≢false (sym e))
    negated false e = refl

valid_item : (item : Item) → can_send item ≡ true → is_valid item ≡ true
valid_item item can = (and_parts (is_valid item) (nat_le (length (credentials_line item)) 16000) can).0

single_item : (item : Item) → can_send item ≡ true → has_repeat (params_of item.rest) ≡ false
single_item item can = single_rest item.rest (and_parts (is_token_text item.scheme) (is_valid_rest item.rest) (valid_item item can)).1

-- its line is read as it
pub line_read : (item : Item) (credentials : RequestCredentials) → can_send item ≡ true → Reads (credentials_line item ∷ []) credentials → credentials.field ≡ read.Item item
line_read item credentials can reads =
    read_item (credentials_line item) item credentials.field (credentials_written quoting.Credentials item (valid_item item can)) (single_item item can) reads.field

one_line : (item : Item) (other : Item) (line : List ℕ) → can_send item ≡ true → credentials_line item ∷ [] ≡ line ∷ [] → SpellsCredentials line other
    → (credentials : RequestCredentials) → Reads (credentials_line item ∷ []) credentials → other ≡ item
one_line item other line can lines spells credentials reads =
    let field = line_read item credentials can reads in
    let L : CredentialsField → Type 0 = λ f. LinesSay (credentials_line item ∷ []) f in
    let one : SpellsOne (credentials_line item) item = subst L field reads.field in
    let same : credentials_line item ≡ line = (let both : credentials_line item ∷ [] ≡ line ∷ [] = lines in cc) in
    one.only other (subst (λ (t : List ℕ). SpellsCredentials t other) (sym same) spells)

-- ---- an admission

-- A count of its nonce was used behind these calls and answered Fresh.
pub record WasFresh (item : Item) (calls : List Call) (done : List Call) : Type 0 where
  pub credentials : Credentials
  pub fields : credentials_of (params_of item.rest) ≡ Ok credentials
  pub nonce : TableName
  pub named : credentials.nonce ≡ name_text nonce
  pub form : IsName nonce
  pub inside : nonce.shard < 1
  pub before : List Call
  pub call : Call
  pub after : List Call
  pub is : done ≡ before ++ call ∷ after
  pub uses : Uses nonce (nc_number credentials.nc) call.what
  pub number : ℕ
  pub fresh : reply single_sizes nonce.shard (calls ++ before) call ≡ Fresh number

admitted_verdict : (ask : Ask) → AdmitsUser ask → (verdict : VerdictValue) × (ask ≡ Verdict verdict) × Admits (codes "u") verdict
admitted_verdict (Verdict verdict) a = (verdict, refl, a)
admitted_verdict Draw a = absurd a
admitted_verdict (Table shard call) a = absurd a

scram_never : (moment : ℕ) (item : Item) (credentials : RequestCredentials) (user : List ℕ) (steps : List Step) → IsSent item → Reads (credentials_line item ∷ []) credentials
    → IsScramAdmitted single_sizes (question moment (request_with item) credentials) user steps → ⊥
scram_never moment item credentials user steps made reads a =
    let same : a.brings.item ≡ item = one_line item a.brings.item a.brings.line made.can a.brings.lines a.brings.spelled credentials reads in
    let scheme : a.brings.item.scheme ≡ codes "Digest" = ap (λ (i : Item). i.scheme) same ∙ made.digest in
    let no : same_name (codes "Digest") scram_scheme ≡ true = subst (λ (t : List ℕ). same_name t scram_scheme ≡ true) scheme a.brings.scram in
    true≢false (sym no)

used_fresh : (moment : ℕ) (item : Item) (credentials : RequestCredentials) (words : List ℕ) (calls : List Call) (space : Space) (c : Candidate) (n : TableName) (verdict : VerdictValue)
    → credentials_of (params_of item.rest) ≡ Ok c.credentials → c.credentials.nonce ≡ name_text n → IsName n → n.shard < 1 → (user : List ℕ) → Admits user verdict
    → let q : Question = question moment (request_with item) credentials in
    AreUsed single_sizes q space c n (steps_for q words calls) verdict → WasFresh item calls (calls_in (steps_for q words calls))
used_fresh moment item credentials words calls space c n verdict fields named form inside user admits u =
    let q : Question = question moment (request_with item) credentials in
    let fresh = u.leads.fresh user admits in
    let call : Call = use_of q.moment space n (verified c u.prime) in
    let place : u.calls ≡ calls ++ calls_in u.before = steps_placed q words calls u.before n.shard u.calls call u.after u.is in
    let F : List Call → Type 0 = λ l. reply single_sizes n.shard l call ≡ Fresh fresh.0 in
    record {
      credentials = c.credentials;
      fields = fields;
      nonce = n;
      named = named;
      form = form;
      inside = inside;
      before = calls_in u.before;
      call = call;
      after = calls_in u.after;
      is = ap calls_in u.is ∙ calls_more u.before (use_step q space n c u.prime u.calls ∷ u.after);
      uses = (refl, refl);
      number = fresh.0;
      fresh = subst F place fresh.1;
    }

digest_fresh : (moment : ℕ) (item : Item) (credentials : RequestCredentials) (words : List ℕ) (calls : List Call) (verdict : VerdictValue) → IsSent item → Reads (credentials_line item ∷ []) credentials
    → let q : Question = question moment (request_with item) credentials in
    decided q words calls ≡ Verdict verdict → Admits (codes "u") verdict → IsDigestAdmitted single_sizes q (codes "u") (steps_for q words calls)
    → WasFresh item calls (calls_in (steps_for q words calls))
digest_fresh moment item credentials words calls verdict made reads is admits a = by (held_or_not q c (well_named q a.space c r reads))
  where
    q : Question
    q = question moment (request_with item) credentials

    c : Candidate
    c = a.candidate

    r : IsRead q a.space a.candidate
    r = to_read q a.space a.candidate a.well_formed reads

    fields : credentials_of (params_of item.rest) ≡ Ok a.candidate.credentials
    fields =
        ap (λ (i : Item). credentials_of (params_of i.rest)) (sym (one_line item a.well_formed.item a.well_formed.line made.can a.well_formed.lines a.well_formed.spelled credentials reads))
        ∙ a.well_formed.fields

    by : Held q c → WasFresh item calls (calls_in (steps_for q words calls))
    by (NotHeld out none) = absurd ((without_nonce single_sizes q a.space c c.credentials.cnonce (steps_for q words calls) verdict
        (well_run single_sizes q a.space c None (steps_for q words calls) verdict r out (steps_asked q words calls) is)).1 (codes "u") admits)
    by (IsHeld n is_n text form inside) = used (outcome single_sizes q a.space c n (steps_for q words calls) verdict
        (well_run single_sizes q a.space c (Some n) (steps_for q words calls) verdict r is_n (steps_asked q words calls) is))
      where
        used : Outcome single_sizes q a.space c n (steps_for q words calls) verdict → WasFresh item calls (calls_in (steps_for q words calls))
        used (inl rejected) = absurd (rejected.never (codes "u") admits)
        used (inr u) = used_fresh moment item credentials words calls a.space c n verdict fields text form inside (codes "u") admits u

pub was_fresh : (moment : ℕ) (item : Item) (credentials : RequestCredentials) (words : List ℕ) (calls : List Call) → IsSent item → Reads (credentials_line item ∷ []) credentials
    → let q : Question = question moment (request_with item) credentials in
    AdmitsUser (decided q words calls) → WasFresh item calls (calls_in (steps_for q words calls))
was_fresh moment item credentials words calls made reads admits =
    let q : Question = question moment (request_with item) credentials in
    let v = admitted_verdict (decided q words calls) admits in
    by v.0 v.1 v.2 (no_other single_sizes q reads (steps_for q words calls) (steps_asked q words calls) v.0 v.1 (codes "u") v.2)
  where
    by : (verdict : VerdictValue) → decided (question moment (request_with item) credentials) words calls ≡ Verdict verdict → Admits (codes "u") verdict
        → IsDigestAdmitted single_sizes (question moment (request_with item) credentials) (codes "u") (steps_for (question moment (request_with item) credentials) words calls)
        ⊎ IsScramAdmitted single_sizes (question moment (request_with item) credentials) (codes "u") (steps_for (question moment (request_with item) credentials) words calls)
        → WasFresh item calls (calls_in (steps_for (question moment (request_with item) credentials) words calls))
    by verdict is a (inl d) = digest_fresh moment item credentials words calls verdict made reads is a d
    by verdict is a (inr s) = absurd (scram_never moment item credentials (codes "u") (steps_for (question moment (request_with item) credentials) words calls) made reads s)

-- ---- what stays

sent_items : (what : Sent) → IsDigestSent what → All IsSent (items_in what)
sent_items sent.Nothing d = All-nil IsSent
sent_items (sent.ScramFirst item) d = All-nil IsSent
sent_items (sent.ScramFinal item) d = All-nil IsSent
sent_items (sent.ScramAgain item) d = All-nil IsSent
sent_items (sent.Digest item) d = by (can_send item) refl
  where
    by : (b : Bool) → can_send item ≡ b → All IsSent (if b then item ∷ [] else [])
    by true can = All-cons IsSent item [] (record { can = can; digest = d }) (All-nil IsSent)
    by false can = All-nil IsSent

-- Requests and calls are added to those that there were.
pub record Grows (w v : World) : Type 0 where
  pub calls : (more : List Call) × (v.calls ≡ w.calls ++ more)
  pub made : (more : List Item) × (v.scene.made ≡ w.scene.made ++ more)
  pub sent : All IsSent w.scene.made → All IsSent v.scene.made

stays : (w : World) → Grows w w
stays w = record { calls = ([], sym (append-nil w.calls)); made = ([], sym (append-nil w.scene.made)); sent = λ all. all }

made_grows : (w : World) (words : List ℕ) (b : Bool) → Grows w (if b then made_with w (given w.scene.client out_request w.scene.clock words) else w)
made_grows w words false = stays w
made_grows w words true =
    let p = given w.scene.client out_request w.scene.clock words in
    record {
      calls = ([], sym (append-nil w.calls));
      made = (items_in p.0, refl);
      sent = λ all. All-append IsSent w.scene.made (items_in p.0) all (sent_items p.0 (digest_sent w.scene.client out_request w.scene.clock words));
    }

delivered_grows : (w : World) (words : List ℕ) (credentials : RequestCredentials) (o : Option Item) → Grows w (delivering w words credentials o)
delivered_grows w words credentials None = stays w
delivered_grows w words credentials (Some item) = record {
  calls = (calls_in (steps_for (question w.scene.clock (request_with item) credentials) words w.calls), refl);
  made = ([], sym (append-nil w.scene.made));
  sent = λ all. all;
}

step_of_grows : (w : World) (event : DrillEvent) (words : List ℕ) (credentials : RequestCredentials) → Grows w (step_of w event words credentials)
step_of_grows w Challenge words credentials = record {
  calls = (calls_in (steps_for (question w.scene.clock plain_request credentials) words w.calls), refl);
  made = ([], sym (append-nil w.scene.made));
  sent = λ all. all;
}
step_of_grows w Make words credentials = made_grows w words (has_nonce w.scene.client)
step_of_grows w (Deliver k) words credentials = delivered_grows w words credentials (slice_get w.scene.made k)
step_of_grows w (Pass seconds) words credentials = record { calls = ([], sym (append-nil w.calls)); made = ([], sym (append-nil w.scene.made)); sent = λ all. all }

pub step_grows : (w : World) (h : Happening) → Grows w (step w h)
step_grows w h = step_of_grows w h.event h.words h.credentials

and_then : {X : Type 0} (a b c : List X) → (m : List X) × (b ≡ a ++ m) → (n : List X) × (c ≡ b ++ n) → (l : List X) × (c ≡ a ++ l)
and_then a b c one two = (one.0 ++ two.0, two.1 ∙ ap (λ l. l ++ two.0) one.1 ∙ append_assoc a one.0 two.0)

pub run_grows : (hs : List Happening) (w : World) → Grows w (run hs w)
run_grows [] w = stays w
run_grows (h ∷ hs) w =
    let one = step_grows w h in
    let rest = run_grows hs (step w h) in
    record {
      calls = and_then w.calls (step w h).calls (run hs (step w h)).calls one.calls rest.calls;
      made = and_then w.scene.made (step w h).scene.made (run hs (step w h)).scene.made one.made rest.made;
      sent = λ all. rest.sent (one.sent all);
    }

pub sound_first : (a b : List Happening) (w : World) → AreSound (a ++ b) w → AreSound a w
sound_first [] b w s = tt
sound_first (h ∷ a) b w s = (s.0, sound_first a b (step w h) s.1)

pub sound_rest : (a b : List Happening) (w : World) → AreSound (a ++ b) w → AreSound b (run a w)
sound_rest [] b w s = s
sound_rest (h ∷ a) b w s = sound_rest a b (step w h) s.1

pub run_append : (a b : List Happening) (w : World) → run (a ++ b) w ≡ run b (run a w)
run_append [] b w = refl
run_append (h ∷ a) b w = run_append a b (step w h)

-- ---- twice

-- an admission, at its place
pub record WasAdmitted (w : World) (h : Happening) (k : ℕ) (item : Item) : Type 0 where
  pub fresh : WasFresh item w.calls (calls_in (steps_for (question w.scene.clock (request_with item) h.credentials) h.words w.calls))
  pub calls : (step w h).calls ≡ w.calls ++ calls_in (steps_for (question w.scene.clock (request_with item) h.credentials) h.words w.calls)

pub lines_sound : (w : World) (h : Happening) (k : ℕ) (item : Item) → h.event ≡ Deliver k → slice_get w.scene.made k ≡ Some item → IsSound w h → Reads (credentials_line item ∷ []) h.credentials
lines_sound w h k item event made sound =
    let lines : lines_of w h.event ≡ credentials_line item ∷ [] = ap (lines_of w) event ∙ ap delivered_lines made in
    subst (λ (l : List (List ℕ)). Reads l h.credentials) lines sound.reads

pub was_admitted : (w : World) (h : Happening) (k : ℕ) → All IsSent w.scene.made → IsSound w h → (a : AdmitsHere w h k) → WasAdmitted w h k a.item
was_admitted w h k all sound a = record {
  fresh = was_fresh w.scene.clock a.item h.credentials h.words w.calls (all_get IsSent w.scene.made k a.item all a.made) (lines_sound w h k a.item a.event a.made sound) a.admitted;
  calls = ap (λ (e : DrillEvent). (step_of w e h.words h.credentials).calls) a.event ∙ ap (λ (o : Option Item). (delivering w h.words h.credentials o).calls) a.made;
}

one_result : (a b : Credentials) (item other : Item) → item ≡ other → credentials_of (params_of item.rest) ≡ Ok a → credentials_of (params_of other.rest) ≡ Ok b → a ≡ b
one_result a b item other same one two =
    let both : Ok a ≡ Ok b = sym one ∙ ap (λ (i : Item). credentials_of (params_of i.rest)) same ∙ two in cc

-- behind an admitted delivery it isn't admitted again
again : (w : World) (between : List Happening) (first second : Happening) (k : ℕ) → All IsSent w.scene.made → IsSound w first → AreSound (between ++ second ∷ []) (step w first)
    → AdmitsHere w first k → AdmitsHere (run between (step w first)) second k → ⊥
again w between first second k all sound later one two =
    let u : World = step w first in
    let v : World = run between u in
    let grown = step_grows w first in
    let rest = run_grows between u in
    let there : All IsSent v.scene.made = rest.sent (grown.sent all) in
    let a = was_admitted w first k all sound one in
    let b = was_admitted v second k there (sound_rest between (second ∷ []) u later).0 two in
    let kept : slice_get v.scene.made k ≡ Some one.item =
    ap (λ (l : List Item). slice_get l k) rest.made.1
    ∙ get_more u.scene.made rest.made.0 k one.item (ap (λ (l : List Item). slice_get l k) grown.made.1 ∙ get_more w.scene.made grown.made.0 k one.item one.made) in
    let same : one.item ≡ two.item = (let both : Some one.item ≡ Some two.item = sym kept ∙ two.made in cc) in
    let credentials : a.fresh.credentials ≡ b.fresh.credentials = one_result a.fresh.credentials b.fresh.credentials one.item two.item same a.fresh.fields b.fresh.fields in
    let texts : name_text a.fresh.nonce ≡ name_text b.fresh.nonce = sym a.fresh.named ∙ ap (λ (c : Credentials). c.nonce) credentials ∙ b.fresh.named in
    let nonces : a.fresh.nonce ≡ b.fresh.nonce = names_one a.fresh.nonce b.fresh.nonce a.fresh.form b.fresh.form texts in
    let counts : nc_number b.fresh.credentials.nc ≡ nc_number a.fresh.credentials.nc = ap (λ (c : Credentials). nc_number c.nc) (sym credentials) in
    let past : List Call = w.calls ++ a.fresh.before in
    let between_calls : List Call = a.fresh.after ++ (rest.calls.0 ++ b.fresh.before) in
    let calls : v.calls ++ b.fresh.before ≡ past ++ a.fresh.call ∷ between_calls =
    ap (λ (l : List Call). l ++ b.fresh.before) (rest.calls.1 ∙ ap (λ (l : List Call). l ++ rest.calls.0) (a.calls ∙ ap (λ (l : List Call). w.calls ++ l) a.fresh.is))
    ∙ regrouped w.calls a.fresh.before (a.fresh.call ∷ a.fresh.after) rest.calls.0 b.fresh.before in
    let U : TableName → ℕ → Type 0 = λ n c. Uses n c b.fresh.call.what in
    let uses : Uses a.fresh.nonce (nc_number a.fresh.credentials.nc) b.fresh.call.what =
    subst (λ (c : ℕ). U a.fresh.nonce c) counts (subst (λ (n : TableName). U n (nc_number b.fresh.credentials.nc)) (sym nonces) b.fresh.uses) in
    let R : TableName → List Call → Type 0 = λ n l. reply single_sizes n.shard l b.fresh.call ≡ Fresh b.fresh.number in
    let fresh : R a.fresh.nonce (past ++ a.fresh.call ∷ between_calls) =
    subst (λ (n : TableName). R n (past ++ a.fresh.call ∷ between_calls)) (sym nonces) (subst (λ (l : List Call). R b.fresh.nonce l) calls b.fresh.fresh) in
    admits_once single_sizes a.fresh.nonce.shard past between_calls a.fresh.call b.fresh.call a.fresh.nonce (nc_number a.fresh.credentials.nc) a.fresh.number b.fresh.number
    a.fresh.uses uses a.fresh.fresh fresh
  where
    regrouped : (a b c d e : List Call) → ((a ++ (b ++ c)) ++ d) ++ e ≡ (a ++ b) ++ (c ++ (d ++ e))
    regrouped a b c d e =
        ap (λ (l : List Call). (l ++ d) ++ e) (sym (append_assoc a b c))
        ∙ ap (λ (l : List Call). l ++ e) (append_assoc (a ++ b) c d)
        ∙ append_assoc (a ++ b) (c ++ d) e
        ∙ ap (λ (l : List Call). (a ++ b) ++ l) (append_assoc c d e)

pub each_once : AdmitsEachOnce
each_once before between first second k sound one two =
    let w : World = run before start in
    let S : List Happening → Type 0 = λ l. AreSound l start in
    let whole : AreSound (before ++ (first ∷ (between ++ second ∷ []))) start = subst S (append_assoc before (first ∷ between) (second ∷ [])) sound in
    let rest = sound_rest before (first ∷ (between ++ second ∷ [])) start whole in
    let H : World → Type 0 = λ x. AdmitsHere x second k in
    again w between first second k ((run_grows before start).sent (All-nil IsSent)) rest.0 rest.1 one
    (subst H (run_append before (first ∷ between) start) two)
