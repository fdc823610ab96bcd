-- What a step does.
use Rattle.std.proofs.Common.{◌≡◌, inl, inr, ◌<◌, ◌+◌, ◌++◌, ℕ, zero, suc, Bool, true, false, length, replicate, slice_get, nat_le, List, [], ◌∷◌, append-nil, Option, Some, None, IfOk, OnOk, OnErr, refl, sym, ap, ◌∙◌, subst, arith}
use Rattle.std.specs.Prelude.{Result, Ok, Err, if◌then◌else◌}
use Rattle.auth_grammar.specs.RoleFields.{challenge_name}
use Rattle.auth_grammar.specs.declared.items.Item.{Item}
use Rattle.auth_grammar.specs.declared.items.Role.{Role}
use Rattle.auth_grammar.specs.declared.items.Role.TheVariants.{Origin}
use Rattle.auth_io.specs.Told.{Adds}
use Rattle.auth_io.proofs.Passing.{Adds_none}
use Rattle.http_wire.specs.declared.request.Request.{Request}
use Rattle.scram_text.proofs.Base64Groups.{text_some}
use Rattle.nonce_shard.specs.Journal.{Journal}
use Rattle.nonce_shard.specs.Names.{IsName, name_bytes, name_text}
use Rattle.nonce_shard.specs.declared.calls.Call.{Call}
use Rattle.nonce_shard.specs.declared.names.TableName.{TableName}
use Rattle.auth_decide.specs.Credentials.{Reads, credentials_lines}
use Rattle.auth_decide.specs.Stages.{Question}
use Rattle.auth_decide.specs.declared.credentials.CredentialsField.TheVariants as read
use Rattle.auth_decide.specs.declared.credentials.RequestCredentials.{RequestCredentials}
use Rattle.auth_decide.specs.declared.scram_message.ScramMessage.TheVariants as message
use Rattle.auth_decide.specs.declared.site.Site.{Site}
use Rattle.auth_decide.specs.declared.verdict.Ask.{Ask}
use Rattle.auth_decide.specs.declared.verdict.Ask.TheVariants.{Verdict}
use Rattle.auth_decide.specs.declared.verdict.Verdict.{Verdict as VerdictValue}
use Rattle.auth_decide.specs.declared.verdict.Verdict.TheVariants as verdict
use Rattle.std.specs.List.{list_all}
use Rattle.std.proofs.lemmas.Bool.{and_parts}
use Rattle.auth_grammar.specs.Valid.{is_valid}
use Rattle.auth_grammar.specs.declared.items.Quoting.TheVariants as quoting
use Rattle.http_wire.specs.declared.response.Response.{Response}
use Rattle.client_core.proofs.ChallengeLaws.{challenged_role, concludes_challenge}
use Rattle.client_core.specs.Clients.{Concludes, forgotten}
use Rattle.client_core.specs.Conclusions.{challenged_state}
use Rattle.client_core.specs.Readings.{challenge_status, lines_of as field_lines}
use Rattle.client_core.specs.declared.outcome.Outcome.{Outcome}
use Rattle.client_core.specs.declared.request.OutRequest.{OutRequest}
use Rattle.client_core.specs.declared.request.Sent.TheVariants as sent
use Rattle.client_core.specs.Digests.{DrewAtMost, has_nonce}
use Rattle.client_core.specs.Givings.{given}
use Rattle.client_core.specs.declared.request.Sent.{Sent}
use Rattle.client_core.specs.declared.state.State.{State}
use Rattle.drill.specs.declared.error.DrillError.{DrillError}
use Rattle.drill.specs.declared.error.DrillError.TheVariants.{RandomFault, Worn, OutOfMemory}
use Rattle.drill.specs.declared.event.DrillEvent.{DrillEvent}
use Rattle.drill.specs.declared.event.DrillEvent.TheVariants.{Challenge, Make, Deliver, Pass}
use Rattle.drill.specs.declared.tally.Tally.{Tally}
use Rattle.drill.specs.Deciding.{AreWords, Begins, Decides, Ends, Wears, calls_in, decided, question, steps_for, with_calls}
use Rattle.drill.specs.Requests.{can_answer, challenge_line, out_request, plain_request, request_with, response_with}
use Rattle.drill.specs.Site.{the_site}
use Rattle.drill.specs.Steps.{Gives, IsLeft, IsStep, IsWornBy, Takes, world_at}
use Rattle.drill.specs.World.{IsSound, Scene, World, answered, delivered_lines, delivering, delivery_draws, items_in, lines_of, made_with, tallied, told}
use Rattle.drill.proofs.Conducting.{zeros}
use Rattle.drill.proofs.Given.{given_role}

-- ---- the decision

-- a question is that of the request, where each of its parts is
pub question_is : (q : Question) (moment : ℕ) (request : Request) → q.role ≡ Origin → q.request ≡ request → q.moment ≡ moment → q.site ≡ the_site → q.shards ≡ 1 → q ≡ question moment request q.credentials
question_is q moment request role request_is moment_is site_is shards =
    ap (λ (x : Role). let y : Question = record q { role = x } in y) role
    ∙ ap (λ (x : Request). let y : Question = record q { role = Origin; request = x } in y) request_is
    ∙ ap (λ (x : ℕ). let y : Question = record q { role = Origin; request = request; moment = x } in y) moment_is
    ∙ ap (λ (x : Site). let y : Question = record q { role = Origin; request = request; moment = moment; site = x } in y) site_is
    ∙ ap (λ (x : ℕ). let y : Question = record q { role = Origin; request = request; moment = moment; site = the_site; shards = x } in y) shards

pub decides_of : (moment : ℕ) (request : Request) (before now : Journal) (told drawn : Option (List (List ℕ))) (credentials : RequestCredentials) (r : Result VerdictValue DrillError)
    → Reads (credentials_lines Origin request) credentials → Ends (question moment request credentials) before now told drawn r → IfOk r (Decides moment request before now told drawn)
decides_of moment request before now told drawn credentials (Ok verdict) reads ends = record { credentials = credentials; reads = reads; ended = ends }
decides_of moment request before now told drawn credentials (Err error) reads ends = tt

pub begun_of : (q : Question) (before now : Journal) (told drawn : Option (List (List ℕ))) (r : Result VerdictValue DrillError) → Ends q before now told drawn r → OnErr r (Begins before now)
begun_of q before now told drawn (Ok verdict) ends = tt
begun_of q before now told drawn (Err RandomFault) ends = ends
begun_of q before now told drawn (Err (Worn calls)) ends = ends.0
begun_of q before now told drawn (Err OutOfMemory) ends = ends

pub worn_of : (moment : ℕ) (request : Request) (before now : Journal) (told drawn : Option (List (List ℕ))) (credentials : RequestCredentials) (r : Result VerdictValue DrillError)
    → Reads (credentials_lines Origin request) credentials → Ends (question moment request credentials) before now told drawn r
    → (calls : ℕ) → r ≡ Err (Worn calls) → Wears moment request before now calls
worn_of moment request before now told drawn credentials r reads ends calls is =
    let worn = subst (λ (x : Result VerdictValue DrillError). Ends (question moment request credentials) before now told drawn x) is ends in
    record { credentials = credentials; reads = reads; over = worn.1 }

pub begins_none : (table : Journal) → Begins table table
begins_none table = ([], ap (λ (l : List Call). let j : Journal = record table { calls = l } in j) (sym (append-nil table.calls)))

-- ---- lines that say nothing

abbrev no_credentials : RequestCredentials
no_credentials = record { field = read.Absent; nonce = None; scram = message.Absent }

no_name : (n : TableName) → IsName n → [] ≡ name_text n → ⊥
no_name n form is = text_some (name_bytes n) (omega arith) (sym is)

says_nothing : Reads [] no_credentials
says_nothing = record { field = refl; nonce = no_name; scram = refl }

quiet : (w : World) (event : DrillEvent) (words : List ℕ) → AreWords words → lines_of w event ≡ [] → IsSound w (record { event = event; words = words; credentials = no_credentials })
quiet w event words form none = record { words = form; reads = subst (λ (l : List (List ℕ)). Reads l no_credentials) (sym none) says_nothing }

same_table : (table : Journal) → table ≡ record table { calls = table.calls }
same_table table = refl

grown_table : (before now : Journal) (more : List Call) → now ≡ with_calls before more → now ≡ record before { calls = now.calls }
grown_table before now more is = subst (λ (j : Journal). j ≡ (let k : Journal = record before { calls = j.calls } in k)) (sym is) refl

-- ---- the steps

pub pass_step : (old new : Scene) (table : Journal) (told : Option (List (List ℕ))) (seconds : ℕ) → new ≡ record old { clock = old.clock + seconds } → IsStep (Pass seconds) old new table table told told
pass_step old new table told seconds is = record {
  happening = record { event = Pass seconds; words = replicate 16 0; credentials = no_credentials };
  its_event = refl;
  sound = quiet (world_at old table) (Pass seconds) (replicate 16 0) zeros refl;
  world = ap (λ (s : Scene). world_at s table) is;
  its_table = refl;
  draws = Adds_none told;
}

pub no_make_step : (old : Scene) (table : Journal) (told : Option (List (List ℕ))) → has_nonce old.client ≡ false → IsStep Make old old table table told told
no_make_step old table told none = record {
  happening = record { event = Make; words = replicate 16 0; credentials = no_credentials };
  its_event = refl;
  sound = quiet (world_at old table) Make (replicate 16 0) zeros refl;
  world = ap (λ (b : Bool). if b then made_with (world_at old table) (given old.client out_request old.clock (replicate 16 0)) else world_at old table) (sym none);
  its_table = refl;
  draws = subst (λ (b : Bool). Adds told told (if b then replicate 16 0 ∷ [] else [])) (sym none) (Adds_none told);
}

pub make_step : (old new : Scene) (table : Journal) (told drawn : Option (List (List ℕ))) (words : List ℕ) (what : Sent) (client : State) → has_nonce old.client ≡ true → AreWords words
    → Adds told drawn (words ∷ []) → given old.client out_request old.clock words ≡ (what, client) → new ≡ record old { client = client; made = old.made ++ items_in what } → IsStep Make old new table table told drawn
make_step old new table told drawn words what client has form adds gave is = record {
  happening = record { event = Make; words = words; credentials = no_credentials };
  its_event = refl;
  sound = quiet (world_at old table) Make words form refl;
  world =
      ap (λ (s : Scene). world_at s table) is
      ∙ ap (λ (p : Sent × State). made_with (world_at old table) p) (sym gave)
      ∙ ap (λ (b : Bool). if b then made_with (world_at old table) (given old.client out_request old.clock words) else world_at old table) (sym has);
  its_table = refl;
  draws = subst (λ (b : Bool). Adds told drawn (if b then words ∷ [] else [])) (sym has) adds;
}

pub challenge_step : (old new : Scene) (before now : Journal) (told drawn : Option (List (List ℕ))) (verdict : VerdictValue) → Decides old.clock plain_request before now told drawn verdict
    → new ≡ record old { client = answered (forgotten old.client) old.clock (Verdict verdict) } → IsStep Challenge old new before now told drawn
challenge_step old new before now told drawn verdict d is =
    let e = d.ended in
    let q : Question = question old.clock plain_request d.credentials in
    record {
      happening = record { event = Challenge; words = e.words; credentials = d.credentials };
      its_event = refl;
      sound = record { words = e.form; reads = d.reads };
      world =
          ap (λ (s : Scene). world_at s now) is
          ∙ ap (λ (a : Ask). let s : Scene = record old { client = answered (forgotten old.client) old.clock a } in world_at s now) (sym e.is)
          ∙ ap (λ (j : Journal). let w : World = record { scene = record old { client = answered (forgotten old.client) old.clock (decided q e.words before.calls) }; calls = j.calls } in w) e.table;
      its_table = grown_table before now (calls_in (steps_for q e.words before.calls)) e.table;
      draws = e.adds;
    }

pub deliver_step : (old new : Scene) (before now : Journal) (told drawn : Option (List (List ℕ))) (k : ℕ) (item : Item) (verdict : VerdictValue) → slice_get old.made k ≡ Some item
    → Decides old.clock (request_with item) before now told drawn verdict → new ≡ record old { tally = tallied old.tally (Verdict verdict) } → IsStep (Deliver k) old new before now told drawn
deliver_step old new before now told drawn k item verdict there d is =
    let e = d.ended in
    let w : World = world_at old before in
    let q : Question = question old.clock (request_with item) d.credentials in
    record {
      happening = record { event = Deliver k; words = e.words; credentials = d.credentials };
      its_event = refl;
      sound = record { words = e.form; reads = subst (λ (l : List (List ℕ)). Reads l d.credentials) (ap delivered_lines (sym there)) d.reads };
      world =
          ap (λ (s : Scene). world_at s now) is
          ∙ ap (λ (a : Ask). let s : Scene = record old { tally = tallied old.tally a } in world_at s now) (sym e.is)
          ∙ ap (λ (j : Journal). let v : World = record { scene = record old { tally = tallied old.tally (decided q e.words before.calls) }; calls = j.calls } in v) e.table
          ∙ ap (λ (o : Option Item). delivering w e.words d.credentials o) (sym there);
      its_table = grown_table before now (calls_in (steps_for q e.words before.calls)) e.table;
      draws = subst (λ (o : Option Item). Adds told drawn (delivery_draws w e.words d.credentials o)) (sym there) e.adds;
    }

-- ---- worn

pub challenge_worn : (old : Scene) (before now : Journal) (calls : ℕ) → Wears old.clock plain_request before now calls → IsWornBy Challenge old before now calls
challenge_worn old before now calls w = record {
  limit = w.over.limit;
  full = w.over.full;
  happening = record { event = Challenge; words = w.over.words; credentials = w.credentials };
  its_event = refl;
  sound = record { words = w.over.form; reads = w.reads };
  over = w.over.over;
}

pub deliver_worn : (old : Scene) (before now : Journal) (calls k : ℕ) (item : Item) → slice_get old.made k ≡ Some item → Wears old.clock (request_with item) before now calls → IsWornBy (Deliver k) old before now calls
deliver_worn old before now calls k item there w = record {
  limit = w.over.limit;
  full = w.over.full;
  happening = record { event = Deliver k; words = w.over.words; credentials = w.credentials };
  its_event = refl;
  sound = record { words = w.over.form; reads = subst (λ (l : List (List ℕ)). Reads l w.credentials) (ap delivered_lines (sym there)) w.reads };
  over = subst (λ (o : Option Item). before.limit < length (delivering (world_at old before) w.over.words w.credentials o).calls) (sym there) w.over.over;
}

-- ---- what the client is told

pub some_answer : (items : List Item) (response : Response) → (if can_answer items then Some (response_with items) else None) ≡ Some response → (can_answer items ≡ true) × (response ≡ response_with items)
some_answer items response is = by (can_answer items) is
  where
    by : (b : Bool) → (if b then Some (response_with items) else None) ≡ Some response → (b ≡ true) × (response ≡ response_with items)
    by true e = (refl, (let same : Some (response_with items) ≡ Some response = e in cc))
    by false e = absurd (let wrong : None ≡ Some response = e in cc)

pub not_told : (s : State) (moment : ℕ) (items : List Item) → (if can_answer items then Some (response_with items) else None) ≡ None → s ≡ told s moment items
not_told s moment items is = by (can_answer items) is
  where
    by : (b : Bool) → (if b then Some (response_with items) else None) ≡ None → s ≡ (if b then challenged_state s out_request (response_with items) moment items else s)
    by true e = absurd (let wrong : Some (response_with items) ≡ None = e in cc)
    by false e = refl

pub told_is : (s t : State) (moment : ℕ) (items : List Item) (request : OutRequest) (what : Sent) (response : Response) (outcome : Outcome) → s.role ≡ Origin → request ≡ out_request → what ≡ sent.Nothing
    → (if can_answer items then Some (response_with items) else None) ≡ Some response → Concludes s request what response moment outcome t → t ≡ told s moment items
told_is s t moment items request what response outcome role request_is what_is answer c =
    let a = some_answer items response answer in
    let C : Response → Type 0 = λ r. Concludes s out_request sent.Nothing r moment outcome t in
    let plain : C response = subst (λ (w : Sent). Concludes s out_request w response moment outcome t) what_is (subst (λ (r : OutRequest). Concludes s r what response moment outcome t) request_is c) in
    let valid = (and_parts (list_all is_valid items) (nat_le (length (challenge_line items)) 16000) a.0).0 in
    concludes_challenge s t out_request (response_with items) moment outcome quoting.Challenge items valid (ap challenge_status (sym role)) (ap (λ (r : Role). field_lines (response_with items) (challenge_name r)) role) (subst C a.1 plain)
    ∙ ap (λ (b : Bool). if b then challenged_state s out_request (response_with items) moment items else s) (sym a.0)

pub told_role : (s : State) (moment : ℕ) (items : List Item) → (told s moment items).role ≡ s.role
told_role s moment items = by (can_answer items)
  where
    by : (b : Bool) → (if b then challenged_state s out_request (response_with items) moment items else s).role ≡ s.role
    by true = challenged_role s out_request (response_with items) moment items
    by false = refl

-- an answer leaves the role
pub answered_role : (s : State) (moment : ℕ) (v : VerdictValue) → (answered s moment (Verdict v)).role ≡ s.role
answered_role s moment (verdict.Admit user proof) = refl
answered_role s moment (verdict.Open items) = refl
answered_role s moment (verdict.Challenge items) = told_role s moment items
answered_role s moment (verdict.Continue item) = refl
answered_role s moment (verdict.Bad why) = refl

pub on_ok : {T E A B : Type 0} → (A → B) → (r : Result T E) → OnOk r A → OnOk r B
on_ok f (Ok value) a = f a
on_ok f (Err error) a = tt

-- ---- what is left of a step that isn't made

pub decides_begun : (moment : ℕ) (request : Request) (before now : Journal) (told drawn : Option (List (List ℕ))) (verdict : VerdictValue) → Decides moment request before now told drawn verdict → Begins before now
decides_begun moment request before now told drawn verdict d = (calls_in (steps_for (question moment request d.credentials) d.ended.words before.calls), d.ended.table)

left_rest : (old new : Scene) (client : State) → new ≡ record old { client = client } → new ≡ record old { client = new.client }
left_rest old new client is = subst (λ (n : Scene). n ≡ (let m : Scene = record old { client = n.client } in m)) (sym is) refl

pub challenge_left : (old new : Scene) → new ≡ record old { client = forgotten old.client } → IsLeft Challenge old new
challenge_left old new is = record { rest = left_rest old new (forgotten old.client) is; client = ap (λ (x : Scene). x.client) is }

pub drew_left : (old new : Scene) (client : State) → DrewAtMost old.client client → new ≡ record old { client = client } → IsLeft Make old new
drew_left old new client drew is = record {
  rest = left_rest old new client is;
  client = inl (subst (DrewAtMost old.client) (sym (ap (λ (x : Scene). x.client) is)) drew);
}

pub gave_left : (old new : Scene) (client : State) (told drawn : Option (List (List ℕ))) (what : Sent) → Gives old.client client old.clock told drawn what → new ≡ record old { client = client } → IsLeft Make old new
gave_left old new client told drawn what g is = record {
  rest = left_rest old new client is;
  client = inr (g.words, what, g.gave ∙ ap (λ (t : State). (what, t)) (sym (ap (λ (x : Scene). x.client) is)));
}

pub deliver_left : (old new : Scene) (k : ℕ) → new ≡ old → IsLeft (Deliver k) old new
deliver_left old new k is = record { rest = left_rest old new old.client is; client = ap (λ (x : Scene). x.client) is }

-- ---- what was given

pub given_step : (old new : Scene) (table : Journal) (told drawn : Option (List (List ℕ))) (what : Sent) (client : State) → has_nonce old.client ≡ true → Gives old.client client old.clock told drawn what
    → new ≡ record old { client = client; made = old.made ++ items_in what } → IsStep Make old new table table told drawn
given_step old new table told drawn what client has g is = make_step old new table told drawn g.words what client has g.form g.adds g.gave is

pub gives_role : (s t : State) (moment : ℕ) (told drawn : Option (List (List ℕ))) (what : Sent) → Gives s t moment told drawn what → t.role ≡ s.role
gives_role s t moment told drawn what g = given_role s t out_request moment g.words what g.gave

-- what is taken of a challenge is what the client is told
pub takes_told : (s t : State) (moment : ℕ) (items : List Item) (response : Response) → s.role ≡ Origin → (if can_answer items then Some (response_with items) else None) ≡ Some response
    → Takes s t response moment → t ≡ told s moment items
takes_told s t moment items response role answer k = told_is s t moment items out_request sent.Nothing response k.0 role refl refl answer k.1

-- ---- for the calls, by the parts of a world

abbrev pub scene_of : State → List Item → ℕ → Tally → Scene
scene_of client made clock tally = record { client = client; made = made; clock = clock; tally = tally }

abbrev error_in : {T : Type 0} → DrillError → Result T DrillError → DrillError
error_in other (Ok value) = other
error_in other (Err error) = error

-- a result has one error
pub same_error : {T : Type 0} (r : Result T DrillError) (a b : DrillError) → r ≡ Err a → r ≡ Err b → a ≡ b
same_error {T} r a b one two = ap (λ (x : Result T DrillError). error_in b x) (sym one ∙ two)

pub challenge_at : (old : Scene) (client t : State) (made : List Item) (clock : ℕ) (tally : Tally) (before now : Journal) (told drawn : Option (List (List ℕ))) (verdict : VerdictValue)
    → scene_of client made clock tally ≡ old → Decides clock plain_request before now told drawn verdict → t ≡ answered (forgotten client) clock (Verdict verdict)
    → IsStep Challenge old (scene_of t made clock tally) before now told drawn
challenge_at old client t made clock tally before now told drawn verdict is d heard =
    subst (λ (s : Scene). IsStep Challenge s (scene_of t made clock tally) before now told drawn) is
    (challenge_step (scene_of client made clock tally) (scene_of t made clock tally) before now told drawn verdict d (ap (λ (x : State). scene_of x made clock tally) heard))

pub challenge_worn_at : (old : Scene) (client : State) (made : List Item) (clock : ℕ) (tally : Tally) (before now : Journal) (calls : ℕ) → scene_of client made clock tally ≡ old
    → Wears clock plain_request before now calls → IsWornBy Challenge old before now calls
challenge_worn_at old client made clock tally before now calls is w =
    subst (λ (s : Scene). IsWornBy Challenge s before now calls) is (challenge_worn (scene_of client made clock tally) before now calls w)

pub no_make_at : (old : Scene) (client : State) (made : List Item) (clock : ℕ) (tally : Tally) (table : Journal) (told : Option (List (List ℕ))) → scene_of client made clock tally ≡ old
    → has_nonce client ≡ false → IsStep Make old old table table told told
no_make_at old client made clock tally table told is none =
    subst (λ (s : Scene). IsStep Make s s table table told told) is (no_make_step (scene_of client made clock tally) table told none)

pub make_at : (old new : Scene) (client t : State) (made : List Item) (clock : ℕ) (tally : Tally) (table : Journal) (told drawn : Option (List (List ℕ))) (what : Sent)
    → scene_of client made clock tally ≡ old → has_nonce client ≡ true → Gives client t clock told drawn what → new ≡ scene_of t (made ++ items_in what) clock tally
    → IsStep Make old new table table told drawn
make_at old new client t made clock tally table told drawn what is has g kept =
    subst (λ (s : Scene). IsStep Make s new table table told drawn) is (given_step (scene_of client made clock tally) new table told drawn what t has g kept)

pub deliver_at : (old : Scene) (client : State) (made : List Item) (clock : ℕ) (tally t : Tally) (before now : Journal) (told drawn : Option (List (List ℕ))) (k : ℕ) (item : Item) (verdict : VerdictValue)
    → scene_of client made clock tally ≡ old → slice_get made k ≡ Some item → Decides clock (request_with item) before now told drawn verdict → t ≡ tallied tally (Verdict verdict)
    → IsStep (Deliver k) old (scene_of client made clock t) before now told drawn
deliver_at old client made clock tally t before now told drawn k item verdict is there d counted =
    subst (λ (s : Scene). IsStep (Deliver k) s (scene_of client made clock t) before now told drawn) is
    (deliver_step (scene_of client made clock tally) (scene_of client made clock t) before now told drawn k item verdict there d (ap (λ (x : Tally). scene_of client made clock x) counted))

pub deliver_worn_at : (old : Scene) (client : State) (made : List Item) (clock : ℕ) (tally : Tally) (before now : Journal) (calls k : ℕ) (item : Item) → scene_of client made clock tally ≡ old
    → slice_get made k ≡ Some item → Wears clock (request_with item) before now calls → IsWornBy (Deliver k) old before now calls
deliver_worn_at old client made clock tally before now calls k item is there w =
    subst (λ (s : Scene). IsWornBy (Deliver k) s before now calls) is (deliver_worn (scene_of client made clock tally) before now calls k item there w)

-- what each of a list passes, the one at a place passes
pub passes_at : (p : Item → Bool) (xs : List Item) (k : ℕ) (item : Item) → list_all p xs ≡ true → slice_get xs k ≡ Some item → p item ≡ true
passes_at p [] k item all there = absurd (let no : None ≡ Some item = there in cc)
passes_at p (x ∷ xs) zero item all there = subst (λ (y : Item). p y ≡ true) (let same : Some x ≡ Some item = there in cc) (and_parts (p x) (list_all p xs) all).0
passes_at p (x ∷ xs) (suc k) item all there = passes_at p xs k item (and_parts (p x) (list_all p xs) all).1 there
