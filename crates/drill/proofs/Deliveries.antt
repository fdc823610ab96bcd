-- What comes of a delivery of a made request.
use Rattle.std.proofs.Common.{◌≡◌, ◌⊎◌, inl, inr, ℕ, zero, suc, ◌+◌, ◌≤◌, ◌<◌, Bool, true, false, codes, length, length-append, List, [], ◌∷◌, ◌++◌, append-nil, Option, Some, None, All, refl, sym, ap, ◌∙◌, subst, arith}
use Rattle.std.specs.Prelude.{if◌then◌else◌}
use Rattle.std.specs.Option.{option_map_or}
use Rattle.std.proofs.lemmas.List.{length-map}
use Rattle.std.proofs.lemmas.List.Elements.{All-nil, All-cons}
use Rattle.std.proofs.lemmas.Slice.Eq.{bytes_eq-Decides}
use Rattle.auth_grammar.specs.declared.items.Role.TheVariants.{Origin}
use Rattle.nonce_shard.specs.Laws.{Uses}
use Rattle.nonce_shard.specs.Names.{IsName, name_text}
use Rattle.nonce_shard.specs.Sizes.{single_sizes}
use Rattle.nonce_shard.specs.declared.calls.Call.{Call}
use Rattle.nonce_shard.specs.declared.calls.What.{What}
use Rattle.nonce_shard.specs.declared.calls.What.TheVariants.{Issue, Peek, Use, Open, Take, Keep, Recall}
use Rattle.nonce_shard.specs.declared.names.TableName.{TableName}
use Rattle.auth_decide.specs.Asks.{asked, use_of}
use Rattle.auth_decide.specs.Credentials.{Reads}
use Rattle.auth_decide.specs.Decisions.{IsOutside}
use Rattle.auth_decide.specs.Paths.{correspond, from_slash, path_of, without_authority}
use Rattle.auth_decide.specs.Responses.{is_right, right_response}
use Rattle.auth_decide.specs.Stages.{Question, challenge_stage, protection_space, right_stage}
use Rattle.auth_decide.specs.VerifiedCredentials.{verified}
use Rattle.auth_decide.specs.declared.candidate.Candidate.{Candidate}
use Rattle.auth_decide.specs.declared.credentials.CredentialsField.TheVariants as read
use Rattle.auth_decide.specs.declared.credentials.RequestCredentials.{RequestCredentials}
use Rattle.auth_decide.specs.declared.verdict.Ask.{Ask}
use Rattle.auth_decide.specs.declared.verdict.Ask.TheVariants.{Draw as DrawWords, Table, Verdict}
use Rattle.auth_decide.specs.declared.verdict.Verdict.{Verdict as VerdictValue}
use Rattle.auth_decide.proofs.Few.{few_asks}
use Rattle.admission.specs.Steps.{Step, Drew, Called, IsIssue, OnlyIssue, answer_of, answers_of, calls_before_nonce}
use Rattle.admission.proofs.Exact.{Held, IsHeld, NotHeld, held_or_not, well_named, well_run}
use Rattle.admission.proofs.Lines.{IsRead}
use Rattle.admission.proofs.Outcomes.{without_nonce}
use Rattle.admission.proofs.Runs.{IsUseOf, Run, use_reply_of, use_step, using}
use Rattle.drill.specs.Deciding.{calls_in, conduct, decided, done_for, question, steps_for}
use Rattle.drill.specs.Laws.{AdmitsUser}
use Rattle.drill.specs.Requests.{credentials_line, plain_request, request_with}
use Rattle.drill.specs.Site.{the_site, space, user_secret}
use Rattle.drill.proofs.Decided.{steps_asked, steps_placed}
use Rattle.drill.proofs.Known.{Draw, IsDraw, made_credentials, made_fields, made_item}

-- ---- a decision comes to a verdict

none_done : (ask : Ask) (words : List ℕ) (calls : List Call) → done_for ask words calls ≡ None → (v : VerdictValue) × (ask ≡ Verdict v)
none_done DrawWords words calls e = absurd (cc (e))
none_done (Table shard call) words calls e = absurd (cc (e))
none_done (Verdict v) words calls e = (v, refl)

-- either it has come to a verdict, or so much was done
abbrev Comes : Question → ℕ → List Step → Type 0
Comes q n steps = ((v : VerdictValue) × (asked q (answers_of single_sizes steps) ≡ Verdict v)) ⊎ (length steps ≡ n)

comes_on : (n : ℕ) (q : Question) (words : List ℕ) (calls : List Call) (done : List Step) → Comes q (length done + n) (conduct n q words calls done)
unfolding conduct
comes_on zero q words calls done = inr (omega arith)
comes_on (suc n) q words calls done = by (done_for (asked q (answers_of single_sizes done)) words (calls ++ calls_in done)) refl (λ step. comes_on n q words calls (done ++ step ∷ []))
  where
    by : (o : Option Step) → done_for (asked q (answers_of single_sizes done)) words (calls ++ calls_in done) ≡ o
        → ((step : Step) → Comes q (length (done ++ step ∷ []) + n) (conduct n q words calls (done ++ step ∷ [])))
        → Comes q (length done + suc n) (option_map_or (λ step. conduct n q words calls (done ++ step ∷ [])) o done)
    by None is again = inl (none_done (asked q (answers_of single_sizes done)) words (calls ++ calls_in done) is)
    by (Some step) is again =
        let size : length (done ++ step ∷ []) + n ≡ length done + suc n = omega (arith, length-append done (step ∷ [])) in
        subst (λ (m : ℕ). Comes q m (conduct n q words calls (done ++ step ∷ []))) size (again step)

too_many : (q : Question) (steps : List Step) → length steps ≡ 5 → IsOutside (asked q (answers_of single_sizes steps)) → ⊥
too_many q steps five out =
    let few : length (answers_of single_sizes steps) ≤ 3 = few_asks q (answers_of single_sizes steps) out in
    let same : length (answers_of single_sizes steps) ≡ length steps = length-map steps (answer_of single_sizes) in
    omega (arith, few, same, five)

settled : (q : Question) (steps : List Step) → Comes q 5 steps → (ask : Ask) → asked q (answers_of single_sizes steps) ≡ ask → (v : VerdictValue) × (ask ≡ Verdict v)
settled q steps comes (Verdict v) is = (v, refl)
settled q steps (inl found) DrawWords is = absurd (let no : DrawWords ≡ Verdict found.0 = sym is ∙ found.1 in cc)
settled q steps (inl found) (Table shard call) is = absurd (let no : Table shard call ≡ Verdict found.0 = sym is ∙ found.1 in cc)
settled q steps (inr five) DrawWords is = absurd (too_many q steps five (subst IsOutside (sym is) tt))
settled q steps (inr five) (Table shard call) is = absurd (too_many q steps five (subst IsOutside (sym is) tt))

pub decides : (q : Question) (words : List ℕ) (calls : List Call) → (v : VerdictValue) × (decided q words calls ≡ Verdict v)
unfolding steps_for
decides q words calls = settled q (steps_for q words calls) (comes_on 5 q words calls []) (decided q words calls) refl

-- ---- calls that use no count

abbrev pub IsNoUse : Call → Type 0
IsNoUse call = (n : TableName) (count : ℕ) → Uses n count call.what → ⊥

issue_none : (what : What) → IsIssue what → (n : TableName) (count : ℕ) → Uses n count what → ⊥
issue_none (Issue kind number random) is n count uses = uses
issue_none (Peek nonce _) is n count uses = absurd is
issue_none (Use nonce kind _ used given) is n count uses = absurd is
issue_none (Open _ random exchange) is n count uses = absurd is
issue_none (Take sid _) is n count uses = absurd is
issue_none (Keep sid _) is n count uses = absurd is
issue_none (Recall sid _) is n count uses = absurd is

pub only_issue : (steps : List Step) → OnlyIssue steps → All IsNoUse (calls_in steps)
only_issue [] only = All-nil IsNoUse
only_issue (Drew words ∷ Called shard before call ∷ []) only = All-cons IsNoUse call [] (issue_none call.what only) (All-nil IsNoUse)
only_issue (Drew words ∷ []) only = absurd only
only_issue (Drew words ∷ Drew others ∷ rest) only = absurd only
only_issue (Drew words ∷ Called shard before call ∷ next ∷ rest) only = absurd only
only_issue (Called shard before call ∷ rest) only = absurd only

-- ---- a made request is well-formed

abbrev pub candidate : Draw → Candidate
candidate draw = record { credentials = made_credentials draw; user = codes "u"; secret = user_secret }

pub its_space : protection_space Origin plain_request the_site ≡ Some space
unfolding path_of without_authority from_slash
its_space = refl

its_uri : correspond (codes "/") (codes "/") ≡ true
unfolding correspond without_authority from_slash
its_uri = refl

abbrev pub made_question : ℕ → Draw → RequestCredentials → Question
made_question moment draw credentials = question moment (request_with (made_item draw)) credentials

pub well_made : (moment : ℕ) (draw : Draw) (credentials : RequestCredentials) → IsDraw draw → credentials.field ≡ read.Item (made_item draw) → IsRead (made_question moment draw credentials) space (candidate draw)
well_made moment draw credentials made field = record {
  item = made_item draw;
  spelled = field;
  digest = refl;
  fields = made_fields draw made;
  in_space = its_space;
  uri = its_uri;
  offered = refl;
  user = refl;
  secret = refl;
}

its_right : (moment : ℕ) (draw : Draw) (credentials : RequestCredentials) → is_right (made_question moment draw credentials).request (candidate draw) draw.cnonce ≡ true
its_right moment draw credentials =
    (bytes_eq-Decides (made_credentials draw).response (right_response (made_question moment draw credentials).request (candidate draw) draw.cnonce)).1 refl

-- ---- deliveries

abbrev pub its_use : ℕ → Draw → RequestCredentials → TableName → Call
its_use moment draw credentials n = use_of (made_question moment draw credentials).moment space n (verified (candidate draw) draw.cnonce)

-- Its count is used, behind all calls that there were.
pub record IsUse (moment : ℕ) (draw : Draw) (credentials : RequestCredentials) (n : TableName) (words : List ℕ) (calls : List Call) : Type 0 where
  pub more : List Call
  pub done : calls_in (steps_for (made_question moment draw credentials) words calls) ≡ its_use moment draw credentials n ∷ more
  pub no_more : All IsNoUse more
  pub behind : calls_before_nonce (steps_for (made_question moment draw credentials) words calls) ≡ Some calls

pub data Delivered (moment : ℕ) (draw : Draw) (credentials : RequestCredentials) (words : List ℕ) (calls : List Call) : Type 0 where
  UsesOne : (n : TableName) → draw.nonce ≡ name_text n → IsName n → n.shard < 1 → IsUse moment draw credentials n words calls → Delivered moment draw credentials words calls
  UsesNone : ((n : TableName) → draw.nonce ≡ name_text n → IsName n → n.shard < 1 → ⊥) → All IsNoUse (calls_in (steps_for (made_question moment draw credentials) words calls))
      → (AdmitsUser (decided (made_question moment draw credentials) words calls) → ⊥) → Delivered moment draw credentials words calls

-- what a run from the use is
record Begins (q : Question) (c : Candidate) (n : TableName) (prime : List ℕ) (verdict : VerdictValue) (steps : List Step) : Type 0 where
  pub calls : List Call
  pub rest : List Step
  pub is : steps ≡ use_step q space n c prime calls ∷ rest
  pub leads : IsUseOf c (use_reply_of single_sizes q space n c prime calls) rest verdict

held : (moment : ℕ) (draw : Draw) (credentials : RequestCredentials) (words : List ℕ) (calls : List Call) (n : TableName) (verdict : VerdictValue)
    → Begins (made_question moment draw credentials) (candidate draw) n draw.cnonce verdict (steps_for (made_question moment draw credentials) words calls)
    → IsUse moment draw credentials n words calls
held moment draw credentials words calls n verdict b =
    let q : Question = made_question moment draw credentials in
    let call : Call = its_use moment draw credentials n in
    let place : b.calls ≡ calls = steps_placed q words calls [] n.shard b.calls call b.rest b.is ∙ append-nil calls in
    record {
      more = calls_in b.rest;
      done = ap calls_in b.is;
      no_more = only_issue b.rest b.leads.only;
      behind = ap calls_before_nonce b.is ∙ ap Some place;
    }

pub delivery : (moment : ℕ) (draw : Draw) (credentials : RequestCredentials) (words : List ℕ) (calls : List Call) → IsDraw draw → credentials.field ≡ read.Item (made_item draw)
    → Reads (credentials_line (made_item draw) ∷ []) credentials → Delivered moment draw credentials words calls
delivery moment draw credentials words calls made field reads = by (held_or_not q c (well_named q space c r reads))
  where
    q : Question
    q = made_question moment draw credentials

    c : Candidate
    c = candidate draw

    r : IsRead (made_question moment draw credentials) space (candidate draw)
    r = well_made moment draw credentials made field

    by : Held (made_question moment draw credentials) (candidate draw) → Delivered moment draw credentials words calls
    by (NotHeld out none) =
        let d = decides (made_question moment draw credentials) words calls in
        let run = well_run single_sizes (made_question moment draw credentials) space (candidate draw) None (steps_for (made_question moment draw credentials) words calls) d.0 r out
        (steps_asked (made_question moment draw credentials) words calls) d.1 in
        let w = without_nonce single_sizes (made_question moment draw credentials) space (candidate draw) draw.cnonce (steps_for (made_question moment draw credentials) words calls) d.0 run in
        UsesNone none (only_issue (steps_for (made_question moment draw credentials) words calls) w.0) (λ a. w.1 (codes "u") (subst AdmitsUser d.1 a))
    by (IsHeld n is text form inside) =
        let d = decides (made_question moment draw credentials) words calls in
        let run = well_run single_sizes (made_question moment draw credentials) space (candidate draw) (Some n) (steps_for (made_question moment draw credentials) words calls) d.0 r is
        (steps_asked (made_question moment draw credentials) words calls) d.1 in
        let R : Bool → Type 0 = λ b. Run single_sizes (made_question moment draw credentials) space (if b then right_stage (verified (candidate draw) draw.cnonce) (Some n) else challenge_stage false)
        (steps_for (made_question moment draw credentials) words calls) d.0 in
        UsesOne n text form inside (held moment draw credentials words calls n d.0
        (using single_sizes (made_question moment draw credentials) space (candidate draw) n draw.cnonce d.0 (Begins (made_question moment draw credentials) (candidate draw) n draw.cnonce d.0)
        (λ past rest leads. record { calls = past; rest = rest; is = refl; leads = leads }) (steps_for (made_question moment draw credentials) words calls)
        (subst R (its_right moment draw credentials) run)))
