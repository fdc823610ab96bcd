-- How the steps of a decision go on from a stage to its verdict.
use Rattle.std.proofs.Common.{◌≡◌, ℕ, Bool, true, false, nat_lt, List, [], ◌∷◌, ◌++◌, length, fold, filter_map, Option, Some, None, refl, sym, ap, ◌∙◌, subst}
use Rattle.std.specs.Prelude.{if◌then◌else◌}
use Rattle.nonce_shard.specs.Names.{name_text}
use Rattle.nonce_shard.specs.Nonces.{nonces}
use Rattle.nonce_shard.specs.Replies.{answered, reply}
use Rattle.nonce_shard.specs.declared.calls.Call.{Call}
use Rattle.nonce_shard.specs.declared.calls.Reply.{Reply}
use Rattle.nonce_shard.specs.declared.calls.Reply.TheVariants.{Fresh, Gone, Behind, Repeated, OtherSession}
use Rattle.nonce_shard.specs.declared.calls.What.{What}
use Rattle.nonce_shard.specs.declared.calls.What.TheVariants.{Issue}
use Rattle.nonce_shard.specs.declared.names.TableName.{TableName}
use Rattle.nonce_shard.specs.declared.sizes.Sizes.{Sizes}
use Rattle.spaces_map.specs.declared.space.Space.{Space}
use Rattle.auth_decide.specs.Asks.{admission, ask_at, issue, use_of, verdict_with}
use Rattle.auth_decide.specs.Stages.{Question, admitted_stage, challenge_stage, new_name, shard_for, stage_after, stage_after_use}
use Rattle.auth_decide.specs.VerifiedCredentials.{VerifiedCredentials, verified}
use Rattle.auth_decide.specs.declared.candidate.Candidate.{Candidate}
use Rattle.auth_decide.specs.declared.challenges.Stale.TheVariants as stales
use Rattle.auth_decide.specs.declared.stages.Purpose.{Purpose}
use Rattle.auth_decide.specs.declared.stages.Purpose.TheVariants as purpose
use Rattle.auth_decide.specs.declared.stages.Stage.{Stage}
use Rattle.auth_decide.specs.declared.stages.Stage.TheVariants as stage
use Rattle.auth_decide.specs.declared.stages.TheConstants.{NEXT_NONCE_USES}
use Rattle.auth_decide.specs.declared.verdict.Ask.{Ask}
use Rattle.auth_decide.specs.declared.verdict.Ask.TheVariants as asks
use Rattle.auth_decide.specs.declared.verdict.Verdict.{Verdict}
use Rattle.auth_decide.specs.declared.verdict.Verdict.TheVariants.{Challenge}
use Rattle.admission.specs.Outcomes.{Admits}
use Rattle.admission.specs.Steps.{Step, Drew, Called, IsIssue, OnlyIssue, answer_of, answers_of, ask_of, calls_before, is_use}

abbrev pub ask_in : Question → Space → Stage → Ask
ask_in q space s = ask_at q.role q.moment q.shards space s

-- Each step is what the stage before it asks, and the last stage comes to this verdict.
abbrev pub Run : Sizes → Question → Space → Stage → List Step → Verdict → Type 0
Run sizes q space s [] verdict = ask_in q space s ≡ asks.Verdict verdict
Run sizes q space s (step ∷ steps) verdict = (ask_in q space s ≡ ask_of step) × Run sizes q space (stage_after q s (answer_of sizes step)) steps verdict

-- the stage after steps
abbrev pub ends_at : Sizes → Question → Stage → List Step → Stage
ends_at sizes q s steps = fold (stage_after q) s (answers_of sizes steps)

pub run_of : (sizes : Sizes) (q : Question) (space : Space) (s : Stage) (steps : List Step) (verdict : Verdict)
    → ((before : List Step) (step : Step) (after : List Step) → steps ≡ before ++ step ∷ after → ask_in q space (ends_at sizes q s before) ≡ ask_of step)
    → ask_in q space (ends_at sizes q s steps) ≡ asks.Verdict verdict → Run sizes q space s steps verdict
run_of sizes q space s [] verdict each ends = ends
run_of sizes q space s (step ∷ steps) verdict each ends = (
  each [] step steps refl,
  run_of sizes q space (stage_after q s (answer_of sizes step)) steps verdict
      (λ before other after is. each (step ∷ before) other after (ap (λ (l : List Step). step ∷ l) is)) ends,
)

-- ---- one step

verdict_undone : (verdict : Verdict) (step : Step) → asks.Verdict verdict ≡ ask_of step → ⊥
verdict_undone verdict (Drew words) e = (let no : asks.Verdict verdict ≡ asks.Draw = e in absurd (cc))
verdict_undone verdict (Called shard before call) e = (let no : asks.Verdict verdict ≡ asks.Table shard call = e in absurd (cc))

-- a stage that ends with a verdict
pub ended : (sizes : Sizes) (q : Question) (space : Space) (s : Stage) (verdict : Verdict) → ask_in q space s ≡ asks.Verdict verdict
    → (steps : List Step) (other : Verdict) → Run sizes q space s steps other → (steps ≡ []) × (other ≡ verdict)
ended sizes q space s verdict is [] other run = (refl, (let same : asks.Verdict other ≡ asks.Verdict verdict = sym run ∙ is in cc))
ended sizes q space s verdict is (step ∷ steps) other run = absurd (verdict_undone verdict step (sym is ∙ run.0))

-- what was done for a call is that call
pub at_call : (P : List Step → Type 0) (shard : ℕ) (call : Call) (step : Step) (rest : List Step) → asks.Table shard call ≡ ask_of step
    → ((before : List Call) → P (Called shard before call ∷ rest)) → P (step ∷ rest)
at_call P shard call (Drew words) rest e holds = absurd (let no : asks.Table shard call ≡ asks.Draw = e in cc)
at_call P shard call (Called s before c) rest e holds =
    let both : asks.Table shard call ≡ asks.Table s c = e in
    let same_shard : shard ≡ s = cc in
    let same_call : call ≡ c = cc in
    subst (λ (x : ℕ). P (Called x before c ∷ rest)) same_shard (subst (λ (x : Call). P (Called shard before x ∷ rest)) same_call (holds before))

-- ---- a new nonce

-- it was drawn and issued, and the verdict has it for this purpose
pub record Issues (q : Question) (space : Space) (purpose : Purpose) (steps : List Step) (verdict : Verdict) : Type 0 where
  pub only : OnlyIssue steps
  pub text : List ℕ
  pub is : verdict ≡ verdict_with q.role space purpose text

issued : (sizes : Sizes) (q : Question) (space : Space) (purpose : Purpose) (words : List ℕ) (before : List Call) (rest : List Step) (verdict : Verdict)
    → Run sizes q space (stage.Issuing purpose words) (Called (shard_for q.shards words) before (issue q.moment space words) ∷ rest) verdict
    → Issues q space purpose (Drew words ∷ Called (shard_for q.shards words) before (issue q.moment space words) ∷ rest) verdict
issued sizes q space purpose words before rest verdict run =
    let call = issue q.moment space words in
    let shard = shard_for q.shards words in
    let s : Stage = stage_after q (stage.Issuing purpose words) (answer_of sizes (Called shard before call)) in
    let name : TableName = new_name q.shards words (length (nonces (answered sizes shard before))) in
    let e = ended sizes q space s (verdict_with q.role space purpose (name_text name)) refl rest verdict run.1 in
    record {
      only = subst (λ (l : List Step). OnlyIssue (Drew words ∷ Called shard before call ∷ l)) (sym e.0) tt;
      text = name_text name;
      is = e.1;
    }

pub drawing : (sizes : Sizes) (q : Question) (space : Space) (purpose : Purpose) (steps : List Step) (verdict : Verdict)
    → Run sizes q space (stage.Drawing purpose) steps verdict → Issues q space purpose steps verdict
drawing sizes q space purpose [] verdict run = absurd (let no : asks.Draw ≡ asks.Verdict verdict = run in cc)
drawing sizes q space purpose (Called shard before call ∷ rest) verdict run = absurd (let no : asks.Draw ≡ asks.Table shard call = run.0 in cc)
drawing sizes q space purpose (Drew words ∷ []) verdict run =
    absurd (let no : asks.Table (shard_for q.shards words) (issue q.moment space words) ≡ asks.Verdict verdict = run.1 in cc)
drawing sizes q space purpose (Drew words ∷ step ∷ rest) verdict run =
    let P : List Step → Type 0 = λ l. Run sizes q space (stage.Issuing purpose words) l verdict → Issues q space purpose (Drew words ∷ l) verdict in
    at_call P (shard_for q.shards words) (issue q.moment space words) step rest run.1.0
    (λ before. issued sizes q space purpose words before rest verdict) run.1

-- a challenge admits nobody
pub challenged : (sizes : Sizes) (q : Question) (space : Space) (stale : Bool) (steps : List Step) (verdict : Verdict) → Run sizes q space (challenge_stage stale) steps verdict
    → OnlyIssue steps × ((user : List ℕ) → Admits user verdict → ⊥)
challenged sizes q space stale steps verdict run =
    let i = drawing sizes q space (purpose.Challenge (if stale then stales.Digest else stales.Nothing)) steps verdict run in
    (i.only, λ user a. subst (λ (v : Verdict). Admits user v) i.is a)

-- ---- neither a draw nor an issue uses or looks up a nonce

issue_is_no_use : (what : What) → IsIssue what → is_use what ≡ false
issue_is_no_use (Issue kind space random) is = refl
issue_is_no_use _ is = absurd is

pub uses_none : (steps : List Step) → OnlyIssue steps → filter_map (calls_before is_use) steps ≡ []
uses_none [] only = refl
uses_none (Drew words ∷ Called shard before call ∷ []) only =
    ap (λ (b : Bool). filter_map (λ (o : Option (List Call)). o) ((if b then Some before else None) ∷ [])) (issue_is_no_use call.what only)
uses_none (Drew words ∷ []) only = absurd only
uses_none (Drew words ∷ Drew others ∷ rest) only = absurd only
uses_none (Drew words ∷ Called shard before call ∷ next ∷ rest) only = absurd only
uses_none (Called shard before call ∷ rest) only = absurd only

-- ---- a use

-- what a use with this reply leads to
pub record IsUseOf (c : Candidate) (r : Reply) (rest : List Step) (verdict : Verdict) : Type 0 where
  pub only : OnlyIssue rest
  pub admits : (number : ℕ) → r ≡ Fresh number → Admits c.user verdict
  pub fresh : (user : List ℕ) → Admits user verdict → (number : ℕ) × (r ≡ Fresh number) × (c.user ≡ user)

use_admits : (v : VerifiedCredentials) (next : Option (List ℕ)) (number : ℕ) (rest : List Step) (verdict : Verdict) → OnlyIssue rest → verdict ≡ admission v next
    → IsUseOf v.candidate (Fresh number) rest verdict
use_admits v next number rest verdict only is = record {
  only = only;
  admits = λ other e. subst (λ (ended : Verdict). Admits v.candidate.user ended) (sym is) refl;
  fresh = λ user a. (number, refl, subst (λ (ended : Verdict). Admits user ended) is a);
}

use_rejects : (c : Candidate) (r : Reply) (rest : List Step) (verdict : Verdict) → ((number : ℕ) → r ≡ Fresh number → ⊥) → OnlyIssue rest × ((user : List ℕ) → Admits user verdict → ⊥) → IsUseOf c r rest verdict
use_rejects c r rest verdict not_fresh rejects = record {
  only = rejects.0;
  admits = λ number e. absurd (not_fresh number e);
  fresh = λ user a. absurd (rejects.1 user a);
}

admitted : (sizes : Sizes) (q : Question) (space : Space) (v : VerifiedCredentials) (number : ℕ) (rest : List Step) (verdict : Verdict)
    → Run sizes q space (admitted_stage v number) rest verdict → IsUseOf v.candidate (Fresh number) rest verdict
admitted sizes q space v number rest verdict = by (nat_lt number NEXT_NONCE_USES)
  where
    by : (few : Bool) → Run sizes q space (if few then stage.Admitted v else stage.Drawing (purpose.Next v)) rest verdict → IsUseOf v.candidate (Fresh number) rest verdict
    by true run =
        let e = ended sizes q space (stage.Admitted v) (admission v None) refl rest verdict run in
        use_admits v None number rest verdict (subst OnlyIssue (sym e.0) tt) e.1
    by false run =
        let i = drawing sizes q space (purpose.Next v) rest verdict run in
        use_admits v (Some i.text) number rest verdict i.only i.is

pub mismatched : (sizes : Sizes) (q : Question) (space : Space) (rest : List Step) (verdict : Verdict) → Run sizes q space stage.Mismatched rest verdict
    → OnlyIssue rest × ((user : List ℕ) → Admits user verdict → ⊥)
mismatched sizes q space rest verdict run =
    let e = ended sizes q space stage.Mismatched (Challenge []) refl rest verdict run in
    (subst OnlyIssue (sym e.0) tt, λ user a. subst (λ (v : Verdict). Admits user v) e.1 a)

after_use : (sizes : Sizes) (q : Question) (space : Space) (v : VerifiedCredentials) (r : Reply) (rest : List Step) (verdict : Verdict)
    → Run sizes q space (stage_after_use v r) rest verdict → IsUseOf v.candidate r rest verdict
after_use sizes q space v (Fresh number) rest verdict run = admitted sizes q space v number rest verdict run
after_use sizes q space v Gone rest verdict run = use_rejects v.candidate Gone rest verdict (λ n e. cc) (challenged sizes q space true rest verdict run)
after_use sizes q space v (Behind top) rest verdict run = use_rejects v.candidate (Behind top) rest verdict (λ n e. cc) (challenged sizes q space true rest verdict run)
after_use sizes q space v Repeated rest verdict run = use_rejects v.candidate Repeated rest verdict (λ n e. cc) (challenged sizes q space true rest verdict run)
after_use sizes q space v OtherSession rest verdict run = use_rejects v.candidate OtherSession rest verdict (λ n e. cc) (challenged sizes q space false rest verdict run)
after_use sizes q space v _ rest verdict run = use_rejects v.candidate _ rest verdict (λ n e. cc) (mismatched sizes q space rest verdict run)

-- a use of a count behind these calls, with what it leads to
abbrev pub use_step : Question → Space → TableName → Candidate → List ℕ → List Call → Step
use_step q space n c prime calls = Called n.shard calls (use_of q.moment space n (verified c prime))

abbrev pub use_reply_of : Sizes → Question → Space → TableName → Candidate → List ℕ → List Call → Reply
use_reply_of sizes q space n c prime calls = reply sizes n.shard calls (use_of q.moment space n (verified c prime))

pub using : (sizes : Sizes) (q : Question) (space : Space) (c : Candidate) (n : TableName) (prime : List ℕ) (verdict : Verdict) (P : List Step → Type 0)
    → ((calls : List Call) (rest : List Step) → IsUseOf c (use_reply_of sizes q space n c prime calls) rest verdict → P (use_step q space n c prime calls ∷ rest))
    → (steps : List Step) → Run sizes q space (stage.Using (verified c prime) n) steps verdict → P steps
using sizes q space c n prime verdict P holds [] run = absurd (let no : asks.Table n.shard (use_of q.moment space n (verified c prime)) ≡ asks.Verdict verdict = run in cc)
using sizes q space c n prime verdict P holds (step ∷ rest) run =
    let s : Stage = stage.Using (verified c prime) n in
    let call = use_of q.moment space n (verified c prime) in
    let Q : List Step → Type 0 = λ l. Run sizes q space s l verdict → P l in
    at_call Q n.shard call step rest run.0
    (λ before next. holds before rest (after_use sizes q space (verified c prime) (reply sizes n.shard before call) rest verdict next.1)) run
