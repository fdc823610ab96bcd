-- What comes of a request without credentials.
use Rattle.std.proofs.Common.{◌≡◌, ℕ, false, List, [], ◌∷◌, All, sym, ap, ◌∙◌, subst}
use Rattle.client_core.specs.Clients.{forgotten}
use Rattle.client_core.specs.declared.state.State.{State}
use Rattle.nonce_shard.specs.Sizes.{single_sizes}
use Rattle.nonce_shard.specs.declared.calls.Call.{Call}
use Rattle.auth_decide.specs.Credentials.{Reads, presented}
use Rattle.auth_decide.specs.Stages.{Question, challenge_stage, first_stage, first_stage_in, presented_stage}
use Rattle.auth_decide.specs.declared.challenges.Stale.TheVariants as stale
use Rattle.auth_decide.specs.declared.credentials.CredentialsField.{CredentialsField}
use Rattle.auth_decide.specs.declared.credentials.CredentialsField.TheVariants as read
use Rattle.auth_decide.specs.declared.credentials.RequestCredentials.{RequestCredentials}
use Rattle.auth_decide.specs.declared.stages.Purpose.TheVariants as purpose
use Rattle.auth_decide.specs.declared.verdict.Ask.{Ask}
use Rattle.auth_decide.specs.declared.verdict.Ask.TheVariants.{Verdict}
use Rattle.auth_decide.specs.declared.verdict.Verdict.TheVariants as verdict
use Rattle.admission.proofs.Exact.{run_from}
use Rattle.admission.proofs.Runs.{drawing}
use Rattle.drill.specs.declared.event.DrillEvent.TheVariants.{Challenge}
use Rattle.drill.specs.Deciding.{calls_in, decided, question, steps_for}
use Rattle.drill.specs.Requests.{plain_request}
use Rattle.drill.specs.Site.{the_site, space}
use Rattle.drill.specs.World.{World, answered, step_of}
use Rattle.drill.proofs.Decided.{steps_asked}
use Rattle.drill.proofs.Deliveries.{IsNoUse, decides, its_space, only_issue}
use Rattle.drill.proofs.Known.{Knows, forgotten_knows, the_item, told_knows}

plain_first : (moment : ℕ) (credentials : RequestCredentials) → credentials.field ≡ read.Absent → first_stage (question moment plain_request credentials) ≡ challenge_stage false
unfolding first_stage
plain_first moment credentials is =
    ap (first_stage_in (question moment plain_request credentials)) its_space
    ∙ ap (λ (f : CredentialsField). presented_stage plain_request 1 credentials space the_site.store (presented f)) is

-- The client still knows nothing but the site's challenges, and no count is drawn or used.
pub record IsQuiet (w v : World) (calls : List Call) : Type 0 where
  pub knows : Knows v.scene.client
  pub drawn : v.scene.client.drawn ≡ w.scene.client.drawn
  pub no_use : All IsNoUse calls

pub plain_step : (w : World) (words : List ℕ) (credentials : RequestCredentials) → Reads [] credentials → Knows w.scene.client
    → IsQuiet w (step_of w Challenge words credentials) (calls_in (steps_for (question w.scene.clock plain_request credentials) words w.calls))
plain_step w words credentials reads k =
    let q : Question = question w.scene.clock plain_request credentials in
    let steps = steps_for q words w.calls in
    let d = decides q words w.calls in
    let run = run_from single_sizes q space (challenge_stage false) steps d.0 its_space (plain_first w.scene.clock credentials reads.field) (steps_asked q words w.calls) d.1 in
    let issues = drawing single_sizes q space (purpose.Challenge stale.Nothing) steps d.0 run in
    let asks : decided q words w.calls ≡ Verdict (verdict.Challenge (the_item issues.text ∷ [])) = d.1 ∙ ap Verdict issues.is in
    let s : State = forgotten w.scene.client in
    let t = told_knows s w.scene.clock issues.text (forgotten_knows w.scene.client k) in
    let K : Ask → Type 0 = λ a. Knows (answered s w.scene.clock a) in
    let D : Ask → Type 0 = λ a. (answered s w.scene.clock a).drawn ≡ w.scene.client.drawn in
    record {
      knows = subst K (sym asks) t.0;
      drawn = subst D (sym asks) t.1;
      no_use = only_issue steps issues.only;
    }
