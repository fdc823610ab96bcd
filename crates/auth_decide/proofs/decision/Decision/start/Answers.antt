use Rattle.std.proofs.Common.{◌<◌, option_copied, subst, sym, arith, rules}
use Rattle.auth_decide.specs.Decisions.{AsksWithin}
use Rattle.auth_decide.specs.Messages.{scram_params}
use Rattle.auth_decide.specs.declared.stages.Stage.{Stage}
use Rattle.auth_decide.proofs.Within.{first_within, message_counts}
use Rattle.auth_decide.proofs.decision.Decision.start.Goals as goal

pub invariant_of-result : goal.invariant_of-result
invariant_of-result c =
    let request = c.args.request.now in
    let space = option_copied c.protection_space-space.result in
    let presented = c.in_ok-credentials.presented in
    let store = c.args.site.now.store in
    let credentials = c.in_ok-credentials.credentials in
    let counts = message_counts (scram_params credentials.field) credentials.scram c.in_ok-credentials.ensures.reads.scram in
    let named = first_within c.args.shards request credentials space store presented counts in
    let some : 0 < c.args.shards = omega (arith, c.requires) in
    record {
      space = c.protection_space-space.ensures.space;
      realm = search rules;
      some = some;
      within = subst (λ (s : Stage). AsksWithin c.args.shards s) (sym c.in_ok-stage.ensures) named;
    }
