use Rattle.std.proofs.Common.{◌∙◌, Option, ap, sym}
use Rattle.nonce_shard.specs.declared.names.TableName.{TableName}
use Rattle.auth_decide.specs.Stages.{attempt_stage, final_stage}
use Rattle.auth_decide.specs.declared.scram_exchange.Attempt.{Attempt}
use Rattle.auth_decide.proofs.scram_stages.final_stage.Goals as goal

pub returns-in_ok-attempt_of-in-Some : goal.returns-in_ok-attempt_of-in-Some
returns-in_ok-attempt_of-in-Some c =
    c.attempt_stage.ensures
    ∙ ap (λ (a : Attempt). attempt_stage c.args.shards a c.args.again) c.in_ok-attempt_of-in-Some.ensures
    ∙ ap (λ (o : Option TableName). final_stage c.args.shards c.args.realm.now o c.args.message.now c.args.again) (sym c.in-Some.is)
