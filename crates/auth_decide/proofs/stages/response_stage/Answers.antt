-- The credentials that are verified are those of the candidate.
use Rattle.std.proofs.Common.{◌∙◌, sym}
use Rattle.auth_decide.proofs.Verifying.{verified_stage}
use Rattle.auth_decide.proofs.stages.response_stage.Goals as goal

pub returns-in-Some : goal.returns-in-Some
returns-in-Some c =
    c.right_stage.ensures ∙ verified_stage c.args.request.now c.args.candidate c.args.prime.items c.in-Some.verified c.args.nonce (sym c.of.ensures ∙ c.in-Some.is)
