use Rattle.std.proofs.Common.{◌∙◌, ap}
use Rattle.digest_fields.specs.Challenge.{Challenge}
use Rattle.client_core.proofs.WritingLaws.{credentials_quotable}
use Rattle.client_core.proofs.digest.credentials_with.Goals as goal

pub returns-clause-quotable : goal.returns-clause-quotable
returns-clause-quotable c = λ both target.
    let realm = c.in_ok-copy.ensures ∙ ap (λ (x : Challenge). x.realm) c.challenge.view_is in
    let opaque = c.in_ok-opaque.ensures ∙ ap (λ (x : Challenge). x.opaque) c.challenge.view_is in
    credentials_quotable _ c.args.challenge.now c.args.draw.now c.args.request.now.target c.in_ok-user_name.ensures.form realm c.in_ok-copy-2.ensures c.in_ok-copy-3.ensures
    c.in_ok-of.ensures c.bytes.ensures.value c.bytes.ensures.form c.in_ok-of-2.ensures opaque c.of-3.ensures.text both target
