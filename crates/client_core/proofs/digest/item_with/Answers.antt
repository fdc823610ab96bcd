use Rattle.std.proofs.Common.{◌≡◌, ◌∙◌, ap}
use Rattle.auth_grammar.specs.Valid.{is_valid}
use Rattle.client_core.proofs.QuotableTexts.{ok_then}
use Rattle.client_core.proofs.WritingLaws.{credentials_valid}
use Rattle.client_core.proofs.digest.item_with.Goals as goal

pub returns-clause-valid : goal.returns-clause-valid
returns-clause-valid c = ok_then _ _ c.to_item.result (λ item is both target. ap is_valid is ∙ credentials_valid c.in_ok-credentials.credentials (c.in_ok-credentials.ensures.quotable both target)) c.to_item.ensures.text
