use Rattle.std.proofs.Common.{◌≡◌, ◌∙◌, ◌∷◌, [], ℕ, List, true, ap, subst, rules, codes}
use Rattle.auth_grammar.specs.Params.{param}
use Rattle.auth_grammar.specs.Valid.{is_quotable_text}
use Rattle.scram_text.specs.Items.{data_param, scram_item}
use Rattle.client_core.specs.Scrams.{base64_text, final_item, final_text}
use Rattle.client_core.proofs.QuotableTexts.{ok_then}
use Rattle.client_core.proofs.WritingLaws.{final_valid}
use Rattle.client_core.proofs.scram.final_item.Goals as goal

pub returns-clause-valid : goal.returns-clause-valid
returns-clause-valid c =
    let x = c.args.exchange.now in
    let nonce = c.args.nonce.now in
    let params : c.push-2.new.self ≡ param (codes "sid") x.sid ∷ data_param (final_text x nonce) ∷ [] = search rules in
    let text : c.bytes-2.result.now ≡ final_text x nonce = search rules in
    let T : List ℕ → Type 0 = λ t. is_quotable_text (base64_text t) ≡ true in
    ok_then _ _ c.scram_item.result (λ item is sid. final_valid x nonce item (is ∙ ap scram_item params) (subst T text c.in_ok-quotable_data.ensures.quotable) sid) c.scram_item.ensures
