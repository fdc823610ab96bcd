use Rattle.std.proofs.Common.{◌≡◌, ◌∙◌, ◌∷◌, ◌++◌, [], ℕ, List, true, ap, subst, rules, codes}
use Rattle.auth_grammar.specs.Valid.{is_quotable_text}
use Rattle.scram_text.specs.Items.{data_param, scram_item}
use Rattle.client_core.specs.Scrams.{base64_text, first_item, realm_params}
use Rattle.client_core.proofs.QuotableTexts.{ok_then}
use Rattle.client_core.proofs.WritingLaws.{first_item_valid}
use Rattle.client_core.proofs.scram.first_item.Goals as goal

pub returns-clause-valid : goal.returns-clause-valid
returns-clause-valid c =
    let realm = c.args.choice.now.realm in
    let bare = c.args.first.now.bare in
    let params : c.push.new.self ≡ realm_params realm ++ data_param (codes "n,," ++ bare) ∷ [] = search rules in
    let text : c.bytes-2.result.now ≡ codes "n,," ++ bare = search rules in
    let T : List ℕ → Type 0 = λ t. is_quotable_text (base64_text t) ≡ true in
    ok_then _ _ c.scram_item.result (λ item is e. first_item_valid realm bare item (is ∙ ap scram_item params) (subst T text c.in_ok-quotable_data.ensures.quotable) e) c.scram_item.ensures
