use Rattle.std.proofs.Common.{◌≡◌, true, ℕ, List, sym, subst, rules}
use Rattle.auth_grammar.specs.Valid.{is_quotable_text}
use Rattle.client_core.specs.Cnonces.{words_text}
use Rattle.client_core.proofs.QuotableTexts.{base64_quotable}
use Rattle.client_core.proofs.cnonce.words_text.Goals as goal

pub returns-clause-quotable : goal.returns-clause-quotable
returns-clause-quotable c =
    let P : List ℕ → Type 0 = λ text. is_quotable_text text ≡ true in
    let written : c.encode_slice.new.output ≡ words_text c.args.words.now = search rules in
    subst P (sym written) (base64_quotable c.args.words.now c.fits-words)
