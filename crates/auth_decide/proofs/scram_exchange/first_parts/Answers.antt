use Rattle.std.proofs.Common.{◌≡◌, ◌∙◌, ◌∷◌, ℕ, List, Ok, ap, sym, subst}
use Rattle.std.specs.Option.{option_map}
use Rattle.scram_text.specs.ClientFirstAnswers.{AnswersClientFirst, RefusesClientFirst, parts_of as first_parts_of}
use Rattle.scram_text.proofs.BareLaws.{bare_read, bare_unread}
use Rattle.auth_decide.proofs.Refusals.{refused_first}
use Rattle.auth_decide.specs.Exchanges.{first_parts, parts_of}
use Rattle.auth_decide.proofs.scram_exchange.first_parts.Goals as goal

pub returns-in-Ok : goal.returns-in-Ok
unfolding first_parts
returns-in-Ok c =
    let text : c.bytes.result.now ≡ 110 ∷ 44 ∷ 44 ∷ c.args.bare.now = c.bytes.ensures ∙ c.in_ok-text.ensures in
    let read = subst (λ (t : List ℕ). AnswersClientFirst t (Ok c.in-Ok.message)) text c.in-Ok.ensures.answer in
    sym (ap (option_map parts_of) (bare_read c.args.bare.now (first_parts_of c.in-Ok.message) read.0 read.1))

pub returns : goal.returns
unfolding first_parts
returns c =
    let text : c.bytes.result.now ≡ 110 ∷ 44 ∷ 44 ∷ c.args.bare.now = c.bytes.ensures ∙ c.in_ok-text.ensures in
    let refuses = subst (λ (t : List ℕ). RefusesClientFirst t c.in-Err.error) text c.in-Err.ensures.answer in
    sym (ap (option_map parts_of) (bare_unread c.args.bare.now (refused_first (110 ∷ 44 ∷ 44 ∷ c.args.bare.now) c.in-Err.error refuses c.in_default.not-OutOfMemory)))
