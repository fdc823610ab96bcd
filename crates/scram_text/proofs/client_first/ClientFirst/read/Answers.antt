use Rattle.std.proofs.Common.{◌+◌, List, ℕ, subst, sym, arith}
use Rattle.scram_text.specs.ClientFirstAnswers.{AnswersClientFirst}
use Rattle.scram_text.proofs.ClientFirstUnique.{only_answer}
use Rattle.scram_text.specs.ClientFirsts.{IsClientFirstText, SpellsClientFirst}
use Rattle.scram_text.proofs.ClientFirstLaws.{form_of, spelled_by, stops_in_bare}
use Rattle.scram_text.proofs.FormLaws.{stops}
use Rattle.scram_text.proofs.client_first.ClientFirst.read.Goals as goal

pub returns-in-Err-clause-answer : goal.returns-in-Err-clause-answer
returns-in-Err-clause-answer c = (omega (arith, c.if-text.false), c.in_default.ensures.none, stops SpellsClientFirst IsClientFirstText form_of spelled_by c.args.text.now c.in-Err.at c.in-Err.ensures.err)

pub returns-in-Err-bare_parts-clause-answer : goal.returns-in-Err-bare_parts-clause-answer
returns-in-Err-bare_parts-clause-answer c = (
  omega (arith, c.if-text.false),
  c.in_default.ensures.none,
  stops SpellsClientFirst IsClientFirstText form_of spelled_by c.args.text.now (3 + c.in-Err-bare_parts.at)
      (stops_in_bare c.args.text.now c.in-Ok.found.1.now c.in-Ok.found.0 c.in-Err-bare_parts.at c.in-Ok.ensures.ok c.in-Err-bare_parts.ensures.err),
)

pub returns-in-Ok-bare_parts-clause-only : goal.returns-in-Ok-bare_parts-clause-only
returns-in-Ok-bare_parts-clause-only c =
    only_answer c.args.text.now c.message_of.result (subst (λ (t : List ℕ). AnswersClientFirst t c.message_of.result) (sym c.in-Ok.ensures.ok) c.message_of.ensures)
