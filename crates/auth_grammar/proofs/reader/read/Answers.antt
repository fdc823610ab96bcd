use Rattle.std.proofs.Common.{◌≡◌, ◌≤◌, ◌-◌, ℕ, List, length, drop, take, refl, subst, arith, ap, ◌∙◌}
use Rattle.std.proofs.Math.Seq.{take-length}
use Rattle.std.proofs.lemmas.List.{length-drop}
use Rattle.auth_grammar.proofs.ReaderSteps.{HasRead, begun_reads, step_dead, step_on, step_within, steps_left, end_spelled, end_refused}
use Rattle.auth_grammar.proofs.reader.read.Goals as goal

pub loop-at-init : goal.loop-at-init
loop-at-init c = record { within = omega arith; read = begun_reads c.args.grammar c.new-reader.result c.new-reader.ensures.collected c.new-reader.ensures.position }

pub returns-then-count-eq0-clause-refused : goal.returns-then-count-eq0-clause-refused
returns-then-count-eq0-clause-refused c =
    step_dead c.args.grammar c.loop-at.reader c.step.new.self c.args.text.now c.loop-at.at c.loop-at.at c.in_ok-count.count c.loop-at.invariant.read refl c.loop-at-test.true
    (steps_left c.loop-at.reader c.step.new.self c.loop-at.at c.args.text.now c.loop-at.at c.in_ok-count.count c.in_ok-count.ensures) c.if-count-eq0.true

pub loop-at-preserved : goal.loop-at-preserved
loop-at-preserved c =
    let left : length (drop c.loop-at.at c.args.text.now) ≡ length c.args.text.now - c.loop-at.at = length-drop c.loop-at.at c.args.text.now in
    let steps = steps_left c.loop-at.reader c.step.new.self c.loop-at.at c.args.text.now c.loop-at.at c.in_ok-count.count c.in_ok-count.ensures in
    let within : c.in_ok-count.count ≤ length (drop c.loop-at.at c.args.text.now) = step_within c.loop-at.reader c.step.new.self c.loop-at.at (drop c.loop-at.at c.args.text.now) c.in_ok-count.count (omega (arith, left)) steps in
    record {
      within = omega (arith, left, within);
      read = step_on c.args.grammar c.loop-at.reader c.step.new.self c.args.text.now c.loop-at.at c.loop-at.at c.in_ok-count.count c.loop-at.invariant.read refl c.loop-at-test.true steps (omega arith);
    }

pub returns-clause-spelled : goal.returns-clause-spelled
returns-clause-spelled c =
    let e : c.loop-at.at ≡ length c.args.text.now = omega arith in
    end_spelled c.args.grammar c.loop-at.reader c.args.text.now c.loop-at.at c.finish.result
    (subst (λ (x : List ℕ). HasRead c.args.grammar c.loop-at.reader x) (ap (λ (n : ℕ). take n c.args.text.now) e ∙ take-length c.args.text.now) c.loop-at.invariant.read) e c.finish.ensures

pub returns-clause-refused : goal.returns-clause-refused
returns-clause-refused c =
    let e : c.loop-at.at ≡ length c.args.text.now = omega arith in
    end_refused c.args.grammar c.loop-at.reader c.args.text.now c.loop-at.at c.finish.result
    (subst (λ (x : List ℕ). HasRead c.args.grammar c.loop-at.reader x) (ap (λ (n : ℕ). take n c.args.text.now) e ∙ take-length c.args.text.now) c.loop-at.invariant.read) e c.finish.ensures
