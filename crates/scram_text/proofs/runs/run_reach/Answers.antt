use Rattle.std.proofs.Common.{◌≡◌, true, ℕ, List, [], subst, sym, take, append-nil, rules, arith}
use Rattle.std.specs.List.{list_all}
use Rattle.std.proofs.lemmas.List.{take_all}
use Rattle.scram_text.specs.Contents.{is_of}
use Rattle.scram_text.proofs.AttributeLaws.{class_word}
use Rattle.scram_text.proofs.RunLaws.{run_reaches, run_reaches_at}
use Rattle.scram_text.proofs.runs.run_reach.Goals as goal

pub returns-then-not-has-clause-reach : goal.returns-then-not-has-clause-reach
returns-then-not-has-clause-reach c = run_reaches_at (is_of c.args.class) 97 (class_word c.args.class) c.args.text.now c.loop-at.at (omega (arith, c.loop-at-test.true)) c.loop-at.invariant
    (λ below. let e = c.has.ensures in let f = c.if-not-has.true in search rules)

pub returns-clause-reach : goal.returns-clause-reach
returns-clause-reach c =
    let all : take c.loop-at.at c.args.text.now ≡ c.args.text.now = take_all c.loop-at.at c.args.text.now (omega (arith, c.loop-at-test.false)) in
    run_reaches (is_of c.args.class) 97 (class_word c.args.class) c.args.text.now c.args.text.now [] (sym (append-nil c.args.text.now))
    (subst (λ (t : List ℕ). list_all (is_of c.args.class) t ≡ true) all c.loop-at.invariant) (λ b left e. cc)
