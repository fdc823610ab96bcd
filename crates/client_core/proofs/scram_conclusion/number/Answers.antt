use Rattle.std.proofs.Common.{ℕ, Option, Some, None, sym, arith}
use Rattle.std.specs.Str.Parse.{digits_value}
use Rattle.std.proofs.lemmas.Bool.{cond-false}
use Rattle.http_wire.proofs.CheckLemmas.{number_none, number_step}
use Rattle.client_core.proofs.scram_conclusion.number.Goals as goal

pub returns-then-n-gt-LONGEST : goal.returns-then-n-gt-LONGEST
returns-then-n-gt-LONGEST c =
    let none = number_none c.args.digits.now c.loop-b.b-index c.loop-b.n 999999999 c.requires c.loop-b-test.true c.loop-b.invariant.is c.if-n-gt-LONGEST.true in
    sym (cond-false {A = Option ℕ} _ (Some (digits_value 10 c.args.digits.now)) None none)

pub loop-b-preserved : goal.loop-b-preserved
loop-b-preserved c = record {
  is = number_step c.args.digits.now c.loop-b.b-index c.loop-b.n c.requires c.loop-b-test.true c.loop-b.invariant.is;
  fits = omega arith;
}
