use Rattle.std.proofs.Common.{◌-◌, ◌∙◌, sym, arith}
use Rattle.std.proofs.lemmas.Nat.Bits.{shr_and_one}
use Rattle.count_window.proofs.Windows.{fresh_above, stands_above, stands_marked}
use Rattle.count_window.proofs.window.Window.admit.Goals as goal

pub returns-then-count-self-clause-answer : goal.returns-then-count-self-clause-answer
returns-then-count-self-clause-answer c counts stands = sym (fresh_above counts c.args.count (omega (arith, stands.high_is)))

pub returns-then-count-self-clause-stands : goal.returns-then-count-self-clause-stands
returns-then-count-self-clause-stands c counts stands =
    let slid = c.slide-self.ensures in
    stands_above c.args.self.now counts c.args.count c.slide-self.result c.if-count-self.true stands slid.newest slid.between slid.older

pub returns-clause-stands : goal.returns-clause-stands
returns-clause-stands c counts stands =
    stands_marked c.args.self.now counts c.args.count (omega arith) (omega arith) (λ e. c.if-self-back-eq1.false (shr_and_one c.args.self.now.mask (c.args.self.now.high - c.args.count) ∙ e)) stands
