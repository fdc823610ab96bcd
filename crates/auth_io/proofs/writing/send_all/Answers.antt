use Rattle.std.proofs.Common.{◌∙◌, arith, length-drop}
use Rattle.std.proofs.Math.Seq.{take-add}
use Rattle.std.proofs.lemmas.List.{take_rest}
use Rattle.auth_io.proofs.Passing.{Appends_trans}
use Rattle.auth_io.proofs.writing.send_all.Goals as goal

pub loop-at-preserved : goal.loop-at-preserved
loop-at-preserved g c = record {
  within = omega (arith, length-drop c.loop-at.at c.args.bytes.now, c.in-Taken.ensures.some);
  wrote = rw take-add (Appends_trans _ _ _ _ _ c.loop-at.invariant.wrote (rw take_rest at c.in-Taken.ensures.bytes));
  left = c.in-Taken.ensures.left ∙ c.loop-at.invariant.left;
  given = c.in-Taken.ensures.given ∙ c.loop-at.invariant.given;
  reads = c.in-Taken.ensures.reads ∙ c.loop-at.invariant.reads;
  read_faults = c.in-Taken.ensures.read_faults ∙ c.loop-at.invariant.read_faults;
  write_faults = c.in-Taken.ensures.cause.each ∙ c.loop-at.invariant.write_faults;
}
