-- Each place is the XOR of the two.
use Rattle.std.proofs.Common.{◌∙◌, sym, bit_xor, slice_index_or, arith, rules}
use Rattle.auth_hash.proofs.Places.{set_next, xor_places}
use Rattle.auth_hash.proofs.salting.xor32.Goals as goal

pub loop-at-preserved : goal.loop-at-preserved
loop-at-preserved c = (search rules, set_next (λ i. bit_xor (slice_index_or c.args.a.now i 0) (slice_index_or c.args.b.now i 0)) c.loop-at.all c.loop-at.at (omega (arith, c.loop-at-test.true, c.loop-at.invariant.0)) c.loop-at.invariant.1)

pub returns : goal.returns
returns c =
    xor_places c.args.a.now c.args.b.now c.loop-at.all (c.loop-at.invariant.0 ∙ sym c.told-a) (c.loop-at.invariant.0 ∙ sym c.told-b)
    (λ i below. c.loop-at.invariant.1 i (omega (arith, below, c.loop-at.invariant.0, c.loop-at-test.false)))
