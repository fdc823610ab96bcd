-- Each byte of the block is taken with the pad.
use Rattle.std.proofs.Common.{◌∙◌, sym, bit_xor, slice_index_or, subst, List, ℕ, arith, rules}
use Rattle.sha2.specs.Hashers.{Holds256}
use Rattle.auth_hash.proofs.Places.{map_places, set_next}
use Rattle.auth_hash.proofs.mac.hash_of_padded.Goals as goal

pub loop-at-preserved : goal.loop-at-preserved
loop-at-preserved c = (search rules, set_next (λ i. bit_xor c.args.pad (slice_index_or c.args.block.now i 0)) c.loop-at.padded c.loop-at.at (omega (arith, c.loop-at-test.true, c.loop-at.invariant.0)) c.loop-at.invariant.1)

pub returns : goal.returns
returns c =
    let P : List ℕ → Type 0 = λ text. Holds256 c.new_with_prefix.result text in
    subst P (map_places (bit_xor c.args.pad) c.args.block.now c.loop-at.padded (c.loop-at.invariant.0 ∙ sym c.told-block)
    (λ i below. c.loop-at.invariant.1 i (omega (arith, below, c.loop-at.invariant.0, c.loop-at-test.false)))) c.new_with_prefix.ensures
