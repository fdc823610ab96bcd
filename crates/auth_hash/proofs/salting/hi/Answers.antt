-- The first code begins the sum, and each next is taken from the chain.
use Rattle.std.proofs.Common.{◌≡◌, ◌∙◌, ◌-◌, ◌+◌, [], arith}
use Rattle.auth_hash.specs.Mac.{hmac}
use Rattle.auth_hash.proofs.Iterations.{hi_first, hi_next}
use Rattle.auth_hash.proofs.salting.hi.Goals as goal

pub loop-turn-init : goal.loop-turn-init
loop-turn-init c = (c.new-mac.ensures, rw (c.first_of-last.ensures c.args.password.now c.new-mac.ensures) (hi_first c.args.password.now c.args.salt.now c.args.iterations c.requires))

pub loop-turn-preserved : goal.loop-turn-preserved
loop-turn-preserved c =
    let key = c.args.password.now in
    let left = c.args.iterations - c.loop-turn._turn in
    let code : c.of-last.result ≡ hmac key c.loop-turn.last = c.of-last.ensures key [] c.new-mac.ensures in
    let less : c.args.iterations - (c.loop-turn._turn + 1) ≡ left - 1 = omega arith in
    (c.new-mac.ensures, rw (less, c.xor32-all.ensures) (hi_next key c.of-last.result c.loop-turn.all left (omega (arith, c.loop-turn-test.true)) ∙ rw code c.loop-turn.invariant.1))
