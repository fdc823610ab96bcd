-- What is taken so far, with what is still to come, is the whole.
use Rattle.std.proofs.Common.{◌≡◌, ◌-◌, [], fold}
use Rattle.auth_hash.specs.Salting.{hi, xor_bytes, mac_chain}
use Rattle.auth_hash.specs.Mac.{hmac, Authenticating}
use Rattle.auth_hash.proofs.salting.hi.Given as goal

abbrev pub invariant-loop-turn : goal.invariant-loop-turn
invariant-loop-turn l =
    Authenticating l.mac l.fn.password [] × (fold xor_bytes l.all (mac_chain l.fn.password (hmac l.fn.password l.last) (l.iterations - l._turn)) ≡ hi l.fn.password l.fn.salt l.iterations)
