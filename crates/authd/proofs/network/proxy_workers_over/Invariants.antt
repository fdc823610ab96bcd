use Rattle.std.proofs.Common.{◌≡◌}
use Rattle.std.specs.Prelude.{vec_len, vec_capacity}
use Rattle.authd.proofs.network.proxy_workers_over.Given as goal

abbrev pub invariant-loop-placed : goal.invariant-loop-placed
invariant-loop-placed l = record {
  room : vec_capacity l.workers ≡ l.fn.count;
  made : vec_len l.workers ≡ l.placed;
}
