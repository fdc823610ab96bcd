use Rattle.std.proofs.Common.{◌≡◌, map, drop}
use Rattle.worker_loop.specs.Ends.{worst_of}
use Rattle.worker_loop.specs.Jobs.{finish_of}
use Rattle.worker_loop.specs.declared.finish.Finish.TheVariants.{Well}
use Rattle.worker_loop.proofs.jobs.worst.Given as goal

abbrev pub invariant-loop-job : goal.invariant-loop-job
invariant-loop-job g l = worst_of Well (map finish_of l.jobs) ≡ worst_of l.worst (map finish_of (drop l.job-index l.jobs))
