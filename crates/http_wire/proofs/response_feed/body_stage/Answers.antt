use Rattle.std.proofs.Common.{take}
use Rattle.http_wire.proofs.ChunkLineLemmas.{goes_on_none}
use Rattle.http_wire.proofs.response_feed.body_stage.Goals as goal

pub returns-in-Chunked-clause-stage : goal.returns-in-Chunked-clause-stage
returns-in-Chunked-clause-stage c = λ rest. goes_on_none (take 16384 rest)
