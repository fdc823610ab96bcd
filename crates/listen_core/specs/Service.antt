-- What serves the connections of a worker, as contracts see it.
use Rattle.std.specs.Prelude.{ℕ, List, Option}
use Rattle.auth_io.specs.Files.{Contents}
use Rattle.auth_io.specs.declared.files.Ending.{Ending}
use Rattle.nonce_shard.specs.Seat.{Seat}
use Rattle.origin_core.specs.Outside.{Outside, files_state, outside_of}
use Rattle.request_deciding.specs.Outside.{table_state}
use Rattle.listen_core.specs.declared.server.OriginServer.{OriginServer}

-- the outside that it uses
abbrev pub outside_at : {F C W T : Type 0} → (F → Option Contents) → (F → Option (List (List ℕ × Ending))) → (F → ℕ)
    → (W → Option (List (List ℕ))) → (W → ℕ) → (T → Seat) → OriginServer F C W T → Outside
outside_at contents asked file_faults drawn random_faults seat s =
    outside_of (files_state contents asked file_faults s.files) (table_state drawn random_faults seat s.random s.seat)

-- the number of its table's shards
abbrev pub shards_of : {F C W T : Type 0} → (T → Seat) → OriginServer F C W T → ℕ
shards_of seat s = (seat s.seat).shards
