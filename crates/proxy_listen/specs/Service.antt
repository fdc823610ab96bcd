-- What serves the connections of a worker, as contracts see it.
use Rattle.std.specs.Prelude.{ℕ, List, Option}
use Rattle.auth_io.specs.Dialling.{Dialled}
use Rattle.auth_io.specs.Handing.{Handed}
use Rattle.dial_exchange.specs.Dials.{dial_state}
use Rattle.nonce_shard.specs.Seat.{Seat}
use Rattle.proxy_core.specs.Outside.{Outside, outside_of}
use Rattle.request_deciding.specs.Outside.{table_state}
use Rattle.proxy_listen.specs.declared.server.ProxyServer.{ProxyServer}

-- the outside that it uses
abbrev pub outside_at : {N F C W T : Type 0} → (N → Option Dialled) → (N → Option (List (List ℕ))) → (N → Option Handed) → (N → ℕ) → (N → ℕ)
    → (W → Option (List (List ℕ))) → (W → ℕ) → (T → Seat) → ProxyServer N F C W T → Outside
outside_at dialled coming handed dial_faults link_faults drawn random_faults seat s =
    outside_of (dial_state dialled coming handed dial_faults link_faults s.dial) (table_state drawn random_faults seat s.random s.seat)

-- the number of its table's shards
abbrev pub shards_of : {N F C W T : Type 0} → (T → Seat) → ProxyServer N F C W T → ℕ
shards_of seat s = (seat s.seat).shards
