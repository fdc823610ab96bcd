-- The sizes of a table.
use Rattle.std.specs.Prelude.{◌≤◌}
use Rattle.nonce_shard.specs.declared.sizes.Sizes.{Sizes}
use Rattle.nonce_shard.specs.declared.sizes.TheConstants.{MOST_SHARDS, NONCES, EXCHANGES, NONCE_LIFE, OPEN_LIFE, FINISHED_LIFE, USES}

abbrev pub standard_sizes : Sizes
standard_sizes =
    record {
      shards = MOST_SHARDS;
      nonces = NONCES;
      exchanges = EXCHANGES;
      nonce_life = NONCE_LIFE;
      open_life = OPEN_LIFE;
      finished_life = FINISHED_LIFE;
      uses = USES;
    }

-- the same with one shard
abbrev pub single_sizes : Sizes
single_sizes = record standard_sizes { shards = 1 }

-- sizes that a table can have
pub record AreValid (sizes : Sizes) : Type 0 where
  pub some_shard : 1 ≤ sizes.shards
  pub few_shards : sizes.shards ≤ MOST_SHARDS
  pub some_nonce : 1 ≤ sizes.nonces
  pub some_exchange : 1 ≤ sizes.exchanges
