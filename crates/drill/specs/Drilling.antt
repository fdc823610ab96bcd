-- What a step that is generated does to the world and to its table.
use Rattle.std.specs.Prelude.{◌≡◌, ◌≤◌, ◌<◌, ◌+◌, ◌^◌, ℕ, List, [], ◌∷◌, length}
use Rattle.nonce_shard.specs.Journal.{Journal}
use Rattle.nonce_shard.specs.Sizes.{single_sizes}
use Rattle.drill.specs.Generator.{IsGenerated, behind, words_in_turn}
use Rattle.drill.specs.Steps.{AreLow, world_at}
use Rattle.drill.specs.World.{Happening, Scene, step}

-- What a source of generated words tells of itself: where it began, as a first entry, and the words that it gave since.
abbrev pub told_from : ℕ → ℕ → List (List ℕ)
told_from n x = (x ∷ []) ∷ words_in_turn n x

-- There is room for one more step of any kind.
pub record HasRoom (s : Scene) (table : Journal) : Type 0 where
  pub low : AreLow s.tally
  pub made : length s.made < 2 ^ 32
  pub clock : s.clock + 120 ≤ 2 ^ 64
  pub calls : length table.calls + 3 ≤ table.limit
  pub sizes : table.sizes ≡ single_sizes

-- The world becomes that of the step, and the table has grown by exactly its calls.
pub record IsNext (x y : ℕ) (old new : Scene) (before now : Journal) : Type 0 where
  pub happening : Happening
  pub generated : IsGenerated x (world_at old before) happening
  pub world : world_at new now ≡ step (world_at old before) happening
  pub its_table : now ≡ record before { calls = now.calls }
  pub generator : y ≡ behind x (world_at old before) happening
