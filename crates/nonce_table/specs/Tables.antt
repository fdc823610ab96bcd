-- What contracts see of a table, and the passes that it makes.
use Rattle.std.specs.Prelude.{◌≡◌, ℕ, ◌≤◌, Some, List, [], map, length, slice_get}
use Rattle.nonce_shard.specs.declared.calls.Call.{Call}
use Rattle.nonce_shard.specs.declared.sizes.Sizes.{Sizes}
use Rattle.nonce_shard.specs.declared.sizes.Setting.{Setting}
use Rattle.nonce_shard.specs.Sizes.{AreValid}
use Rattle.turn_table.specs.Passes.{TableFacts, PassFacts}
use Rattle.nonce_table.specs.declared.table.TheConstants.{MOST_PASSES}
use Rattle.nonce_table.specs.Passes.{TablePassFacts, name_of}
use Rattle.nonce_table.specs.Shards.{opening_of}

-- its sizes, what tells the turns of each shard from all others, and how many passes were made
pub record NonceTableFacts : Type 0 where
  pub sizes : Sizes
  pub names : List (List ℕ)
  pub made : ℕ

abbrev pub names_of : List (TableFacts Setting) → List (List ℕ)
names_of turns = map (λ t. name_of t.id) turns

abbrev pub table_facts : Sizes → List (TableFacts Setting) → ℕ → NonceTableFacts
table_facts sizes turns made = record { sizes = sizes; names = names_of turns; made = made }

-- the turns of the shards of a table, and the opening pass to each, from which so many passes were made
pub record AreShards (sizes : Sizes) (made : ℕ) (turns : List (TableFacts Setting))
    (openings : List (PassFacts Call Setting)) : Type 0 where
  pub valid : AreValid sizes
  pub long : length turns ≡ sizes.shards
  pub few : made ≤ MOST_PASSES
  pub setting : (s : ℕ) (t : TableFacts Setting) → slice_get turns s ≡ Some t → t.setting ≡ record { number = s; sizes = sizes }
  pub opened : openings ≡ map (opening_of made) turns

-- the pass is of this table
abbrev pub IsOf : NonceTableFacts → TablePassFacts → Type 0
IsOf table pass = (pass.sizes ≡ table.sizes) × (pass.table ≡ table.names)

-- the pass is of the table whose shards have these turns
abbrev pub IsAt : List (TableFacts Setting) → TablePassFacts → Type 0
IsAt turns pass = pass.table ≡ names_of turns

-- the pass of this owner that has seen nothing
abbrev pub new_pass : NonceTableFacts → ℕ → TablePassFacts
new_pass table owner = record {
  owner = owner;
  sizes = table.sizes;
  table = table.names;
  seen = map (λ _. []) table.names;
  noted = map (λ _. 0) table.names;
}
