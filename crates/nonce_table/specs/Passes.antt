-- What contracts see of a pass to a table, which has a pass to each shard.
use Rattle.std.specs.Prelude.{◌≡◌, ℕ, ◌≤◌, Some, List, [], ◌∷◌, map, length, unwrap_or, slice_get, slice_set}
use Rattle.atomic_table.specs.Seated.{TableId}
use Rattle.nonce_shard.specs.declared.calls.Call.{Call}
use Rattle.nonce_shard.specs.declared.calls.Reply.{Reply}
use Rattle.nonce_shard.specs.declared.sizes.Sizes.{Sizes}
use Rattle.nonce_shard.specs.declared.sizes.Setting.{Setting}
use Rattle.nonce_shard.specs.Seat.{Entry, Seat}
use Rattle.nonce_shard.specs.Shard.{reply_after}
use Rattle.turn_table.specs.declared.object.TheConstants.{MOST_CALLS}
use Rattle.turn_table.specs.Passes.{PassFacts, Answers, IsWorn}

-- a pass to each shard of a table: its owner, the table's sizes, and by the shard's number what tells that shard's turns
-- from all others, the list of entries that it has seen there and the greatest number that it was told of
pub record TablePassFacts : Type 0 where
  pub owner : ℕ
  pub sizes : Sizes
  pub table : List (List ℕ)
  pub seen : List (List Entry)
  pub noted : List ℕ

-- the numbers that tell one shard's turns from all others
abbrev pub name_of : TableId → List ℕ
name_of id = id.words ∷ id.slots ∷ id.views_name ∷ id.atom ∷ id.block ∷ id.offset ∷ id.slot_names

abbrev pub facts_of : ℕ → Sizes → List (PassFacts Call Setting) → TablePassFacts
facts_of owner sizes passes = record {
  owner = owner;
  sizes = sizes;
  table = map (λ p. name_of p.table) passes;
  seen = map (λ p. p.seen) passes;
  noted = map (λ p. p.noted) passes;
}

-- as a seat
abbrev pub seat_of : TablePassFacts → Seat
seat_of pass = record {
  owner = pass.owner;
  table = pass.table;
  sizes = pass.sizes;
  limit = MOST_CALLS;
  shards = pass.sizes.shards;
  seen = λ s. unwrap_or (slice_get pass.seen s) [];
  noted = λ s. unwrap_or (slice_get pass.noted s) 0;
}

-- the pass of this owner to the shard of this number
pub record IsPassTo (owner : ℕ) (sizes : Sizes) (number : ℕ) (pass : PassFacts Call Setting) : Type 0 where
  pub owner_is : pass.owner ≡ owner
  pub setting_is : pass.setting ≡ Some (record { number = number; sizes = sizes })
  pub noted : pass.noted ≤ MOST_CALLS

-- the passes of one owner, one to each shard in their order
pub record ArePassesOf (owner : ℕ) (sizes : Sizes) (passes : List (PassFacts Call Setting)) : Type 0 where
  pub long : length passes ≡ sizes.shards
  pub some : 1 ≤ sizes.shards
  pub each : (s : ℕ) (p : PassFacts Call Setting) → slice_get passes s ≡ Some p → IsPassTo owner sizes s p

-- the pass at this place had its call answered, and no other has changed
pub record AnswersAt (old : List (PassFacts Call Setting)) (at : ℕ) (call : Call) (reply : Reply)
    (new : List (PassFacts Call Setting)) : Type 0 where
  pub before : PassFacts Call Setting
  pub after : PassFacts Call Setting
  pub was : slice_get old at ≡ Some before
  pub now : new ≡ slice_set old at after
  pub answers : Answers reply_after before call reply after

-- the pass at this place found the most calls that there can be, and no other has changed
pub record IsWornAt (old : List (PassFacts Call Setting)) (at calls : ℕ) (new : List (PassFacts Call Setting)) : Type 0 where
  pub before : PassFacts Call Setting
  pub after : PassFacts Call Setting
  pub was : slice_get old at ≡ Some before
  pub now : new ≡ slice_set old at after
  pub worn : IsWorn before calls after
