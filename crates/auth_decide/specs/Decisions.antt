-- What a decision is seen as.
use Rattle.std.specs.Prelude.{ℕ, ◌<◌, ◌≤◌, List, length, Option, Some, None, ⊤}
use Rattle.nonce_shard.specs.Replies.{CanAnswer, Fits}
use Rattle.nonce_shard.specs.declared.calls.Reply.{Reply}
use Rattle.nonce_shard.specs.declared.names.TableName.{TableName}
use Rattle.auth_decide.specs.Asks.{asked, next_ask}
use Rattle.auth_decide.specs.Stages.{Answer, Question}
use Rattle.auth_decide.specs.declared.stages.Stage.{Stage}
use Rattle.auth_decide.specs.declared.stages.Stage.TheVariants.{Drawing, Issuing, Peeking, Using, Beginning, Opening, Taking, Keeping, Recalling, Reusing}
use Rattle.auth_decide.specs.declared.verdict.Ask.{Ask}
use Rattle.auth_decide.specs.declared.verdict.Ask.TheVariants.{Draw, Table, Verdict}

-- a request that is decided, and the stage that it has come to
pub record Deciding : Type 0 where
  pub question : Question
  pub stage : Stage

abbrev pub ask_of : Deciding → Ask
ask_of d = next_ask d.question d.stage

abbrev pub IsDraw : Ask → Type 0
IsDraw Draw = Unit {0}
IsDraw (Table shard call) = ⊥
IsDraw (Verdict verdict) = ⊥

-- a call of the table that this reply can answer
abbrev pub IsCallFor : Reply → Ask → Type 0
IsCallFor reply Draw = ⊥
IsCallFor reply (Table shard call) = CanAnswer reply call.what
IsCallFor reply (Verdict verdict) = ⊥

-- an ask to the outside
abbrev pub IsOutside : Ask → Type 0
IsOutside Draw = Unit {0}
IsOutside (Table shard call) = Unit {0}
IsOutside (Verdict verdict) = ⊥

-- a call to one of so many shards, which fits the table
abbrev pub FitsTable : ℕ → Ask → Type 0
FitsTable shards Draw = Unit {0}
FitsTable shards (Table shard call) = (shard < shards) × Fits call.what
FitsTable shards (Verdict verdict) = Unit {0}

-- a stage that asks for random words
abbrev pub Draws : Stage → Type 0
Draws (Drawing purpose) = Unit {0}
Draws (Beginning e) = Unit {0}
Draws _ = ⊥

-- a stage that asks for a call
abbrev pub Calls : Stage → Type 0
Calls (Issuing purpose words) = Unit {0}
Calls (Peeking c nonce) = Unit {0}
Calls (Using v nonce) = Unit {0}
Calls (Opening e words) = Unit {0}
Calls (Taking a) = Unit {0}
Calls (Keeping user) = Unit {0}
Calls (Recalling a again) = Unit {0}
Calls (Reusing user sr count) = Unit {0}
Calls _ = ⊥

-- a name, if there is one, is of one of so many shards
abbrev pub IsWithin : ℕ → Option TableName → Type 0
IsWithin shards None = ⊤
IsWithin shards (Some name) = name.shard < shards

-- a stage that asks one of so many shards, for a count from 1 on
abbrev pub AsksWithin : ℕ → Stage → Type 0
AsksWithin shards (Peeking c nonce) = nonce.shard < shards
AsksWithin shards (Using v nonce) = nonce.shard < shards
AsksWithin shards (Taking a) = a.sid.shard < shards
AsksWithin shards (Keeping user) = user.sid.shard < shards
AsksWithin shards (Recalling a again) = (a.sid.shard < shards) × IsWithin shards again.sr × (0 < again.count)
AsksWithin shards (Reusing user sr count) = (sr.shard < shards) × (0 < count)
AsksWithin shards _ = ⊤

-- how many asks may come at most, from a stage on
abbrev pub asks_left : Stage → ℕ
asks_left (Peeking c nonce) = 4
asks_left (Using v nonce) = 3
asks_left (Recalling a again) = 4
asks_left (Taking a) = 3
asks_left (Reusing user sr count) = 3
asks_left (Drawing purpose) = 2
asks_left (Beginning e) = 2
asks_left (Opening e words) = 1
asks_left (Keeping user) = 1
asks_left (Issuing purpose words) = 1
asks_left _ = 0

-- An ask to the outside comes after three answers at most.
abbrev pub AsksFew : Type 0
AsksFew = (q : Question) (answers : List Answer) → IsOutside (asked q answers) → length answers ≤ 3
