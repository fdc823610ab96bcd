-- What a seat at a table has seen, and how it grows by its calls.
use Rattle.std.specs.Prelude.{◌≡◌, ℕ, ◌<◌, ◌≤◌, ◌==◌, if◌then◌else◌, List, [], ◌∷◌, ◌++◌, map}
use Rattle.nonce_shard.specs.declared.calls.Call.{Call}
use Rattle.nonce_shard.specs.declared.calls.Reply.{Reply}
use Rattle.nonce_shard.specs.declared.sizes.Sizes.{Sizes}
use Rattle.nonce_shard.specs.Replies.{reply}

-- an owner and its call
abbrev pub Entry : Type 0
Entry = ℕ × Call

abbrev pub calls_of : List Entry → List Call
calls_of entries = map (λ e. e.1) entries

-- a seat: its owner, numbers that tell its table from every other, the table's sizes, limit and shards, and for each
-- shard by its number the list of entries that it has seen and the greatest number of entries that it was told of
pub record Seat : Type 0 where
  pub owner : ℕ
  pub table : List (List ℕ)
  pub sizes : Sizes
  pub limit : ℕ
  pub shards : ℕ
  pub seen : ℕ → List Entry
  pub noted : ℕ → ℕ

-- the owner's calls in the entries that came after past, each with the reply of the list before it
abbrev pub own_answers : Sizes → ℕ → ℕ → List Entry → List Entry → List (Call × Reply)
own_answers sizes shard owner past [] = []
own_answers sizes shard owner past (e ∷ es) =
    let rest = own_answers sizes shard owner (past ++ e ∷ []) es in
    if e.0 == owner then (e.1, reply sizes shard (calls_of past) e.1) ∷ rest else rest

-- the last entry, if there is one, is the owner's
abbrev pub EndsWithOwn : ℕ → List Entry → Type 0
EndsWithOwn owner [] = Unit {0}
EndsWithOwn owner (e ∷ []) = e.0 ≡ owner
EndsWithOwn owner (e ∷ f ∷ es) = EndsWithOwn owner (f ∷ es)

-- the list of one shard has grown by these calls of the owner with these replies, and by calls of others before the last of them
pub record GrowsBy (sizes : Sizes) (shard owner : ℕ) (old new : List Entry) (own : List (Call × Reply)) : Type 0 where
  pub grown : List Entry
  pub begins : new ≡ old ++ grown
  pub own_calls : own_answers sizes shard owner old grown ≡ own
  pub last : EndsWithOwn owner grown

-- what stays of a seat whatever it is asked
pub record SameSeat (old new : Seat) : Type 0 where
  pub owner : new.owner ≡ old.owner
  pub table : new.table ≡ old.table
  pub sizes : new.sizes ≡ old.sizes
  pub limit : new.limit ≡ old.limit
  pub shards : new.shards ≡ old.shards
  pub noted : (s : ℕ) → s < old.shards → old.noted s ≤ new.noted s

-- a call that was made, with its shard and its reply
pub record Made : Type 0 where
  pub shard : ℕ
  pub call : Call
  pub reply : Reply

-- the calls on one shard, with their replies
abbrev pub of_shard : ℕ → List Made → List (Call × Reply)
of_shard s [] = []
of_shard s (m ∷ ms) = if m.shard == s then (m.call, m.reply) ∷ of_shard s ms else of_shard s ms

-- the seat has made these calls, on each shard in their order, with these replies
pub record Grows (old new : Seat) (made : List Made) : Type 0 where
  pub same : SameSeat old new
  pub lists : (s : ℕ) → s < old.shards → GrowsBy old.sizes s old.owner (old.seen s) (new.seen s) (of_shard s made)

-- the shard is at the limit, and nothing has changed but what was noted
pub record IsWorn (old new : Seat) (shard calls : ℕ) : Type 0 where
  pub same : SameSeat old new
  pub lists : (s : ℕ) → s < old.shards → new.seen s ≡ old.seen s
  pub noted : new.noted shard ≡ calls
  pub at_limit : calls ≡ old.limit
