-- What holds of every history of a shard, of names, and of every seat.
use Rattle.std.specs.Prelude.{◌≡◌, ◌≢◌, ℕ, ◌<◌, ◌==◌, if◌then◌else◌, List, [], ◌∷◌, ◌++◌, All}
use Rattle.nonce_shard.specs.declared.calls.Call.{Call}
use Rattle.nonce_shard.specs.declared.calls.Exchange.{Exchange}
use Rattle.nonce_shard.specs.declared.calls.Reply.TheVariants.{Fresh, Taken}
use Rattle.nonce_shard.specs.declared.calls.What.{What}
use Rattle.nonce_shard.specs.declared.calls.What.TheVariants.{Issue, Peek, Use, Open, Take, Keep, Recall}
use Rattle.nonce_shard.specs.declared.names.TableName.{TableName}
use Rattle.nonce_shard.specs.declared.sizes.Sizes.{Sizes}
use Rattle.nonce_shard.specs.Names.{IsName, name_text}
use Rattle.nonce_shard.specs.Replies.{reply}
use Rattle.nonce_shard.specs.Seat.{Entry, Seat, Made, Grows, calls_of}

-- ---- nothing comes twice

-- a use of this count of this nonce
abbrev pub Uses : TableName → ℕ → What → Type 0
Uses nonce count (Use named kind space used given) = (named ≡ nonce) × (used ≡ count)
Uses nonce count (Issue kind space random) = ⊥
Uses nonce count (Peek named space) = ⊥
Uses nonce count (Open space random exchange) = ⊥
Uses nonce count (Take sid space) = ⊥
Uses nonce count (Keep sid space) = ⊥
Uses nonce count (Recall sid space) = ⊥

-- Of two uses of one count of one nonce in a shard's history, the second isn't answered Fresh where the first was.
abbrev pub AdmitsOnce : Type 0
AdmitsOnce = (sizes : Sizes) (shard : ℕ) (before between : List Call) (first second : Call) (nonce : TableName) (count one other : ℕ)
    → Uses nonce count first.what → Uses nonce count second.what
    → reply sizes shard before first ≡ Fresh one → reply sizes shard (before ++ first ∷ between) second ≢ Fresh other

-- a try of this exchange
abbrev pub Tries : TableName → What → Type 0
Tries sid (Take named space) = named ≡ sid
Tries sid (Issue kind space random) = ⊥
Tries sid (Peek named space) = ⊥
Tries sid (Use named kind space used given) = ⊥
Tries sid (Open space random exchange) = ⊥
Tries sid (Keep named space) = ⊥
Tries sid (Recall named space) = ⊥

-- Of two tries of one exchange in a shard's history, the second isn't answered Taken where the first was.
abbrev pub TriesOnce : Type 0
TriesOnce = (sizes : Sizes) (shard : ℕ) (before between : List Call) (first second : Call) (sid : TableName) (one other : Exchange)
    → Tries sid first.what → Tries sid second.what
    → reply sizes shard before first ≡ Taken one → reply sizes shard (before ++ first ∷ between) second ≢ Taken other

-- ---- names

-- Names of one text are one.
abbrev pub NamesOne : Type 0
NamesOne = (one other : TableName) → IsName one → IsName other → name_text one ≡ name_text other → one ≡ other

-- ---- where the calls of a seat stand

-- A call stands behind these entries of its shard: they begin with those that the seat had seen of it so far, the list goes on
-- with the call, and the reply is that of a table of one thread behind them.
pub record StandsBehind (seat : Seat) (seen : List Entry) (whole : List Entry) (m : Made) (past : List Entry) : Type 0 where
  pub others : List Entry
  pub later : List Entry
  pub begins : past ≡ seen ++ others
  pub goes_on : whole ≡ past ++ (seat.owner, m.call) ∷ later
  pub replies : m.reply ≡ reply seat.sizes m.shard (calls_of past) m.call

-- the lists of the shards, with one of them grown to this
abbrev pub with_list : (ℕ → List Entry) → ℕ → List Entry → ℕ → List Entry
with_list lists shard list s = if s == shard then list else lists s

-- Calls stand behind these entries, each on a shard behind the one before it.
abbrev pub Stand : Seat → (ℕ → List Entry) → Seat → List Made → List (List Entry) → Type 0
Stand seat seen new [] [] = Unit {0}
Stand seat seen new (m ∷ made) (past ∷ places) =
    StandsBehind seat (seen m.shard) (new.seen m.shard) m past
    × Stand seat (with_list seen m.shard (past ++ (seat.owner, m.call) ∷ [])) new made places
Stand seat seen new [] (past ∷ places) = ⊥
Stand seat seen new (m ∷ made) [] = ⊥

-- Whatever calls a seat has made, they stand so.
abbrev pub CallsStand : Type 0
CallsStand =
    (old new : Seat) (made : List Made) → All (λ (m : Made). m.shard < old.shards) made → Grows old new made
    → (places : List (List Entry)) × Stand old old.seen new made places
