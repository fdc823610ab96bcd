-- What the answered calls say of an exchange.
use Rattle.std.specs.Prelude.{ℕ, ◌-◌, Bool, false, ◌&&◌, ◌==◌, if◌then◌else◌, nat_lt, nat_le, nat_eq, Option, Some, None, List, length, slice_get}
use Rattle.std.specs.List.{filter_map, list_any}
use Rattle.std.specs.Option.{option_map_or, option_and_then}
use Rattle.std.specs.Cmp.Lexicographic.{pointwise}
use Rattle.nonce_shard.specs.declared.names.TableName.{TableName}
use Rattle.nonce_shard.specs.declared.names.NameKind.TheVariants as names
use Rattle.nonce_shard.specs.declared.calls.What.{What}
use Rattle.nonce_shard.specs.declared.calls.What.TheVariants.{Issue, Peek, Use, Open, Take, Keep, Recall}
use Rattle.nonce_shard.specs.declared.calls.Reply.{Reply}
use Rattle.nonce_shard.specs.declared.calls.Reply.TheVariants as replies
use Rattle.nonce_shard.specs.declared.sizes.Sizes.{Sizes}
use Rattle.nonce_shard.specs.declared.history.Answered.{Answered}
use Rattle.nonce_shard.specs.declared.exchanges.Opening.{Opening}
use Rattle.nonce_shard.specs.declared.exchanges.Progress.{Progress}
use Rattle.nonce_shard.specs.declared.exchanges.Progress.TheVariants.{Untried, Tried, Finished}
use Rattle.nonce_shard.specs.Names.{kinds_eq, names_eq}

-- ---- which exchanges there are

-- the exchange that an Open at this time makes
abbrev pub opening_in : What → ℕ → Option Opening
opening_in (Open space random exchange) time = Some (record { space = space; random = random; exchange = exchange; time = time })
opening_in (Issue kind space random) time = None
opening_in (Peek nonce space) time = None
opening_in (Use nonce kind space count prime) time = None
opening_in (Take sid space) time = None
opening_in (Keep sid space) time = None
opening_in (Recall sid space) time = None

-- the exchanges that were opened, in order: the serial of each is its place
abbrev pub openings : List Answered → List Opening
openings past = filter_map (λ a. opening_in a.call.what a.time) past

-- whether a name, at the place of its serial, is the name of this exchange, of that space
abbrev pub names_exchange : ℕ → TableName → ℕ → Opening → Bool
names_exchange shard name space o =
    kinds_eq name.kind names.Exchange && (name.shard == shard) && pointwise nat_eq name.random o.random && (o.space == space)

-- and few enough were opened since
abbrev pub is_there : Sizes → ℕ → List Answered → TableName → ℕ → Opening → Bool
is_there sizes shard past name space o =
    names_exchange shard name space o && nat_lt (length (openings past) - name.serial - 1) sizes.exchanges

-- the exchange of this name in this space, where it is there
abbrev pub opening : Sizes → ℕ → List Answered → TableName → ℕ → Option Opening
opening sizes shard past name space =
    option_and_then (λ o. if is_there sizes shard past name space o then Some o else None) (slice_get (openings past) name.serial)

-- ---- how far an exchange has come

-- whether this is a Take of it that was answered Taken
abbrev pub takes : TableName → What → Reply → Bool
takes name (Take sid space) (replies.Taken exchange) = names_eq sid name
takes name _ _ = false

-- the time of a Keep of it that was answered Kept
abbrev pub keep_in : TableName → What → Reply → ℕ → Option ℕ
keep_in name (Keep sid space) replies.Kept time = if names_eq sid name then Some time else None
keep_in name _ _ time = None

-- the time of the first such Keep
abbrev pub kept_at : List Answered → TableName → Option ℕ
kept_at past name = slice_get (filter_map (λ a. keep_in name a.call.what a.reply a.time) past) 0

-- untried until it is taken, then tried until it is kept, then finished at that time
abbrev pub progress : List Answered → TableName → Progress
progress past name =
    option_map_or (λ time. Finished time) (kept_at past name)
    (if list_any (λ a. takes name a.call.what a.reply) past then Tried else Untried)

-- the one try is taken while it is untried and not too old
abbrev pub take_reply : Sizes → ℕ → Opening → Progress → Reply
take_reply sizes now o Untried = if nat_le (now - o.time) sizes.open_life then replies.Taken o.exchange else replies.Gone
take_reply sizes now o Tried = replies.Gone
take_reply sizes now o (Finished time) = replies.Gone

-- it is kept once it is tried
abbrev pub keep_reply : Progress → Reply
keep_reply Untried = replies.Gone
keep_reply Tried = replies.Kept
keep_reply (Finished time) = replies.Gone

-- it is recalled once it is finished, and not too long ago
abbrev pub recall_reply : Sizes → ℕ → Opening → Progress → Reply
recall_reply sizes now o Untried = replies.Gone
recall_reply sizes now o Tried = replies.Gone
recall_reply sizes now o (Finished time) = if nat_le (now - time) sizes.finished_life then replies.Session o.exchange else replies.Gone
