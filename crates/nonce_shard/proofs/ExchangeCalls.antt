-- What one more call adds to what is said of exchanges.
use Rattle.std.proofs.Common.{◌≡◌, ◌≢◌, ℕ, ◌-◌, ◌||◌, Bool, true, false, cond, Option, Some, None, List, [], ◌∷◌, ◌++◌, slice_get, refl, ◌∙◌, ap, nat_le}
use Rattle.std.specs.List.{filter_map, cons_option, list_any}
use Rattle.std.specs.Option.{option_or, option_map_or}
use Rattle.std.proofs.lemmas.List.Elements.{filter_map-append}
use Rattle.std.proofs.lemmas.List.Folds.{list_any-append}
use Rattle.nonce_shard.specs.declared.names.TableName.{TableName}
use Rattle.nonce_shard.specs.declared.calls.What.{What}
use Rattle.nonce_shard.specs.declared.calls.What.TheVariants.{Issue, Peek, Use, Open, Take, Keep, Recall}
use Rattle.nonce_shard.specs.declared.calls.Reply.{Reply}
use Rattle.nonce_shard.specs.declared.calls.Reply.TheVariants as replies
use Rattle.nonce_shard.specs.declared.sizes.Sizes.{Sizes}
use Rattle.nonce_shard.specs.declared.history.Answered.{Answered}
use Rattle.nonce_shard.specs.declared.exchanges.Opening.{Opening}
use Rattle.nonce_shard.specs.declared.exchanges.Progress.{Progress}
use Rattle.nonce_shard.specs.declared.exchanges.Progress.TheVariants.{Untried, Tried, Finished}
use Rattle.nonce_shard.specs.Exchanges.{opening_in, openings, takes, keep_in, kept_at, progress, take_reply, keep_reply}
use Rattle.nonce_shard.specs.ExchangeRing.{progress_after}
use Rattle.nonce_shard.proofs.NoTwice.{names_same}
use Rattle.nonce_shard.proofs.NonceCalls.{names_other, first_of, or_none}

-- the progress of an exchange that was kept at a time, or isn't, and was taken or not
abbrev come : Option ℕ → Bool → Progress
come kept taken = option_map_or (λ time. Finished time) kept (cond taken Tried Untried)

abbrev was_taken : List Answered → TableName → Bool
was_taken past name = list_any (λ (a : Answered). takes name a.call.what a.reply) past

pub openings-append : (past : List Answered) (a : Answered) → openings (past ++ a ∷ []) ≡ openings past ++ cons_option (opening_in a.call.what a.time) []
openings-append past a = filter_map-append (λ (b : Answered). opening_in b.call.what b.time) past (a ∷ [])

kept_at-append : (past : List Answered) (a : Answered) (name : TableName) → kept_at (past ++ a ∷ []) name ≡ option_or (kept_at past name) (keep_in name a.call.what a.reply a.time)
kept_at-append past a name =
    let f : Answered → Option ℕ = λ b. keep_in name b.call.what b.reply b.time in
    ap (λ (ks : List ℕ). slice_get ks 0) (filter_map-append f past (a ∷ [])) ∙ first_of (filter_map f past) (f a)

progress-append : (past : List Answered) (a : Answered) (name : TableName)
    → progress (past ++ a ∷ []) name ≡ come (option_or (kept_at past name) (keep_in name a.call.what a.reply a.time)) (was_taken past name || (takes name a.call.what a.reply || false))
progress-append past a name =
    ap (λ (kept : Option ℕ). come kept (was_taken (past ++ a ∷ []) name)) (kept_at-append past a name)
    ∙ ap (come (option_or (kept_at past name) (keep_in name a.call.what a.reply a.time))) (list_any-append (λ (b : Answered). takes name b.call.what b.reply) past (a ∷ []))

or_false : (b : Bool) → (b || (false || false)) ≡ b
or_false true = refl
or_false false = refl

-- a call that neither takes nor keeps this exchange
pub same_progress : (past : List Answered) (a : Answered) (name : TableName) → takes name a.call.what a.reply ≡ false → keep_in name a.call.what a.reply a.time ≡ None → progress (past ++ a ∷ []) name ≡ progress past name
same_progress past a name no_take no_keep =
    progress-append past a name
    ∙ ap (λ (kept : Option ℕ). come kept (was_taken past name || (takes name a.call.what a.reply || false))) (ap (option_or (kept_at past name)) no_keep ∙ or_none (kept_at past name))
    ∙ ap (come (kept_at past name)) (ap (λ (t : Bool). was_taken past name || (t || false)) no_take ∙ or_false (was_taken past name))

-- ---- a call that leaves an exchange where it is

pub record Leaves (name : TableName) (what : What) (reply : Reply) (time : ℕ) : Type 0 where
  pub no_take : takes name what reply ≡ false
  pub no_keep : keep_in name what reply time ≡ None

-- a call that names an exchange of another serial
pub other_take : (sid name : TableName) (space : ℕ) (reply : Reply) (time : ℕ) → sid.serial ≢ name.serial → Leaves name (Take sid space) reply time
other_take sid name space reply time other = record { no_take = by reply; no_keep = refl }
  where
    by : (r : Reply) → takes name (Take sid space) r ≡ false
    by (replies.Taken exchange) = names_other sid name other
    by (replies.Issued serial) = refl
    by (replies.Prime prime) = refl
    by (replies.Fresh uses) = refl
    by replies.Gone = refl
    by (replies.Behind high) = refl
    by replies.Repeated = refl
    by replies.OtherSession = refl
    by (replies.Opened serial) = refl
    by replies.Kept = refl
    by (replies.Session exchange) = refl

pub other_keep : (sid name : TableName) (space : ℕ) (reply : Reply) (time : ℕ) → sid.serial ≢ name.serial → Leaves name (Keep sid space) reply time
other_keep sid name space reply time other = record { no_take = refl; no_keep = by reply }
  where
    by : (r : Reply) → keep_in name (Keep sid space) r time ≡ None
    by replies.Kept = ap (λ (b : Bool). cond b (Some time) None) (names_other sid name other)
    by (replies.Issued serial) = refl
    by (replies.Prime prime) = refl
    by (replies.Fresh uses) = refl
    by replies.Gone = refl
    by (replies.Behind high) = refl
    by replies.Repeated = refl
    by replies.OtherSession = refl
    by (replies.Opened serial) = refl
    by (replies.Taken exchange) = refl
    by (replies.Session exchange) = refl

pub gone_leaves : (name : TableName) (what : What) (time : ℕ) → Leaves name what replies.Gone time
gone_leaves name (Issue kind space random) time = record { no_take = refl; no_keep = refl }
gone_leaves name (Peek nonce space) time = record { no_take = refl; no_keep = refl }
gone_leaves name (Use nonce kind space count given) time = record { no_take = refl; no_keep = refl }
gone_leaves name (Open space random exchange) time = record { no_take = refl; no_keep = refl }
gone_leaves name (Take sid space) time = record { no_take = refl; no_keep = refl }
gone_leaves name (Keep sid space) time = record { no_take = refl; no_keep = refl }
gone_leaves name (Recall sid space) time = record { no_take = refl; no_keep = refl }

pub open_leaves : (name : TableName) (what : What) (reply : Reply) (time : ℕ) (opening : Opening) → opening_in what time ≡ Some opening → Leaves name what reply time
open_leaves name (Open space random exchange) reply time opening is = record { no_take = refl; no_keep = refl }
open_leaves name (Issue kind space random) reply time opening is = cc
open_leaves name (Peek nonce space) reply time opening is = cc
open_leaves name (Use nonce kind space count given) reply time opening is = cc
open_leaves name (Take sid space) reply time opening is = cc
open_leaves name (Keep sid space) reply time opening is = cc
open_leaves name (Recall sid space) reply time opening is = cc

-- ---- a call of this exchange

-- how far it has come by a call with this reply
abbrev step : TableName → What → ℕ → Option ℕ → Bool → Reply → Progress
step name what time kept taken reply = come (option_or kept (keep_in name what reply time)) (taken || (takes name what reply || false))

take_steps : (name : TableName) (space : ℕ) (sizes : Sizes) (now time : ℕ) (o : Opening) (kept : Option ℕ) (taken : Bool)
    → step name (Take name space) time kept taken (take_reply sizes now o (come kept taken)) ≡ progress_after (come kept taken) time (take_reply sizes now o (come kept taken))
take_steps name space sizes now time o (Some t) taken = refl
take_steps name space sizes now time o None true = refl
take_steps name space sizes now time o None false = by (nat_le (now - o.time) sizes.open_life)
  where
    by : (young : Bool) → step name (Take name space) time None false (cond young (replies.Taken o.exchange) replies.Gone) ≡ progress_after Untried time (cond young (replies.Taken o.exchange) replies.Gone)
    by true = ap (λ (same : Bool). come None (false || (same || false))) (names_same name name refl)
    by false = refl

pub progress_taken : (past : List Answered) (a : Answered) (name : TableName) (space : ℕ) (sizes : Sizes) (now : ℕ) (o : Opening) → a.call.what ≡ Take name space → a.reply ≡ take_reply sizes now o (progress past name)
    → progress (past ++ a ∷ []) name ≡ progress_after (progress past name) a.time a.reply
progress_taken past a name space sizes now o what is =
    progress-append past a name ∙ ap (λ (w : What). step name w a.time (kept_at past name) (was_taken past name) a.reply) what
    ∙ rw is (take_steps name space sizes now a.time o (kept_at past name) (was_taken past name))

keep_steps : (name : TableName) (space time : ℕ) (kept : Option ℕ) (taken : Bool)
    → step name (Keep name space) time kept taken (keep_reply (come kept taken)) ≡ progress_after (come kept taken) time (keep_reply (come kept taken))
keep_steps name space time (Some t) taken = refl
keep_steps name space time None true = ap (λ (same : Bool). come (option_or None (cond same (Some time) None)) true) (names_same name name refl)
keep_steps name space time None false = refl

pub progress_kept : (past : List Answered) (a : Answered) (name : TableName) (space : ℕ) → a.call.what ≡ Keep name space → a.reply ≡ keep_reply (progress past name)
    → progress (past ++ a ∷ []) name ≡ progress_after (progress past name) a.time a.reply
progress_kept past a name space what is =
    progress-append past a name ∙ ap (λ (w : What). step name w a.time (kept_at past name) (was_taken past name) a.reply) what
    ∙ rw is (keep_steps name space a.time (kept_at past name) (was_taken past name))
