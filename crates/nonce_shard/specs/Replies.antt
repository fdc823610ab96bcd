-- The reply to a call, from the calls before it.
use Rattle.std.specs.Prelude.{ℕ, ◌<◌, ◌≡◌, ◌≢◌, false, if◌then◌else◌, All, List, [], ◌∷◌, ◌++◌, length, fold}
use Rattle.std.specs.Option.{option_map_or}
use Rattle.nonce_shard.specs.declared.calls.NonceKind.TheVariants.{Digest, Both}
use Rattle.nonce_shard.specs.declared.calls.What.{What}
use Rattle.nonce_shard.specs.declared.calls.What.TheVariants.{Issue, Peek, Use, Open, Take, Keep, Recall}
use Rattle.nonce_shard.specs.declared.calls.Call.{Call}
use Rattle.nonce_shard.specs.declared.calls.Reply.{Reply}
use Rattle.nonce_shard.specs.declared.calls.Reply.TheVariants as replies
use Rattle.nonce_shard.specs.declared.sizes.Sizes.{Sizes}
use Rattle.nonce_shard.specs.declared.history.Answered.{Answered}
use Rattle.nonce_shard.specs.History.{time_at}
use Rattle.nonce_shard.specs.Nonces.{nonces, is_live, admitted, first_prime, use_reply}
use Rattle.nonce_shard.specs.Exchanges.{openings, opening, takes, progress, take_reply, keep_reply, recall_reply}

-- a Use has a count from 1 on, and a kind that is not Both
abbrev pub Fits : What → Type 0
Fits (Use nonce kind space count given) = (0 < count) × (kind ≢ Both)
Fits (Issue kind space random) = Unit {0}
Fits (Peek nonce space) = Unit {0}
Fits (Open space random exchange) = Unit {0}
Fits (Take sid space) = Unit {0}
Fits (Keep sid space) = Unit {0}
Fits (Recall sid space) = Unit {0}

-- the reply of a shard to a call at this time
abbrev pub reply_to : Sizes → ℕ → List Answered → ℕ → What → Reply
reply_to sizes shard past now (Issue kind space random) = replies.Issued (length (nonces past))
reply_to sizes shard past now (Peek nonce space) =
    if is_live sizes shard past nonce Digest space now then replies.Prime (first_prime past nonce) else replies.Gone
reply_to sizes shard past now (Use nonce kind space count given) =
    if is_live sizes shard past nonce kind space now
    then use_reply (admitted past nonce) (first_prime past nonce) count given else replies.Gone
reply_to sizes shard past now (Open space random exchange) = replies.Opened (length (openings past))
reply_to sizes shard past now (Take sid space) =
    option_map_or (λ o. take_reply sizes now o (progress past sid)) (opening sizes shard past sid space) replies.Gone
reply_to sizes shard past now (Keep sid space) =
    option_map_or (λ o. keep_reply (progress past sid)) (opening sizes shard past sid space) replies.Gone
reply_to sizes shard past now (Recall sid space) =
    option_map_or (λ o. recall_reply sizes now o (progress past sid)) (opening sizes shard past sid space) replies.Gone

-- a call with its time and its reply
abbrev pub answer : Sizes → ℕ → List Answered → Call → Answered
answer sizes shard past call =
    let now = time_at past call.moment in record { call = call; time = now; reply = reply_to sizes shard past now call.what }

-- the calls of a list with their times and replies, each from those before it
abbrev pub answered : Sizes → ℕ → List Call → List Answered
answered sizes shard calls = fold (λ past call. past ++ answer sizes shard past call ∷ []) [] calls

-- the reply of a shard to a call that comes behind a list of calls
abbrev pub reply : Sizes → ℕ → List Call → Call → Reply
reply sizes shard calls call = (answer sizes shard (answered sizes shard calls) call).reply

-- which replies a call can have
abbrev pub CanAnswer : Reply → What → Type 0
CanAnswer (replies.Issued serial) (Issue kind space random) = Unit {0}
CanAnswer (replies.Prime prime) (Peek nonce space) = Unit {0}
CanAnswer replies.Gone (Peek nonce space) = Unit {0}
CanAnswer replies.Gone (Use nonce kind space count given) = Unit {0}
CanAnswer (replies.Behind high) (Use nonce kind space count given) = Unit {0}
CanAnswer replies.Repeated (Use nonce kind space count given) = Unit {0}
CanAnswer replies.OtherSession (Use nonce kind space count given) = Unit {0}
CanAnswer (replies.Fresh uses) (Use nonce kind space count given) = Unit {0}
CanAnswer (replies.Opened serial) (Open space random exchange) = Unit {0}
CanAnswer (replies.Taken exchange) (Take sid space) = Unit {0}
CanAnswer replies.Gone (Take sid space) = Unit {0}
CanAnswer replies.Kept (Keep sid space) = Unit {0}
CanAnswer replies.Gone (Keep sid space) = Unit {0}
CanAnswer (replies.Session exchange) (Recall sid space) = Unit {0}
CanAnswer replies.Gone (Recall sid space) = Unit {0}
CanAnswer _ _ = ⊥

-- a count that is answered Fresh is new, and an exchange that is answered Taken was not taken before
abbrev pub ComesOnce : List Answered → What → Reply → Type 0
ComesOnce past (Use nonce kind space count given) (replies.Fresh uses) = All (λ c. c ≢ count) (admitted past nonce)
ComesOnce past (Take sid space) (replies.Taken exchange) = All (λ a. takes sid a.call.what a.reply ≡ false) past
ComesOnce past _ _ = Unit {0}
