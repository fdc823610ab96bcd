-- The replies that a call can have.
use Rattle.std.proofs.Common.{◌≡◌, ◌<◌, ℕ, Bool, true, false, cond, ◌==◌, Option, Some, None, List, [], ◌∷◌, ◌++◌, subst, ◌∙◌, refl, arith}
use Rattle.std.specs.Prelude.{All, nat_le, ◌+◌, ◌-◌, length}
use Rattle.std.specs.List.{list_any}
use Rattle.std.specs.Option.{option_map_or}
use Rattle.std.proofs.lemmas.Bool.Decides.{nat_tests}
use Rattle.std.proofs.lemmas.List.Elements.{All-nil, All-cons, All-head}
use Rattle.arrayvec.specs.ArrayVec.{ArrayVec}
use Rattle.nonce_shard.specs.declared.names.TableName.{TableName}
use Rattle.nonce_shard.specs.declared.calls.NonceKind.{NonceKind}
use Rattle.nonce_shard.specs.declared.calls.NonceKind.TheVariants.{Digest}
use Rattle.nonce_shard.specs.declared.calls.What.{What}
use Rattle.nonce_shard.specs.declared.calls.What.TheVariants.{Issue, Peek, Use, Open, Take, Keep, Recall}
use Rattle.nonce_shard.specs.declared.calls.Call.{Call}
use Rattle.nonce_shard.specs.declared.calls.Reply.{Reply}
use Rattle.nonce_shard.specs.declared.calls.Reply.TheVariants as replies
use Rattle.nonce_shard.specs.declared.sizes.Sizes.{Sizes}
use Rattle.count_window.specs.declared.window.TheConstants.{WIDTH}
use Rattle.count_window.specs.Window.{high}
use Rattle.nonce_shard.specs.declared.exchanges.Progress.{Progress}
use Rattle.nonce_shard.specs.declared.exchanges.Progress.TheVariants.{Untried, Tried, Finished}
use Rattle.nonce_shard.specs.declared.history.Answered.{Answered}
use Rattle.nonce_shard.specs.declared.exchanges.Opening.{Opening}
use Rattle.nonce_shard.specs.Nonces.{admitted, first_prime, is_live, is_other, use_reply}
use Rattle.nonce_shard.specs.Exchanges.{opening, progress, take_reply, keep_reply, recall_reply}
use Rattle.nonce_shard.specs.History.{time_at}
use Rattle.nonce_shard.specs.Replies.{reply, reply_to, answered, CanAnswer}
use Rattle.nonce_shard.specs.Seat.{Seat, Entry, Made, Grows, own_answers, of_shard, calls_of}

or_gone : (test : Bool) (what : What) (r : Reply) → CanAnswer r what → CanAnswer replies.Gone what → CanAnswer (cond test r replies.Gone) what
or_gone true what r well gone = well
or_gone false what r well gone = gone

use_can : (nonce : TableName) (kind : NonceKind) (space count : ℕ) (given : Option (ArrayVec ℕ)) (top uses : ℕ) (behind repeated other : Bool)
    → CanAnswer (cond behind (replies.Behind top) (cond repeated replies.Repeated (cond other replies.OtherSession (replies.Fresh uses)))) (Use nonce kind space count given)
use_can nonce kind space count given top uses true repeated other = tt
use_can nonce kind space count given top uses false true other = tt
use_can nonce kind space count given top uses false false true = tt
use_can nonce kind space count given top uses false false false = tt

take_can : (sizes : Sizes) (now : ℕ) (sid : TableName) (space : ℕ) (p : Progress) (there : Option Opening) → CanAnswer (option_map_or (λ o. take_reply sizes now o p) there replies.Gone) (Take sid space)
take_can sizes now sid space p None = tt
take_can sizes now sid space Untried (Some o) = or_gone (nat_le (now - o.time) sizes.open_life) (Take sid space) (replies.Taken o.exchange) tt tt
take_can sizes now sid space Tried (Some o) = tt
take_can sizes now sid space (Finished time) (Some o) = tt

keep_can : (sid : TableName) (space : ℕ) (p : Progress) (there : Option Opening) → CanAnswer (option_map_or (λ o. keep_reply p) there replies.Gone) (Keep sid space)
keep_can sid space p None = tt
keep_can sid space Untried (Some o) = tt
keep_can sid space Tried (Some o) = tt
keep_can sid space (Finished time) (Some o) = tt

recall_can : (sizes : Sizes) (now : ℕ) (sid : TableName) (space : ℕ) (p : Progress) (there : Option Opening) → CanAnswer (option_map_or (λ o. recall_reply sizes now o p) there replies.Gone) (Recall sid space)
recall_can sizes now sid space p None = tt
recall_can sizes now sid space Untried (Some o) = tt
recall_can sizes now sid space Tried (Some o) = tt
recall_can sizes now sid space (Finished time) (Some o) = or_gone (nat_le (now - time) sizes.finished_life) (Recall sid space) (replies.Session o.exchange) tt tt

-- each reply of the definition is one that the call can have
pub reply_to_can_answer : (sizes : Sizes) (shard : ℕ) (past : List Answered) (now : ℕ) (what : What) → CanAnswer (reply_to sizes shard past now what) what
reply_to_can_answer sizes shard past now (Issue kind space random) = tt
reply_to_can_answer sizes shard past now (Peek nonce space) = or_gone (is_live sizes shard past nonce Digest space now) (Peek nonce space) (replies.Prime (first_prime past nonce)) tt tt
reply_to_can_answer sizes shard past now (Use nonce kind space count given) =
    let counts = admitted past nonce in
    or_gone (is_live sizes shard past nonce kind space now) (Use nonce kind space count given) (use_reply counts (first_prime past nonce) count given)
    (use_can nonce kind space count given (high counts) (length counts + 1) (nat_le (count + WIDTH) (high counts)) (list_any (λ c. c == count) counts) (is_other given (first_prime past nonce))) tt
reply_to_can_answer sizes shard past now (Open space random exchange) = tt
reply_to_can_answer sizes shard past now (Take sid space) = take_can sizes now sid space (progress past sid) (opening sizes shard past sid space)
reply_to_can_answer sizes shard past now (Keep sid space) = keep_can sid space (progress past sid) (opening sizes shard past sid space)
reply_to_can_answer sizes shard past now (Recall sid space) = recall_can sizes now sid space (progress past sid) (opening sizes shard past sid space)

abbrev CanAnswers : Call × Reply → Type 0
CanAnswers x = CanAnswer x.1 x.0.what

if_own : (own : Bool) (x : Call × Reply) (xs : List (Call × Reply)) → CanAnswers x → All CanAnswers xs → All CanAnswers (cond own (x ∷ xs) xs)
if_own true x xs p q = All-cons CanAnswers x xs p q
if_own false x xs p q = q

own_can_answer : (sizes : Sizes) (shard owner : ℕ) (past es : List Entry) → All CanAnswers (own_answers sizes shard owner past es)
own_can_answer sizes shard owner past [] = All-nil CanAnswers
own_can_answer sizes shard owner past (e ∷ es) =
    let before = answered sizes shard (calls_of past) in
    if_own (e.0 == owner) (e.1, reply sizes shard (calls_of past) e.1) (own_answers sizes shard owner (past ++ e ∷ []) es)
    (reply_to_can_answer sizes shard before (time_at before e.1.moment) e.1.what) (own_can_answer sizes shard owner (past ++ e ∷ []) es)

here : (m : Made) → of_shard m.shard (m ∷ []) ≡ (m.call, m.reply) ∷ []
here m = by (m.shard == m.shard) (grind (arith, nat_tests))
  where
    by : (own : Bool) → own ≡ true → cond {A = List (Call × Reply)} own ((m.call, m.reply) ∷ []) [] ≡ (m.call, m.reply) ∷ []
    by true is = refl
    by false is = cc

-- the reply to a call that a seat has made
pub made_can_answer : {a b : Seat} (m : Made) → m.shard < a.shards → Grows a b (m ∷ []) → CanAnswer m.reply m.call.what
made_can_answer {a} {b} m inside grows =
    let list = grows.lists m.shard inside in
    All-head CanAnswers (m.call, m.reply) [] (subst (All CanAnswers) (list.own_calls ∙ here m) (own_can_answer a.sizes m.shard a.owner (a.seen m.shard) list.grown))
