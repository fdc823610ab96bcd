-- No count is answered Fresh twice, and no exchange is answered Taken twice.
use Rattle.std.proofs.Common.{◌≡◌, ◌≢◌, ◌==◌, ℕ, Bool, true, false, cond, ◌||◌, Option, Some, None, List, [], ◌∷◌, refl, arith}
use Rattle.std.specs.Prelude.{All, nat_le, ◌+◌, ◌-◌, length}
use Rattle.std.specs.List.{list_any}
use Rattle.std.specs.Option.{option_map_or}
use Rattle.std.proofs.lemmas.Bool.Decides.{nat_tests}
use Rattle.std.proofs.lemmas.List.Elements.{All-nil, All-cons}
use Rattle.arrayvec.specs.ArrayVec.{ArrayVec}
use Rattle.nonce_shard.specs.declared.names.TableName.{TableName}
use Rattle.nonce_shard.specs.declared.calls.Exchange.{Exchange}
use Rattle.nonce_shard.specs.declared.calls.NonceKind.{NonceKind}
use Rattle.nonce_shard.specs.declared.calls.What.{What}
use Rattle.nonce_shard.specs.declared.calls.What.TheVariants.{Issue, Peek, Use, Open, Take, Keep, Recall}
use Rattle.nonce_shard.specs.declared.calls.Call.{Call}
use Rattle.nonce_shard.specs.declared.calls.Reply.TheVariants as replies
use Rattle.nonce_shard.specs.declared.sizes.Sizes.{Sizes}
use Rattle.count_window.specs.declared.window.TheConstants.{WIDTH}
use Rattle.count_window.specs.Window.{high}
use Rattle.nonce_shard.specs.declared.exchanges.Progress.TheVariants.{Untried, Tried, Finished}
use Rattle.nonce_shard.specs.declared.history.Answered.{Answered}
use Rattle.nonce_shard.specs.declared.exchanges.Opening.{Opening}
use Rattle.nonce_shard.specs.History.{time_at}
use Rattle.nonce_shard.specs.Nonces.{is_live, admitted, first_prime, is_other}
use Rattle.nonce_shard.specs.Exchanges.{takes, kept_at, opening, take_reply}
use Rattle.nonce_shard.specs.Replies.{reply, reply_to, answered, ComesOnce}

both_false : (a b : Bool) → (a || b) ≡ false → (a ≡ false) × (b ≡ false)
both_false true b h = absurd (let e : true ≡ false = h in cc)
both_false false b h = (refl, h)

-- where no element passes a test, each one fails it
none_passes : {A : Type 0} (p : A → Bool) (xs : List A) → list_any p xs ≡ false → All (λ x. p x ≡ false) xs
none_passes p [] none = All-nil (λ x. p x ≡ false)
none_passes p (x ∷ xs) none =
    let both = both_false (p x) (list_any p xs) none in
    All-cons (λ y. p y ≡ false) x xs both.0 (none_passes p xs both.1)

-- where a number isn't among those of a list, each one of it is another
all_other : (n : ℕ) (xs : List ℕ) → list_any (λ x. x == n) xs ≡ false → All (λ x. x ≢ n) xs
all_other n [] none = All-nil (λ x. x ≢ n)
all_other n (x ∷ xs) none =
    let both = both_false (x == n) (list_any (λ y. y == n) xs) none in
    All-cons (λ y. y ≢ n) x xs (other x both.0) (all_other n xs both.1)
  where
    other : (y : ℕ) → (y == n) ≡ false → y ≢ n
    other y not_same = grind (arith, nat_tests)

-- a Use is answered Fresh only at the end of its four tests
use_once : (past : List Answered) (nonce : TableName) (kind : NonceKind) (space count : ℕ) (given : Option (ArrayVec ℕ)) (top uses : ℕ) (live behind repeated other : Bool) → (repeated ≡ false → All (λ c. c ≢ count) (admitted past nonce))
    → ComesOnce past (Use nonce kind space count given) (cond live (cond behind (replies.Behind top) (cond repeated replies.Repeated (cond other replies.OtherSession (replies.Fresh uses)))) replies.Gone)
use_once past nonce kind space count given top uses true true repeated other fresh = tt
use_once past nonce kind space count given top uses true false true other fresh = tt
use_once past nonce kind space count given top uses true false false true fresh = tt
use_once past nonce kind space count given top uses true false false false fresh = fresh refl
use_once past nonce kind space count given top uses false behind repeated other fresh = tt

taken_if : (past : List Answered) (sid : TableName) (space : ℕ) (exchange : Exchange) (young : Bool) → All (λ a. takes sid a.call.what a.reply ≡ false) past → ComesOnce past (Take sid space) (cond young (replies.Taken exchange) replies.Gone)
taken_if past sid space exchange true open_still = open_still
taken_if past sid space exchange false open_still = tt

-- a Take is answered Taken only where the exchange is open
take_once : (sizes : Sizes) (now : ℕ) (past : List Answered) (sid : TableName) (space : ℕ) (there : Option Opening) (kept : Option ℕ) (taken : Bool) → (taken ≡ false → All (λ a. takes sid a.call.what a.reply ≡ false) past)
    → ComesOnce past (Take sid space) (option_map_or (λ o. take_reply sizes now o (option_map_or (λ time. Finished time) kept (cond taken Tried Untried))) there replies.Gone)
take_once sizes now past sid space None kept taken first = tt
take_once sizes now past sid space (Some o) (Some time) taken first = tt
take_once sizes now past sid space (Some o) None true first = tt
take_once sizes now past sid space (Some o) None false first = taken_if past sid space o.exchange (nat_le (now - o.time) sizes.open_life) (first refl)

once : (sizes : Sizes) (shard : ℕ) (past : List Answered) (now : ℕ) (what : What) → ComesOnce past what (reply_to sizes shard past now what)
once sizes shard past now (Use nonce kind space count given) =
    use_once past nonce kind space count given (high (admitted past nonce)) (length (admitted past nonce) + 1) (is_live sizes shard past nonce kind space now) (nat_le (count + WIDTH) (high (admitted past nonce)))
    (list_any (λ c. c == count) (admitted past nonce)) (is_other given (first_prime past nonce)) (all_other count (admitted past nonce))
once sizes shard past now (Take sid space) =
    take_once sizes now past sid space (opening sizes shard past sid space) (kept_at past sid) (list_any (λ a. takes sid a.call.what a.reply) past) (none_passes (λ a. takes sid a.call.what a.reply) past)
once sizes shard past now (Issue kind space random) = tt
once sizes shard past now (Peek nonce space) = tt
once sizes shard past now (Open space random exchange) = tt
once sizes shard past now (Keep sid space) = tt
once sizes shard past now (Recall sid space) = tt

-- whatever calls came before
pub comes_once : (sizes : Sizes) (shard : ℕ) (calls : List Call) (call : Call) → ComesOnce (answered sizes shard calls) call.what (reply sizes shard calls call)
comes_once sizes shard calls call = once sizes shard (answered sizes shard calls) (time_at (answered sizes shard calls) call.moment) call.what
