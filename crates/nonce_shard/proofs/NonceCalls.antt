-- What one more call adds to what is said of nonces.
use Rattle.std.proofs.Common.{◌≡◌, ◌≢◌, ℕ, ◌==◌, ◌&&◌, Bool, true, false, cond, Option, Some, None, List, [], ◌∷◌, ◌++◌, slice_get, refl, ◌∙◌, ap, arith, append-nil}
use Rattle.std.specs.List.{filter_map, cons_option}
use Rattle.std.specs.Option.{option_or}
use Rattle.std.proofs.lemmas.Bool.Decides.{nat_tests}
use Rattle.std.proofs.lemmas.List.Elements.{filter_map-append}
use Rattle.arrayvec.specs.ArrayVec.{ArrayVec}
use Rattle.nonce_shard.specs.declared.names.TableName.{TableName}
use Rattle.nonce_shard.specs.declared.calls.NonceKind.{NonceKind}
use Rattle.nonce_shard.specs.declared.calls.What.{What}
use Rattle.nonce_shard.specs.declared.calls.What.TheVariants.{Issue, Peek, Use, Open, Take, Keep, Recall}
use Rattle.nonce_shard.specs.declared.calls.Reply.{Reply}
use Rattle.nonce_shard.specs.declared.history.Answered.{Answered}
use Rattle.nonce_shard.specs.declared.nonces.Nonce.{Nonce}
use Rattle.nonce_shard.specs.Names.{kinds_eq, names_eq}
use Rattle.nonce_shard.specs.Nonces.{nonce_in, nonces, is_fresh, fresh_count, fresh_prime, admitted, first_prime}
use Rattle.nonce_shard.specs.NonceRing.{counts_after, prime_after}
use Rattle.nonce_shard.proofs.NoTwice.{names_same}

and_false : (b : Bool) → (b && false) ≡ false
and_false true = refl
and_false false = refl

numbers_other : (a b : ℕ) → a ≢ b → (a == b) ≡ false
numbers_other a b h = grind (arith, nat_tests)

-- names of two serials are two
pub names_other : (a b : TableName) → a.serial ≢ b.serial → names_eq a b ≡ false
names_other a b h = rw (numbers_other a.serial b.serial h, and_false (kinds_eq a.kind b.kind && (a.shard == b.shard))) refl

pub first_of : {A : Type 0} (ps : List A) (o : Option A) → slice_get (ps ++ cons_option o []) 0 ≡ option_or (slice_get ps 0) o
first_of [] None = refl
first_of [] (Some x) = refl
first_of (p ∷ ps) o = refl

-- ---- any call

pub nonces-append : (past : List Answered) (a : Answered) → nonces (past ++ a ∷ []) ≡ nonces past ++ cons_option (nonce_in a.call.what a.time) []
nonces-append past a = filter_map-append (λ (b : Answered). nonce_in b.call.what b.time) past (a ∷ [])

admitted-append : (past : List Answered) (a : Answered) (name : TableName) → admitted (past ++ a ∷ []) name ≡ admitted past name ++ cons_option (fresh_count name a.call.what a.reply) []
admitted-append past a name = filter_map-append (λ (b : Answered). fresh_count name b.call.what b.reply) past (a ∷ [])

first_prime-append : (past : List Answered) (a : Answered) (name : TableName) → first_prime (past ++ a ∷ []) name ≡ option_or (first_prime past name) (fresh_prime name a.call.what a.reply)
first_prime-append past a name =
    let f : Answered → Option (ArrayVec ℕ) = λ b. fresh_prime name b.call.what b.reply in
    ap (λ (ps : List (ArrayVec ℕ)). slice_get ps 0) (filter_map-append f past (a ∷ [])) ∙ first_of (filter_map f past) (f a)

-- ---- a call that uses no count of this nonce

pub or_none : {A : Type 0} (p : Option A) → option_or p None ≡ p
or_none None = refl
or_none (Some x) = refl

-- no prime is given without a count
no_count_no_prime : (name : TableName) (what : What) (reply : Reply) → fresh_count name what reply ≡ None → fresh_prime name what reply ≡ None
no_count_no_prime name (Use nonce kind space count given) reply h = by (names_eq nonce name && is_fresh reply) h
  where
    by : (b : Bool) → cond b (Some count) None ≡ None → cond b given None ≡ None
    by true h = cc
    by false h = refl
no_count_no_prime name (Issue kind space random) reply h = refl
no_count_no_prime name (Peek nonce space) reply h = refl
no_count_no_prime name (Open space random exchange) reply h = refl
no_count_no_prime name (Take sid space) reply h = refl
no_count_no_prime name (Keep sid space) reply h = refl
no_count_no_prime name (Recall sid space) reply h = refl

cons_none : {A : Type 0} (o : Option A) (xs : List A) → cons_option o xs ≡ [] → (o ≡ None) × (xs ≡ [])
cons_none None xs h = (refl, h)
cons_none (Some x) xs h = absurd (let e : x ∷ xs ≡ [] = h in cc)

-- a nonce of no admitted count has no prime
pub no_prime : (past : List Answered) (name : TableName) → admitted past name ≡ [] → first_prime past name ≡ None
no_prime past name none = ap (λ (ps : List (ArrayVec ℕ)). slice_get ps 0) (primes past none)
  where
    primes : (past : List Answered) → admitted past name ≡ [] → filter_map (λ (a : Answered). fresh_prime name a.call.what a.reply) past ≡ []
    primes [] h = refl
    primes (a ∷ past) h =
        let parts = cons_none (fresh_count name a.call.what a.reply) (admitted past name) h in
        ap (λ (o : Option (ArrayVec ℕ)). cons_option o (filter_map (λ (b : Answered). fresh_prime name b.call.what b.reply) past)) (no_count_no_prime name a.call.what a.reply parts.0) ∙ primes past parts.1

pub same_counts : (past : List Answered) (a : Answered) (name : TableName) → fresh_count name a.call.what a.reply ≡ None → admitted (past ++ a ∷ []) name ≡ admitted past name
same_counts past a name none = admitted-append past a name ∙ ap (λ (o : Option ℕ). admitted past name ++ cons_option o []) none ∙ append-nil (admitted past name)

pub same_prime : (past : List Answered) (a : Answered) (name : TableName) → fresh_count name a.call.what a.reply ≡ None → first_prime (past ++ a ∷ []) name ≡ first_prime past name
same_prime past a name none =
    first_prime-append past a name ∙ ap (option_or (first_prime past name)) (no_count_no_prime name a.call.what a.reply none) ∙ or_none (first_prime past name)

-- an Issue uses none
pub issue_uses_none : (what : What) (time : ℕ) (nonce : Nonce) (name : TableName) (reply : Reply) → nonce_in what time ≡ Some nonce → fresh_count name what reply ≡ None
issue_uses_none (Issue kind space random) time nonce name reply h = refl
issue_uses_none (Peek n space) time nonce name reply h = refl
issue_uses_none (Use n kind space count given) time nonce name reply h = cc
issue_uses_none (Open space random exchange) time nonce name reply h = refl
issue_uses_none (Take sid space) time nonce name reply h = refl
issue_uses_none (Keep sid space) time nonce name reply h = refl
issue_uses_none (Recall sid space) time nonce name reply h = refl

-- nor does a Use of another nonce
pub other_uses_none : (nonce name : TableName) (kind : NonceKind) (space count : ℕ) (given : Option (ArrayVec ℕ)) (what : What) (reply : Reply) → what ≡ Use nonce kind space count given → nonce.serial ≢ name.serial → fresh_count name what reply ≡ None
other_uses_none nonce name kind space count given what reply is other = ap (λ (w : What). fresh_count name w reply) is ∙ rw (names_other nonce name other) refl

-- nor one that isn't answered Fresh
pub dull_uses_none : (nonce name : TableName) (kind : NonceKind) (space count : ℕ) (given : Option (ArrayVec ℕ)) (what : What) (reply : Reply) → what ≡ Use nonce kind space count given → is_fresh reply ≡ false → fresh_count name what reply ≡ None
dull_uses_none nonce name kind space count given what reply is dull = ap (λ (w : What). fresh_count name w reply) is ∙ rw (dull, and_false (names_eq nonce name)) refl

-- ---- a Use of this nonce

pub counts_grow : (past : List Answered) (a : Answered) (name : TableName) (kind : NonceKind) (space count : ℕ) (given : Option (ArrayVec ℕ)) → a.call.what ≡ Use name kind space count given
    → admitted (past ++ a ∷ []) name ≡ counts_after (admitted past name) count a.reply
counts_grow past a name kind space count given what =
    admitted-append past a name ∙ ap (λ (w : What). admitted past name ++ cons_option (fresh_count name w a.reply) []) what
    ∙ ap (λ (same : Bool). admitted past name ++ cons_option (cond (same && is_fresh a.reply) (Some count) None) []) (names_same name name refl) ∙ by (is_fresh a.reply)
  where
    by : (b : Bool) → admitted past name ++ cons_option (cond (true && b) (Some count) None) [] ≡ cond b (admitted past name ++ count ∷ []) (admitted past name)
    by true = refl
    by false = append-nil (admitted past name)

pub prime_grows : (past : List Answered) (a : Answered) (name : TableName) (kind : NonceKind) (space count : ℕ) (given : Option (ArrayVec ℕ)) → a.call.what ≡ Use name kind space count given
    → first_prime (past ++ a ∷ []) name ≡ prime_after (first_prime past name) given a.reply
prime_grows past a name kind space count given what =
    first_prime-append past a name ∙ ap (λ (w : What). option_or (first_prime past name) (fresh_prime name w a.reply)) what
    ∙ ap (λ (same : Bool). option_or (first_prime past name) (cond (same && is_fresh a.reply) given None)) (names_same name name refl) ∙ by (is_fresh a.reply)
  where
    by : (b : Bool) → option_or (first_prime past name) (cond (true && b) given None) ≡ cond b (option_or (first_prime past name) given) (first_prime past name)
    by true = refl
    by false = or_none (first_prime past name)
