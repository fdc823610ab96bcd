-- No count of a nonce is answered Fresh twice.
use Rattle.std.proofs.Common.{true≢false, false, ◌≡◌, ◌≢◌, ◌==◌, ◌&&◌, if◌then◌else◌, ℕ, Bool, true, Option, Some, None, List, [], ◌∷◌, ◌++◌, refl, sym, ap, ◌∙◌, subst, arith, fold, filter_map, All, append-nil, append_assoc}
use Rattle.std.proofs.lemmas.Bool.Decides.{nat_tests}
use Rattle.std.proofs.lemmas.List.Elements.{All-head, All-tail, filter_map-append}
use Rattle.std.proofs.lemmas.List.Sums.{fold-append}
use Rattle.std.proofs.lemmas.Slice.Eq.{bytes_eq-Decides}
use Rattle.nonce_shard.specs.declared.calls.Call.{Call}
use Rattle.nonce_shard.specs.declared.calls.Reply.{Reply}
use Rattle.nonce_shard.specs.declared.calls.Reply.TheVariants.{Fresh, Taken}
use Rattle.nonce_shard.specs.declared.calls.Exchange.{Exchange as Exchanged}
use Rattle.nonce_shard.specs.Exchanges.{takes}
use Rattle.nonce_shard.specs.declared.calls.What.{What}
use Rattle.nonce_shard.specs.declared.calls.What.TheVariants.{Issue, Peek, Use, Open, Take, Keep, Recall}
use Rattle.nonce_shard.specs.declared.history.Answered.{Answered}
use Rattle.nonce_shard.specs.declared.names.NameKind.{NameKind}
use Rattle.nonce_shard.specs.declared.names.NameKind.TheVariants.{Nonce, Exchange}
use Rattle.nonce_shard.specs.declared.names.TableName.{TableName}
use Rattle.nonce_shard.specs.declared.sizes.Sizes.{Sizes}
use Rattle.nonce_shard.specs.Names.{kinds_eq, names_eq}
use Rattle.nonce_shard.specs.Nonces.{admitted, fresh_count}
use Rattle.nonce_shard.specs.Replies.{answer, answered, reply, ComesOnce}
use Rattle.nonce_shard.proofs.Once.{comes_once}
use Rattle.nonce_shard.specs.Laws.{Uses, AdmitsOnce, Tries, TriesOnce}

abbrev step : Sizes → ℕ → List Answered → Call → List Answered
step sizes shard past call = past ++ answer sizes shard past call ∷ []

-- what is answered only grows
grown : (sizes : Sizes) (shard : ℕ) (calls : List Call) (past : List Answered) → (rest : List Answered) × (fold (step sizes shard) past calls ≡ past ++ rest)
grown sizes shard [] past = ([], sym (append-nil past))
grown sizes shard (c ∷ calls) past =
    let more = grown sizes shard calls (step sizes shard past c) in
    (answer sizes shard past c ∷ more.0, more.1 ∙ append_assoc past (answer sizes shard past c ∷ []) more.0)

-- a call in a list is answered by those before it
pub split : (sizes : Sizes) (shard : ℕ) (before between : List Call) (first : Call)
    → (rest : List Answered) × (answered sizes shard (before ++ first ∷ between) ≡ answered sizes shard before ++ (answer sizes shard (answered sizes shard before) first ∷ rest))
split sizes shard before between first =
    let past : List Answered = answered sizes shard before in
    let a : Answered = answer sizes shard past first in
    let more = grown sizes shard between (past ++ a ∷ []) in
    (more.0, fold-append (step sizes shard) [] before (first ∷ between) ∙ more.1 ∙ append_assoc past (a ∷ []) more.0)

kinds_same : (k : NameKind) → kinds_eq k k ≡ true
kinds_same Nonce = refl
kinds_same Exchange = refl

numbers_same : (n : ℕ) → (n == n) ≡ true
numbers_same n = grind (arith, nat_tests)

all_four : (x y z w : Bool) → x ≡ true → y ≡ true → z ≡ true → w ≡ true → (x && y && z && w) ≡ true
all_four x y z w p q r s = rw (p, q, r, s) refl

-- a name is itself
pub names_same : (a b : TableName) → a ≡ b → names_eq a b ≡ true
names_same a b e =
    let T : TableName → Type 0 = λ n. names_eq a n ≡ true in
    subst T e (all_four _ _ _ _ (kinds_same a.kind) (numbers_same a.shard) (numbers_same a.serial) ((bytes_eq-Decides a.random a.random).1 refl))

-- a use that was answered Fresh has its count among those admitted
pub counted : (nonce : TableName) (count uses : ℕ) (what : What) (r : Reply) → Uses nonce count what → r ≡ Fresh uses → fresh_count nonce what r ≡ Some count
counted nonce count n (Use named kind space used given) r uses fresh =
    ap (λ (x : Reply). fresh_count nonce (Use named kind space used given) x) fresh
    ∙ ap (λ (b : Bool). if b && true then Some used else None) (names_same named nonce uses.0)
    ∙ ap Some uses.1
counted nonce count n (Issue kind space random) r uses fresh = absurd uses
counted nonce count n (Peek named space) r uses fresh = absurd uses
counted nonce count n (Open space random exchange) r uses fresh = absurd uses
counted nonce count n (Take sid space) r uses fresh = absurd uses
counted nonce count n (Keep sid space) r uses fresh = absurd uses
counted nonce count n (Recall sid space) r uses fresh = absurd uses

-- a use that is answered Fresh has a count that wasn't admitted before
new_count : (past : List Answered) (what : What) (r : Reply) (nonce : TableName) (count n : ℕ) → Uses nonce count what → r ≡ Fresh n → ComesOnce past what r → All (λ c. c ≢ count) (admitted past nonce)
new_count past (Use named kind space used given) r nonce count n uses fresh once =
    let C : Reply → Type 0 = λ x. ComesOnce past (Use named kind space used given) x in
    let N : ℕ → Type 0 = λ m. All (λ c. c ≢ m) (admitted past named) in
    let M : TableName → Type 0 = λ n. All (λ c. c ≢ count) (admitted past n) in
    subst M uses.0 (subst N uses.1 (subst C fresh once))
new_count past (Issue kind space random) r nonce count n uses fresh once = absurd uses
new_count past (Peek named space) r nonce count n uses fresh once = absurd uses
new_count past (Open space random exchange) r nonce count n uses fresh once = absurd uses
new_count past (Take sid space) r nonce count n uses fresh once = absurd uses
new_count past (Keep sid space) r nonce count n uses fresh once = absurd uses
new_count past (Recall sid space) r nonce count n uses fresh once = absurd uses

all_at : {X : Type 0} (P : X → Type 0) (xs : List X) (x : X) (ys : List X) → All P (xs ++ x ∷ ys) → P x
all_at P [] x ys all = All-head P x ys all
all_at P (y ∷ xs) x ys all = all_at P xs x ys (All-tail P y (xs ++ x ∷ ys) all)

-- what a filter takes of an element stands behind what it takes of those before it
taken_at : {X : Type 0} (h : X → Option ℕ) (xs : List X) (x : X) (ys : List X) (n : ℕ) → h x ≡ Some n → filter_map h (xs ++ x ∷ ys) ≡ filter_map h xs ++ n ∷ filter_map h ys
taken_at h xs x ys n e = filter_map-append h xs (x ∷ ys) ∙ ap (λ (l : List ℕ). filter_map h xs ++ l) (rw e refl)

pub admits_once : AdmitsOnce
admits_once sizes shard before between first second nonce count m n one two fresh again =
    let past : List Answered = answered sizes shard before in
    let a : Answered = answer sizes shard past first in
    let parts = split sizes shard before between first in
    let h : Answered → Option ℕ = λ x. fresh_count nonce x.call.what x.reply in
    let P : ℕ → Type 0 = λ c. c ≢ count in
    let L : List Answered → Type 0 = λ l. All P (filter_map h l) in
    let new : All P (admitted (answered sizes shard (before ++ first ∷ between)) nonce) =
    new_count (answered sizes shard (before ++ first ∷ between)) second.what (reply sizes shard (before ++ first ∷ between) second) nonce count n two again
    (comes_once sizes shard (before ++ first ∷ between) second) in
    let there = taken_at h past a parts.0 count (counted nonce count m first.what (reply sizes shard before first) one fresh) in
    all_at P (filter_map h past) count (filter_map h parts.0) (subst (All P) there (subst L parts.1 new)) refl

-- ---- exchanges

-- a try that was answered Taken
taken : (sid : TableName) (what : What) (r : Reply) (exchange : Exchanged) → Tries sid what → r ≡ Taken exchange → takes sid what r ≡ true
taken sid (Take named space) r exchange tries is = ap (λ (x : Reply). takes sid (Take named space) x) is ∙ names_same named sid tries
taken sid (Issue kind space random) r exchange tries is = absurd tries
taken sid (Peek named space) r exchange tries is = absurd tries
taken sid (Use named kind space used given) r exchange tries is = absurd tries
taken sid (Open space random exchange) r other tries is = absurd tries
taken sid (Keep named space) r exchange tries is = absurd tries
taken sid (Recall named space) r exchange tries is = absurd tries

-- was answered so by no try before
abbrev Untaken : TableName → Answered → Type 0
Untaken sid a = takes sid a.call.what a.reply ≡ false

first_try : (past : List Answered) (what : What) (r : Reply) (sid : TableName) (exchange : Exchanged) → Tries sid what → r ≡ Taken exchange → ComesOnce past what r → All (Untaken sid) past
first_try past (Take named space) r sid exchange tries is once =
    let C : Reply → Type 0 = λ x. ComesOnce past (Take named space) x in
    let N : TableName → Type 0 = λ n. All (Untaken n) past in
    subst N tries (subst C is once)
first_try past (Issue kind space random) r sid exchange tries is once = absurd tries
first_try past (Peek named space) r sid exchange tries is once = absurd tries
first_try past (Use named kind space used given) r sid exchange tries is once = absurd tries
first_try past (Open space random exchange) r sid other tries is once = absurd tries
first_try past (Keep named space) r sid exchange tries is once = absurd tries
first_try past (Recall named space) r sid exchange tries is once = absurd tries

pub tries_once : TriesOnce
tries_once sizes shard before between first second sid one other try again is_one is_other =
    let past : List Answered = answered sizes shard before in
    let a : Answered = answer sizes shard past first in
    let parts = split sizes shard before between first in
    let none = first_try (answered sizes shard (before ++ first ∷ between)) second.what (reply sizes shard (before ++ first ∷ between) second) sid other again is_other
    (comes_once sizes shard (before ++ first ∷ between) second) in
    let here : Untaken sid a = all_at (Untaken sid) past a parts.0 (subst (All (Untaken sid)) parts.1 none) in
    true≢false (sym (taken sid first.what (reply sizes shard before first) one try is_one) ∙ here)
