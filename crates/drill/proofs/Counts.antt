-- A count that no call uses was not admitted.
use Rattle.std.proofs.Common.{◌≡◌, ◌≢◌, ◌==◌, ◌&&◌, ℕ, Bool, true, false, true≢false, if◌then◌else◌, bytes_eq, fold, filter_map, List, [], ◌∷◌, ◌++◌, Option, Some, None, All, refl, sym, subst, arith}
use Rattle.std.specs.List.{cons_option}
use Rattle.std.proofs.lemmas.Bool.Decides.{nat_tests}
use Rattle.std.proofs.lemmas.List.Elements.{All-nil, All-cons, All-head, All-tail, All-append}
use Rattle.std.proofs.lemmas.Slice.Eq.{bytes_eq-Decides}
use Rattle.nonce_shard.specs.declared.calls.Call.{Call}
use Rattle.nonce_shard.specs.declared.calls.Reply.{Reply}
use Rattle.nonce_shard.specs.declared.calls.What.{What}
use Rattle.nonce_shard.specs.declared.calls.What.TheVariants.{Issue, Peek, Use, Open, Take, Keep, Recall}
use Rattle.nonce_shard.specs.declared.history.Answered.{Answered}
use Rattle.nonce_shard.specs.declared.names.NameKind.{NameKind}
use Rattle.nonce_shard.specs.declared.names.NameKind.TheVariants.{Nonce, Exchange}
use Rattle.nonce_shard.specs.declared.names.TableName.{TableName}
use Rattle.nonce_shard.specs.declared.sizes.Sizes.{Sizes}
use Rattle.nonce_shard.specs.Laws.{Uses}
use Rattle.nonce_shard.specs.Names.{kinds_eq, names_eq}
use Rattle.nonce_shard.specs.Nonces.{admitted, fresh_count, is_fresh}
use Rattle.nonce_shard.specs.Replies.{answer, answered}
use Rattle.nonce_shard.proofs.OneName.{same_parts}
use Rattle.drill.proofs.Lists.{all_weaker}

four_true : (x y z w : Bool) → (x && y && z && w) ≡ true → (x ≡ true) × (y ≡ true) × (z ≡ true) × (w ≡ true)
four_true true true true true e = (refl, refl, refl, refl)
four_true true true true false e = absurd (true≢false (sym e))
four_true true true false w e = absurd (true≢false (sym e))
four_true true false z w e = absurd (true≢false (sym e))
four_true false y z w e = absurd (true≢false (sym e))

same_kind : (a b : NameKind) → kinds_eq a b ≡ true → a ≡ b
same_kind Nonce Nonce e = refl
same_kind Nonce Exchange e = absurd (true≢false (sym e))
same_kind Exchange Nonce e = absurd (true≢false (sym e))
same_kind Exchange Exchange e = refl

same_number : (a b : ℕ) → (a == b) ≡ true → a ≡ b
same_number a b e = grind (arith, nat_tests)

names_told : (a b : TableName) → names_eq a b ≡ true → a ≡ b
names_told a b e =
    let t = four_true (kinds_eq a.kind b.kind) (a.shard == b.shard) (a.serial == b.serial) (bytes_eq a.random b.random) e in
    same_parts a b (same_kind a.kind b.kind t.0) (same_number a.shard b.shard t.1) (same_number a.serial b.serial t.2) ((bytes_eq-Decides a.random b.random).0 t.3)

if_some : (b f : Bool) (x y : ℕ) → (if b && f then Some x else None) ≡ Some y → (b ≡ true) × (x ≡ y)
if_some true true x y e = (refl, (let same : Some x ≡ Some y = e in cc))
if_some true false x y e = absurd (let no : None ≡ Some y = e in cc)
if_some false f x y e = absurd (let no : None ≡ Some y = e in cc)

-- a count that was admitted was used
fresh_uses : (nonce : TableName) (what : What) (r : Reply) (count : ℕ) → fresh_count nonce what r ≡ Some count → Uses nonce count what
fresh_uses nonce (Use named kind space used given) r count e =
    let t = if_some (names_eq named nonce) (is_fresh r) used count e in
    (names_told named nonce t.0, t.1)
fresh_uses nonce (Issue kind space random) r count e = absurd (let no : None ≡ Some count = e in cc)
fresh_uses nonce (Peek named space) r count e = absurd (let no : None ≡ Some count = e in cc)
fresh_uses nonce (Open space random exchange) r count e = absurd (let no : None ≡ Some count = e in cc)
fresh_uses nonce (Take sid space) r count e = absurd (let no : None ≡ Some count = e in cc)
fresh_uses nonce (Keep sid space) r count e = absurd (let no : None ≡ Some count = e in cc)
fresh_uses nonce (Recall sid space) r count e = absurd (let no : None ≡ Some count = e in cc)

all_answered : (Q : Call → Type 0) (sizes : Sizes) (shard : ℕ) (calls : List Call) (past : List Answered) → All (λ (a : Answered). Q a.call) past → All Q calls
    → All (λ (a : Answered). Q a.call) (fold (λ past call. past ++ answer sizes shard past call ∷ []) past calls)
all_answered Q sizes shard [] past before all = before
all_answered Q sizes shard (call ∷ calls) past before all =
    let A : Answered → Type 0 = λ a. Q a.call in
    let a : Answered = answer sizes shard past call in
    all_answered Q sizes shard calls (past ++ a ∷ []) (All-append A past (a ∷ []) before (All-cons A a [] (All-head Q call calls all) (All-nil A))) (All-tail Q call calls all)

abbrev Takes : {X : Type 0} → (X → Option ℕ) → (ℕ → Type 0) → X → Type 0
Takes h P x = (n : ℕ) → h x ≡ Some n → P n

all_taken : {X : Type 0} (h : X → Option ℕ) (P : ℕ → Type 0) (xs : List X) → All (Takes h P) xs → All P (filter_map h xs)
all_taken h P [] all = All-nil P
all_taken {X} h P (x ∷ xs) all = by (h x) (All-head (Takes h P) x xs all) (all_taken h P xs (All-tail (Takes h P) x xs all))
  where
    by : (o : Option ℕ) → ((n : ℕ) → o ≡ Some n → P n) → All P (filter_map h xs) → All P (cons_option o (filter_map h xs))
    by None here rest = rest
    by (Some n) here rest = All-cons P n (filter_map h xs) (here n refl) rest

pub never_admitted : (sizes : Sizes) (shard : ℕ) (calls : List Call) (nonce : TableName) (count : ℕ) → All (λ (call : Call). Uses nonce count call.what → ⊥) calls
    → All (λ c. c ≢ count) (admitted (answered sizes shard calls) nonce)
never_admitted sizes shard calls nonce count none =
    let Q : Call → Type 0 = λ call. Uses nonce count call.what → ⊥ in
    let A : Answered → Type 0 = λ a. Q a.call in
    let P : ℕ → Type 0 = λ c. c ≢ count in
    let h : Answered → Option ℕ = λ a. fresh_count nonce a.call.what a.reply in
    let past : List Answered = answered sizes shard calls in
    all_taken h P past (all_weaker A (Takes h P) past
    (λ a no n e same. no (subst (λ (m : ℕ). Uses nonce m a.call.what) same (fresh_uses nonce a.call.what a.reply n e)))
    (all_answered Q sizes shard calls [] (All-nil A) none))
