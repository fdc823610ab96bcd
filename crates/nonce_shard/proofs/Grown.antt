-- Calls that follow calls.
use Rattle.std.proofs.Common.{◌≡◌, ◌<◌, ◌≤◌, ℕ, suc, Bool, true, false, ◌==◌, cond, List, [], ◌∷◌, ◌++◌, refl, sym, ◌∙◌, ap, length, append_assoc, append-nil, arith}
use Rattle.std.proofs.lemmas.Bool.Decides.{nat_tests}
use Rattle.nonce_shard.specs.declared.calls.Call.{Call}
use Rattle.nonce_shard.specs.declared.calls.Reply.{Reply}
use Rattle.nonce_shard.specs.declared.sizes.Sizes.{Sizes}
use Rattle.nonce_shard.specs.Replies.{reply}
use Rattle.nonce_shard.specs.Seat.{IsWorn, calls_of, Entry, Seat, own_answers, EndsWithOwn, GrowsBy, Made, of_shard, Grows}

-- an element is put before a list that is joined, whether or not it is put
put_first : {A : Type 0} (b : Bool) (x : A) (xs ys : List A) → cond b (x ∷ xs) xs ++ ys ≡ cond b (x ∷ (xs ++ ys)) (xs ++ ys)
put_first true x xs ys = refl
put_first false x xs ys = refl

pub of_shard-append : (s : ℕ) (ms ns : List Made) → of_shard s (ms ++ ns) ≡ of_shard s ms ++ of_shard s ns
of_shard-append s [] ns = refl
of_shard-append s (m ∷ ms) ns = rw (of_shard-append s ms ns) (sym (put_first (m.shard == s) (m.call, m.reply) (of_shard s ms) (of_shard s ns)))

-- a shard has at most all the calls
pub of_shard-few : (s : ℕ) (ms : List Made) → length (of_shard s ms) ≤ length ms
of_shard-few s [] = omega arith
of_shard-few s (m ∷ ms) = by (m.shard == s) (of_shard-few s ms)
  where
    by : (b : Bool) → length (of_shard s ms) ≤ length ms → length (cond b ((m.call, m.reply) ∷ of_shard s ms) (of_shard s ms)) ≤ suc (length ms)
    by true h = omega arith
    by false h = omega arith

pub own_answers-append : (sizes : Sizes) (shard owner : ℕ) (past xs ys : List Entry) → own_answers sizes shard owner past (xs ++ ys) ≡ own_answers sizes shard owner past xs ++ own_answers sizes shard owner (past ++ xs) ys
own_answers-append sizes shard owner past [] ys = ap (λ p. own_answers sizes shard owner p ys) (sym (append-nil past))
own_answers-append sizes shard owner past (e ∷ es) ys =
    let rest = own_answers sizes shard owner (past ++ e ∷ []) es in
    let x : Call × Reply = (e.1, reply sizes shard (calls_of past) e.1) in
    ap (λ t. cond (e.0 == owner) (x ∷ t) t) (own_answers-append sizes shard owner (past ++ e ∷ []) es ys ∙ ap (λ p. rest ++ own_answers sizes shard owner p ys) (append_assoc past (e ∷ []) es))
    ∙ sym (put_first (e.0 == owner) x rest (own_answers sizes shard owner (past ++ (e ∷ es)) ys))

pub EndsWithOwn-append : (owner : ℕ) (xs ys : List Entry) → EndsWithOwn owner xs → EndsWithOwn owner ys → EndsWithOwn owner (xs ++ ys)
EndsWithOwn-append owner [] ys p q = q
EndsWithOwn-append owner (x ∷ []) [] p q = p
EndsWithOwn-append owner (x ∷ []) (y ∷ ys) p q = q
EndsWithOwn-append owner (x ∷ z ∷ xs) ys p q = EndsWithOwn-append owner (z ∷ xs) ys p q

pub GrowsBy-then : {sizes : Sizes} {shard owner : ℕ} {a b c : List Entry} {xs ys : List (Call × Reply)} → GrowsBy sizes shard owner a b xs → GrowsBy sizes shard owner b c ys → GrowsBy sizes shard owner a c (xs ++ ys)
GrowsBy-then {sizes} {shard} {owner} {a} {b} {c} {xs} {ys} p q = record {
  grown = p.grown ++ q.grown;
  begins = q.begins ∙ ap (λ t. t ++ q.grown) p.begins ∙ append_assoc a p.grown q.grown;
  own_calls = own_answers-append sizes shard owner a p.grown q.grown ∙ ap (λ t. own_answers sizes shard owner a p.grown ++ own_answers sizes shard owner t q.grown) (sym p.begins) ∙ rw (p.own_calls, q.own_calls) refl;
  last = EndsWithOwn-append owner p.grown q.grown p.last q.last;
}

-- calls, and then calls behind them
pub grows_then : {a b c : Seat} {ms ns : List Made} → Grows a b ms → Grows b c ns → Grows a c (ms ++ ns)
grows_then {a} {b} {c} {ms} {ns} p q =
    let P = p.same in
    let Q = q.same in
    let below : (s : ℕ) → s < a.shards → s < b.shards = λ s h. rw P.shards h in
    record {
      same = record {
        owner = Q.owner ∙ P.owner;
        table = Q.table ∙ P.table;
        sizes = Q.sizes ∙ P.sizes;
        limit = Q.limit ∙ P.limit;
        shards = Q.shards ∙ P.shards;
        noted = λ s h. let one = P.noted s h in let two = Q.noted s (below s h) in omega arith;
      };
      lists = λ s h. rw (of_shard-append s ms ns) (GrowsBy-then (p.lists s h) (rw (P.sizes, P.owner) at (q.lists s (below s h))));
    }

GrowsBy-none : {sizes : Sizes} {shard owner : ℕ} (old new : List Entry) → new ≡ old → GrowsBy sizes shard owner old new []
GrowsBy-none old new is = record { grown = []; begins = is ∙ sym (append-nil old); own_calls = refl; last = tt }

-- no call
pub grows_none : (a : Seat) → Grows a a []
grows_none a = record {
  same = record { owner = refl; table = refl; sizes = refl; limit = refl; shards = refl; noted = λ s h. omega arith };
  lists = λ s h. GrowsBy-none (a.seen s) (a.seen s) refl;
}

-- a seat that is worn has made no call
pub worn_grows : {a b : Seat} {shard calls : ℕ} → IsWorn a b shard calls → Grows a b []
worn_grows {a} {b} w = record { same = w.same; lists = λ s h. GrowsBy-none (a.seen s) (b.seen s) (w.lists s h) }

-- where no call is the owner's, nothing has come
none_own : (sizes : Sizes) (shard owner : ℕ) (past es : List Entry) → own_answers sizes shard owner past es ≡ [] → EndsWithOwn owner es → es ≡ []
none_own sizes shard owner past [] none last = refl
none_own sizes shard owner past (e ∷ []) none last = absurd (taken (e.0 == owner) (same_owner e.0 owner last) none)
  where
    taken : (b : Bool) → b ≡ true → cond {A = List (Call × Reply)} b ((e.1, reply sizes shard (calls_of past) e.1) ∷ []) [] ≡ [] → ⊥
    taken true is none = cc
    taken false is none = cc

    same_owner : (a b : ℕ) → a ≡ b → (a == b) ≡ true
    same_owner a b is = grind (arith, nat_tests)
none_own sizes shard owner past (e ∷ f ∷ es) none last = absurd (rest (e.0 == owner) none (none_own sizes shard owner (past ++ e ∷ []) (f ∷ es)))
  where
    later : List (Call × Reply)
    later = own_answers sizes shard owner (past ++ e ∷ []) (f ∷ es)

    rest : (b : Bool) → cond {A = List (Call × Reply)} b ((e.1, reply sizes shard (calls_of past) e.1) ∷ later) later ≡ [] → (later ≡ [] → EndsWithOwn owner (f ∷ es) → (f ∷ es) ≡ []) → ⊥
    rest true none again = cc
    rest false none again = let empty : (f ∷ es) ≡ [] = again none last in cc

-- the list of a shard on which no call was made stays
pub list_stays : {sizes : Sizes} {shard owner : ℕ} {old new : List Entry} → GrowsBy sizes shard owner old new [] → new ≡ old
list_stays {sizes} {shard} {owner} {old} {new} g = g.begins ∙ ap (λ (es : List Entry). old ++ es) (none_own sizes shard owner old g.grown g.own_calls g.last) ∙ append-nil old
