-- The calls of a seat stand in the lists of its shards.
use Rattle.std.proofs.Common.{◌≡◌, ◌==◌, ◌<◌, ℕ, Bool, true, false, cond, List, [], ◌∷◌, ◌++◌, append_assoc, append-nil, All, refl, sym, ap, ◌∙◌, subst, arith}
use Rattle.std.proofs.lemmas.Bool.Decides.{nat_tests}
use Rattle.std.proofs.lemmas.List.Elements.{All-head, All-tail}
use Rattle.nonce_shard.specs.declared.calls.Call.{Call}
use Rattle.nonce_shard.specs.declared.calls.Reply.{Reply}
use Rattle.nonce_shard.specs.declared.sizes.Sizes.{Sizes}
use Rattle.nonce_shard.specs.Replies.{reply}
use Rattle.nonce_shard.specs.Seat.{Entry, Seat, Made, GrowsBy, calls_of, own_answers, EndsWithOwn, of_shard}
use Rattle.nonce_shard.specs.Laws.{with_list, Stand, CallsStand}

abbrev Answer' : Type 0
Answer' = Call × Reply

-- the owner's first call among entries
record First (sizes : Sizes) (shard owner : ℕ) (past grown : List Entry) (x : Answer') (own : List Answer') : Type 0 where
  others : List Entry
  call : Call
  later : List Entry
  is : grown ≡ others ++ (owner, call) ∷ later
  answer : x ≡ (call, reply sizes shard (calls_of (past ++ others)) call)
  rest : own_answers sizes shard owner ((past ++ others) ++ (owner, call) ∷ []) later ≡ own
  ends : EndsWithOwn owner later

ends_tail : (owner : ℕ) (e : Entry) (es : List Entry) → EndsWithOwn owner (e ∷ es) → EndsWithOwn owner es
ends_tail owner e [] ends = tt
ends_tail owner e (f ∷ es) ends = ends

same_number : (a b : ℕ) → (a == b) ≡ true → a ≡ b
same_number a b e = grind (arith, nat_tests)

first_own : (sizes : Sizes) (shard owner : ℕ) (past grown : List Entry) (x : Answer') (own : List Answer') → own_answers sizes shard owner past grown ≡ x ∷ own → EndsWithOwn owner grown
    → First sizes shard owner past grown x own
first_own sizes shard owner past [] x own e ends = absurd (let no : [] ≡ x ∷ own = e in cc)
first_own sizes shard owner past (f ∷ es) x own e ends =
    by (f.0 == owner) refl e (λ e'. first_own sizes shard owner (past ++ f ∷ []) es x own e' (ends_tail owner f es ends))
  where
    by : (b : Bool) → (f.0 == owner) ≡ b
        → cond {A = List Answer'} b ((f.1, reply sizes shard (calls_of past) f.1) ∷ own_answers sizes shard owner (past ++ f ∷ []) es) (own_answers sizes shard owner (past ++ f ∷ []) es) ≡ x ∷ own
        → (own_answers sizes shard owner (past ++ f ∷ []) es ≡ x ∷ own → First sizes shard owner (past ++ f ∷ []) es x own) → First sizes shard owner past (f ∷ es) x own
    by true is e' later =
        let mine : f.0 ≡ owner = same_number f.0 owner is in
        let both : (f.1, reply sizes shard (calls_of past) f.1) ∷ own_answers sizes shard owner (past ++ f ∷ []) es ≡ x ∷ own = e' in
        let entry : f ≡ (owner, f.1) = ap (λ (o : ℕ). let y : Entry = (o, f.1) in y) mine in
        let none : past ≡ past ++ [] = sym (append-nil past) in
        record {
          others = [];
          call = f.1;
          later = es;
          is = ap (λ (y : Entry). y ∷ es) entry;
          answer = (let head : x ≡ (f.1, reply sizes shard (calls_of past) f.1) = cc in head) ∙ ap (λ (p : List Entry). let y : Answer' = (f.1, reply sizes shard (calls_of p) f.1) in y) none;
          rest = ap (λ (p : List Entry). own_answers sizes shard owner (p ++ (owner, f.1) ∷ []) es) (sym none) ∙ ap (λ (y : Entry). own_answers sizes shard owner (past ++ y ∷ []) es) (sym entry)
              ∙ (let tail : own_answers sizes shard owner (past ++ f ∷ []) es ≡ own = cc in tail);
          ends = ends_tail owner f es ends;
        }
    by false is e' later =
        let r = later e' in
        let moved : (past ++ f ∷ []) ++ r.others ≡ past ++ (f ∷ r.others) = append_assoc past (f ∷ []) r.others in
        record {
          others = f ∷ r.others;
          call = r.call;
          later = r.later;
          is = ap (λ (l : List Entry). f ∷ l) r.is;
          answer = r.answer ∙ ap (λ (p : List Entry). let y : Answer' = (r.call, reply sizes shard (calls_of p) r.call) in y) moved;
          rest = ap (λ (p : List Entry). own_answers sizes shard owner (p ++ (owner, r.call) ∷ []) r.later) (sym moved) ∙ r.rest;
          ends = r.ends;
        }

abbrev GrowTo : Seat → (ℕ → List Entry) → Seat → List Made → Type 0
GrowTo seat seen new made = (s : ℕ) → s < seat.shards → GrowsBy seat.sizes s seat.owner (seen s) (new.seen s) (of_shard s made)

test_true : (n : ℕ) → (n == n) ≡ true
test_true n = grind (arith, nat_tests)

here_first : (s : ℕ) (m : Made) (made : List Made) → (m.shard == s) ≡ true → of_shard s (m ∷ made) ≡ (m.call, m.reply) ∷ of_shard s made
here_first s m made e = ap (λ (b : Bool). cond {A = List Answer'} b ((m.call, m.reply) ∷ of_shard s made) (of_shard s made)) e

not_here : (s : ℕ) (m : Made) (made : List Made) → (m.shard == s) ≡ false → of_shard s (m ∷ made) ≡ of_shard s made
not_here s m made e = ap (λ (b : Bool). cond {A = List Answer'} b ((m.call, m.reply) ∷ of_shard s made) (of_shard s made)) e

turned : (a b : ℕ) (t : Bool) → (a == b) ≡ t → (b == a) ≡ t
turned a b true e = grind (arith, nat_tests)
turned a b false e = grind (arith, nat_tests)

stand : (seat new : Seat) (made : List Made) (seen : ℕ → List Entry) → All (λ (m : Made). m.shard < seat.shards) made → GrowTo seat seen new made → (places : List (List Entry)) × Stand seat seen new made places
stand seat new [] seen inside grow = ([], tt)
stand seat new (m ∷ made) seen inside grow =
    let M : Made → Type 0 = λ x. x.shard < seat.shards in
    let g = grow m.shard (All-head M m made inside) in
    let f = first_own seat.sizes m.shard seat.owner (seen m.shard) g.grown (m.call, m.reply) (of_shard m.shard made) (g.own_calls ∙ here_first m.shard m made (test_true m.shard)) g.last in
    let past : List Entry = seen m.shard ++ f.others in
    let call : m.call ≡ f.call = ap (λ (y : Answer'). y.0) f.answer in
    let list : List Entry = past ++ (seat.owner, m.call) ∷ [] in
    let called : list ≡ past ++ (seat.owner, f.call) ∷ [] = ap (λ (c : Call). past ++ (let y : Entry = (seat.owner, c) in y) ∷ []) call in
    let whole : new.seen m.shard ≡ past ++ (seat.owner, f.call) ∷ f.later =
    g.begins ∙ ap (λ (l : List Entry). seen m.shard ++ l) f.is ∙ sym (append_assoc (seen m.shard) f.others ((seat.owner, f.call) ∷ f.later)) in
    let rest = stand seat new made (with_list seen m.shard list) (All-tail M m made inside) (next m seen g.grown grow list f.later
    (whole ∙ sym (append_assoc past ((seat.owner, f.call) ∷ []) f.later) ∙ ap (λ (l : List Entry). l ++ f.later) (sym called))
    (ap (λ (l : List Entry). own_answers seat.sizes m.shard seat.owner l f.later) called ∙ f.rest) f.ends) in (
      past ∷ rest.0,
      (
        record {
          others = f.others;
          later = f.later;
          begins = refl;
          goes_on = whole ∙ ap (λ (c : Call). past ++ (let y : Entry = (seat.owner, c) in y) ∷ f.later) (sym call);
          replies = ap (λ (y : Answer'). y.1) f.answer ∙ ap (reply seat.sizes m.shard (calls_of past)) (sym call);
        },
        rest.1,
      ),
    )
  where
    next : (m : Made) (seen : ℕ → List Entry) (grown : List Entry) → GrowTo seat seen new (m ∷ made) → (list later : List Entry) → new.seen m.shard ≡ list ++ later
        → own_answers seat.sizes m.shard seat.owner list later ≡ of_shard m.shard made → EndsWithOwn seat.owner later → GrowTo seat (with_list seen m.shard list) new made
    next m seen grown grow list later begins own ends s below = by (s == m.shard) refl
      where
        by : (b : Bool) → (s == m.shard) ≡ b → GrowsBy seat.sizes s seat.owner (cond b list (seen s)) (new.seen s) (of_shard s made)
        by true is =
            let same : s ≡ m.shard = same_number s m.shard is in
            let G : ℕ → Type 0 = λ x. GrowsBy seat.sizes x seat.owner list (new.seen x) (of_shard x made) in
            subst G (sym same) (record { grown = later; begins = begins; own_calls = own; last = ends })
        by false is =
            let g = grow s below in
            record { grown = g.grown; begins = g.begins; own_calls = g.own_calls ∙ not_here s m made (turned s m.shard false is); last = g.last }

pub calls_stand : CallsStand
calls_stand old new made inside grows = stand old new made old.seen inside grows.lists
