-- A seat of passes grows as its passes do.
use Rattle.std.proofs.Common.{◌≡◌, ◌≢◌, ℕ, ◌≤◌, Bool, eq-eqb, ne_eqb, List, [], ◌∷◌, ◌++◌, map, set, Option, Some, sym, refl, ap, ◌∙◌, subst, append_assoc, append-nil, arith}
use mathlib.Core.Logic.{dite}
use native.Mathlib.Decide.{ℕ_discrete}
use Rattle.std.specs.Prelude.{if◌then◌else◌, unwrap_or}
use Rattle.std.specs.List.{slice_get}
use Rattle.turn_table.specs.declared.object.TheConstants.{MOST_CALLS}
use Rattle.turn_table.specs.History.{Without}
use Rattle.turn_table.specs.Passes.{PassFacts, Answers, IsWorn}
use Rattle.nonce_shard.specs.declared.calls.Call.{Call}
use Rattle.nonce_shard.specs.declared.calls.Reply.{Reply}
use Rattle.nonce_shard.specs.declared.sizes.Sizes.{Sizes}
use Rattle.nonce_shard.specs.declared.sizes.Setting.{Setting}
use Rattle.nonce_shard.specs.Replies.{reply}
use Rattle.nonce_shard.specs.Shard.{reply_after}
use Rattle.nonce_shard.specs.Seat.{Entry, calls_of, own_answers, EndsWithOwn, GrowsBy, SameSeat, of_shard, Grows}
use Rattle.nonce_shard.specs.Seat as seat
use Rattle.nonce_table.specs.Passes.{IsPassTo, ArePassesOf, AnswersAt, IsWornAt, name_of, facts_of, seat_of}
use Rattle.nonce_table.proofs.Places.{some_is, get_here, get_else, get_map, get_map_else, map_set, length_set}

-- entries of others give no answer
answers_last : (sizes : Sizes) (number owner : ℕ) (past more : List Entry) (c : Call) → Without owner more
    → own_answers sizes number owner past (more ++ (owner, c) ∷ []) ≡ (c, reply sizes number (calls_of (past ++ more)) c) ∷ []
answers_last sizes number owner past [] c w =
    ap (λ (b : Bool). if b then (c, reply sizes number (calls_of past) c) ∷ [] else []) (eq-eqb owner owner refl)
    ∙ ap (λ (l : List Entry). (c, reply sizes number (calls_of l) c) ∷ []) (sym (append-nil past))
answers_last sizes number owner past (e ∷ es) c w =
    let rest = own_answers sizes number owner (past ++ e ∷ []) (es ++ (owner, c) ∷ []) in
    ap (λ (b : Bool). if b then (e.1, reply sizes number (calls_of past) e.1) ∷ rest else rest) (ne_eqb e.0 owner w.0)
    ∙ answers_last sizes number owner (past ++ e ∷ []) es c w.1
    ∙ ap (λ (l : List Entry). (c, reply sizes number (calls_of l) c) ∷ []) (append_assoc past (e ∷ []) es)

ends_own : (owner : ℕ) (more : List Entry) (c : Call) → EndsWithOwn owner (more ++ (owner, c) ∷ [])
ends_own owner [] c = refl
ends_own owner (e ∷ []) c = refl
ends_own owner (e ∷ f ∷ es) c = ends_own owner (f ∷ es) c

abbrev One : Type 0
One = PassFacts Call Setting

grown_by : (owner : ℕ) (sizes : Sizes) (at : ℕ) (p q : One) (c : Call) (r : Reply) → IsPassTo owner sizes at p → Answers reply_after p c r q → GrowsBy sizes at owner p.seen q.seen ((c, r) ∷ [])
grown_by owner sizes at p q c r is a =
    let more = a.own.0 in
    let before : a.before ≡ p.seen ++ more = a.own.1 in
    let own = is.owner_is in
    let st : a.setting ≡ record { number = at; sizes = sizes } = some_is a.setting (record { number = at; sizes = sizes }) (sym a.setting_is ∙ is.setting_is) in
    record {
      grown = more ++ (owner, c) ∷ [];
      begins = ap (λ (k : One). k.seen) a.seen_is ∙ ap (λ (l : List Entry). l ++ (p.owner, c) ∷ []) before ∙ ap (λ (o : ℕ). (p.seen ++ more) ++ (o, c) ∷ []) own ∙ append_assoc p.seen more ((owner, c) ∷ []);
      own_calls = answers_last sizes at owner p.seen more c (subst (λ (o : ℕ). Without o more) own a.own.2)
          ∙ ap (λ (l : List Entry). (c, reply sizes at (calls_of l) c) ∷ []) (sym before)
          ∙ ap (λ (s : Setting). (c, reply s.sizes s.number (calls_of a.before) c) ∷ []) (sym st)
          ∙ ap (λ (x : Reply). (c, x) ∷ []) (sym a.reply_is);
      last = ends_own owner more c;
    }

module _ (owner : ℕ) (sizes : Sizes) (old : List One) (at : ℕ) (p q : One) (are : ArePassesOf owner sizes old) (there : slice_get old at ≡ Some p) where
  passes_set : q.owner ≡ p.owner → q.setting ≡ p.setting → q.noted ≤ MOST_CALLS → ArePassesOf owner sizes (set old at q)
  passes_set o s n = record {
    long = length_set old at q ∙ are.long;
    some = are.some;
    each = λ i x e. dite (ℕ_discrete i at)
        (λ h. let is : q ≡ x = some_is q x (sym (get_here old at p q there) ∙ ap (λ (j : ℕ). slice_get (set old at q) j) (sym h) ∙ e) in
        let f = are.each at p there in
        subst (IsPassTo owner sizes i) is (record {
          owner_is = o ∙ f.owner_is;
          setting_is = s ∙ f.setting_is ∙ ap (λ (j : ℕ). Some (record { number = j; sizes = sizes })) (sym h);
          noted = n;
        }))
        (λ h. are.each i x (sym (get_else old at i q h) ∙ e));
  }

  abbrev table_set : q.table ≡ p.table → (facts_of owner sizes (set old at q)).table ≡ (facts_of owner sizes old).table
  table_set t = map_set (λ (x : One). name_of x.table) old at p q there (ap name_of t)

  noted_was : unwrap_or (slice_get (map (λ (x : One). x.noted) old) at) 0 ≡ p.noted
  noted_was = ap (λ (o : Option ℕ). unwrap_or o 0) (get_map (λ (x : One). x.noted) old at p there)

  noted_is : unwrap_or (slice_get (map (λ (x : One). x.noted) (set old at q)) at) 0 ≡ q.noted
  noted_is = ap (λ (o : Option ℕ). unwrap_or o 0) (get_map (λ (x : One). x.noted) (set old at q) at q (get_here old at p q there))

  seen_was : unwrap_or (slice_get (map (λ (x : One). x.seen) old) at) [] ≡ p.seen
  seen_was = ap (λ (o : Option (List Entry)). unwrap_or o []) (get_map (λ (x : One). x.seen) old at p there)

  seen_is : unwrap_or (slice_get (map (λ (x : One). x.seen) (set old at q)) at) [] ≡ q.seen
  seen_is = ap (λ (o : Option (List Entry)). unwrap_or o []) (get_map (λ (x : One). x.seen) (set old at q) at q (get_here old at p q there))

  seen_else : (s : ℕ) → s ≢ at → unwrap_or (slice_get (map (λ (x : One). x.seen) (set old at q)) s) [] ≡ unwrap_or (slice_get (map (λ (x : One). x.seen) old) s) []
  seen_else s ne = ap (λ (o : Option (List Entry)). unwrap_or o []) (get_map_else (λ (x : One). x.seen) old at s q ne)

  same_seat : q.table ≡ p.table → p.noted ≤ q.noted → SameSeat (seat_of (facts_of owner sizes old)) (seat_of (facts_of owner sizes (set old at q)))
  same_seat t n = record {
    owner = refl;
    table = table_set t;
    sizes = refl;
    limit = refl;
    shards = refl;
    noted = λ s h. dite (ℕ_discrete s at)
        (λ e. subst (λ (j : ℕ). unwrap_or (slice_get (map (λ (x : One). x.noted) old) j) 0 ≤ unwrap_or (slice_get (map (λ (x : One). x.noted) (set old at q)) j) 0) (sym e) (let a = noted_was in let b = noted_is in omega arith))
        (λ ne. let a = ap (λ (o : Option ℕ). unwrap_or o 0) (get_map_else (λ (x : One). x.noted) old at s q ne) in omega arith);
  }

  grows_one : (c : Call) (r : Reply) → Answers reply_after p c r q → Grows (seat_of (facts_of owner sizes old)) (seat_of (facts_of owner sizes (set old at q))) (record { shard = at; call = c; reply = r } ∷ [])
  grows_one c r a = record {
    same = same_seat (ap (λ (k : One). k.table) a.seen_is) (let n : q.noted ≡ p.noted = ap (λ (k : One). k.noted) a.seen_is in omega arith);
    lists = λ s h. dite (ℕ_discrete s at)
        (λ e. subst (λ (j : ℕ). GrowsBy sizes j owner (unwrap_or (slice_get (map (λ (x : One). x.seen) old) j) []) (unwrap_or (slice_get (map (λ (x : One). x.seen) (set old at q)) j) []) (of_shard j (record { shard = at; call = c; reply = r } ∷ []))) (sym e)
        (subst (λ (b : Bool). GrowsBy sizes at owner (unwrap_or (slice_get (map (λ (x : One). x.seen) old) at) []) (unwrap_or (slice_get (map (λ (x : One). x.seen) (set old at q)) at) []) (if b then (c, r) ∷ [] else [])) (sym (eq-eqb at at refl))
        (subst (λ (l : List Entry). GrowsBy sizes at owner l (unwrap_or (slice_get (map (λ (x : One). x.seen) (set old at q)) at) []) ((c, r) ∷ [])) (sym seen_was)
        (subst (λ (l : List Entry). GrowsBy sizes at owner p.seen l ((c, r) ∷ [])) (sym seen_is)
        (grown_by owner sizes at p q c r (are.each at p there) a)))))
        (λ ne. record {
          grown = [];
          begins = seen_else s ne ∙ sym (append-nil (unwrap_or (slice_get (map (λ (x : One). x.seen) old) s) []));
          own_calls = sym (ap (λ (b : Bool). if b then (c, r) ∷ [] else []) (ne_eqb at s (λ e. ne (sym e))));
          last = tt;
        });
  }

  worn_one : (calls : ℕ) → IsWorn p calls q → seat.IsWorn (seat_of (facts_of owner sizes old)) (seat_of (facts_of owner sizes (set old at q))) at calls
  worn_one calls w =
      let below = w.below in
      let n : q.noted ≡ calls = ap (λ (k : One). k.noted) w.noted in
      record {
        same = same_seat (ap (λ (k : One). k.table) w.noted) (omega arith);
        lists = λ s h. dite (ℕ_discrete s at)
            (λ e. subst (λ (j : ℕ). unwrap_or (slice_get (map (λ (x : One). x.seen) (set old at q)) j) [] ≡ unwrap_or (slice_get (map (λ (x : One). x.seen) old) j) []) (sym e)
            (seen_is ∙ ap (λ (k : One). k.seen) w.noted ∙ sym seen_was))
            (λ ne. seen_else s ne);
        noted = noted_is ∙ n;
        at_limit = w.most;
      }

-- ---- by what a call at a place says

module _ (owner : ℕ) (sizes : Sizes) (old new : List One) (at : ℕ) (are : ArePassesOf owner sizes old) where
  pub answered_passes : (c : Call) (r : Reply) → AnswersAt old at c r new → ArePassesOf owner sizes new
  answered_passes c r a =
      let e = a.answers.seen_is in
      let n : a.after.noted ≡ a.before.noted = ap (λ (k : One). k.noted) e in
      let was = (are.each at a.before a.was).noted in
      subst (ArePassesOf owner sizes) (sym a.now) (passes_set owner sizes old at a.before a.after are a.was (ap (λ (k : One). k.owner) e) (ap (λ (k : One). k.setting) e) (omega arith))

  pub worn_passes : (calls : ℕ) → IsWornAt old at calls new → ArePassesOf owner sizes new
  worn_passes calls w =
      let e = w.worn.noted in
      let n : w.after.noted ≡ calls = ap (λ (k : One). k.noted) e in
      let most = w.worn.most in
      subst (ArePassesOf owner sizes) (sym w.now) (passes_set owner sizes old at w.before w.after are w.was (ap (λ (k : One). k.owner) e) (ap (λ (k : One). k.setting) e) (omega arith))

  pub answered_table : (c : Call) (r : Reply) → AnswersAt old at c r new → (facts_of owner sizes new).table ≡ (facts_of owner sizes old).table
  answered_table c r a = ap (λ (l : List One). (facts_of owner sizes l).table) a.now ∙ table_set owner sizes old at a.before a.after are a.was (ap (λ (k : One). k.table) a.answers.seen_is)

  pub worn_table : (calls : ℕ) → IsWornAt old at calls new → (facts_of owner sizes new).table ≡ (facts_of owner sizes old).table
  worn_table calls w = ap (λ (l : List One). (facts_of owner sizes l).table) w.now ∙ table_set owner sizes old at w.before w.after are w.was (ap (λ (k : One). k.table) w.worn.noted)

  pub answered_grows : (c : Call) (r : Reply) → AnswersAt old at c r new → Grows (seat_of (facts_of owner sizes old)) (seat_of (facts_of owner sizes new)) (record { shard = at; call = c; reply = r } ∷ [])
  answered_grows c r a = subst (λ (l : List One). Grows (seat_of (facts_of owner sizes old)) (seat_of (facts_of owner sizes l)) (record { shard = at; call = c; reply = r } ∷ [])) (sym a.now) (grows_one owner sizes old at a.before a.after are a.was c r a.answers)

  pub worn_is_worn : (calls : ℕ) → IsWornAt old at calls new → seat.IsWorn (seat_of (facts_of owner sizes old)) (seat_of (facts_of owner sizes new)) at calls
  worn_is_worn calls w = subst (λ (l : List One). seat.IsWorn (seat_of (facts_of owner sizes old)) (seat_of (facts_of owner sizes l)) at calls) (sym w.now) (worn_one owner sizes old at w.before w.after are w.was calls w.worn)
