-- A shard after a call.
use Rattle.std.proofs.Common.{◌≡◌, ℕ, suc, ◌+◌, ◌≤◌, Bool, cond, max, Option, Some, None, List, [], ◌∷◌, ◌++◌, length, fold, map, refl, sym, ◌∙◌, ap, arith, length-append}
use Rattle.std.specs.List.{filter_map, cons_option, count_by}
use Rattle.std.proofs.lemmas.List.{map-append}
use Rattle.std.proofs.lemmas.List.Sums.{fold-append, sum_by-append, count_by-le-length}
use Rattle.nonce_shard.specs.declared.calls.Call.{Call}
use Rattle.nonce_shard.specs.declared.calls.Reply.{Reply}
use Rattle.nonce_shard.specs.declared.sizes.Setting.{Setting}
use Rattle.nonce_shard.specs.declared.history.Answered.{Answered}
use Rattle.nonce_shard.specs.declared.totals.Totals.{Totals}
use Rattle.nonce_shard.specs.declared.nonce_ring.NonceRing.{NonceRing}
use Rattle.nonce_shard.specs.declared.exchange_ring.ExchangeRing.{ExchangeRing}
use Rattle.nonce_shard.specs.declared.shard.Shard.{Shard}
use Rattle.nonce_shard.specs.History.{time_at}
use Rattle.nonce_shard.specs.Nonces.{nonce_in, is_fresh}
use Rattle.nonce_shard.specs.Exchanges.{opening_in}
use Rattle.nonce_shard.specs.Replies.{answer, reply_to}
use Rattle.nonce_shard.specs.Totals.{is_repeated, totals_of}
use Rattle.nonce_shard.specs.NonceRing.{HoldsNonces}
use Rattle.nonce_shard.specs.ExchangeRing.{HoldsExchanges}
use Rattle.nonce_shard.specs.Shard.{past_of, StandsFor}

-- ---- time

max_over : (a b : ℕ) (ns : List ℕ) → fold max (max a b) ns ≡ max (fold max a ns) b
max_over a b [] = refl
max_over a b (n ∷ ns) = ap (λ m. fold max m ns) (let e : max (max a b) n ≡ max (max a n) b = omega arith in e) ∙ max_over (max a n) b ns

pub time_at-max : (past : List Answered) (moment : ℕ) → time_at past moment ≡ max (time_at past 0) moment
time_at-max past moment = ap (λ m. fold max m (map (λ (a : Answered). a.call.moment) past)) (let e : moment ≡ max 0 moment = omega arith in e) ∙ max_over 0 moment (map (λ (a : Answered). a.call.moment) past)

time_at-append : (past : List Answered) (a : Answered) → time_at (past ++ a ∷ []) 0 ≡ max (time_at past 0) a.call.moment
time_at-append past a =
    ap (fold max 0) (map-append (λ (b : Answered). b.call.moment) past (a ∷ [])) ∙ fold-append max 0 (map (λ (b : Answered). b.call.moment) past) (a.call.moment ∷ [])

-- ---- numbers

past_of-append : (set : Setting) (calls : List Call) (call : Call) → past_of set (calls ++ call ∷ []) ≡ past_of set calls ++ answer set.sizes set.number (past_of set calls) call ∷ []
past_of-append set calls call = fold-append (λ past c. past ++ answer set.sizes set.number past c ∷ []) [] calls (call ∷ [])

length-past_of : (set : Setting) (calls : List Call) → length (past_of set calls) ≡ length calls
length-past_of set calls = from [] calls ∙ omega arith
  where
    from : (past : List Answered) (calls : List Call) → length (fold (λ p c. p ++ answer set.sizes set.number p c ∷ []) past calls) ≡ length past + length calls
    from past [] = omega arith
    from past (c ∷ cs) = from (past ++ answer set.sizes set.number past c ∷ []) cs ∙ omega (arith, length-append past (answer set.sizes set.number past c ∷ []))

few_of : {X Y : Type 0} (h : X → Option Y) (xs : List X) → length (filter_map h xs) ≤ length xs
few_of {X} {Y} h [] = omega arith
few_of {X} {Y} h (x ∷ xs) = by (h x) (few_of h xs)
  where
    by : (o : Option Y) → length (filter_map h xs) ≤ length xs → length (cons_option o (filter_map h xs)) ≤ suc (length xs)
    by None few = omega arith
    by (Some y) few = omega arith

-- no number of a shard is above that of its calls
pub record Few (s : Shard) (calls : List Call) : Type 0 where
  pub calls_few : s.calls ≤ length calls
  pub admitted_few : s.admitted ≤ length calls
  pub repeated_few : s.repeated ≤ length calls
  pub issued_few : s.nonces.issued ≤ length calls
  pub opened_few : s.exchanges.opened ≤ length calls

pub few : (s : Shard) (calls : List Call) → StandsFor s calls → Few s calls
few s calls stands =
    let past = past_of s.setting calls in
    let long : length past ≡ length calls = length-past_of s.setting calls in
    record {
      calls_few = omega (arith, long, ap (λ (t : Totals). t.calls) stands.totals_are);
      admitted_few = omega (arith, long, ap (λ (t : Totals). t.admitted) stands.totals_are, count_by-le-length (λ (a : Answered). is_fresh a.reply) past);
      repeated_few = omega (arith, long, ap (λ (t : Totals). t.repeated) stands.totals_are, count_by-le-length (λ (a : Answered). is_repeated a.reply) past);
      issued_few = omega (arith, long, stands.rings.nonces.issued_is, few_of (λ (a : Answered). nonce_in a.call.what a.time) past);
      opened_few = omega (arith, long, stands.rings.exchanges.opened_is, few_of (λ (a : Answered). opening_in a.call.what a.time) past);
    }

-- ---- the shard

same_totals : (a b : Totals) → a.calls ≡ b.calls → a.issued ≡ b.issued → a.admitted ≡ b.admitted → a.repeated ≡ b.repeated → a ≡ b
same_totals a b calls issued admitted repeated =
    ap (λ (n : ℕ). record a { calls = n }) calls ∙ ap (λ (n : ℕ). record a { calls = b.calls; issued = n }) issued
    ∙ ap (λ (n : ℕ). record b { admitted = n; repeated = a.repeated }) admitted ∙ ap (λ (n : ℕ). record b { repeated = n }) repeated

count_by-append : (p : Answered → Bool) (past : List Answered) (a : Answered) → count_by p (past ++ a ∷ []) ≡ count_by p past + cond (p a) 1 0
count_by-append p past a = sum_by-append (λ (b : Answered). cond (p b) 1 0) past (a ∷ []) ∙ omega arith

-- the answer and the rings with it give the shard with the call
pub stands_next : (s : Shard) (nonces' : NonceRing) (exchanges' : ExchangeRing) (calls : List Call) (call : Call) (now : ℕ) (reply : Reply) → StandsFor s calls
    → now ≡ time_at (past_of s.setting calls) call.moment → reply ≡ reply_to s.setting.sizes s.setting.number (past_of s.setting calls) now call.what
    → HoldsNonces s.setting nonces' (past_of s.setting calls ++ (let a : Answered = record { call = call; time = now; reply = reply } in a) ∷ [])
    → HoldsExchanges s.setting exchanges' (past_of s.setting calls ++ (let a : Answered = record { call = call; time = now; reply = reply } in a) ∷ [])
    → StandsFor (record { setting = s.setting; latest = now; calls = s.calls + 1; admitted = s.admitted + cond (is_fresh reply) 1 0; repeated = s.repeated + cond (is_repeated reply) 1 0; nonces = nonces'; exchanges = exchanges' }) (calls ++ call ∷ [])
stands_next s nonces' exchanges' calls call now reply stands now_is reply_is nonces_hold exchanges_hold = record {
  valid = stands.valid;
  latest_is = rw whole (now_is ∙ time_at-max past call.moment ∙ sym (time_at-append past a));
  totals_are = rw whole (same_totals _ (totals_of (past ++ a ∷ []))
      (omega (arith, length-append past (a ∷ []), ap (λ (t : Totals). t.calls) stands.totals_are)) nonces_hold.issued_is
      (ap (λ (n : ℕ). n + cond (is_fresh reply) 1 0) (ap (λ (t : Totals). t.admitted) stands.totals_are) ∙ sym (count_by-append (λ (b : Answered). is_fresh b.reply) past a))
      (ap (λ (n : ℕ). n + cond (is_repeated reply) 1 0) (ap (λ (t : Totals). t.repeated) stands.totals_are) ∙ sym (count_by-append (λ (b : Answered). is_repeated b.reply) past a)));
  rings = rw whole (record { nonces = nonces_hold; exchanges = exchanges_hold });
}
  where
    past : List Answered
    past = past_of s.setting calls

    a : Answered
    a = record { call = call; time = now; reply = reply }

    is_answer : answer s.setting.sizes s.setting.number past call ≡ a
    is_answer =
        ap (λ (t : ℕ). let b : Answered = record { call = call; time = t; reply = reply_to s.setting.sizes s.setting.number past t call.what } in b) (sym now_is)
        ∙ ap (λ (r : Reply). let b : Answered = record { call = call; time = now; reply = r } in b) (sym reply_is)

    whole : past_of s.setting (calls ++ call ∷ []) ≡ past ++ a ∷ []
    whole = past_of-append s.setting calls call ∙ ap (λ (b : Answered). past ++ b ∷ []) is_answer
