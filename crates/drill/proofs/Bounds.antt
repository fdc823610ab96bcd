-- How much a step adds at most.
use Rattle.std.proofs.Common.{◌≡◌, ◌≤◌, ◌<◌, ◌+◌, ◌*◌, ◌++◌, ℕ, zero, suc, Bool, true, false, List, [], ◌∷◌, length, length-append, append-nil, slice_get, Option, Some, None, refl, sym, ap, subst, ◌∙◌, arith}
use Rattle.std.specs.Prelude.{if◌then◌else◌, ⊤}
use Rattle.std.specs.List.{list_any}
use Rattle.std.specs.Option.{option_map_or}
use Rattle.auth_decide.specs.Asks.{asked}
use Rattle.auth_decide.specs.Stages.{Answer, Question, Replied, Words}
use Rattle.auth_decide.specs.declared.credentials.RequestCredentials.{RequestCredentials}
use Rattle.auth_decide.specs.declared.verdict.Ask.{Ask}
use Rattle.auth_decide.specs.declared.verdict.Ask.TheVariants.{Draw, Table, Verdict}
use Rattle.auth_decide.specs.declared.verdict.Verdict.TheVariants as verdict
use Rattle.auth_decide.proofs.Calls.{Pays, asked_pays, calls_left, left_falls}
use Rattle.auth_grammar.specs.declared.items.Item.{Item}
use Rattle.client_core.specs.Digests.{has_nonce}
use Rattle.client_core.specs.Givings.{given}
use Rattle.client_core.specs.declared.request.Sent.{Sent}
use Rattle.client_core.specs.declared.request.Sent.TheVariants as sent
use Rattle.client_core.specs.declared.state.State.{State}
use Rattle.nonce_shard.specs.Replies.{reply}
use Rattle.nonce_shard.specs.Sizes.{single_sizes}
use Rattle.nonce_shard.specs.declared.calls.Call.{Call}
use Rattle.admission.specs.Steps.{Step, Drew, Called, answers_of}
use Rattle.drill.specs.declared.event.DrillEvent.{DrillEvent}
use Rattle.drill.specs.declared.event.DrillEvent.TheVariants.{Challenge, Make, Deliver, Pass}
use Rattle.drill.specs.declared.tally.Tally.{Tally}
use Rattle.drill.specs.Deciding.{calls_in, conduct, decided, done_for, draws_in, question, steps_for}
use Rattle.drill.specs.Requests.{can_send, out_request, plain_request, request_with}
use Rattle.drill.specs.World.{Happening, World, delivering, delivery_draws, draws, draws_of, items_in, made_with, says_stale, step, step_of, tallied}
use Rattle.drill.proofs.Conducting.{answers_more}
use Rattle.drill.proofs.Lists.{calls_more, draws_more}

-- ---- a decision

-- what a decision still may call after these steps
abbrev may_call : List Step → ℕ
may_call done = calls_left (answers_of single_sizes done) 3

drew_more : (done : List Step) (words : List ℕ) → length (calls_in (done ++ Drew words ∷ [])) + may_call (done ++ Drew words ∷ []) ≤ length (calls_in done) + may_call done
drew_more done words =
    let calls = ap (λ (l : List Call). length l) (calls_more done (Drew words ∷ []) ∙ append-nil (calls_in done)) in
    let left = subst (λ (l : List Answer). calls_left l 3 ≤ may_call done) (sym (answers_more done (Drew words))) (left_falls (answers_of single_sizes done) (Words words) 3) in
    omega (arith, calls, left)

called_more : (q : Question) (done : List Step) (shard : ℕ) (past : List Call) (call : Call) → asked q (answers_of single_sizes done) ≡ Table shard call
    → length (calls_in (done ++ Called shard past call ∷ [])) + may_call (done ++ Called shard past call ∷ []) ≤ length (calls_in done) + may_call done
called_more q done shard past call asks =
    let answer = Replied (reply single_sizes shard past call) in
    let pays = subst (Pays 3 (answers_of single_sizes done)) asks (asked_pays q (answers_of single_sizes done)) tt answer in
    let calls = ap (λ (l : List Call). length l) (calls_more done (Called shard past call ∷ [])) ∙ length-append (calls_in done) (call ∷ []) in
    let left = subst (λ (l : List Answer). suc (calls_left l 3) ≤ may_call done) (sym (answers_more done (Called shard past call))) pays in
    omega (arith, calls, left)

calls_of_conduct : (n : ℕ) (q : Question) (words : List ℕ) (calls : List Call) (done : List Step) → length (calls_in (conduct n q words calls done)) ≤ length (calls_in done) + may_call done
unfolding conduct
calls_of_conduct zero q words calls done = omega arith
calls_of_conduct (suc n) q words calls done = by (asked q (answers_of single_sizes done)) refl (λ one. calls_of_conduct n q words calls (done ++ one ∷ []))
  where
    by : (ask : Ask) → asked q (answers_of single_sizes done) ≡ ask
        → ((one : Step) → length (calls_in (conduct n q words calls (done ++ one ∷ []))) ≤ length (calls_in (done ++ one ∷ [])) + may_call (done ++ one ∷ []))
        → length (calls_in (option_map_or (λ one. conduct n q words calls (done ++ one ∷ [])) (done_for ask words (calls ++ calls_in done)) done)) ≤ length (calls_in done) + may_call done
    by Draw is again =
        let rest = again (Drew words) in
        let more = drew_more done words in
        omega (arith, rest, more)
    by (Table shard call) is again =
        let rest = again (Called shard (calls ++ calls_in done) call) in
        let more = called_more q done shard (calls ++ calls_in done) call is in
        omega (arith, rest, more)
    by (Verdict v) is again = omega arith

three_calls : (q : Question) (words : List ℕ) (calls : List Call) → length (calls ++ calls_in (steps_for q words calls)) ≤ length calls + 3
unfolding steps_for
three_calls q words calls =
    let few = calls_of_conduct 5 q words calls [] in
    let size = length-append calls (calls_in (conduct 5 q words calls [])) in
    omega (arith, few, size)

draws_of_conduct : (n : ℕ) (q : Question) (words : List ℕ) (calls : List Call) (done : List Step) → length (draws_in (conduct n q words calls done)) ≤ length (draws_in done) + n
unfolding conduct
draws_of_conduct zero q words calls done = omega arith
draws_of_conduct (suc n) q words calls done = by (done_for (asked q (answers_of single_sizes done)) words (calls ++ calls_in done)) (λ next. draws_of_conduct n q words calls (done ++ next ∷ []))
  where
    one : (next : Step) → length (draws_in (done ++ next ∷ [])) ≤ length (draws_in done) + 1
    one (Drew w) = let size = ap (λ (l : List (List ℕ)). length l) (draws_more done (Drew w ∷ [])) ∙ length-append (draws_in done) (w ∷ []) in omega (arith, size)
    one (Called shard past call) = let size = ap (λ (l : List (List ℕ)). length l) (draws_more done (Called shard past call ∷ []) ∙ append-nil (draws_in done)) in omega (arith, size)

    by : (o : Option Step) → ((next : Step) → length (draws_in (conduct n q words calls (done ++ next ∷ []))) ≤ length (draws_in (done ++ next ∷ [])) + n)
        → length (draws_in (option_map_or (λ next. conduct n q words calls (done ++ next ∷ [])) o done)) ≤ length (draws_in done) + suc n
    by None again = omega arith
    by (Some next) again =
        let rest = again next in
        let more = one next in
        omega (arith, rest, more)

few_draws_in : (q : Question) (words : List ℕ) (calls : List Call) → length (draws_in (steps_for q words calls)) ≤ 5
unfolding steps_for
few_draws_in q words calls = draws_of_conduct 5 q words calls []

-- ---- draws

few_drawn : (w : World) (event : DrillEvent) (words : List ℕ) (credentials : RequestCredentials) → length (draws_of w event words credentials) ≤ 5
few_drawn w Challenge words credentials = few_draws_in (question w.scene.clock plain_request credentials) words w.calls
few_drawn w Make words credentials = by (has_nonce w.scene.client)
  where
    by : (b : Bool) → length (if b then words ∷ [] else []) ≤ 5
    by true = omega arith
    by false = omega arith
few_drawn w (Deliver k) words credentials = by (slice_get w.scene.made k)
  where
    by : (o : Option Item) → length (delivery_draws w words credentials o) ≤ 5
    by None = omega arith
    by (Some item) = few_draws_in (question w.scene.clock (request_with item) credentials) words w.calls
few_drawn w (Pass seconds) words credentials = omega arith

-- few words are drawn in a step
pub few_draws : (w : World) (h : Happening) → length (draws w h) ≤ 5
few_draws w h = few_drawn w h.event h.words h.credentials

-- ---- counts

-- all counts of a tally are so small
pub record TallyWithin (n : ℕ) (t : Tally) : Type 0 where
  pub delivered : t.delivered ≤ n
  pub admitted : t.admitted ≤ n
  pub stale : t.stale ≤ n
  pub refused : t.refused ≤ n

tally_more : (n : ℕ) (t : Tally) → TallyWithin n t → TallyWithin (suc n) t
tally_more n t a = record { delivered = omega (arith, a.delivered); admitted = omega (arith, a.admitted); stale = omega (arith, a.stale); refused = omega (arith, a.refused) }

refused_more : (n : ℕ) (t : Tally) → TallyWithin n t → TallyWithin (suc n) (record t { delivered = t.delivered + 1; refused = t.refused + 1 })
refused_more n t a = record { delivered = omega (arith, a.delivered); admitted = omega (arith, a.admitted); stale = omega (arith, a.stale); refused = omega (arith, a.refused) }

tallied_more : (n : ℕ) (t : Tally) (ask : Ask) → TallyWithin n t → TallyWithin (suc n) (tallied t ask)
tallied_more n t Draw a = refused_more n t a
tallied_more n t (Table shard call) a = refused_more n t a
tallied_more n t (Verdict (verdict.Admit user proof)) a =
    record { delivered = omega (arith, a.delivered); admitted = omega (arith, a.admitted); stale = omega (arith, a.stale); refused = omega (arith, a.refused) }
tallied_more n t (Verdict (verdict.Challenge items)) a = by (list_any says_stale items)
  where
    by : (b : Bool) → TallyWithin (suc n) (if b then record t { delivered = t.delivered + 1; stale = t.stale + 1 } else record t { delivered = t.delivered + 1; refused = t.refused + 1 })
    by true = record { delivered = omega (arith, a.delivered); admitted = omega (arith, a.admitted); stale = omega (arith, a.stale); refused = omega (arith, a.refused) }
    by false = refused_more n t a
tallied_more n t (Verdict (verdict.Open items)) a = refused_more n t a
tallied_more n t (Verdict (verdict.Continue item)) a = refused_more n t a
tallied_more n t (Verdict (verdict.Bad why)) a = refused_more n t a

one_item : (what : Sent) → length (items_in what) ≤ 1
one_item (sent.Digest item) = by (can_send item)
  where
    by : (b : Bool) → length (if b then item ∷ [] else []) ≤ 1
    by true = omega arith
    by false = omega arith
one_item sent.Nothing = omega arith
one_item (sent.ScramFirst item) = omega arith
one_item (sent.ScramFinal item) = omega arith
one_item (sent.ScramAgain item) = omega arith

-- ---- a world behind so many steps

-- Each step makes at most one request, three calls and one delivery, and at most 120 seconds pass in it.
pub record IsWithin (n : ℕ) (w : World) : Type 0 where
  pub made : length w.scene.made ≤ n
  pub calls : length w.calls ≤ 3 * n
  pub clock : w.scene.clock ≤ 120 * n
  pub tally : TallyWithin n w.scene.tally

abbrev pub PassesFew : DrillEvent → Type 0
PassesFew Challenge = ⊤
PassesFew Make = ⊤
PassesFew (Deliver k) = ⊤
PassesFew (Pass seconds) = seconds < 120

within_more : (n : ℕ) (w : World) → IsWithin n w → IsWithin (suc n) w
within_more n w a = record { made = omega (arith, a.made); calls = omega (arith, a.calls); clock = omega (arith, a.clock); tally = tally_more n w.scene.tally a.tally }

made_within : (n : ℕ) (w : World) (p : Sent × State) → IsWithin n w → IsWithin (suc n) (made_with w p)
made_within n w p a =
    let one = one_item p.0 in
    let size = length-append w.scene.made (items_in p.0) in
    record { made = omega (arith, a.made, one, size); calls = omega (arith, a.calls); clock = omega (arith, a.clock); tally = tally_more n w.scene.tally a.tally }

delivered_within : (n : ℕ) (w : World) (words : List ℕ) (credentials : RequestCredentials) (o : Option Item) → IsWithin n w → IsWithin (suc n) (delivering w words credentials o)
delivered_within n w words credentials None a = within_more n w a
delivered_within n w words credentials (Some item) a =
    let q = question w.scene.clock (request_with item) credentials in
    let three = three_calls q words w.calls in
    record { made = omega (arith, a.made); calls = omega (arith, a.calls, three); clock = omega (arith, a.clock); tally = tallied_more n w.scene.tally (decided q words w.calls) a.tally }

step_within : (n : ℕ) (w : World) (event : DrillEvent) (words : List ℕ) (credentials : RequestCredentials) → PassesFew event → IsWithin n w → IsWithin (suc n) (step_of w event words credentials)
step_within n w Challenge words credentials few a =
    let three = three_calls (question w.scene.clock plain_request credentials) words w.calls in
    record { made = omega (arith, a.made); calls = omega (arith, a.calls, three); clock = omega (arith, a.clock); tally = tally_more n w.scene.tally a.tally }
step_within n w Make words credentials few a = by (has_nonce w.scene.client)
  where
    by : (b : Bool) → IsWithin (suc n) (if b then made_with w (given w.scene.client out_request w.scene.clock words) else w)
    by true = made_within n w (given w.scene.client out_request w.scene.clock words) a
    by false = within_more n w a
step_within n w (Deliver k) words credentials few a = delivered_within n w words credentials (slice_get w.scene.made k) a
step_within n w (Pass seconds) words credentials few a =
    record { made = omega (arith, a.made); calls = omega (arith, a.calls); clock = omega (arith, a.clock, few); tally = tally_more n w.scene.tally a.tally }

pub within_next : (n : ℕ) (w : World) (h : Happening) → PassesFew h.event → IsWithin n w → IsWithin (suc n) (step w h)
within_next n w h few a = step_within n w h.event h.words h.credentials few a

-- no step has more than three calls
pub calls_next : (w : World) (h : Happening) → length (step w h).calls ≤ length w.calls + 3
calls_next w h = by h.event
  where
    deliver : (o : Option Item) → length (delivering w h.words h.credentials o).calls ≤ length w.calls + 3
    deliver None = omega arith
    deliver (Some item) = three_calls (question w.scene.clock (request_with item) h.credentials) h.words w.calls

    make : (b : Bool) → length (if b then made_with w (given w.scene.client out_request w.scene.clock h.words) else w).calls ≤ length w.calls + 3
    make true = omega arith
    make false = omega arith

    by : (event : DrillEvent) → length (step_of w event h.words h.credentials).calls ≤ length w.calls + 3
    by Challenge = three_calls (question w.scene.clock plain_request h.credentials) h.words w.calls
    by Make = make (has_nonce w.scene.client)
    by (Deliver k) = deliver (slice_get w.scene.made k)
    by (Pass seconds) = omega arith
