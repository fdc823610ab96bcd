-- How the decision on a request goes on.
use Rattle.std.proofs.Common.{◌≡◌, ◌⊎◌, inl, inr, ◌≤◌, ◌<◌, ℕ, zero, suc, List, [], ◌∷◌, ◌++◌, length, slice_index, length-append, append-nil, append_assoc, replicate, Option, Some, None, refl, sym, ap, ◌∙◌, subst, arith}
use Rattle.std.specs.Option.{option_map_or}
use Rattle.base64.specs.GeneralPurpose.{IsBytes}
use Rattle.auth_io.specs.Told.{Adds}
use Rattle.auth_io.proofs.Passing.{Adds_none, Adds_trans}
use Rattle.auth_decide.specs.Asks.{ask_in, asked, next_ask}
use Rattle.auth_decide.specs.Decisions.{Deciding, IsCallFor, IsDraw, ask_of as asked_of, asks_left}
use Rattle.auth_decide.specs.Stages.{Answer, Question, Replied, Words, first_stage, protection_space, stage_after, stage_at}
use Rattle.auth_decide.specs.declared.stages.Stage.{Stage}
use Rattle.auth_decide.specs.declared.stages.Stage.TheVariants as stage
use Rattle.auth_decide.specs.declared.verdict.Ask.{Ask}
use Rattle.auth_decide.specs.declared.verdict.Ask.TheVariants.{Draw, Table, Verdict}
use Rattle.auth_decide.specs.declared.verdict.Verdict.{Verdict as VerdictValue}
use Rattle.auth_decide.proofs.Few.{reply_fewer}
use Rattle.auth_decide.proofs.Folds.{asked_at, stage_more}
use Rattle.spaces_map.specs.declared.space.Space.{Space}
use Rattle.nonce_shard.specs.History.{time_at}
use Rattle.nonce_shard.specs.Journal.{Journal}
use Rattle.nonce_shard.specs.Replies.{CanAnswer, answered, reply}
use Rattle.nonce_shard.specs.Sizes.{single_sizes}
use Rattle.nonce_shard.specs.declared.calls.Call.{Call}
use Rattle.nonce_shard.specs.declared.calls.Reply.{Reply}
use Rattle.nonce_shard.specs.declared.sizes.Sizes.{Sizes}
use Rattle.nonce_shard.proofs.ReplyKinds.{reply_to_can_answer}
use Rattle.admission.specs.Steps.{Step, Drew, Called, answer_of, answers_of}
use Rattle.drill.specs.Deciding.{AreWords, OneDraw, Begins, IsEnded, IsOver, IsUnderWay, Serves, calls_in, conduct, done_for, draws_in, steps_for, with_calls}
use Rattle.drill.proofs.Lists.{calls_more, draws_more}

-- ---- the steps

-- what was done is done first
begins : (n : ℕ) (q : Question) (words : List ℕ) (calls : List Call) (done : List Step) → (more : List Step) × (conduct n q words calls done ≡ done ++ more)
unfolding conduct
begins zero q words calls done = ([], sym (append-nil done))
begins (suc n) q words calls done = by (done_for (asked q (answers_of single_sizes done)) words (calls ++ calls_in done)) (λ step. begins n q words calls (done ++ step ∷ []))
  where
    by : (o : Option Step) → ((step : Step) → (more : List Step) × (conduct n q words calls (done ++ step ∷ []) ≡ (done ++ step ∷ []) ++ more))
        → (more : List Step) × (option_map_or (λ step. conduct n q words calls (done ++ step ∷ [])) o done ≡ done ++ more)
    by None again = ([], sym (append-nil done))
    by (Some step) again = (step ∷ (again step).0, (again step).1 ∙ append_assoc done (step ∷ []) (again step).0)

-- at a verdict nothing more is done
ended_at : (n : ℕ) (q : Question) (words : List ℕ) (calls : List Call) (done : List Step) (verdict : VerdictValue) → asked q (answers_of single_sizes done) ≡ Verdict verdict
    → conduct n q words calls done ≡ done
unfolding conduct
ended_at zero q words calls done verdict is = refl
ended_at (suc n) q words calls done verdict is =
    ap (λ (a : Ask). option_map_or (λ step. conduct n q words calls (done ++ step ∷ [])) (done_for a words (calls ++ calls_in done)) done) is

one_more : (n : ℕ) (q : Question) (words : List ℕ) (calls : List Call) (done : List Step) (ask : Ask) (step : Step) → asked q (answers_of single_sizes done) ≡ ask
    → done_for ask words (calls ++ calls_in done) ≡ Some step → conduct (suc n) q words calls done ≡ conduct n q words calls (done ++ step ∷ [])
unfolding conduct
one_more n q words calls done ask step is does =
    ap (λ (a : Ask). option_map_or (λ s. conduct n q words calls (done ++ s ∷ [])) (done_for a words (calls ++ calls_in done)) done) is
    ∙ ap (λ (o : Option Step). option_map_or (λ s. conduct n q words calls (done ++ s ∷ [])) o done) does

-- ---- asks

at_draw : (q : Question) (o : Option Space) (s : Stage) → IsDraw (ask_in q o s) → asks_left s ≡ 2
at_draw q None s is = absurd is
at_draw q (Some space) (stage.Drawing purpose) is = refl
at_draw q (Some space) (stage.Beginning e) is = refl
at_draw q (Some space) stage.Open is = absurd is
at_draw q (Some space) (stage.Bad why) is = absurd is
at_draw q (Some space) (stage.Issuing purpose words) is = absurd is
at_draw q (Some space) (stage.Issued purpose nonce) is = absurd is
at_draw q (Some space) (stage.Peeking c nonce) is = absurd is
at_draw q (Some space) (stage.Using v nonce) is = absurd is
at_draw q (Some space) (stage.Admitted v) is = absurd is
at_draw q (Some space) (stage.Opening e words) is = absurd is
at_draw q (Some space) (stage.Continued e sid) is = absurd is
at_draw q (Some space) (stage.Taking a) is = absurd is
at_draw q (Some space) (stage.Keeping user) is = absurd is
at_draw q (Some space) (stage.Recalling a again) is = absurd is
at_draw q (Some space) (stage.Reusing user sr count) is = absurd is
at_draw q (Some space) (stage.Authenticated user) is = absurd is
at_draw q (Some space) stage.Mismatched is = absurd is

left_at_draw : (d : Deciding) → Draw ≡ asked_of d → asks_left d.stage ≡ 2
left_at_draw d is = at_draw d.question (protection_space d.question.role d.question.request d.question.site) d.stage (subst IsDraw is tt)

pub answers_more : (done : List Step) (step : Step) → answers_of single_sizes (done ++ step ∷ []) ≡ answers_of single_sizes done ++ answer_of single_sizes step ∷ []
answers_more [] step = refl
answers_more (one ∷ done) step = ap (λ (l : List Answer). answer_of single_sizes one ∷ l) (answers_more done step)

-- what a decision under way asks
asks_now : {q : Question} {before now : Journal} {told drawn : Option (List (List ℕ))} {d : Deciding} → (g : IsUnderWay q before now told drawn d) → (ask : Ask) → ask ≡ asked_of d
    → asked q (answers_of single_sizes g.done) ≡ ask
asks_now {q} {before} {now} {told} {drawn} {d} g ask is =
    asked_at q (answers_of single_sizes g.done)
    ∙ ap (next_ask q) (sym g.stage)
    ∙ ap (λ (x : Question). next_ask x d.stage) (sym g.question)
    ∙ sym is

-- ---- the start

pub under_start : (q : Question) (table : Journal) (told : Option (List (List ℕ))) (d : Deciding) → d.question ≡ q → d.stage ≡ first_stage d.question → asks_left d.stage ≤ 4
    → IsUnderWay q table table told told d
unfolding steps_for
under_start q table told d question first few = record {
  done = [];
  fuel = 5;
  question = question;
  stage = first ∙ ap first_stage question;
  enough = omega arith;
  last_draw = inl refl;
  table = ap (λ (l : List Call). let j : Journal = record table { calls = l } in j) (sym (append-nil table.calls));
  goes = λ words serves. refl;
  words = tt;
  adds = Adds_none told;
}

-- ---- one more step

pub record Fuel (n left : ℕ) : Type 0 where
  pub rest : ℕ
  pub is : n ≡ suc rest
  pub enough : left ≤ rest

fuel_for : (n old left : ℕ) → old ≤ n → left < old → Fuel n left
fuel_for zero old left a b = absurd (omega arith)
fuel_for (suc rest) old left a b = record { rest = rest; is = refl; enough = omega arith }

serves_last : (words : List ℕ) (draws : List (List ℕ)) (drawn : List ℕ) → Serves words (draws ++ drawn ∷ []) → Serves words draws × (words ≡ drawn)
serves_last words [] drawn s = (tt, s.0)
serves_last words (one ∷ draws) drawn s = let rest = serves_last words draws drawn s.1 in ((s.0, rest.0), rest.1)

too_many : (left : ℕ) → left ≡ 2 → left ≤ 1 → ⊥
too_many left a b = omega arith

no_draws : {q : Question} {before now : Journal} {told drawn : Option (List (List ℕ))} {d : Deciding} → (g : IsUnderWay q before now told drawn d) → Draw ≡ asked_of d → draws_in g.done ≡ []
no_draws {q} {before} {now} {told} {drawn} {d} g is = by g.last_draw
  where
    by : (draws_in g.done ≡ []) ⊎ (asks_left d.stage ≤ 1) → draws_in g.done ≡ []
    by (inl none) = none
    by (inr late) = absurd (too_many (asks_left d.stage) (left_at_draw d is) late)

stage_then : {q : Question} {before now : Journal} {told drawn : Option (List (List ℕ))} {d : Deciding} → (g : IsUnderWay q before now told drawn d) → (step : Step)
    → stage_after d.question d.stage (answer_of single_sizes step) ≡ stage_at q (answers_of single_sizes (g.done ++ step ∷ []))
stage_then {q} {before} {now} {told} {drawn} {d} g step =
    ap (λ (x : Question). stage_after x d.stage (answer_of single_sizes step)) g.question
    ∙ ap (λ (s : Stage). stage_after q s (answer_of single_sizes step)) g.stage
    ∙ sym (stage_more q (answers_of single_sizes g.done) (answer_of single_sizes step))
    ∙ ap (stage_at q) (sym (answers_more g.done step))

pub under_drew : (q : Question) (before now : Journal) (told drawn then : Option (List (List ℕ))) (d e : Deciding) (words : List ℕ) → IsUnderWay q before now told drawn d
    → Draw ≡ asked_of d → Adds drawn then (words ∷ []) → AreWords words → e ≡ record d { stage = stage_after d.question d.stage (Words words) }
    → asks_left e.stage < asks_left d.stage → IsUnderWay q before now told then e
under_drew q before now told drawn then d e words g asks adds form new fewer =
    let step : Step = Drew words in
    let fuel = fuel_for g.fuel (asks_left d.stage) (asks_left e.stage) g.enough fewer in
    let before_it : draws_in g.done ≡ [] = no_draws g asks in
    let draws : draws_in (g.done ++ step ∷ []) ≡ draws_in g.done ++ words ∷ [] = draws_more g.done (step ∷ []) in
    let calls : calls_in (g.done ++ step ∷ []) ≡ calls_in g.done = calls_more g.done (step ∷ []) ∙ append-nil (calls_in g.done) in
    let left : asks_left d.stage ≡ 2 = left_at_draw d asks in
    record {
      done = g.done ++ step ∷ [];
      fuel = fuel.rest;
      question = ap (λ (x : Deciding). x.question) new ∙ g.question;
      stage = ap (λ (x : Deciding). x.stage) new ∙ stage_then g step;
      enough = fuel.enough;
      last_draw = inr (omega arith);
      table = g.table ∙ ap (λ (l : List Call). with_calls before l) (sym calls);
      goes = λ w serves.
          let two = serves_last w (draws_in g.done) words (subst (λ (l : List (List ℕ)). Serves w l) draws serves) in
          g.goes w two.0
          ∙ ap (λ (n : ℕ). conduct n q w before.calls g.done) fuel.is
          ∙ one_more fuel.rest q w before.calls g.done Draw step (asks_now g Draw asks) (ap (λ (x : List ℕ). Some (Drew x)) two.1);
      words = subst OneDraw (sym (draws ∙ ap (λ (l : List (List ℕ)). l ++ words ∷ []) before_it)) form;
      adds = subst (λ (l : List (List ℕ)). Adds told then l) (sym draws) (Adds_trans told drawn then (draws_in g.done) (words ∷ []) g.adds adds);
    }

pub under_called : (q : Question) (before now then : Journal) (told drawn : Option (List (List ℕ))) (d e : Deciding) (shard : ℕ) (call : Call) (r : Reply) → IsUnderWay q before now told drawn d
    → Table shard call ≡ asked_of d → shard ≡ 0 → now.sizes ≡ single_sizes → r ≡ reply now.sizes 0 now.calls call → then ≡ record now { calls = now.calls ++ call ∷ [] }
    → e ≡ record d { stage = stage_after d.question d.stage (Replied r) } → asks_left e.stage < asks_left d.stage → IsUnderWay q before then told drawn e
under_called q before now then told drawn d e shard call r g asks zero_is sizes answers grown new fewer =
    let past : List Call = before.calls ++ calls_in g.done in
    let step : Step = Called shard past call in
    let fuel = fuel_for g.fuel (asks_left d.stage) (asks_left e.stage) g.enough fewer in
    let draws : draws_in (g.done ++ step ∷ []) ≡ draws_in g.done = draws_more g.done (step ∷ []) ∙ append-nil (draws_in g.done) in
    let calls : calls_in (g.done ++ step ∷ []) ≡ calls_in g.done ++ call ∷ [] = calls_more g.done (step ∷ []) in
    let there : now.calls ≡ past = ap (λ (j : Journal). j.calls) g.table in
    let replied : r ≡ reply single_sizes shard past call =
    answers ∙ ap (λ (s : Sizes). reply s 0 now.calls call) sizes
    ∙ ap (λ (l : List Call). reply single_sizes 0 l call) there
    ∙ ap (λ (n : ℕ). reply single_sizes n past call) (sym zero_is) in
    let lower : asks_left e.stage ≤ asks_left d.stage = omega arith in
    record {
      done = g.done ++ step ∷ [];
      fuel = fuel.rest;
      question = ap (λ (x : Deciding). x.question) new ∙ g.question;
      stage = ap (λ (x : Deciding). x.stage) new ∙ ap (λ (x : Reply). stage_after d.question d.stage (Replied x)) replied ∙ stage_then g step;
      enough = fuel.enough;
      last_draw = later (asks_left e.stage) (asks_left d.stage) lower g.last_draw draws;
      table = grown ∙ ap (λ (j : Journal). let x : Journal = record j { calls = j.calls ++ call ∷ [] } in x) g.table
          ∙ ap (λ (l : List Call). let x : Journal = record before { calls = l } in x) (append_assoc before.calls (calls_in g.done) (call ∷ []) ∙ ap (λ (l : List Call). before.calls ++ l) (sym calls));
      goes = λ w serves.
          g.goes w (subst (λ (l : List (List ℕ)). Serves w l) draws serves)
          ∙ ap (λ (n : ℕ). conduct n q w before.calls g.done) fuel.is
          ∙ one_more fuel.rest q w before.calls g.done (Table shard call) step (asks_now g (Table shard call) asks) refl;
      words = subst OneDraw (sym draws) g.words;
      adds = subst (λ (l : List (List ℕ)). Adds told drawn l) (sym draws) g.adds;
    }
  where
    later : (new old : ℕ) → new ≤ old → (draws_in g.done ≡ []) ⊎ (old ≤ 1) → draws_in (g.done ++ Called shard (before.calls ++ calls_in g.done) call ∷ []) ≡ draws_in g.done
        → (draws_in (g.done ++ Called shard (before.calls ++ calls_in g.done) call ∷ []) ≡ []) ⊎ (new ≤ 1)
    later new old lower (inl none) same = inl (same ∙ none)
    later new old lower (inr late) same = inr (omega arith)

-- ---- the end

zero_at : (n k : ℕ) → slice_index (replicate n 0) k ≡ 0
zero_at zero k = refl
zero_at (suc n) zero = refl
zero_at (suc n) (suc k) = zero_at n k

-- sixteen zeros serve where nothing was drawn
pub zeros : AreWords (replicate 16 0)
zeros = record { long = refl; bytes = λ k. (let e = zero_at 16 k in omega (arith, e)) }

pub record Drawn (draws : List (List ℕ)) : Type 0 where
  pub words : List ℕ
  pub form : AreWords words
  pub serves : Serves words draws

drawn_words : (draws : List (List ℕ)) → OneDraw draws → Drawn draws
drawn_words [] one = record { words = replicate 16 0; form = zeros; serves = tt }
drawn_words (words ∷ []) one = record { words = words; form = one; serves = (refl, tt) }
drawn_words (words ∷ next ∷ more) one = absurd one

pub under_ends : (q : Question) (before now : Journal) (told drawn : Option (List (List ℕ))) (d : Deciding) (verdict : VerdictValue) → IsUnderWay q before now told drawn d
    → Verdict verdict ≡ asked_of d → IsEnded q before now told drawn verdict
under_ends q before now told drawn d verdict g asks =
    let one = drawn_words (draws_in g.done) g.words in
    let here = asks_now g (Verdict verdict) asks in
    let steps : steps_for q one.words before.calls ≡ g.done = g.goes one.words one.serves ∙ ended_at g.fuel q one.words before.calls g.done verdict here in
    record {
      words = one.words;
      form = one.form;
      is = ap (λ (l : List Step). asked q (answers_of single_sizes l)) steps ∙ here;
      table = g.table ∙ ap (λ (l : List Step). with_calls before (calls_in l)) (sym steps);
      adds = subst (λ (l : List Step). Adds told drawn (draws_in l)) (sym steps) g.adds;
    }

pub under_begins : (q : Question) (before now : Journal) (told drawn : Option (List (List ℕ))) (d : Deciding) → IsUnderWay q before now told drawn d → Begins before now
under_begins q before now told drawn d g = (calls_in g.done, g.table)

-- a call was made, and then there was no memory
pub under_called_begins : (q : Question) (before now then : Journal) (told drawn : Option (List (List ℕ))) (d : Deciding) (call : Call) → IsUnderWay q before now told drawn d
    → then ≡ record now { calls = now.calls ++ call ∷ [] } → Begins before then
under_called_begins q before now then told drawn d call g grown = (
  calls_in g.done ++ call ∷ [],
  grown ∙ ap (λ (j : Journal). let x : Journal = record j { calls = j.calls ++ call ∷ [] } in x) g.table
      ∙ ap (λ (l : List Call). let x : Journal = record before { calls = l } in x) (append_assoc before.calls (calls_in g.done) (call ∷ [])),
)

longer : (before done more : List Call) (call : Call) (limit : ℕ) → length (before ++ done) ≡ limit → limit < length (before ++ (done ++ (call ∷ more)))
longer before done more call limit full =
    let a = length-append before done in
    let b = length-append before (done ++ (call ∷ more)) in
    let c = length-append done (call ∷ more) in
    omega (arith, a, b, c, full)

-- the table takes no more
pub under_over : (q : Question) (before now : Journal) (told drawn : Option (List (List ℕ))) (d : Deciding) (shard : ℕ) (call : Call) (calls : ℕ) → IsUnderWay q before now told drawn d
    → Table shard call ≡ asked_of d → calls ≡ now.limit → length now.calls ≡ now.limit → IsOver q before now calls
under_over q before now told drawn d shard call calls g asks limit full =
    let one = drawn_words (draws_in g.done) g.words in
    let past : List Call = before.calls ++ calls_in g.done in
    let step : Step = Called shard past call in
    let r : Reply = reply single_sizes shard past call in
    let can : CanAnswer r call.what = reply_to_can_answer single_sizes shard (answered single_sizes shard past) (time_at (answered single_sizes shard past) call.moment) call.what in
    let fewer = reply_fewer d.question d.stage r (subst (IsCallFor r) asks can) in
    let fuel = fuel_for g.fuel (asks_left d.stage) (asks_left (stage_after d.question d.stage (Replied r))) g.enough fewer in
    let on = begins fuel.rest q one.words before.calls (g.done ++ step ∷ []) in
    let steps : steps_for q one.words before.calls ≡ g.done ++ (step ∷ on.0) =
    g.goes one.words one.serves
    ∙ ap (λ (n : ℕ). conduct n q one.words before.calls g.done) fuel.is
    ∙ one_more fuel.rest q one.words before.calls g.done (Table shard call) step (asks_now g (Table shard call) asks) refl
    ∙ on.1 ∙ append_assoc g.done (step ∷ []) on.0 in
    let its_calls : calls_in (steps_for q one.words before.calls) ≡ calls_in g.done ++ (call ∷ calls_in on.0) = ap calls_in steps ∙ calls_more g.done (step ∷ on.0) in
    let same_limit : now.limit ≡ before.limit = ap (λ (j : Journal). j.limit) g.table in
    let there : length past ≡ before.limit = ap (λ (j : Journal). length j.calls) (sym g.table) ∙ full ∙ same_limit in
    record {
      words = one.words;
      form = one.form;
      limit = limit ∙ same_limit;
      full = full ∙ same_limit;
      over = subst (λ (l : List Call). before.limit < length (before.calls ++ l)) (sym its_calls) (longer before.calls (calls_in g.done) (calls_in on.0) call before.limit there);
    }

-- ---- for the calls

pub at_zero : (shard : ℕ) → shard < 1 → shard ≡ 0
at_zero shard inside = omega arith

pub drew_words : (words : List ℕ) → length words ≡ 16 → IsBytes words → AreWords words
drew_words words long bytes = record { long = long; bytes = bytes }

-- the reply to a call answers it
pub call_is_for : (d : Deciding) (table : Journal) (shard : ℕ) (call : Call) (r : Reply) → Table shard call ≡ asked_of d → r ≡ reply table.sizes 0 table.calls call → IsCallFor r (asked_of d)
call_is_for d table shard call r asks is =
    let past = answered table.sizes 0 table.calls in
    let can : CanAnswer (reply table.sizes 0 table.calls call) call.what = reply_to_can_answer table.sizes 0 past (time_at past call.moment) call.what in
    subst (IsCallFor r) asks (subst (λ (x : Reply). CanAnswer x call.what) (sym is) can)

pub begun_same : (before now table : Journal) → now ≡ table → Begins before table → Begins before now
begun_same before now table same b = subst (Begins before) (sym same) b

pub over_same : (q : Question) (before now table : Journal) (calls : ℕ) → now ≡ table → IsOver q before table calls → IsOver q before now calls
over_same q before now table calls same b = subst (λ (j : Journal). IsOver q before j calls) (sym same) b
