-- What was done to decide on a request.
use Rattle.std.proofs.Common.{◌≡◌, ◌⊎◌, inl, inr, ℕ, zero, suc, List, [], ◌∷◌, ◌++◌, Option, Some, None, refl, sym, ap, subst}
use Rattle.std.specs.Option.{option_map_or}
use Rattle.auth_decide.specs.Asks.{asked}
use Rattle.auth_decide.specs.Stages.{Question}
use Rattle.auth_decide.specs.declared.verdict.Ask.{Ask}
use Rattle.auth_decide.specs.declared.verdict.Ask.TheVariants.{Draw, Table, Verdict}
use Rattle.nonce_shard.specs.Sizes.{single_sizes}
use Rattle.nonce_shard.specs.declared.calls.Call.{Call}
use Rattle.admission.specs.Steps.{Step, Drew, Called, AreAsked, answers_of, ask_of}
use Rattle.drill.specs.Deciding.{calls_in, conduct, done_for, steps_for}
use Rattle.drill.proofs.Lists.{snoc_split}

-- Each call is made behind the calls that there were and those made before it.
abbrev pub IsPlaced : List Call → List Step → Step → Type 0
IsPlaced calls before (Drew words) = Unit {0}
IsPlaced calls before (Called shard past call) = past ≡ calls ++ calls_in before

-- Each step is what was asked, at its place.
abbrev AreRight : Question → List Call → List Step → Type 0
AreRight q calls steps = (before : List Step) (step : Step) (after : List Step) → steps ≡ before ++ step ∷ after
    → (asked q (answers_of single_sizes before) ≡ ask_of step) × IsPlaced calls before step

done_is : (ask : Ask) (words : List ℕ) (calls : List Call) (step : Step) → done_for ask words calls ≡ Some step → ask ≡ ask_of step
done_is Draw words calls step e = ap ask_of (let same : Some (Drew words) ≡ Some step = e in let s : Drew words ≡ step = cc in s)
done_is (Table shard call) words calls step e = ap ask_of (let same : Some (Called shard calls call) ≡ Some step = e in let s : Called shard calls call ≡ step = cc in s)
done_is (Verdict v) words calls step e = absurd (let no : None ≡ Some step = e in cc)

done_placed : (ask : Ask) (words : List ℕ) (calls : List Call) (done : List Step) (step : Step) → done_for ask words (calls ++ calls_in done) ≡ Some step → IsPlaced calls done step
done_placed Draw words calls done step e = let is : Drew words ≡ step = (let same : Some (Drew words) ≡ Some step = e in cc) in subst (IsPlaced calls done) is tt
done_placed (Table shard call) words calls done step e =
    let is : Called shard (calls ++ calls_in done) call ≡ step = (let same : Some (Called shard (calls ++ calls_in done) call) ≡ Some step = e in cc) in
    subst (IsPlaced calls done) is refl
done_placed (Verdict v) words calls done step e = absurd (let no : None ≡ Some step = e in cc)

right_more : (q : Question) (calls : List Call) (done : List Step) (step : Step) → AreRight q calls done
    → (asked q (answers_of single_sizes done) ≡ ask_of step) × IsPlaced calls done step → AreRight q calls (done ++ step ∷ [])
right_more q calls done step all next before x after e = by (snoc_split done step before x after e)
  where
    by : ((rest : List Step) × (done ≡ before ++ x ∷ rest)) ⊎ ((before ≡ done) × (x ≡ step))
        → (asked q (answers_of single_sizes before) ≡ ask_of x) × IsPlaced calls before x
    by (inl p) = all before x p.0 p.1
    by (inr p) =
        let P : List Step → Step → Type 0 = λ l s. (asked q (answers_of single_sizes l) ≡ ask_of s) × IsPlaced calls l s in
        subst (λ (l : List Step). P l x) (sym p.0) (subst (λ (s : Step). P done s) (sym p.1) next)

all_right : (n : ℕ) (q : Question) (words : List ℕ) (calls : List Call) (done : List Step) → AreRight q calls done → AreRight q calls (conduct n q words calls done)
unfolding conduct
all_right zero q words calls done all = all
all_right (suc n) q words calls done all = by (done_for (asked q (answers_of single_sizes done)) words (calls ++ calls_in done)) refl (λ step. all_right n q words calls (done ++ step ∷ []))
  where
    by : (o : Option Step) → done_for (asked q (answers_of single_sizes done)) words (calls ++ calls_in done) ≡ o
        → ((step : Step) → AreRight q calls (done ++ step ∷ []) → AreRight q calls (conduct n q words calls (done ++ step ∷ [])))
        → AreRight q calls (option_map_or (λ step. conduct n q words calls (done ++ step ∷ [])) o done)
    by None is again = all
    by (Some step) is again = again step (right_more q calls done step all (
      done_is (asked q (answers_of single_sizes done)) words (calls ++ calls_in done) step is,
      done_placed (asked q (answers_of single_sizes done)) words calls done step is,
    ))

none_done : (q : Question) (calls : List Call) → AreRight q calls []
none_done q calls [] x after e = absurd (let no : [] ≡ x ∷ after = e in cc)
none_done q calls (b ∷ before) x after e = absurd (let no : [] ≡ b ∷ (before ++ x ∷ after) = e in cc)

steps_right : (q : Question) (words : List ℕ) (calls : List Call) → AreRight q calls (steps_for q words calls)
unfolding steps_for
steps_right q words calls = all_right 5 q words calls [] (none_done q calls)

pub steps_asked : (q : Question) (words : List ℕ) (calls : List Call) → AreAsked single_sizes q (steps_for q words calls)
steps_asked q words calls before step after is = (steps_right q words calls before step after is).0

pub steps_placed : (q : Question) (words : List ℕ) (calls : List Call) (before : List Step) (shard : ℕ) (past : List Call) (call : Call) (after : List Step)
    → steps_for q words calls ≡ before ++ Called shard past call ∷ after → past ≡ calls ++ calls_in before
steps_placed q words calls before shard past call after is = (steps_right q words calls before (Called shard past call) after is).1
