-- What is asked after some answers, as a fold over them.
use Rattle.std.proofs.Common.{◌≡◌, List, [], ◌∷◌, ◌++◌, refl}
use Rattle.std.proofs.lemmas.List.Sums.{fold-append}
use Rattle.auth_decide.specs.Asks.{asked, next_ask}
use Rattle.auth_decide.specs.Stages.{Answer, Question, first_stage, stage_after, stage_at}

pub asked_at : (q : Question) (answers : List Answer) → asked q answers ≡ next_ask q (stage_at q answers)
unfolding asked
asked_at q answers = refl

-- one more answer leads on by one step
pub stage_more : (q : Question) (answers : List Answer) (answer : Answer) → stage_at q (answers ++ answer ∷ []) ≡ stage_after q (stage_at q answers) answer
stage_more q answers answer = fold-append (stage_after q) (first_stage q) answers (answer ∷ [])
