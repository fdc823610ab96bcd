-- What is done to decide on a request: words that are drawn, and calls of the nonce table.
use Rattle.std.specs.Prelude.{◌≡◌, ℕ, Bool, true, false, if◌then◌else◌, List, [], ◌∷◌, ◌++◌, map, Option, Some, None, slice_get}
use Rattle.std.specs.List.{filter_map}
use Rattle.std.specs.Option.{option_or}
use Rattle.nonce_shard.specs.Replies.{reply}
use Rattle.nonce_shard.specs.declared.calls.Call.{Call}
use Rattle.nonce_shard.specs.declared.calls.What.{What}
use Rattle.nonce_shard.specs.declared.calls.What.TheVariants.{Issue, Peek, Use}
use Rattle.nonce_shard.specs.declared.sizes.Sizes.{Sizes}
use Rattle.auth_decide.specs.Asks.{asked}
use Rattle.auth_decide.specs.Stages.{Answer, Question, Replied, Words}
use Rattle.auth_decide.specs.declared.verdict.Ask.{Ask}
use Rattle.auth_decide.specs.declared.verdict.Ask.TheVariants.{Draw, Table}

-- words, or a call on a shard with the calls that the shard had had before it
pub data Step : Type 0 where
  Drew : List ℕ → Step
  Called : ℕ → List Call → Call → Step

abbrev pub ask_of : Step → Ask
ask_of (Drew words) = Draw
ask_of (Called shard before call) = Table shard call

-- Each call is answered as by a table of one thread behind the calls before it.
abbrev pub answer_of : Sizes → Step → Answer
answer_of sizes (Drew words) = Words words
answer_of sizes (Called shard before call) = Replied (reply sizes shard before call)

abbrev pub answers_of : Sizes → List Step → List Answer
answers_of sizes steps = map (answer_of sizes) steps

-- Each step is what was asked after the answers of those before it.
abbrev pub AreAsked : Sizes → Question → List Step → Type 0
AreAsked sizes q steps = (before : List Step) (step : Step) (after : List Step) → steps ≡ before ++ step ∷ after
    → asked q (answers_of sizes before) ≡ ask_of step

-- ---- the calls behind which a nonce is judged

abbrev pub is_use : What → Bool
is_use (Use nonce kind space count prime) = true
is_use _ = false

abbrev pub is_peek : What → Bool
is_peek (Peek nonce space) = true
is_peek _ = false

-- the calls before a step, where it is such a call
abbrev pub calls_before : (What → Bool) → Step → Option (List Call)
calls_before is (Drew words) = None
calls_before is (Called shard before call) = if is call.what then Some before else None

-- the calls before the first such call
abbrev pub calls_before_first : (What → Bool) → List Step → Option (List Call)
calls_before_first is steps = slice_get (filter_map (calls_before is) steps) 0

-- the calls before the use of the nonce, or before its look-up where it isn't used
abbrev pub calls_before_nonce : List Step → Option (List Call)
calls_before_nonce steps = option_or (calls_before_first is_use steps) (calls_before_first is_peek steps)

-- a draw and an issue, or nothing
abbrev pub IsIssue : What → Type 0
IsIssue (Issue kind space random) = Unit {0}
IsIssue _ = ⊥

abbrev pub OnlyIssue : List Step → Type 0
OnlyIssue [] = Unit {0}
OnlyIssue (Drew words ∷ Called shard before call ∷ []) = IsIssue call.what
OnlyIssue _ = ⊥
