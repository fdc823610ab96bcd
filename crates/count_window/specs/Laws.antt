-- A window's answers follow from the counts alone.
use Rattle.std.specs.Prelude.{◌≡◌, ℕ, List}
use Rattle.count_window.specs.declared.window.Window.{Window}
use Rattle.count_window.specs.Window.{StandsFor, is_admitted, admission, counts_after}

-- lists of the same counts, in whatever order and however often
abbrev pub SameCounts : List ℕ → List ℕ → Type 0
SameCounts one other = (count : ℕ) → is_admitted one count ≡ is_admitted other count

-- whoever stands for one list stands for the other, each count is answered alike, and the lists then have the same counts again
pub record AnswerAlike (one other : List ℕ) : Type 0 where
  pub windows : (w : Window) → StandsFor w one → StandsFor w other
  pub answers : (count : ℕ) → admission one count ≡ admission other count
  pub lasting : (count : ℕ) → SameCounts (counts_after one count) (counts_after other count)

abbrev pub AnswersFollowFromCounts : Type 0
AnswersFollowFromCounts = (one other : List ℕ) → SameCounts one other → AnswerAlike one other
