-- Which counts a window admits, from the list of those that it has admitted.
use Rattle.std.specs.Prelude.{◌≡◌, ℕ, ◌+◌, ◌-◌, ◌<◌, ◌≤◌, Bool, ◌==◌, if◌then◌else◌, nat_le, max, List, [], ◌∷◌, ◌++◌, fold}
use Rattle.std.specs.List.{list_any}
use Rattle.std.specs.Int.{bit_at}
use Rattle.count_window.specs.declared.window.Window.{Window}
use Rattle.count_window.specs.declared.window.Admit.{Admit}
use Rattle.count_window.specs.declared.window.Admit.TheVariants.{Fresh, Repeated, Behind}
use Rattle.count_window.specs.declared.window.TheConstants.{WIDTH}

-- the greatest of some counts, or 0
abbrev pub high : List ℕ → ℕ
high counts = fold max 0 counts

abbrev pub is_admitted : List ℕ → ℕ → Bool
is_admitted counts count = list_any (λ c. c == count) counts

-- whether a count is too far below the greatest
abbrev pub is_behind : List ℕ → ℕ → Bool
is_behind counts count = nat_le (count + WIDTH) (high counts)

-- whether the next count is admitted
abbrev pub admission : List ℕ → ℕ → Admit
admission counts count = if is_behind counts count then Behind (high counts) else if is_admitted counts count then Repeated else Fresh

abbrev pub with_fresh : List ℕ → ℕ → Admit → List ℕ
with_fresh counts count Fresh = counts ++ count ∷ []
with_fresh counts count Repeated = counts
with_fresh counts count (Behind high) = counts

-- the counts that are admitted then
abbrev pub counts_after : List ℕ → ℕ → List ℕ
counts_after counts count = with_fresh counts count (admission counts count)

-- whether the window marks a count
abbrev pub is_marked : Window → ℕ → Bool
is_marked w count = bit_at w.mask (w.high - count) == 1

-- The window is that of these admitted counts: it has the greatest, and marks those of them that it tells apart.
pub record StandsFor (w : Window) (counts : List ℕ) : Type 0 where
  pub high_is : w.high ≡ high counts
  pub marks : (count : ℕ) → count ≤ w.high → w.high < count + WIDTH → is_marked w count ≡ is_admitted counts count
