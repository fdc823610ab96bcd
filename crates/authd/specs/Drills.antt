-- What `drill` does: it prints the line of a drill that a seed generates.
use Rattle.std.specs.Prelude.{◌≡◌, ◌⊎◌, ℕ, List, Err}
use Rattle.connection_loop.specs.Account.{LinkState}
use Rattle.drill.specs.Generator.{IsDrillLine}
use Rattle.authd.specs.Endings.{Ending}
use Rattle.authd.specs.Printing.{Prints}
use Rattle.authd.specs.declared.failure.Failure.TheVariants as failure

-- Where there is memory for the drill its line is printed. Nothing is read.
abbrev pub Drills : ℕ → ℕ → LinkState → LinkState → Ending → Type 0
Drills seed steps link link' ending =
    ((ending ≡ Err failure.OutOfMemory) × (link' ≡ link))
    ⊎ ((line : List ℕ) × IsDrillLine seed steps line × (link'.left ≡ link.left) × Prints line link.written link'.written ending)
