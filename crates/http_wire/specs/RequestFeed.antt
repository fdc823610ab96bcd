-- What a feed of requests holds, and what it gives.
use Rattle.std.specs.Prelude.{◌≡◌, ℕ, ◌+◌, ◌-◌, Bool, true, false, List, ◌++◌, length, if◌then◌else◌}
use Rattle.http_wire.specs.declared.request.Next.{Next}
use Rattle.http_wire.specs.declared.request.Next.TheVariants.{Message, Continue, NeedMore, Bad, OutOfMemory}
use Rattle.http_wire.specs.Requests.{Unfinished, Whole, Wrong, front, is_due}

-- what a feed holds: the bytes after the messages that it gave, their place, whether a Continue was given for them, and
-- whether it stopped at a bad message
pub record Held : Type 0 where
  pub rest : List ℕ
  pub at : ℕ
  pub told : Bool
  pub stopped : Bool

-- ---- what it gives

-- after more bytes came
abbrev pub pushed : Held → List ℕ → Held
pushed held piece = if held.stopped then held else record held { rest = held.rest ++ piece }

-- What next gives is what stands at the front of the bytes that it holds, and after a message it holds what follows.
abbrev pub Gives : Held → Held → Next → Type 0
Gives old new (Message request) =
    (due : Bool) × (rest : List ℕ) × (front old.rest ≡ Whole due request rest) × (due ≡ true → old.told ≡ true)
    × (new ≡ record { rest = rest; at = old.at + (length old.rest - length rest); told = false; stopped = false })
Gives old new Continue = (is_due (front old.rest) ≡ true) × (old.told ≡ false) × (new ≡ record old { told = true })
Gives old new NeedMore = (due : Bool) × (front old.rest ≡ Unfinished due) × (due ≡ true → old.told ≡ true) × (new ≡ old)
Gives old new (Bad status at) = (front old.rest ≡ Wrong status) × (at ≡ old.at) × (new ≡ record old { stopped = true })
Gives old new OutOfMemory = (old.stopped ≡ false) × (new ≡ old)
