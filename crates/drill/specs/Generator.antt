-- Events and words that a number generates.
use Rattle.std.specs.Prelude.{◌≡◌, ℕ, zero, suc, ◌+◌, ◌*◌, ◌/◌, ◌%◌, ◌^◌, ◌==◌, nat_le, if◌then◌else◌, List, [], ◌∷◌, ◌++◌, length, ⊤}
use Rattle.std.specs.Int.{w32, to_be_bytes}
use Rattle.drill.specs.declared.event.DrillEvent.{DrillEvent}
use Rattle.drill.specs.declared.event.DrillEvent.TheVariants.{Challenge, Make, Deliver, Pass}
use Rattle.drill.specs.World.{Happening, IsSound, World, draws, line_of, run, start, step}

-- ---- numbers

-- the generator moves on, and gives its upper half
unfoldable pub moved : ℕ → ℕ
moved x = (x * 6364136223846793005 + 1442695040888963407) % 2 ^ 64

unfoldable pub upper : ℕ → ℕ
upper x = x / 2 ^ 32

-- ---- words

-- sixteen bytes are four numbers, the greatest byte of each first
unfoldable pub words_from : ℕ → List ℕ
words_from x =
    let a = moved x in
    let b = moved a in
    let c = moved b in
    to_be_bytes w32 (upper a) ++ to_be_bytes w32 (upper b) ++ to_be_bytes w32 (upper c) ++ to_be_bytes w32 (upper (moved c))

-- so often sixteen bytes, one after the other, and the generator behind them
abbrev pub words_in_turn : ℕ → ℕ → List (List ℕ)
words_in_turn zero x = []
words_in_turn (suc n) x = words_from x ∷ words_in_turn n (moved (moved (moved (moved x))))

abbrev pub behind_words : ℕ → ℕ → ℕ
behind_words zero x = x
behind_words (suc n) x = behind_words n (moved (moved (moved (moved x))))

-- ---- events

-- Where requests were made, a number picks one of them. Where none were made, nothing happens.
abbrev pub generated_delivery : ℕ → ℕ → DrillEvent × ℕ
generated_delivery zero x = (Pass 0, x)
generated_delivery (suc made) x = (Deliver (upper (moved x) % suc made), moved x)

-- the event that a number below ten stands for, where so many requests were made, and the generator behind it
abbrev pub event_by : ℕ → ℕ → ℕ → DrillEvent × ℕ
event_by kind made x =
    if kind == 0 then (Challenge, x)
    else if nat_le kind 4 then (Make, x)
    else if nat_le kind 8 then generated_delivery made x
    else (Pass (upper (moved x) % 120), moved x)

abbrev pub generated_event : ℕ → ℕ → DrillEvent × ℕ
generated_event made x = event_by (upper (moved x) % 10) made (moved x)

-- ---- happenings

-- the event that is generated in a world, and the generator behind it
abbrev pub event_at : ℕ → World → DrillEvent × ℕ
event_at x w = generated_event (length w.scene.made) x

-- The event is generated, and then the words that are drawn in it, if any are.
pub record IsGenerated (x : ℕ) (w : World) (h : Happening) : Type 0 where
  pub event : h.event ≡ (event_at x w).0
  pub words : draws w h ≡ words_in_turn (length (draws w h)) (event_at x w).1
  pub sound : IsSound w h

-- the generator behind what happened
abbrev pub behind : ℕ → World → Happening → ℕ
behind x w h = behind_words (length (draws w h)) (event_at x w).1

-- one after the other
abbrev pub AreGenerated : ℕ → List Happening → World → Type 0
AreGenerated x [] w = ⊤
AreGenerated x (h ∷ happenings) w = IsGenerated x w h × AreGenerated (behind x w h) happenings (step w h)

-- the line of so many steps that a number generates
pub record IsDrillLine (seed steps : ℕ) (text : List ℕ) : Type 0 where
  pub happenings : List Happening
  pub number : length happenings ≡ steps
  pub generated : AreGenerated seed happenings start
  pub is : text ≡ line_of (run happenings start).scene steps
