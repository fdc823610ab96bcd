-- What a step tells, of the seat before it, the number that it found and the seat after it.
use Rattle.std.specs.Prelude.{◌≡◌, ◌≢◌, ℕ, ◌%◌, ◌^◌, ◌<◌, ◌≤◌, ◌⊎◌, List, [], ◌∷◌, ◌++◌, length, Option, Some, None}
use Rattle.atomic_table.specs.Table.{Me, rest}
use Rattle.turn_table.specs.declared.object.TheConstants.{MOST_CALLS}
use Rattle.turn_table.specs.declared.view.View.{View}
use Rattle.turn_table.specs.declared.view.Turn.TheVariants.{Idle, Waiting, Ready, Holding}
use Rattle.turn_table.specs.Lists.{BeginsWith}
use Rattle.turn_table.specs.History.{Entry, calls_in, GrownByOthers}
use Rattle.turn_table.specs.Views.{committed}

module _ {D C S : Type 0} where
  -- the pass drew a number, of which the word has the low 64 bits
  abbrev pub Drew : Me (Option D) (View C S) → ℕ → Me (Option D) (View C S) → Type 0
  Drew m found w = (n : ℕ) × (found ≡ n % 2 ^ 64) × (w ≡ (record (m.0) { turn = Waiting n }, m.1))

  -- a pass that waits has the turn exactly where its number is served
  abbrev pub Watched : Me (Option D) (View C S) → ℕ → Me (Option D) (View C S) → Type 0
  Watched m found w = (n : ℕ) → m.0.turn ≡ Waiting n
      → (found ≡ n % 2 ^ 64 → w ≡ (record (m.0) { turn = Ready }, m.1)) × (found ≢ n % 2 ^ 64 → w ≡ m)

  -- the pass that has the turn holds the object now, which stands for a history of the number of calls found
  pub record Took (stands : D → List C → Type 0) (setting : D → S) (m : Me (Option D) (View C S)) (found : ℕ)
      (w : Me (Option D) (View C S)) : Type 0 where
    pub object : D
    pub log : List (Entry C)
    pub long : length log ≡ found
    pub me : w ≡ (record (m.0) { turn = Holding log }, (0, Some object) ∷ m.1)
    pub stands_is : stands object (calls_in log)
    pub setting_is : m.0.setting ≡ Some (setting object)
    pub own : GrownByOthers log m.0.owner m.0.seen

  -- the pass that has the turn has noted the number of calls found, the most that there can be
  pub record Noted (m : Me (Option D) (View C S)) (found : ℕ) (w : Me (Option D) (View C S)) : Type 0 where
    pub most : found ≡ MOST_CALLS
    pub below : m.0.noted ≤ found
    pub me : w ≡ (record (m.0) { turn = Ready; noted = found }, m.1)

  abbrev pub Counted : (D → List C → Type 0) → (D → S) → Me (Option D) (View C S) → ℕ → Me (Option D) (View C S) → Type 0
  Counted stands setting m found w = (found < MOST_CALLS → Took stands setting m found w) × (MOST_CALLS ≤ found → Noted m found w)

  -- the pass holds the object, whose history has room for one more call
  pub record HoldsObject (stands : D → List C → Type 0) (setting : D → S) (m : Me (Option D) (View C S)) : Type 0 where
    pub object : D
    pub log : List (Entry C)
    pub turn : m.0.turn ≡ Holding log
    pub out : m.1 ≡ (0, Some object) ∷ []
    pub stands_is : stands object (calls_in log)
    pub setting_is : m.0.setting ≡ Some (setting object)
    pub room : length log < MOST_CALLS

  -- the pass that holds the object has seen its history and the new entry
  abbrev pub Committed : Me (Option D) (View C S) → Option C → Me (Option D) (View C S) → Type 0
  Committed m None w = Unit {0}
  Committed m (Some c) w = (l : List (Entry C)) → m.0.turn ≡ Holding l → w ≡ (committed m.0 (l ++ (m.0.owner, c) ∷ []), m.1)

  -- the pass may end its turn: it never took the object, or it gave back one that stands for the history
  abbrev pub CanPassOn : (D → List C → Type 0) → (D → S) → Me (Option D) (View C S) → Type 0
  CanPassOn stands setting m = ((m.0.turn ≡ Ready) × (m.1 ≡ []))
      ⊎ ((o : D) × (l : List (Entry C)) × (m.0.turn ≡ Holding l) × (m.1 ≡ (0, Some o) ∷ []) × stands o (calls_in l)
      × (m.0.setting ≡ Some (setting o)))

  -- the pass has ended its turn, and nothing is out with it
  abbrev pub Passed : Me (Option D) (View C S) → Me (Option D) (View C S) → Type 0
  Passed m w = w ≡ (record (m.0) { turn = Idle }, rest m.1)

  -- the lists that were joined are of one history
  abbrev pub Looked : Me (Option D) (View C S) → Me (Option D) (View C S) → Type 0
  Looked m w = (w ≡ (record (m.0) { was = m.0.seen; heard = [] }, m.1)) × GrownByOthers m.0.seen m.0.owner m.0.was
      × BeginsWith m.0.seen m.0.heard
