-- What holds of a table's words, its slot and all views between any two steps.
use Rattle.std.specs.Prelude.{◌≡◌, ℕ, ◌+◌, ◌%◌, ◌^◌, ◌<◌, ◌≤◌, ◌⊎◌, true, List, [], ◌∷◌, length, Option, Some}
use mathlib.Core.Option.{some, none}
use lib.ListN.{get_elem?}
use Rattle.atomic_table.specs.Table.{State}
use Rattle.atomic_table.specs.Seated.{TableId}
use Rattle.turn_table.specs.declared.object.TheConstants.{MOST_CALLS}
use Rattle.turn_table.specs.declared.view.View.{View}
use Rattle.turn_table.specs.declared.view.Turn.{Turn}
use Rattle.turn_table.specs.declared.view.Turn.TheVariants.{Idle, Waiting, Ready, Holding}
use Rattle.turn_table.specs.Lists.{Each, BeginsWith, Lacks, Differ}
use Rattle.turn_table.specs.History.{Entry, calls_in, GrownByOthers, owners_of}

-- a table under turns has three words and one slot, and the seat is of this table
pub record IsSeatOf (seat table : TableId) : Type 0 where
  pub same : seat ≡ table
  pub words : table.words ≡ 3
  pub slots : table.slots ≡ 1

-- the slot: the object at home, or out with a seat
abbrev pub Slot : Type 0 → Type 0
Slot D = mathlib.Core.Option.Option (Option D)

module _ {C : Type 0} where
  abbrev pub IsHolding : Turn C → Type 0
  IsHolding Idle = ⊥
  IsHolding (Waiting n) = ⊥
  IsHolding Ready = ⊥
  IsHolding (Holding l) = Unit {0}

module _ {D C : Type 0} where
  -- an owner's turn is in order: the queue has the owners of the numbers from `served` on, and the first of them may hold the object
  abbrev pub TurnFits : List (Entry C) → ℕ → List ℕ → List (Slot D) → ℕ → Turn C → Type 0
  TurnFits log served queue homes owner Idle = Lacks owner queue
  TurnFits log served queue homes owner (Waiting n) = (k : ℕ) × (n ≡ served + k) × (get_elem? queue k ≡ some owner)
  TurnFits log served queue homes owner Ready = get_elem? queue 0 ≡ some owner
  TurnFits log served queue homes owner (Holding l) = (get_elem? queue 0 ≡ some owner) × (l ≡ log) × (homes ≡ none ∷ [])

module _ {C S : Type 0} where
  -- what holds of every view, also of a note and of one that is spent
  pub record IsInStep (log : List (Entry C)) (w : View C S) : Type 0 where
    pub seen : BeginsWith log w.seen
    pub heard : BeginsWith w.seen w.heard
    pub noted : w.noted ≤ length log

  -- no two views with a name have one owner
  abbrev pub AreApart : List (View C S) → Type 0
  AreApart views = (i j : ℕ) (v w : View C S) → get_elem? views i ≡ some v → get_elem? views j ≡ some w → v.named ≡ true
      → w.named ≡ true → v.owner ≡ w.owner → i ≡ j

-- D is the object, C its calls, S its setting
module _ {D C S : Type 0} where
  -- the object is in its slot and stands for the log
  abbrev pub IsAtHome : (D → List C → Type 0) → (D → S) → S → List (Entry C) → List (Slot D) → Type 0
  IsAtHome stands setting st log homes = (o : D) × (homes ≡ some (Some o) ∷ []) × stands o (calls_in log) × (setting o ≡ st)

  -- the object is out with a pass
  abbrev pub IsOut : List (Slot D) → List (View C S) → Type 0
  IsOut homes views = (homes ≡ none ∷ []) × (id : ℕ) × (v : View C S) × (get_elem? views id ≡ some v) × (v.named ≡ true) × IsHolding v.turn

  -- what holds of a view with a name. The opening pass's counts are the table's
  pub record IsOfPass (st : S) (log : List (Entry C)) (served : ℕ) (queue : List ℕ) (homes : List (Slot D)) (made : ℕ)
      (kept : List (ℕ × List (Entry C))) (w : View C S) : Type 0 where
    pub owner : w.owner ≤ made
    pub not_joined : Lacks w.owner (owners_of kept)
    pub setting : w.setting ≡ Some st
    pub own : GrownByOthers log w.owner w.seen
    pub was : GrownByOthers w.seen w.owner w.was
    pub turn : TurnFits {D = D} log served queue homes w.owner w.turn
    pub opening : w.owner ≡ 0 → (w.made ≡ made) × (w.kept ≡ kept) × Each (λ p. BeginsWith w.seen p.1) kept

  -- There are a history of calls, the number that is served, the owners that wait, how many passes were split, and the
  -- lists of those that were joined, of which the words, the slot and the views tell.
  pub record Account (stands : D → List C → Type 0) (setting : D → S) (st : S) (s : State (Option D) (View C S)) : Type 0 where
    pub log : List (Entry C)
    pub served : ℕ
    pub queue : List ℕ
    pub made : ℕ
    pub kept : List (ℕ × List (Entry C))
    pub words : s.words ≡ length log ∷ (served + length queue) % 2 ^ 64 ∷ served % 2 ^ 64 ∷ []
    pub short : length log ≤ MOST_CALLS
    pub few : made < 2 ^ 32
    pub by : Each (λ e. e.0 ≤ made) log
    pub once : Differ queue
    pub waiting : Each (λ o. o ≤ made) queue
    pub joined : Differ (owners_of kept)
    pub lists : Each (λ p. (1 ≤ p.0) × (p.0 ≤ made) × GrownByOthers log p.0 p.1) kept
    pub slot : IsAtHome stands setting st log s.homes ⊎ IsOut s.homes s.views
    pub all : (id : ℕ) (w : View C S) → get_elem? s.views id ≡ some w → IsInStep log w
    pub passes : (id : ℕ) (w : View C S) → get_elem? s.views id ≡ some w → w.named ≡ true → IsOfPass st log served queue s.homes made kept w
    pub apart : AreApart s.views
