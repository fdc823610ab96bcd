-- What contracts see of a table and of its passes, and what the calls do to them.
use Rattle.std.specs.Prelude.{◌≡◌, ℕ, ◌+◌, ◌<◌, ◌≤◌, max, Option, Some, List, [], ◌∷◌, ◌++◌, length, Contains}
use Rattle.atomic_table.specs.Seated.{TableId}
use Rattle.turn_table.specs.declared.object.TheConstants.{MOST_CALLS}
use Rattle.turn_table.specs.Lists.{Each, BeginsWith, Differ}
use Rattle.turn_table.specs.History.{Entry, calls_in, GrownByOthers, longer, owners_of}

module _ {C : Type 0} where
  -- An owner's list and another are both beginnings of the history, so one of the two begins with the other. The longer
  -- one begins with both, and with no other call of the owner's than those in its list.
  pub record AreOfOneHistory (owner : ℕ) (own other : List (Entry C)) : Type 0 where
    pub own_list : GrownByOthers (longer own other) owner own
    pub other_list : BeginsWith (longer own other) other

-- which table it is, and its object's setting
pub record TableFacts (S : Type 0) : Type 0 where
  pub id : TableId
  pub setting : S

-- a pass: its table and that table's setting, its owner number, the calls that it has seen, how many passes were split
-- from it, the owner and the list of each pass that was joined into it, and the greatest number of calls that it was
-- told of
pub record PassFacts (C S : Type 0) : Type 0 where
  pub table : TableId
  pub setting : Option S
  pub owner : ℕ
  pub seen : List (Entry C)
  pub made : ℕ
  pub kept : List (ℕ × List (Entry C))
  pub noted : ℕ

module _ {C S : Type 0} where
  -- the opening pass
  abbrev pub first_pass : TableFacts S → PassFacts C S
  first_pass table = record { table = table.id; setting = Some table.setting; owner = 0; seen = []; made = 0; kept = []; noted = 0 }

  -- the pass that is split next from the opening one
  abbrev pub next_pass : PassFacts C S → PassFacts C S
  next_pass opening = record opening { owner = opening.made + 1; made = 0; kept = []; noted = 0 }

  -- the opening pass once another was joined into it
  abbrev pub joined_pass : PassFacts C S → PassFacts C S → PassFacts C S
  joined_pass opening other = record opening {
    seen = longer opening.seen other.seen;
    kept = opening.kept ++ (other.owner, other.seen) ∷ [];
    noted = max opening.noted other.noted;
  }

  -- A pass had its call answered: at its turn the history, `before`, began with what it had seen and went on with calls
  -- of others alone. The reply is the object's to the call after those, and now the pass has seen them and its call.
  pub record Answers {R : Type 0} (reply_after : S → List C → C → R) (old : PassFacts C S) (call : C) (reply : R)
      (new : PassFacts C S) : Type 0 where
    pub before : List (Entry C)
    pub setting : S
    pub own : GrownByOthers before old.owner old.seen
    pub room : length before < MOST_CALLS
    pub setting_is : old.setting ≡ Some setting
    pub reply_is : reply ≡ reply_after setting (calls_in before) call
    pub seen_is : new ≡ record old { seen = before ++ (old.owner, call) ∷ [] }

  -- at a pass's turn the history had this number of calls, the most that it can have; the pass has noted that, and nothing else has changed
  pub record IsWorn (old : PassFacts C S) (calls : ℕ) (new : PassFacts C S) : Type 0 where
    pub most : calls ≡ MOST_CALLS
    pub below : old.noted ≤ calls
    pub noted : new ≡ record old { noted = calls }

  -- The opening pass, into which every other was joined, has seen the whole history: each entry is of a pass, each pass
  -- was joined once, and its list has all its entries.
  pub record HasWholeHistory (opening : PassFacts C S) : Type 0 where
    pub owners : Each (λ e. e.0 ≤ opening.made) opening.seen
    pub differ : Differ (owners_of opening.kept)
    pub lists : Each (λ p. (1 ≤ p.0) × (p.0 ≤ opening.made) × GrownByOthers opening.seen p.0 p.1) opening.kept
    pub every : (owner : ℕ) → 1 ≤ owner → owner ≤ opening.made → Contains (owners_of opening.kept) owner
    pub noted : opening.noted ≤ length opening.seen
