-- What a pass knows, and how that changes.
use Rattle.std.specs.Prelude.{◌≡◌, ◌+◌, max, true, false, Some, None, List, [], ◌∷◌, ◌++◌}
use Rattle.atomic_table.specs.Seated.{TableId}
use Rattle.turn_table.specs.declared.view.View.{View}
use Rattle.turn_table.specs.declared.view.Turn.TheVariants.{Idle, Holding}
use Rattle.turn_table.specs.History.{Entry, longer}
use Rattle.turn_table.specs.Passes.{PassFacts}

module _ {C S : Type 0} where
  -- the view of the opening pass
  abbrev pub first_view : S → View C S
  first_view setting = record {
    named = true;
    owner = 0;
    setting = Some setting;
    seen = [];
    was = [];
    heard = [];
    made = 0;
    kept = [];
    noted = 0;
    turn = Idle;
  }

  -- after a commit, of the history with the new entry
  abbrev pub committed : View C S → List (Entry C) → View C S
  committed v history = record v { seen = history; was = history; heard = []; turn = Holding history }

  -- a split: the opening pass after it, and the new pass
  abbrev pub split_left : View C S → View C S
  split_left v = record v { made = v.made + 1 }

  abbrev pub split_right : View C S → View C S
  split_right v = record v { owner = v.made + 1; was = v.seen; heard = []; made = 0; kept = []; noted = 0; turn = Idle }

  -- a note: it has the list, and no name
  abbrev pub note_of : View C S → View C S
  note_of v = record v { named = false }

  -- what is left of a view that another took over
  abbrev pub spent : View C S
  spent = record { named = false; owner = 0; setting = None; seen = []; was = []; heard = []; made = 0; kept = []; noted = 0; turn = Idle }

  -- the opening pass with another that was joined into it
  abbrev pub joined : View C S → View C S → View C S
  joined v w = record v {
    seen = longer v.seen w.seen;
    heard = w.seen;
    kept = v.kept
        ++ (w.owner, w.seen) ∷ [];
    noted = max v.noted w.noted;
  }

  -- a pass that was told by a note
  abbrev pub told : View C S → View C S → View C S
  told v note = record v { seen = longer v.seen note.seen; heard = note.seen }

  -- a view between calls
  pub record IsAtRest (v : View C S) : Type 0 where
    pub named : v.named ≡ true
    pub was : v.was ≡ v.seen
    pub heard : v.heard ≡ []
    pub turn : v.turn ≡ Idle

  -- what contracts see of it
  abbrev pub facts_of : TableId → View C S → PassFacts C S
  facts_of table v = record {
    table = table;
    setting = v.setting;
    owner = v.owner;
    seen = v.seen;
    made = v.made;
    kept = v.kept;
    noted = v.noted;
  }
