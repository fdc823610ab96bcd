-- Connections that are handed out and taken back.
use Rattle.std.specs.Prelude.{◌≡◌, ℕ, ◌+◌, ◌<◌, Bool, true, false, ◌||◌, nat_lt, if◌then◌else◌, List, [], ◌∷◌, ◌++◌, length, map, Option, Some, None, ⊤}
use Rattle.auth_io.specs.Causes.{Rose}

-- how many connections were handed out, and of each that is back what it had written and whether one of its calls had failed
pub record Handed : Type 0 where
  pub links : ℕ
  pub ended : List (List ℕ × Bool)

-- One of them isn't back.
abbrev pub IsOut : Option Handed → Type 0
IsOut None = ⊤
IsOut (Some h) = length h.ended < h.links

-- Where the bytes of those to come are told, the first of them go.
abbrev pub HandsFirst : Option (List (List ℕ)) → Option (List (List ℕ)) → Option (List ℕ) → Type 0
HandsFirst None new left = ⊤
HandsFirst (Some old) None left = ⊥
HandsFirst (Some old) (Some new) None = ⊥
HandsFirst (Some old) (Some new) (Some left) = old ≡ left ∷ new

-- A connection that was handed out tells what it wrote where those that are back are told. It has written nothing.
abbrev pub StartsEmpty : Option Handed → Option (List ℕ) → Type 0
StartsEmpty None None = ⊤
StartsEmpty None (Some written) = written ≡ []
StartsEmpty (Some h) None = ⊥
StartsEmpty (Some h) (Some written) = written ≡ []

abbrev pub StartsUnread : Option (List (ℕ × ℕ)) → Type 0
StartsUnread None = ⊤
StartsUnread (Some reads) = reads ≡ []

-- one more was handed out
abbrev pub HandsOut : Option Handed → Option Handed → Type 0
HandsOut None new = ⊤
HandsOut (Some old) None = ⊥
HandsOut (Some old) (Some new) = new ≡ record { links = old.links + 1; ended = old.ended }

-- whether one of two counts of faults isn't 0
abbrev pub has_fault : ℕ → ℕ → Bool
has_fault read_faults write_faults = nat_lt 0 read_faults || nat_lt 0 write_faults

-- One is back, which has written this.
abbrev pub TakesBack : Option Handed → Option Handed → Option (List ℕ) → Bool → Type 0
TakesBack None new written failed = ⊤
TakesBack (Some old) None written failed = ⊥
TakesBack (Some old) (Some new) None failed = ⊤
TakesBack (Some old) (Some new) (Some written) failed = new ≡ record { links = old.links; ended = old.ended ++ (written, failed) ∷ [] }

-- a count rises for a connection with a fault, and for no other
abbrev pub RoseIfFailed : Bool → ℕ → ℕ → Type 0
RoseIfFailed true before now = Rose before now
RoseIfFailed false before now = now ≡ before

-- how many of those that are back had a fault
abbrev pub count_failed : List (List ℕ × Bool) → ℕ
count_failed [] = 0
count_failed (e ∷ es) = (if e.1 then 1 else 0) + count_failed es

-- ---- several connections, one after the other

-- Where the bytes of those to come are told, these were the first of them.
abbrev pub HandsAll : Option (List (List ℕ)) → Option (List (List ℕ)) → List (Option (List ℕ)) → Type 0
HandsAll None new lefts = ⊤
HandsAll (Some old) None lefts = ⊥
HandsAll (Some old) (Some new) lefts = map Some old ≡ lefts ++ map Some new

-- As many were handed out as are here, and each is back.
abbrev pub TakesAll : Option Handed → Option Handed → List (List ℕ × Bool) → Type 0
TakesAll None new ended = ⊤
TakesAll (Some old) None ended = ⊥
TakesAll (Some old) (Some new) ended = new ≡ record { links = old.links + length ended; ended = old.ended ++ ended }
