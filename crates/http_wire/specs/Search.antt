-- How far the search for the end of a head has come.
use Rattle.std.specs.Prelude.{◌≡◌, ⊤, ℕ, suc, ◌+◌, ◌<◌, ◌≤◌, List, [], ◌∷◌, ◌++◌, length, drop, slice_range, if◌then◌else◌, Option, Some, None}
use Rattle.std.specs.Option.{option_map}
use Rattle.http_wire.specs.declared.search.Place.{Place}
use Rattle.http_wire.specs.declared.search.Place.TheVariants.{Blank, Head}
use Rattle.http_wire.specs.declared.search.Search.{Search}
use Rattle.http_wire.specs.declared.search.Search.TheVariants.{Found, Unfound}
use Rattle.http_wire.specs.declared.search.End.{End}
use Rattle.http_wire.specs.declared.search.End.TheVariants.{At, Missing}
use Rattle.http_wire.specs.HeadPlace.{empty_line, ends_here, blank_len, head_len, place_after, head_place}

-- ---- what the search knows

-- where the head stands, for a search that has come so far
abbrev pub place_from : Place → List ℕ → Option (ℕ × ℕ)
place_from (Blank start) bytes = place_after (start + blank_len (drop start bytes)) bytes
place_from (Head start from) bytes = option_map (λ n. (start, from + n)) (head_len (drop from bytes))

-- how long the empty line at the front is, whatever follows; or that tells only what follows
abbrev pub IsOpen : List ℕ → Type 0
IsOpen [] = ⊤
IsOpen (b ∷ []) = b ≡ 13
IsOpen (b ∷ c ∷ bytes) = ⊥

abbrev pub TellsLine : List ℕ → Option ℕ → Type 0
TellsLine bytes None = IsOpen bytes
TellsLine bytes (Some n) = (n ≤ length bytes) × ((more : List ℕ) → empty_line (bytes ++ more) ≡ n)

-- the same of a head's end at the first byte
abbrev pub end_here : List ℕ → ℕ
end_here [] = 0
end_here (b ∷ bytes) = if ends_here b bytes then suc (empty_line bytes) else 0

abbrev pub IsOpenEnd : List ℕ → Type 0
IsOpenEnd [] = ⊤
IsOpenEnd (b ∷ bytes) = (b ≡ 10) × IsOpen bytes

abbrev pub TellsEnd : List ℕ → Option ℕ → Type 0
TellsEnd bytes None = IsOpenEnd bytes
TellsEnd bytes (Some n) = (n ≤ length bytes) × (0 < length bytes) × ((more : List ℕ) → end_here (bytes ++ more) ≡ n)

-- where the first end from a place on stands
abbrev pub end_from : ℕ → List ℕ → Option ℕ
end_from from bytes = option_map (λ n. from + n) (head_len (drop from bytes))

-- whatever follows, the search for an end may go on from there
pub record GoesOn (bytes : List ℕ) (from to : ℕ) : Type 0 where
  pub within : to ≤ length bytes
  pub goes_on : (more : List ℕ) → end_from from (bytes ++ more) ≡ end_from to (bytes ++ more)

-- what a search for an end finds
abbrev pub FindsEnd : List ℕ → ℕ → End → Type 0
FindsEnd bytes from (At end) = end_from from bytes ≡ Some end
FindsEnd bytes from (Missing to) = (end_from from bytes ≡ None) × GoesOn bytes from to

-- how far it has come
abbrev pub reach : Place → ℕ
reach (Blank start) = start
reach (Head start from) = from

-- whatever follows, the search may go on from there
pub record Tracks (bytes : List ℕ) (place : Place) : Type 0 where
  pub within : reach place ≤ length bytes
  pub goes_on : (more : List ℕ) → head_place (bytes ++ more) ≡ place_from place (bytes ++ more)

-- a head stands there, and no empty line before it
pub record StandsAt (bytes : List ℕ) (start end : ℕ) : Type 0 where
  pub place : head_place bytes ≡ Some (start, end)
  pub ordered : start ≤ end
  pub in_range : end ≤ length bytes
  pub no_blank : empty_line (slice_range bytes start end) ≡ 0

-- what a search finds
abbrev pub Finds : List ℕ → Search → Type 0
Finds bytes (Found start end) = StandsAt bytes start end
Finds bytes (Unfound place) = (head_place bytes ≡ None) × Tracks bytes place
