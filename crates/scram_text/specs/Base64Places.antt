-- Where the bytes of a base64 text stand, and what may follow there (RFC 4648 section 4).
use Rattle.std.specs.Prelude.{◌≡◌, ℕ, ◌+◌, ◌-◌, ◌%◌, ◌==◌, ◌&&◌, nat_le, nat_lt, ◌||◌, Bool, true, false, List, [], ◌∷◌, ◌++◌, length, if◌then◌else◌}
use Rattle.std.specs.declared.option.Option.{Option}
use Rattle.std.specs.declared.option.Option.TheVariants.{None, Some}
use Rattle.scram_text.specs.Bytes.{is_symbol}
use Rattle.scram_text.specs.declared.base64_places.Place.{Place}
use Rattle.scram_text.specs.declared.base64_places.Place.TheVariants.{Start, Group, One, Two, Three, Sign, End, Sized}

-- the value of a character
abbrev pub symbol_value : ℕ → ℕ
symbol_value b =
    if b == 47 then 63 else (if b == 43 then 62 else (if nat_le b 57 then b + 4 else (if nat_le b 90 then b - 65 else b - 71)))

-- the last bits of its value are zeros: four of them, or two
abbrev pub ends_in_zeros : ℕ → ℕ → Bool
ends_in_zeros m b = symbol_value b % m == 0

-- the place behind a byte, if it may stand at a place
abbrev pub next_place : Place → ℕ → Option Place
next_place Start b = if is_symbol b then Some One else None
next_place Group b = if is_symbol b then Some One else None
next_place One b = if is_symbol b then Some (Two (ends_in_zeros 16 b)) else None
next_place (Two zeros) b = if is_symbol b then Some (Three (ends_in_zeros 4 b)) else (if zeros && (b == 61) then Some Sign else None)
next_place (Three zeros) b = if is_symbol b then Some Group else (if zeros && (b == 61) then Some End else None)
next_place Sign b = if b == 61 then Some End else None
next_place End b = None
next_place (Sized n) b =
    if n == 0 then (if b == 61 then Some End else None)
    else (if is_symbol b && (nat_lt 1 n || ends_in_zeros 4 b) then Some (Sized (n - 1)) else None)

-- whether a text may end there
abbrev pub may_end : Place → Bool
may_end Group = true
may_end End = true
may_end Start = false
may_end One = false
may_end (Two zeros) = false
may_end (Three zeros) = false
may_end Sign = false
may_end (Sized n) = false

-- the place behind a text, if it may stand at a place
abbrev pub place_behind : Place → List ℕ → Option Place
place_behind place [] = Some place
place_behind place (b ∷ text) = elim (next_place place b) [ None ↦ None | Some next ↦ place_behind next text ]

-- whether nothing, or a place where a text may end
abbrev pub is_end : Option Place → Bool
is_end None = false
is_end (Some place) = may_end place

-- the text may stand at the place, to its end
abbrev pub may_follow : Place → List ℕ → Bool
may_follow place text = is_end (place_behind place text)

-- the text stands at a place so far, and then at another, where its next byte may not stand
pub record Walks (from : Place) (text : List ℕ) (at : ℕ) (to : Place) : Type 0 where
  pub front : List ℕ
  pub back : List ℕ
  pub cut : text ≡ front ++ back
  pub long : length front ≡ at
  pub leads : place_behind from front ≡ Some to
  pub stuck : (b : ℕ) (left : List ℕ) → back ≡ b ∷ left → next_place to b ≡ None
