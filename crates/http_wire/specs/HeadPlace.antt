-- Where the head of a message stands.
use Rattle.std.specs.Prelude.{ℕ, suc, ◌+◌, Bool, ◌&&◌, List, [], ◌∷◌, drop, if◌then◌else◌, ◌==◌, nat_lt, Option, Some, None}
use Rattle.std.specs.Option.{option_map}

-- the length of the empty line at the front, LF or CR LF; 0 where there is none
abbrev pub empty_line : List ℕ → ℕ
empty_line [] = 0
empty_line (b ∷ []) = if b == 10 then 1 else 0
empty_line (b ∷ c ∷ bytes) = if b == 10 then 1 else if b == 13 && c == 10 then 2 else 0

-- the length of all empty lines at the front
abbrev pub blank_len : List ℕ → ℕ
blank_len [] = 0
blank_len (b ∷ []) = if b == 10 then 1 else 0
blank_len (b ∷ c ∷ bytes) = if b == 10 then suc (blank_len (c ∷ bytes)) else if b == 13 && c == 10 then suc (suc (blank_len bytes)) else 0

-- where a head ends: after the first LF that is followed by LF or CR LF, with these included
abbrev pub ends_here : ℕ → List ℕ → Bool
ends_here b bytes = b == 10 && nat_lt 0 (empty_line bytes)

abbrev pub head_len : List ℕ → Option ℕ
head_len [] = None
head_len (b ∷ bytes) = if ends_here b bytes then Some (suc (empty_line bytes)) else option_map suc (head_len bytes)

-- where the head begins and ends
abbrev pub place_after : ℕ → List ℕ → Option (ℕ × ℕ)
place_after start bytes = option_map (λ n. (start, start + n)) (head_len (drop start bytes))

unfoldable pub head_place : List ℕ → Option (ℕ × ℕ)
head_place bytes = place_after (blank_len bytes) bytes
