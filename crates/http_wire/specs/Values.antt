-- What the values of a field say.
use Rattle.std.specs.Prelude.{◌≡◌, ◌<◌, ℕ, Bool, true, false, ◌&&◌, List, [], ◌∷◌, length, ◌==◌, nat_lt}
use Rattle.std.specs.List.{list_all, list_any, slice_split}
use Rattle.std.specs.Char.{is_ascii_digit}
use Rattle.httparse.specs.Grammar.{trim_ows}
use Rattle.auth_grammar.specs.Names.{same_name}
use Rattle.std.specs.Str.Parse.{digits_value}
use Rattle.http_wire.specs.declared.values.Values.{Values}
use Rattle.http_wire.specs.declared.values.Values.TheVariants.{Absent, One, Several}

-- how many values there are, as far as a check wants to know
abbrev pub AreValues : List (List ℕ) → Values → Type 0
AreValues values Absent = values ≡ []
AreValues values (One value) = values ≡ value.now ∷ []
AreValues values Several = 1 < length values

abbrev pub is_empty : {A : Type 0} → List A → Bool
is_empty [] = true
is_empty (x ∷ xs) = false

-- one or more digits
abbrev pub is_number : List ℕ → Bool
is_number bytes = nat_lt 0 (length bytes) && list_all is_ascii_digit bytes

-- the parts between the commas
abbrev pub parts_at_commas : List ℕ → List (List ℕ)
parts_at_commas bytes = slice_split (λ b. b == 44) bytes

-- one of the values has the token among its parts at commas
abbrev pub has_token : List (List ℕ) → List ℕ → Bool
has_token values token = list_any (λ value. list_any (λ part. same_name (trim_ows part) token) (parts_at_commas value)) values

-- the Content-Length, 0 where there is none
abbrev pub first_number : List (List ℕ) → ℕ
first_number [] = 0
first_number (value ∷ values) = digits_value 10 value

-- at most one, with one or more digits
abbrev pub are_lengths : List (List ℕ) → Bool
are_lengths [] = true
are_lengths (value ∷ []) = is_number value
are_lengths (value ∷ next ∷ values) = false
