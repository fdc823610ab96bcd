-- Numbers that texts write.
use Rattle.std.specs.Prelude.{ℕ, Bool, ◌&&◌, nat_le, bytes_eq, if◌then◌else◌, List, Option, Some, None, decimal}
use Rattle.std.specs.Str.Parse.{digits_value}

abbrev pub is_between : ℕ → ℕ → ℕ → Bool
is_between least most number = nat_le least number && nat_le number most

-- the number that a text writes in decimal digits, with no sign and no leading zero, where it is from the least to the most
abbrev pub number_in : ℕ → ℕ → List ℕ → Option ℕ
number_in least most text =
    let number = digits_value 10 text in if bytes_eq (decimal number) text && is_between least most number then Some number else None
