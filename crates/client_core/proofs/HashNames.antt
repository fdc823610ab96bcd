-- A hash may stand for a name.
use Rattle.std.proofs.Common.{◌≡◌, ◌∙◌, ◌==◌, ℕ, Bool, true, false, ◌&&◌, ◌||◌, nat_le, List, length, get_or, refl, ap, IsTrue, arith}
use Rattle.std.proofs.lemmas.Bool.Decides.{nat_tests}
use Rattle.std.specs.List.{list_all, AllPass}
use Rattle.std.proofs.lemmas.List.Sums.{list_all-from_AllPass}
use Rattle.auth_grammar.specs.Plain.{is_plain_byte, is_plain_name}
use Rattle.auth_hash.specs.HexText.{IsHexText, is_lower_digit}
use Rattle.digest_fields.specs.Name.{IsName}

plain_digit : (b : ℕ) → is_lower_digit b ≡ true → is_plain_byte b ≡ true
plain_digit b e = grind (arith, nat_tests)

plain_digits : (text : List ℕ) → AllPass is_lower_digit text → AllPass is_plain_byte text
plain_digits text h k d inside = plain_digit (get_or text k d) (h k d inside)

long_enough : (n : ℕ) → IsTrue ((n == 32) || (n == 64)) → (nat_le 1 n && nat_le n 64) ≡ true
long_enough n e = grind (arith, nat_tests)

-- the text of a hash has the form of a name
pub hash_name : (text : List ℕ) → IsHexText text → IsName text
hash_name text h =
    ap (λ (b : Bool). b && list_all is_plain_byte text) (long_enough (length text) h.0)
    ∙ list_all-from_AllPass is_plain_byte text (plain_digits text h.1)
