use Rattle.std.proofs.Common.{◌≡◌, ◌++◌, List, ℕ, length, true}
use Rattle.std.specs.Char.{is_ascii_digit}
use Rattle.std.specs.List.{list_all}
use Rattle.scram_text.proofs.reauth.split_digits.Given as goal

-- digits stand behind the head
abbrev pub invariant-loop-front : goal.invariant-loop-front
invariant-loop-front l = (digits : List ℕ) × (l.text ≡ l.head ++ digits) × (list_all is_ascii_digit digits ≡ true)

abbrev pub decreases-loop-front : goal.decreases-loop-front
decreases-loop-front l = length l.head
