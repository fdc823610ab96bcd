-- What a client says of channel binding (RFC 5802 section 7: gs2-header).
use Rattle.std.specs.Prelude.{ℕ, Bool, ◌==◌, ◌||◌, List, [], ◌∷◌}
use Rattle.scram_text.specs.declared.flag.Flag.{Flag}
use Rattle.scram_text.specs.declared.flag.Flag.TheVariants.{N, Y}

-- the letter of a flag
abbrev pub flag_letter : Flag → ℕ
flag_letter N = 110
flag_letter Y = 121

abbrev pub is_flag : ℕ → Bool
is_flag b = (b == 110) || (b == 121)

-- the flag and two commas
abbrev pub header : Flag → List ℕ
header flag = flag_letter flag ∷ 44 ∷ 44 ∷ []
