-- Which targets a proxy serves (RFC 9112 section 3.2.2): those of the scheme `http`, with an authority.
use Rattle.std.specs.Prelude.{ℕ, ◌==◌, if◌then◌else◌, List, [], ◌∷◌, drop, length, Option, Some, None}
use Rattle.std.specs.List.{before_first}
use Rattle.auth_decide.specs.Paths.{is_absolute, scheme_text}

abbrev pub unless_empty : List ℕ → Option (List ℕ)
unless_empty [] = None
unless_empty (b ∷ bytes) = Some (b ∷ bytes)

-- what stands between the scheme and the next slash, or the end
abbrev pub authority_of : List ℕ → Option (List ℕ)
authority_of target =
    if is_absolute target then unless_empty (before_first (λ b. b == 47) (drop (length scheme_text) target)) else None
