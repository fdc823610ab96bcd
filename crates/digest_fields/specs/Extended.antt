-- Values of the form charset'language'escaped (RFC 8187 section 3.2.1).
use Rattle.std.specs.Prelude.{ℕ, ◌+◌, List, length, take, drop, codes, position, Option, Some, None, option_map, option_and_then, ◌&&◌, ◌||◌, ◌==◌, if◌then◌else◌}
use Rattle.auth_grammar.specs.Names.{same_name}
use Rattle.auth_grammar.specs.Valid.{is_token_text}

-- what stands before and behind the first apostrophe
unfoldable pub parts_at_quote : List ℕ → Option (List ℕ × List ℕ)
parts_at_quote text = option_map (λ at. (take at text, drop (at + 1) text)) (position (λ byte. byte == 39) text)

-- one step after another
infixl 10 ◌>>=◌
abbrev pub ◌>>=◌ : {A B : Type 0} → Option A → (A → Option B) → Option B
value >>= next = option_and_then next value

-- the escaped part, where the charset is UTF-8 and the language a token or empty
unfoldable pub escaped_name : List ℕ → Option (List ℕ)
escaped_name text = do
  outer ← parts_at_quote text
  inner ← parts_at_quote outer.1
  if same_name outer.0 (codes "UTF-8") && (length inner.0 == 0 || is_token_text inner.0) then Some inner.1 else None
