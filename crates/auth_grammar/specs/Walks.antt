-- A reader that keeps nothing but what may come next.
use Rattle.std.specs.Prelude.{◌≡◌, ℕ, ◌+◌, ◌<◌, Bool, true, false, List, ◌++◌, Option, Some, None, Result, Ok, Err, length}
use Rattle.auth_grammar.specs.declared.collected.Collected.{Collected}
use Rattle.auth_grammar.specs.declared.collected.Collected.TheVariants.{Bare, Many, One}
use Rattle.auth_grammar.specs.declared.grammar.Grammar.{Grammar}
use Rattle.auth_grammar.specs.declared.grammar.Grammar.TheVariants as Of
use Rattle.auth_grammar.specs.declared.groups.Grouped.{Grouped}
use Rattle.auth_grammar.specs.declared.kept.Kept.{Kept}
use Rattle.auth_grammar.specs.declared.position.Position.{Position}
use Rattle.auth_grammar.specs.declared.position.Position.TheVariants as At
use Rattle.auth_grammar.specs.declared.walker.Made.{Made}
use Rattle.auth_grammar.specs.declared.walker.Made.TheVariants.{Nothing, Open, Closed}
use Rattle.auth_grammar.specs.declared.walker.Walker.{Walker}
use Rattle.auth_grammar.specs.Items.{Spells}
use Rattle.auth_grammar.specs.Reach.{Stops}
use Rattle.auth_grammar.specs.States.{Follows}
use Rattle.auth_grammar.specs.Collecting.{rules, takes_param, takes_scheme}

-- whether any number of items may come
abbrev pub is_many : Collected → Bool
is_many (Bare params) = false
is_many (Many groups last) = true
is_many (One last) = false

-- what the element that ends at a position makes
abbrev pub made_at : Position → Made
made_at At.Start = Nothing
made_at At.Second = Closed
made_at At.SecondWhite = Closed
made_at At.SecondEquals = Closed
made_at At.SecondEqualsWhite = Closed
made_at At.Token68 = Closed
made_at At.Padding = Closed
made_at At.Token68White = Closed
made_at _ = Open

-- a walker before the first byte
abbrev pub walker_of : Grammar → Walker
walker_of Of.Challenges = record { position = At.Start; params = false; schemes = true; many = true }
walker_of Of.Credentials = record { position = At.Start; params = false; schemes = true; many = false }
walker_of Of.Params = record { position = At.Start; params = true; schemes = false; many = false }

-- a walker that stands where a reader stands after these bytes
pub record Stands (grammar : Grammar) (walker : Walker) (fed : List ℕ) : Type 0 where
  pub collected : Collected
  pub kept : Kept
  pub follows : Follows (rules grammar) collected walker.position kept fed
  pub params : walker.params ≡ takes_param collected
  pub schemes : walker.schemes ≡ takes_scheme collected
  pub many : walker.many ≡ is_many collected

-- where a byte leads
abbrev pub Leads : Grammar → List ℕ → Option Walker → Type 0
Leads grammar fed (Some walker) = Stands grammar walker fed
Leads grammar fed None = (rest : List ℕ) (x : Grouped) → Spells grammar (fed ++ rest) x → ⊥

-- where a piece leads, or its first byte with which no text goes on
abbrev pub Walked : Grammar → List ℕ → List ℕ → Result Walker ℕ → Type 0
Walked grammar fed piece (Ok walker) = Stands grammar walker (fed ++ piece)
Walked grammar fed piece (Err i) = (i < length piece) × Stops (Spells grammar) (fed ++ piece) (length fed + i)

-- the walker after the end of an element
abbrev pub walker_after : Made → Walker → Walker
walker_after Nothing walker = record walker { position = At.Start }
walker_after Open walker = record { position = At.Start; params = true; schemes = walker.many; many = walker.many }
walker_after Closed walker = record { position = At.Start; params = false; schemes = walker.many; many = walker.many }
