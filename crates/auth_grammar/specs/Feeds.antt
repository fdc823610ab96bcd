-- Challenges that come in pieces.
use Rattle.std.specs.Prelude.{◌≡◌, ℕ, ◌<◌, List, ◌++◌, Option, Some, None, Result, Ok, Err, length}
use Rattle.auth_grammar.specs.declared.error.GrammarError.{GrammarError}
use Rattle.auth_grammar.specs.declared.error.GrammarError.TheVariants.{NotGrammar, Twice, OutOfMemory}
use Rattle.auth_grammar.specs.declared.grammar.Grammar.TheVariants.{Challenges}
use Rattle.auth_grammar.specs.declared.walker.Walker.{Walker}
use Rattle.auth_grammar.specs.Items.{Spells}
use Rattle.auth_grammar.specs.Reach.{Begins, Stops}
use Rattle.auth_grammar.specs.Walks.{Stands}

-- the bytes that a feed holds, and the place of the fault that it has answered
pub record Fed : Type 0 where
  pub text : List ℕ
  pub fault : Option ℕ

-- some challenges begin with the bytes, or the fault is theirs
abbrev pub IsFed : Walker → List ℕ → Option ℕ → Type 0
IsFed walker text None = Stands Challenges walker text
IsFed walker text (Some at) = Stops (Spells Challenges) text at × (at < length text)

-- a piece that comes while there is no fault
abbrev pub Takes : Fed → List ℕ → Result (Unit {0}) GrammarError → Fed → Type 0
Takes old piece (Ok _) new = (new ≡ record { text = old.text ++ piece; fault = None }) × Begins (Spells Challenges) new.text
Takes old piece (Err (NotGrammar at)) new =
    (new ≡ record { text = old.text ++ piece; fault = Some at }) × Stops (Spells Challenges) new.text at × (at < length new.text)
Takes old piece (Err (Twice at name)) new = ⊥
Takes old piece (Err OutOfMemory) new = new ≡ old

-- after a fault each piece is answered with it, and the text with that piece has it too
abbrev pub Repeats : Fed → List ℕ → Result (Unit {0}) GrammarError → Fed → Type 0
Repeats old piece result new =
    (at : ℕ) → old.fault ≡ Some at → (result ≡ Err (NotGrammar at)) × (new ≡ old) × Stops (Spells Challenges) (old.text ++ piece) at
