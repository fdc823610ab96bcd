-- What bytes, and the end of a text, do to a reader.
use Rattle.std.specs.Prelude.{◌≡◌, ◌≤◌, ℕ, IsTrue, List, length, take, drop, get_or, Option, Some, None, Result, Ok, Err}
use Rattle.std.specs.List.{list_all}
use Rattle.auth_grammar.specs.Kinds.{kind_of}
use Rattle.auth_grammar.specs.declared.elements.Element.{Element}
use Rattle.auth_grammar.specs.declared.error.GrammarError.{GrammarError}
use Rattle.auth_grammar.specs.declared.error.GrammarError.TheVariants.{NotGrammar, Twice, OutOfMemory}
use Rattle.auth_grammar.specs.declared.groups.Grouped.{Grouped}
use Rattle.auth_grammar.specs.declared.collected.Collected.{Collected}
use Rattle.auth_grammar.specs.declared.position.Position.TheVariants as At
use Rattle.auth_grammar.specs.declared.position.Turn.{Turn}
use Rattle.auth_grammar.specs.declared.position.Turn.TheVariants as To
use Rattle.auth_grammar.specs.declared.reader.Reader.{Reader}
use Rattle.auth_grammar.specs.Positions.{Turns, ending, kept_run, stays}
use Rattle.auth_grammar.specs.Collecting.{add_element, finished, takes_param, takes_scheme}

-- with the element that ends, if one does
abbrev pub with_ended : Collected → Option Element → Collected
with_ended c None = c
with_ended c (Some e) = add_element c e

-- what a turn does to a reader of the bytes that are left, of which it reads so many
abbrev pub Does : Turn → Reader → ℕ → List ℕ → ℕ → Reader → Type 0
Does To.Dead old at rest count new = count ≡ 0
Does To.End old at rest count new =
    (count ≡ 1) × (new.position ≡ At.Start) × (new.collected ≡ with_ended old.collected (ending old.position old.kept))
Does (To.Go p e) old at rest count new =
    (1 ≤ count) × (count ≤ length rest) × IsTrue (list_all (λ b. stays e p (kind_of b)) (drop 1 (take count rest)))
    × (new.position ≡ p) × (new.kept ≡ kept_run e old.kept at (take count rest)) × (new.collected ≡ old.collected)

-- the bytes that are left, of which so many are read, do what the turn of the first of them does
abbrev pub Steps : Reader → ℕ → List ℕ → ℕ → Reader → Type 0
Steps old at rest count new =
    (t : Turn) × Turns old.position (kind_of (get_or rest 0 0)) (takes_param old.collected) (takes_scheme old.collected) t
    × Does t old at rest count new

-- what a reader makes of a text that ends at a place
abbrev pub Finishes : Reader → ℕ → Result Grouped GrammarError → Type 0
Finishes reader at (Ok x) =
    (e : Element) × (ending reader.position reader.kept ≡ Some e) × (finished (add_element reader.collected e) ≡ Some x)
Finishes reader at (Err (NotGrammar n)) =
    (n ≡ at) × ((e : Element) → ending reader.position reader.kept ≡ Some e → finished (add_element reader.collected e) ≡ None)
Finishes reader at (Err (Twice n name)) = ⊥
Finishes reader at (Err OutOfMemory) = Unit {0}
