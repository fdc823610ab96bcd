-- What `show` does: it reads the lines of a field, and writes each item that they spell on a line.
use Rattle.std.specs.Prelude.{◌≡◌, ◌⊎◌, ℕ, ◌≤◌, ⊤, List, [], ◌∷◌, ◌++◌, length, take, Option, Result, Ok, Err}
use Rattle.std.specs.Io.KnownBytes.{Consumes, Appends}
use Rattle.std.specs.List.{join_with_byte, flat_map}
use Rattle.std.specs.Str.Lines.{lines}
use Rattle.auth_grammar.specs.Answers.{AnswersChallenges}
use Rattle.auth_grammar.specs.Writing.{item_text}
use Rattle.auth_grammar.specs.declared.error.GrammarError.TheVariants as Grammar
use Rattle.auth_grammar.specs.declared.items.Item.{Item}
use Rattle.auth_grammar.specs.declared.items.Quoting.TheVariants.{Challenge}
use Rattle.connection_loop.specs.Account.{LinkState}
use Rattle.authd.specs.Endings.{Ending}
use Rattle.authd.specs.Inputs.{IsWhole}
use Rattle.authd.specs.declared.failure.Failure.{Failure}
use Rattle.authd.specs.declared.failure.Failure.TheVariants as failure
use Rattle.authd.specs.declared.failure.Fault.TheVariants as fault
use Rattle.authd.specs.declared.failure.Refusal.TheVariants as refusal

-- the text of a field: its lines, each ended by LF or CR LF, with a comma between each two (RFC 9110 section 5.3)
abbrev pub field_text : List ℕ → List ℕ
field_text input = join_with_byte 44 (lines input)

-- items, each on a line
abbrev pub item_lines : List Item → List ℕ
item_lines items = flat_map (λ item. item_text Challenge item ++ 10 ∷ []) items

-- what is to be written for an input, or why it is refused
abbrev pub IsShown : List ℕ → Result (List ℕ) Failure → Type 0
IsShown input (Ok text) = (items : List Item) × AnswersChallenges (field_text input) (Ok items) × (text ≡ item_lines items)
IsShown input (Err (failure.Refused (refusal.NotGrammar at))) = AnswersChallenges (field_text input) (Err (Grammar.NotGrammar at))
IsShown input (Err (failure.Refused (refusal.Twice at))) =
    (name : List ℕ) × AnswersChallenges (field_text input) (Err (Grammar.Twice at name))
IsShown input (Err failure.OutOfMemory) = ⊤
IsShown input (Err other) = ⊥

-- the text for an input, or a front of it, was written
abbrev pub WritesFront : List ℕ → Option (List ℕ) → Option (List ℕ) → Type 0
WritesFront input written written' = (text : List ℕ) × IsShown input (Ok text) × (n : ℕ) × Appends written written' (take n text)

-- What an ending says of the input and of what was written. Nothing is written of an input that is refused.
abbrev pub EndsShow : List ℕ → Option (List ℕ) → Option (List ℕ) → Option (List ℕ) → Ending → Type 0
EndsShow input left written written' (Ok done) =
    IsWhole input left × (text : List ℕ) × IsShown input (Ok text) × Appends written written' text
EndsShow input left written written' (Err (failure.Refused refusal.TooLong)) = (length input ≡ 16385) × (written' ≡ written)
EndsShow input left written written' (Err (failure.Refused refusal)) =
    IsWhole input left × IsShown input (Err (failure.Refused refusal)) × (written' ≡ written)
EndsShow input left written written' (Err (failure.Fault fault.Read)) = written' ≡ written
EndsShow input left written written' (Err (failure.Fault fault.Write)) = IsWhole input left × WritesFront input written written'
EndsShow input left written written' (Err failure.OutOfMemory) =
    (written' ≡ written) ⊎ (IsWhole input left × WritesFront input written written')
EndsShow input left written written' (Err other) = ⊥

-- An input of at most 16,384 bytes is read to its end, and no more than one byte of a longer one.
abbrev pub Shows : LinkState → LinkState → Ending → Type 0
Shows before now ending =
    (input : List ℕ) × Consumes before.left now.left input × (length input ≤ 16385)
    × EndsShow input now.left before.written now.written ending
