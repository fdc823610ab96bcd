-- The options of the command line, which stand at any place behind the name of a command.
use Rattle.std.specs.Prelude.{ℕ, Bool, false, ◌==◌, ◌&&◌, bytes_eq, nat_eq, if◌then◌else◌, List, [], ◌∷◌, drop, find, length, Option, Some, None, codes}
use Rattle.std.specs.List.{list_all, starts_with}
use Rattle.std.specs.Option.{option_or}
use Rattle.drill.specs.declared.drilling.TheConstants.{MOST_STEPS}
use Rattle.scram_proof.specs.declared.keys.TheConstants.{LEAST_ITERATIONS, MOST_ITERATIONS}
use Rattle.auth_grammar.specs.Numbers.{number_in}
use Rattle.authd.specs.Words.{Command, Usage, Drill, Passwd, command_of, is_word}

-- an option begins with `-`
abbrev pub is_option : List ℕ → Bool
is_option [] = false
is_option (b ∷ word) = b == 45

-- the words without the first option among them
abbrev pub without_option : List (List ℕ) → List (List ℕ)
without_option [] = []
without_option (word ∷ words) = if is_option word then words else word ∷ without_option words

-- the number that an option says behind its name, where it is from the least to the most
abbrev pub option_number : List ℕ → ℕ → ℕ → List ℕ → Option ℕ
option_number name least most option =
    if starts_with nat_eq option name then number_in least most (drop (length name) option) else None

-- ---- `passwd`

-- an iteration count
abbrev pub rounds_in : List ℕ → Option ℕ
rounds_in option = option_number (codes "--rounds=") LEAST_ITERATIONS MOST_ITERATIONS option

abbrev pub with_rounds : List ℕ → List ℕ → List ℕ → List ℕ → Option ℕ → Command
with_rounds store name realm kind None = Usage
with_rounds store name realm kind (Some rounds) = Passwd store name realm kind rounds

-- whether the words set a secret that is made by a count
abbrev pub takes_rounds : List ℕ → List ℕ → List ℕ → List ℕ → List ℕ → Bool
takes_rounds command store name realm kind =
    list_all is_word (command ∷ store ∷ name ∷ realm ∷ kind ∷ [])
    && (bytes_eq command (codes "passwd") && bytes_eq kind (codes "scram-sha-256"))

-- No other words have an option, but those of `drill`.
abbrev pub with_option : List ℕ → List (List ℕ) → Command
with_option option (command ∷ store ∷ name ∷ realm ∷ kind ∷ []) =
    if takes_rounds command store name realm kind then with_rounds store name realm kind (rounds_in option) else Usage
with_option option words = Usage

abbrev pub with_options : Option (List ℕ) → List ℕ → List (List ℕ) → Command
with_options None name words = command_of (name ∷ words)
with_options (Some option) name words = with_option option (name ∷ without_option words)

-- what words that aren't those of `drill` ask for
abbrev pub asked_of_others : List (List ℕ) → Command
asked_of_others [] = Usage
asked_of_others (name ∷ words) = with_options (find is_option words) name words

-- ---- `drill`

-- a number of 64 bits
abbrev pub seed_in : List ℕ → Option ℕ
seed_in option = option_number (codes "--seed=") 0 18446744073709551615 option

abbrev pub steps_in : List ℕ → Option ℕ
steps_in option = option_number (codes "--steps=") 1 MOST_STEPS option

abbrev pub drill_by : Option ℕ → Option ℕ → Command
drill_by (Some seed) (Some steps) = Drill seed steps
drill_by _ _ = Usage

abbrev pub drill_of : List ℕ → List ℕ → Command
drill_of a b = drill_by (option_or (seed_in a) (seed_in b)) (option_or (steps_in a) (steps_in b))

-- `drill` has these two options, in either order, and no other words.
abbrev pub drill_with : List (List ℕ) → Command
drill_with (a ∷ b ∷ []) = drill_of a b
drill_with words = Usage

-- ---- all of them

-- what the words ask for, the command's name first
abbrev pub asked_for : List (List ℕ) → Command
asked_for [] = Usage
asked_for (name ∷ words) = if bytes_eq name (codes "drill") then drill_with words else asked_of_others (name ∷ words)
