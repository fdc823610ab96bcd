-- What words with an option ask for.
use Rattle.std.proofs.Common.{◌≡◌, ◌≢◌, ◌+◌, ℕ, Bool, true, false, ◌&&◌, not, cond, if◌then◌else◌, List, [], ◌∷◌, ◌++◌, length, drop, find, Option, Some, None, refl, sym, ap, ◌∙◌, arith}
use Rattle.std.specs.Prelude.{nat_eq}
use Rattle.std.specs.List.{list_all, starts_with}
use Rattle.std.proofs.Math.Seq.{drop-append_seam}
use Rattle.std.proofs.lemmas.Bool.Decides.{Decides-eqb}
use Rattle.std.proofs.lemmas.Slice.Eq.{starts_is}
use Rattle.auth_grammar.specs.Numbers.{number_in}
use Rattle.authd.specs.Options.{asked_of_others, drill_with, is_option, option_number, with_option, with_options, without_option}
use Rattle.authd.specs.Words.{Usage, command_of, is_word, by_name}

-- ---- no other number of words

no_word : (w : List ℕ) → is_option w ≡ true → is_word w ≡ false
no_word [] is = refl
no_word (b ∷ w) is = ap not is

never : (v : Bool) → v && false ≡ false
never true = refl
never false = refl

abbrev Refused : List (List ℕ) → Type 0
Refused words = (list_all is_word words ≡ false) × (length (without_option words) + 1 ≡ length words)

some_option : (words : List (List ℕ)) (o : List ℕ) → find is_option words ≡ Some o → Refused words
some_option [] o found = cc
some_option (w ∷ words) o found = by (is_option w) refl found (some_option words o)
  where
    by : (b : Bool) → is_option w ≡ b → cond (is_option w) (Some w) (find is_option words) ≡ Some o → (find is_option words ≡ Some o → Refused words) → Refused (w ∷ words)
    by true here there more = (
      ap (λ (v : Bool). v && list_all is_word words) (no_word w here),
      ap (λ (v : Bool). length (if v then words else w ∷ without_option words) + 1) here ∙ omega arith,
    )
    by false here there more =
        let rest = more (sym (ap (λ (v : Bool). cond v (Some w) (find is_option words)) here) ∙ there) in (
          ap (λ (v : Bool). is_word w && v) rest.0 ∙ never (is_word w),
          ap (λ (v : Bool). length (if v then words else w ∷ without_option words) + 1) here ∙ omega (arith, rest.1),
        )

other_words : (o : List ℕ) (words : List (List ℕ)) → length words ≢ 5 → with_option o words ≡ Usage
other_words o [] other = refl
other_words o (a ∷ []) other = refl
other_words o (a ∷ b ∷ []) other = refl
other_words o (a ∷ b ∷ c ∷ []) other = refl
other_words o (a ∷ b ∷ c ∷ d ∷ []) other = refl
other_words o (a ∷ b ∷ c ∷ d ∷ e ∷ []) other = absurd (other refl)
other_words o (a ∷ b ∷ c ∷ d ∷ e ∷ f ∷ more) other = refl

refused : (name : List ℕ) (words : List (List ℕ)) → list_all is_word words ≡ false → command_of (name ∷ words) ≡ Usage
refused name words none = ap (λ (v : Bool). if is_word name && v then by_name (name ∷ words) else Usage) none ∙ by (is_word name)
  where
    by : (v : Bool) → (if v && false then by_name (name ∷ words) else Usage) ≡ Usage
    by true = refl
    by false = refl

pub other_length : (words : List (List ℕ)) → length words ≢ 6 → asked_of_others words ≡ command_of words
other_length [] other = refl
other_length (name ∷ words) other = by (find is_option words) refl
  where
    by : (found : Option (List ℕ)) → find is_option words ≡ found → with_options (find is_option words) name words ≡ command_of (name ∷ words)
    by None is = ap (λ (o : Option (List ℕ)). with_options o name words) is
    by (Some o) is =
        let some = some_option words o is in
        ap (λ (v : Option (List ℕ)). with_options v name words) is
        ∙ other_words o (name ∷ without_option words) (λ five. other (omega (arith, some.1, five)))
        ∙ sym (refused name words some.0)

-- ---- the number behind an option's name

begins : (name rest : List ℕ) → starts_with nat_eq (name ++ rest) name ≡ true
begins name rest = (starts_is Decides-eqb (name ++ rest) name (starts_with nat_eq (name ++ rest) name) refl).1 rest refl

pub number_there : (name digits option : List ℕ) (least most : ℕ) → option ≡ name ++ digits → option_number name least most option ≡ number_in least most digits
number_there name digits option least most is =
    ap (option_number name least most) is
    ∙ ap (λ (b : Bool). if b then number_in least most (drop (length name) (name ++ digits)) else None) (begins name digits)
    ∙ ap (number_in least most) (drop-append_seam name digits)

pub no_number : (name option : List ℕ) (least most : ℕ) → ((rest : List ℕ) → option ≢ name ++ rest) → option_number name least most option ≡ None
no_number name option least most other = by (starts_with nat_eq option name) refl
  where
    by : (b : Bool) → starts_with nat_eq option name ≡ b → (if b then number_in least most (drop (length name) option) else None) ≡ None
    by true is = absurd (other (drop (length name) option) ((starts_is Decides-eqb option name (starts_with nat_eq option name) refl).0 is))
    by false is = refl

-- ---- `drill` has two words behind it

pub not_two : (words : List (List ℕ)) → length words ≢ 2 → Usage ≡ drill_with words
not_two [] other = refl
not_two (a ∷ []) other = refl
not_two (a ∷ b ∷ []) other = absurd (other refl)
not_two (a ∷ b ∷ c ∷ words) other = refl
