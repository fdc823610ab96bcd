-- Every decimal text is UTF-8 and a numeral, whose number is written so.
use Rattle.std.proofs.Common.{◌≡◌, ◌<◌, ◌^◌, ◌∙◌, ℕ, List, subst, sym, ap}
use Rattle.std.specs.Prelude.{decimal}
use Rattle.std.specs.Str.{IsUtf8}
use Rattle.std.specs.Str.Parse.{IsNumeral, digits_value, without_leading_plus}
use Rattle.std.proofs.lemmas.Fmt.{IsAscii-decimal}
use Rattle.std.proofs.lemmas.Str.{IsUtf8-from_ascii}
use Rattle.auth_grammar.proofs.Decimals.{decimal_read, is_itself}
use Rattle.auth_grammar.proofs.numbers.decimal_of.Goals as goal

pub returns-in_default-clause-none : goal.returns-in_default-clause-none
returns-in_default-clause-none c n below is =
    let P : List ℕ → Type 0 = IsUtf8 in
    c.in_default.ensures.cases.0 (subst P (sym is) (IsUtf8-from_ascii (decimal n) (IsAscii-decimal n below)))

pub returns-in_default-parse-clause-none : goal.returns-in_default-parse-clause-none
returns-in_default-parse-clause-none c n below is =
    let P : List ℕ → Type 0 = λ text. IsNumeral 10 (without_leading_plus text) × (digits_value 10 (without_leading_plus text) < 2 ^ 64) in
    let read = decimal_read n below in
    c.in_default-parse.ensures.value.0 (subst P (sym (c.in-Ok.ensures.cases.0 ∙ is)) (read.0, rw read.1 below))

pub returns-else-eq-clause-none : goal.returns-else-eq-clause-none
returns-else-eq-clause-none c n below is =
    let same = c.in-Ok.ensures.cases.0 ∙ is in
    let number : c.in-Ok-parse.number ≡ n = c.in-Ok-parse.ensures.value.0.1 ∙ ap (λ text. digits_value 10 (without_leading_plus text)) same ∙ (decimal_read n below).1 in
    let written : c.as_bytes.result.now ≡ c.args.text.now = c.as_bytes.ensures.value ∙ c.format.ensures.text ∙ ap decimal number ∙ sym is in
    is_itself c.as_bytes.result.now c.args.text.now written c.if-eq.ensures
