use Rattle.std.proofs.Common.{◌≡◌, true, false, sym, ◌∙◌, ap, rules}
use Rattle.std.specs.List.{list_all}
use Rattle.scram_text.specs.Bytes.{is_nonce_byte, is_symbol, some_of}
use Rattle.scram_text.proofs.ReauthLaws.{client_found, parts_found}
use Rattle.scram_text.proofs.reauth.reauth_parts.Goals as goal

pub returns-then-not-all_of-clause-none : goal.returns-then-not-all_of-clause-none
returns-then-not-all_of-clause-none c = λ client count sr is.
    let found = parts_found c.args.text.now c.in-Some.head.now c.in-Some.sr.now client count sr c.in-Some.ensures.some c.in-Some.ensures.long is in
    let yes : c.all_of.result ≡ true = c.all_of.ensures ∙ ap (list_all is_symbol) found.1 ∙ is.symbols in
    let not : c.all_of.result ≡ false = search rules in
    let wrong : true ≡ false = sym yes ∙ not in cc

pub returns-in_default-count_of-clause-none : goal.returns-in_default-count_of-clause-none
returns-in_default-count_of-clause-none c = λ client count sr is.
    let found = client_found c.args.text.now c.in-Some.head.now c.in-Some.sr.now c.split_digits.result.0.now c.split_digits.result.1.now client count sr c.in-Some.ensures.some c.in-Some.ensures.long
    c.split_digits.ensures.cut c.split_digits.ensures.digits c.split_digits.ensures.plain is in
    c.in_default-count_of.ensures.none count is.some is.fits found.1

pub returns-then-not-is_run-clause-none : goal.returns-then-not-is_run-clause-none
returns-then-not-is_run-clause-none c = λ client count sr is.
    let found = client_found c.args.text.now c.in-Some.head.now c.in-Some.sr.now c.split_digits.result.0.now c.split_digits.result.1.now client count sr c.in-Some.ensures.some c.in-Some.ensures.long
    c.split_digits.ensures.cut c.split_digits.ensures.digits c.split_digits.ensures.plain is in
    let yes : c.is_run.result ≡ true = c.is_run.ensures ∙ ap (some_of is_nonce_byte) found.0 ∙ is.is_nonce in
    let not : c.is_run.result ≡ false = search rules in
    let wrong : true ≡ false = sym yes ∙ not in cc
