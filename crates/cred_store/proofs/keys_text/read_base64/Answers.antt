use Rattle.std.proofs.Common.{arith}
use Rattle.cred_store.proofs.KeyTexts.{encoded_short, found_none, found_some, no_error}
use Rattle.cred_store.proofs.keys_text.read_base64.Goals as goal

pub returns-then-text-gt-ENCODED_LIMIT-clause-none : goal.returns-then-text-gt-ENCODED_LIMIT-clause-none
returns-then-text-gt-ENCODED_LIMIT-clause-none c bytes are short same =
    absurd (omega (arith, encoded_short c.args.text.now bytes short same))

pub returns-in-Ok-clause-some : goal.returns-in-Ok-clause-some
returns-in-Ok-clause-some c =
    found_some c.args.text.now c.decode_slice_unchecked.new.output c.in-Ok.count c.front_of.result (λ i. omega (arith, c.type_inv.text i)) c.in-Ok.ensures.ok.0 c.front_of.ensures.some

pub returns-in-Ok-clause-none : goal.returns-in-Ok-clause-none
returns-in-Ok-clause-none c =
    found_none c.args.text.now c.decode_slice_unchecked.new.output c.in-Ok.count c.front_of.result (λ i. omega (arith, c.type_inv.text i))
    (omega (arith, c.in-Ok.ensures.ok.2, c.decode_slice_unchecked.auto.output)) c.in-Ok.ensures.ok.0 c.front_of.ensures.none

pub returns-in-Err-clause-none : goal.returns-in-Err-clause-none
returns-in-Err-clause-none c bytes are short same =
    no_error c.args.text.now bytes c.in-Err.field-0 (λ i. omega (arith, c.type_inv.text i)) are c.in-Err.ensures.err same
