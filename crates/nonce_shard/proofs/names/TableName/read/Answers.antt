use Rattle.std.proofs.Common.{arith, ap, ◌∙◌, length, take, ◌≡◌, ◌≤◌, subst, Ok, ℕ}
use Rattle.base64.specs.Engines.{standard}
use Rattle.base64.specs.GeneralPurpose.{decode_of}
use Rattle.nonce_shard.proofs.NameTexts.{found_some, found_none, no_error, no_other_length, name_text_long}
use Rattle.nonce_shard.proofs.names.TableName.read.Goals as goal

pub returns-then-text-gt36-clause-none : goal.returns-then-text-gt36-clause-none
returns-then-text-gt36-clause-none c n is h = let long : length c.args.text.now ≡ 36 = ap length h ∙ name_text_long n is in omega arith

pub returns-then-count-eq27-clause-some : goal.returns-then-count-eq27-clause-some
returns-then-count-eq27-clause-some c =
    let new = c.decode_slice_unchecked.new.output in
    let decoded : decode_of standard c.args.text.now ≡ Ok (take 27 new) = subst (λ (m : ℕ). decode_of standard c.args.text.now ≡ Ok (take m new)) c.if-count-eq27.true c.in-Ok.ensures.ok.0 in
    found_some c.args.text.now new c.name_of.result (λ i. omega (arith, c.type_inv.text i)) c.decode_slice_unchecked.auto.output decoded c.name_of.ensures.some

pub returns-then-count-eq27-clause-none : goal.returns-then-count-eq27-clause-none
returns-then-count-eq27-clause-none c =
    let new = c.decode_slice_unchecked.new.output in
    let decoded : decode_of standard c.args.text.now ≡ Ok (take 27 new) = subst (λ (m : ℕ). decode_of standard c.args.text.now ≡ Ok (take m new)) c.if-count-eq27.true c.in-Ok.ensures.ok.0 in
    found_none c.args.text.now new c.name_of.result (λ i. omega (arith, c.type_inv.text i)) c.decode_slice_unchecked.auto.output decoded c.name_of.ensures.none

pub returns-else-count-eq27-clause-none : goal.returns-else-count-eq27-clause-none
returns-else-count-eq27-clause-none c n is h =
    let new = c.decode_slice_unchecked.new.output in
    let inside : c.in-Ok.count ≤ length new = omega (arith, c.in-Ok.ensures.ok.2, c.decode_slice_unchecked.auto.output) in
    no_other_length c.args.text.now new n c.in-Ok.count (λ i. omega (arith, c.type_inv.text i)) is inside c.if-count-eq27.false c.in-Ok.ensures.ok.0 h

pub returns-in-Err-clause-none : goal.returns-in-Err-clause-none
returns-in-Err-clause-none c n is h = no_error c.args.text.now n c.in-Err.field-0 (λ i. omega (arith, c.type_inv.text i)) is c.in-Err.ensures.err h
