use Rattle.std.proofs.Common.{◌≡◌, ◌≢◌, ◌==◌, List, ℕ, [], ◌++◌, length, true≢false, ap, ◌∙◌, subst, sym}
use Rattle.std.proofs.lemmas.Result.{err_from_is_err_and}
use Rattle.spaces_map.specs.Texts.{IsSpaces, spaces_text}
use Rattle.spaces_map.specs.declared.space.Space.{Space}
use Rattle.spaces_map.proofs.SpaceTexts.{header_is, no_header, begin, no_line_feed, fault_of, next_line}
use Rattle.spaces_map.proofs.texts.spaces_in.Goals as goal

pub returns-in_default-clause-fault : goal.returns-in_default-clause-fault
returns-in_default-clause-fault c = no_header c.args.text.now _ header_is c.in_default.ensures.none

pub loop-rest-init : goal.loop-rest-init
loop-rest-init c = begin c.args.text.now _ c.in-Some.lines.now c.new-spaces.result header_is c.in-Some.ensures.some c.new-spaces.ensures

pub returns-in_default-cut_at-clause-fault : goal.returns-in_default-cut_at-clause-fault
returns-in_default-cut_at-clause-fault c =
    let some : c.loop-rest.rest.now ≢ [] = λ e. true≢false (ap (λ (l : List ℕ). length l == 0) (sym e) ∙ sym c.is_empty.ensures ∙ c.loop-rest-test.true) in
    no_line_feed c.args.text.now c.loop-rest.rest.now c.loop-rest.spaces c.line_behind.result c.loop-rest.invariant (rw (← c.as_slice.ensures) c.line_behind.ensures) some c.in_default-cut_at.ensures.none

pub returns-in_err-next_space-clause-fault : goal.returns-in_err-next_space-clause-fault
returns-in_err-next_space-clause-fault c =
    let fault = fault_of c.args.text.now c.loop-rest.rest.now c.in-Some-cut_at.line.now c.in-Some-cut_at.more.now c.loop-rest.spaces c.loop-rest.invariant
    c.in-Some-cut_at.ensures.some c.in-Some-cut_at.ensures.first c.in_err-next_space.field-0.0 (rw c.as_slice-in-loop-rest.ensures at c.in_err-next_space.ensures.fault) in
    let p = err_from_is_err_and c.from_residual.result c.from_residual.ensures.1 in
    rw (p.1, p.2) fault

pub loop-rest-preserved : goal.loop-rest-preserved
loop-rest-preserved c =
    let P : List Space → Type 0 = λ l. IsSpaces l × (c.args.text.now ≡ spaces_text l ++ c.in-Some-cut_at.more.now) in
    subst P (sym c.in_ok-push.ensures.ok)
    (next_line c.args.text.now c.loop-rest.rest.now c.in-Some-cut_at.line.now c.in-Some-cut_at.more.now c.loop-rest.spaces c.in_ok-next_space.field-0
    c.loop-rest.invariant c.in-Some-cut_at.ensures.some c.in_ok-next_space.ensures.text (rw c.as_slice-in-loop-rest.ensures at c.in_ok-next_space.ensures.fits) (rw c.as_slice-in-loop-rest.ensures at c.in_ok-next_space.ensures.room))
