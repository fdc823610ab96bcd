use Rattle.std.proofs.Common.{◌∙◌, ◌<◌, ℕ, ap, refl, subst, sym}
use Rattle.auth_decide.specs.Decisions.{Deciding}
use Rattle.request_deciding.proofs.Decisions.{call_is_for, goes_called, goes_drew, goes_no_draw, goes_no_memory, goes_spent, goes_verdict, goes_worn}
use Rattle.request_deciding.proofs.deciding.run.Goals as goal

pub returns-in-Ok-Verdict : goal.returns-in-Ok-Verdict
returns-in-Ok-Verdict g c =
    let asks = rw c.in-Ok-Verdict.field-0-is at c.in-Ok-Verdict.ensures.asked in
    record { draws = λ _. c.loop-verdict.invariant.draws; decided = λ before role s t at. goes_verdict before _ role s t c.loop-verdict.decision c.in-Ok-Verdict.verdict (c.loop-verdict.invariant.goes before role s t at) asks }

pub returns-in_default : goal.returns-in_default
returns-in_default g c =
    let asks = rw c.in-Ok-Draw.field-0-is at c.in-Ok-Draw.ensures.asked in
    let e = c.in_default.ensures in
    record { draws = λ other. absurd (other refl); decided = λ before role s t at. goes_no_draw before _ _ role s t c.loop-verdict.decision (c.loop-verdict.invariant.goes before role s t at) asks e.drawn_at_fault e.cause.later e.cause.failed refl }

pub loop-verdict-preserved-in-Ok-Draw : goal.loop-verdict-preserved-in-Ok-Draw
loop-verdict-preserved-in-Ok-Draw g c =
    let asks = rw c.in-Ok-Draw.field-0-is at c.in-Ok-Draw.ensures.asked in
    let e = c.in-Ok.ensures in record {
      goes = λ before role s t at. goes_drew before _ _ role s t c.loop-verdict.decision c.answer_words.new.self c.in-Ok.words (c.loop-verdict.invariant.goes before role s t at) asks e.drawn e.cause.later refl c.answer_words.ensures.stage;
      draws = e.cause.kept ∙ c.loop-verdict.invariant.draws;
      shards = c.loop-verdict.invariant.shards ∙ sym (ap (λ (d : Deciding). d.question.shards) c.answer_words.ensures.stage);
    }

pub answer-requires : goal.answer-requires
answer-requires g c =
    let asks = rw c.in-Ok-Table.field-0-is at c.in-Ok-Table.ensures.asked in
    let fits = rw c.in-Ok-Table.field-0-is at c.in-Ok-Table.ensures.fits in
    let inside = subst (λ (n : ℕ). c.in-Ok-Table.shard < n) (sym c.loop-verdict.invariant.shards) fits.0 in
    call_is_for c.loop-verdict.decision _ _ c.in-Ok-Table.shard c.in-Ok-Table.call c.in-Ok-call.reply asks inside c.in-Ok-call.ensures.ok

pub loop-verdict-preserved : goal.loop-verdict-preserved
loop-verdict-preserved g c =
    let asks = rw c.in-Ok-Table.field-0-is at c.in-Ok-Table.ensures.asked in
    let fits = rw c.in-Ok-Table.field-0-is at c.in-Ok-Table.ensures.fits in
    let inside = subst (λ (n : ℕ). c.in-Ok-Table.shard < n) (sym c.loop-verdict.invariant.shards) fits.0 in
    let grows = c.in-Ok-call.ensures.ok in record {
      goes = λ before role s t at. goes_called before _ _ role s t c.loop-verdict.decision c.answer.new.self c.in-Ok-Table.shard c.in-Ok-Table.call c.in-Ok-call.reply (c.loop-verdict.invariant.goes before role s t at) asks inside grows c.in-Ok-answer.ensures.stage;
      draws = c.loop-verdict.invariant.draws;
      shards = grows.same.shards ∙ c.loop-verdict.invariant.shards ∙ sym (ap (λ (d : Deciding). d.question.shards) c.in-Ok-answer.ensures.stage);
    }

-- the call was answered, and then there was no memory
pub returns-in_default-answer : goal.returns-in_default-answer
returns-in_default-answer g c =
    let asks = rw c.in-Ok-Table.field-0-is at c.in-Ok-Table.ensures.asked in
    let fits = rw c.in-Ok-Table.field-0-is at c.in-Ok-Table.ensures.fits in
    let inside = subst (λ (n : ℕ). c.in-Ok-Table.shard < n) (sym c.loop-verdict.invariant.shards) fits.0 in
    let grows = c.in-Ok-call.ensures.ok in record {
      draws = λ _. c.loop-verdict.invariant.draws;
      decided = λ before role s t at. goes_spent before _ _ role s t c.loop-verdict.decision c.in-Ok-Table.shard c.in-Ok-Table.call c.in-Ok-call.reply (c.loop-verdict.invariant.goes before role s t at) asks inside grows;
    }

pub returns-in-Err-call : goal.returns-in-Err-call
returns-in-Err-call g c =
    let asks = rw c.in-Ok-Table.field-0-is at c.in-Ok-Table.ensures.asked in
    let fits = rw c.in-Ok-Table.field-0-is at c.in-Ok-Table.ensures.fits in
    let inside = subst (λ (n : ℕ). c.in-Ok-Table.shard < n) (sym c.loop-verdict.invariant.shards) fits.0 in
    record { draws = λ _. c.loop-verdict.invariant.draws; decided = λ before role s t at. goes_worn before _ _ role s t c.loop-verdict.decision c.in-Ok-Table.shard c.in-Err-call.worn.calls c.in-Ok-Table.call (c.loop-verdict.invariant.goes before role s t at) asks inside c.in-Err-call.ensures.worn }

pub returns-in-Err : goal.returns-in-Err
returns-in-Err g c = record { draws = λ _. c.loop-verdict.invariant.draws; decided = λ before role s t at. goes_no_memory before _ role s t c.loop-verdict.decision (c.loop-verdict.invariant.goes before role s t at) }
