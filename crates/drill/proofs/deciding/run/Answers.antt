use Rattle.std.proofs.Common.{◌∙◌, ◌<◌, ℕ, ap, refl, subst}
use Rattle.auth_io.proofs.Later.{later_trans, rose_later}
use Rattle.auth_decide.specs.Decisions.{Deciding}
use Rattle.nonce_shard.specs.Journal.{Journal}
use Rattle.drill.proofs.Conducting.{at_zero, begun_same as begun, over_same as over, under_begins, under_called, under_called_begins, under_drew, under_ends, under_over, call_is_for}
use Rattle.drill.proofs.deciding.run.Goals as goal

pub returns-in-Ok-Verdict : goal.returns-in-Ok-Verdict
returns-in-Ok-Verdict g c =
    let asks = rw c.in-Ok-Verdict.field-0-is at c.in-Ok-Verdict.ensures.asked in
    record {
      ends = λ q before told at. under_ends q before _ told _ c.loop-verdict.decision c.in-Ok-Verdict.verdict (c.loop-verdict.invariant.goes q before told at) asks;
      later = c.loop-verdict.invariant.later;
      fault = λ e. absurd (cc);
    }

pub returns-in_default : goal.returns-in_default
returns-in_default g c =
    let e = c.in_default.ensures in
    record {
      ends = λ q before told at. under_begins q before _ told _ c.loop-verdict.decision (c.loop-verdict.invariant.goes q before told at);
      later = later_trans _ _ _ c.loop-verdict.invariant.later e.cause.later;
      fault = λ is. rose_later _ _ _ c.loop-verdict.invariant.later e.cause.failed;
    }

pub loop-verdict-preserved-in-Ok-Draw : goal.loop-verdict-preserved-in-Ok-Draw
loop-verdict-preserved-in-Ok-Draw g c =
    let asks = rw c.in-Ok-Draw.field-0-is at c.in-Ok-Draw.ensures.asked in
    let e = c.in-Ok.ensures in record {
      goes = λ q before told at. under_drew q before _ told _ _ c.loop-verdict.decision c.answer_words.new.self c.in-Ok.words (c.loop-verdict.invariant.goes q before told at) asks e.drawn
          c.are_words.ensures c.answer_words.ensures.stage c.answer_words.ensures.fewer;
      shards = ap (λ (d : Deciding). d.question.shards) c.answer_words.ensures.stage ∙ c.loop-verdict.invariant.shards;
      sizes = c.loop-verdict.invariant.sizes;
      later = later_trans _ _ _ c.loop-verdict.invariant.later e.cause.later;
    }

pub call-requires : goal.call-requires
call-requires g c =
    let fits = rw c.in-Ok-Table.field-0-is at c.in-Ok-Table.ensures.fits in
    let inside = subst (λ (n : ℕ). c.in-Ok-Table.shard < n) c.loop-verdict.invariant.shards fits.0 in
    record { in_range = inside; fits = fits.1 }

pub answer-requires : goal.answer-requires
answer-requires g c =
    let asks = rw c.in-Ok-Table.field-0-is at c.in-Ok-Table.ensures.asked in
    call_is_for c.loop-verdict.decision c.loop-verdict.table c.in-Ok-Table.shard c.in-Ok-Table.call c.in-Ok-call.reply asks c.in-Ok-call.ensures.reply

pub loop-verdict-preserved : goal.loop-verdict-preserved
loop-verdict-preserved g c =
    let asks = rw c.in-Ok-Table.field-0-is at c.in-Ok-Table.ensures.asked in
    let fits = rw c.in-Ok-Table.field-0-is at c.in-Ok-Table.ensures.fits in
    let inside = subst (λ (n : ℕ). c.in-Ok-Table.shard < n) c.loop-verdict.invariant.shards fits.0 in
    let e = c.in-Ok-call.ensures in record {
      goes = λ q before told at. under_called q before c.loop-verdict.table _ told _ c.loop-verdict.decision c.answer.new.self c.in-Ok-Table.shard c.in-Ok-Table.call c.in-Ok-call.reply
          (c.loop-verdict.invariant.goes q before told at) asks (at_zero c.in-Ok-Table.shard inside) c.loop-verdict.invariant.sizes e.reply e.kept c.in-Ok-answer.ensures.stage c.in-Ok-answer.ensures.fewer;
      shards = ap (λ (d : Deciding). d.question.shards) c.in-Ok-answer.ensures.stage ∙ c.loop-verdict.invariant.shards;
      sizes = ap (λ (j : Journal). j.sizes) e.kept ∙ c.loop-verdict.invariant.sizes;
      later = c.loop-verdict.invariant.later;
    }

pub returns-in_default-answer : goal.returns-in_default-answer
returns-in_default-answer g c = record {
  ends = λ q before told at. under_called_begins q before c.loop-verdict.table _ told _ c.loop-verdict.decision c.in-Ok-Table.call (c.loop-verdict.invariant.goes q before told at) c.in-Ok-call.ensures.kept;
  later = c.loop-verdict.invariant.later;
  fault = λ is. absurd (cc);
}

pub returns-in-Err-call : goal.returns-in-Err-call
returns-in-Err-call g c =
    let asks = rw c.in-Ok-Table.field-0-is at c.in-Ok-Table.ensures.asked in
    let e = c.in-Err-call.ensures in record {
      ends = λ q before told at. (
        begun before _ c.loop-verdict.table e.unchanged (under_begins q before c.loop-verdict.table told _ c.loop-verdict.decision (c.loop-verdict.invariant.goes q before told at)),
        over q before _ c.loop-verdict.table c.in-Err-call.worn.calls e.unchanged (under_over q before c.loop-verdict.table told _ c.loop-verdict.decision c.in-Ok-Table.shard c.in-Ok-Table.call c.in-Err-call.worn.calls (c.loop-verdict.invariant.goes q before told at) asks e.worn.at_limit (e.full.0 refl)),
      );
      later = c.loop-verdict.invariant.later;
      fault = λ is. absurd (cc);
    }

pub returns-in-Err : goal.returns-in-Err
returns-in-Err g c = record {
  ends = λ q before told at. under_begins q before _ told _ c.loop-verdict.decision (c.loop-verdict.invariant.goes q before told at);
  later = c.loop-verdict.invariant.later;
  fault = λ is. absurd (cc);
}
