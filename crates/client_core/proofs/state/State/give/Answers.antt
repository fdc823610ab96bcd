use Rattle.std.proofs.Common.{◌≡◌, ◌∙◌, OnErr, ap, subst, rules}
use Rattle.client_core.specs.Digests.{DrewAtMost}
use Rattle.client_core.specs.declared.state.State.{State}
use Rattle.client_core.proofs.QuotableTexts.{ok_then}
use Rattle.client_core.proofs.WritingLaws.{answered_sid, given_chosen, none_same}
use Rattle.client_core.proofs.state.State.give.Goals as goal

pub returns-in-Answered-clause-valid : goal.returns-in-Answered-clause-valid
returns-in-Answered-clause-valid c = λ target. c.in_ok-item.ensures.valid (answered_sid c.args.self.now c.in-Answered.exchange c.in-Answered.is c.requires.quotable)

pub returns : goal.returns
returns c =
    let same : c.give_again.new.self ≡ c.args.self.now = none_same c.in_ok-sent.field-0 c.in_default-2.not-Some c.in_ok-sent.ensures.none in
    let R : State → Type 0 = λ u. OnErr c.give_chosen.result (DrewAtMost u c.give_chosen.new.self) in
    record {
      ok = ok_then _ _ c.give_chosen.result (λ what is. given_chosen c.args.self.now _ c.args.request.now c.args.moment c.args.words.now c.in_ok-sent.field-0 _ c.in_default.not-Answered c.in_ok-sent.ensures.ok c.in_default-2.not-Some c.in_ok-sent.ensures.none is) c.give_chosen.ensures.ok;
      err = subst R same c.give_chosen.ensures.err;
      user = c.give_chosen.ensures.user ∙ ap (λ (u : State). u.user) same;
      quotable = c.give_chosen.ensures.quotable;
      valid = c.give_chosen.ensures.valid;
    }
