use Rattle.std.proofs.Common.{rules, tests, ◌==◌, List, [], map, ap, ◌∙◌}
use Rattle.std.proofs.lemmas.Iterator.Splits.{YieldsList-from_slice_split}
use Rattle.std.proofs.lemmas.List.{length_push}
use Rattle.spaces_map.specs.Kinds.{IsOther, offer_text}
use Rattle.spaces_map.specs.declared.space.Offer.{Offer}
use Rattle.spaces_map.proofs.Follows.{fits_push}
use Rattle.spaces_map.proofs.OfferTexts.{no_more, one_more, all_read}
use Rattle.spaces_map.proofs.Turns.{turn_at, end_at}
use Rattle.spaces_map.proofs.kinds.offers_in.Goals as goal

pub returns-in_default-clause-none : goal.returns-in_default-clause-none
returns-in_default-clause-none c =
    no_more c.args.kinds.now c.loop-part.offers c.in-Some.part.now _ c.loop-part.invariant.2
    (turn_at c.loop-part.yielded _ c.loop-part.yielded_by _ _ c.in-Some.part c.in-Some.is c.next.ensures.steps
    (YieldsList-from_slice_split _ (λ b. b == 44) c.args.kinds.now (cc) (cc) (cc) (λ x b q h. search (rules, tests))))
    (rw c.as_slice.ensures at c.in_default.ensures.none)

pub loop-part-preserved : goal.loop-part-preserved
loop-part-preserved c = (
  search rules,
  search rules,
  ap (λ (l : List Offer). map offer_text l) c.in_ok-push.ensures.ok ∙ one_more c.args.kinds.now c.loop-part.offers c.in-Some-other_offer.offer c.in-Some.part.now _ _ c.loop-part.invariant.2
      (turn_at c.loop-part.yielded _ c.loop-part.yielded_by _ _ c.in-Some.part c.in-Some.is c.next.ensures.steps
      (YieldsList-from_slice_split _ (λ b. b == 44) c.args.kinds.now (cc) (cc) (cc) (λ x b q h. search (rules, tests))))
      c.in-Some-other_offer.ensures.some (length_push c.loop-part.yielded c.in-Some.part),
  rw c.in_ok-push.ensures.ok (fits_push IsOther [] c.loop-part.offers c.in-Some-other_offer.offer c.loop-part.invariant.3 (rw c.as_slice.ensures at c.in-Some-other_offer.ensures.other)),
)

pub returns-clause-some : goal.returns-clause-some
returns-clause-some c =
    let end = end_at c.loop-part.yielded _ c.loop-part.yielded_by _ _ c.in-None.is c.next.ensures.steps
    (YieldsList-from_slice_split _ (λ b. b == 44) c.args.kinds.now (cc) (cc) (cc) (λ x b q h. search (rules, tests))) in
    all_read c.args.kinds.now c.loop-part.offers _ c.loop-part.invariant.2 end.1 c.loop-part.invariant.3
