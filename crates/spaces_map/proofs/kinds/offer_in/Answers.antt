use Rattle.spaces_map.proofs.OfferTexts.{no_offer}
use Rattle.spaces_map.proofs.kinds.offer_in.Goals as goal

pub returns-in_default-clause-none : goal.returns-in_default-clause-none
returns-in_default-clause-none c =
    no_offer c.args.part.now _ _ _ _ c.split_flag-userhash.ensures.text c.split_flag-userhash.ensures.absent
    c.split_flag-auth_int.ensures.text c.split_flag-auth_int.ensures.absent c.in_default.ensures.none
