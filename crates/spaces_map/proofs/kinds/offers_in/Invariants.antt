use Rattle.std.proofs.Common.{◌≡◌, [], length, map, take}
use Rattle.spaces_map.specs.Follows.{EachFits}
use Rattle.spaces_map.specs.Kinds.{IsOther, offer_text}
use Rattle.spaces_map.proofs.OfferTexts.{parts_of}
use Rattle.spaces_map.proofs.kinds.offers_in.Given as goal

-- the offers so far are those of the parts so far
abbrev pub invariant-loop-part : goal.invariant-loop-part
invariant-loop-part l =
    (goal.iterator-loop-part).can_next l.part-iterator ×
    (goal.iterator-loop-part).is_finite l.part-iterator ×
    (map offer_text l.offers ≡ take (length l.yielded) (parts_of l.kinds)) ×
    EachFits IsOther [] l.offers
