use Rattle.std.proofs.Common.{◌≡◌, take, Some}
use Rattle.scram_text.specs.Base64Places.{place_behind}
use Rattle.scram_text.proofs.base64_places.walk.Given as goal

-- the bytes so far lead to the place
abbrev pub invariant-loop-at : goal.invariant-loop-at
invariant-loop-at l = place_behind l.fn.from (take l.at l.text) ≡ Some l.place
