use Rattle.std.proofs.Common.{◌≡◌, ℕ, List, true}
use Rattle.scram_text.specs.Base64Places.{may_follow}
use Rattle.scram_text.specs.Contents.{WritesDigest}
use Rattle.scram_text.specs.declared.base64_places.Place.TheVariants.{Sized}
use Rattle.scram_text.proofs.Base64Steps.{walk_reaches}
use Rattle.scram_text.proofs.Base64Texts.{digest_from, digest_to}
use Rattle.scram_text.proofs.FormLaws.{same_reach}
use Rattle.scram_text.proofs.base64_texts.digest_reach.Goals as goal

pub returns-clause-reach : goal.returns-clause-reach
returns-clause-reach c =
    same_reach (λ t. may_follow (Sized 43) t ≡ true) (λ t. (digest : List ℕ) × WritesDigest t digest) digest_from digest_to c.args.text.now c.walk.result.0
    (walk_reaches (Sized 43) c.walk.result.1 c.args.text.now c.walk.result.0 c.walk.ensures.walks)
