use Rattle.std.proofs.Common.{◌≡◌, ℕ, List, true}
use Rattle.scram_text.specs.Base64Places.{may_follow}
use Rattle.scram_text.specs.Contents.{WritesSalt}
use Rattle.scram_text.specs.declared.base64_places.Place.TheVariants.{Start}
use Rattle.scram_text.proofs.Base64Steps.{walk_reaches}
use Rattle.scram_text.proofs.Base64Texts.{salt_from, salt_to}
use Rattle.scram_text.proofs.FormLaws.{same_reach}
use Rattle.scram_text.proofs.base64_texts.salt_reach.Goals as goal

pub returns-clause-reach : goal.returns-clause-reach
returns-clause-reach c =
    same_reach (λ t. may_follow Start t ≡ true) (λ t. (salt : List ℕ) × WritesSalt t salt) salt_from salt_to c.args.text.now c.walk.result.0
    (walk_reaches Start c.walk.result.1 c.args.text.now c.walk.result.0 c.walk.ensures.walks)
