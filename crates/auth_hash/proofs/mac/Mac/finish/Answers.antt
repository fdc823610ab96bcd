-- The code is the digest behind the outer pad, of the digest behind the inner one.
use Rattle.std.proofs.Common.{ap, ◌∙◌, ◌++◌}
use Rattle.sha2.specs.Sha256.{sha256}
use Rattle.auth_hash.specs.Mac.{hmac, padded_key}
use Rattle.auth_hash.specs.declared.mac.TheConstants.{OUTER_PAD}
use Rattle.auth_hash.proofs.mac.Mac.finish.Goals as goal

pub returns : goal.returns
unfolding hmac
returns c key message held =
    c.finalize.ensures (padded_key OUTER_PAD key ++ c.finalize-digest.result) (c.update.ensures (padded_key OUTER_PAD key) held.1)
    ∙ ap (λ digest. sha256 (padded_key OUTER_PAD key ++ digest)) (c.finalize-digest.ensures _ held.0)
