use Rattle.auth_hash.proofs.Hashers.{md5_text, sha256_text, sha512t256_text}
use Rattle.auth_hash.proofs.hasher.Hasher.finish.Goals as goal

pub returns-in-Md5 : goal.returns-in-Md5
returns-in-Md5 c = λ a m held. rw c.of_short.ensures (md5_text c.in-Md5.hasher _ c.finalize.ensures a m (rw c.in-Md5.is at held))

pub returns-in-Sha256 : goal.returns-in-Sha256
returns-in-Sha256 c = λ a m held. rw c.of_long.ensures (sha256_text c.in-Sha256.hasher _ c.finalize-in-Sha256.ensures a m (rw c.in-Sha256.is at held))

pub returns-in-Sha512t256 : goal.returns-in-Sha512t256
returns-in-Sha512t256 c = λ a m held. rw c.of_long-in-Sha512t256.ensures (sha512t256_text c.in-Sha512t256.hasher _ c.finalize-in-Sha512t256.ensures a m (rw c.in-Sha512t256.is at held))
