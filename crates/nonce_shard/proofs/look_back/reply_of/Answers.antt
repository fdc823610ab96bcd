use Rattle.std.proofs.Common.{refl}
use Rattle.nonce_shard.proofs.look_back.reply_of.Goals as goal

pub reply_to_use-requires : goal.reply_to_use-requires
reply_to_use-requires c = c.if-is_nonce_live.ensures.uses refl
