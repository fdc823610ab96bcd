use Rattle.authget.proofs.Replying.{talks_whole}
use Rattle.authget.proofs.exchange.converse.Goals as goal

pub returns-clause-talks : goal.returns-clause-talks
returns-clause-talks g c = talks_whole _ _ _ _ _ _ c.args.text.now c.read_reply.result c.in_ok-send_all.ensures.left c.in_ok-send_all.ensures.ok c.read_reply.ensures.written c.read_reply.ensures.reply
