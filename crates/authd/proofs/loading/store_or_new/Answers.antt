use Rattle.authd.proofs.Sites.{kept_there}
use Rattle.authd.proofs.loading.store_or_new.Goals as goal

pub returns-in_default : goal.returns-in_default
returns-in_default c = kept_there c.args.answer _ _ c.in_default.not-Absent c.text_in.ensures c.store_in.ensures
