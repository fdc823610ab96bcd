use Rattle.count_window.proofs.Sets.{answers_follow}
use Rattle.count_window.proofs.laws.answers_follow_from_counts.Goals as goal

pub returns : goal.returns
returns c = answers_follow
