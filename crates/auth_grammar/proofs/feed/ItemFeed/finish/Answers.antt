use Rattle.std.proofs.Common.{List, ℕ, subst, ap, ◌∙◌}
use Rattle.auth_grammar.specs.Answers.{AnswersChallenges}
use Rattle.auth_grammar.specs.Feeds.{Fed}
use Rattle.auth_grammar.proofs.feed.ItemFeed.finish.Goals as goal

pub returns : goal.returns
returns c = subst (λ (t : List ℕ). AnswersChallenges t c.read_text.result) (c.as_slice.ensures.value ∙ ap (λ (f : Fed). f.text) c.self.view_is) c.read_text.ensures
