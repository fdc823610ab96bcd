use Rattle.std.proofs.Common.{◌++◌, sym, ◌∙◌}
use Rattle.auth_grammar.specs.declared.grammar.Grammar.TheVariants.{Challenges}
use Rattle.auth_grammar.proofs.FeedLaws.{repeats, takes, extended}
use Rattle.auth_grammar.proofs.feed.ItemFeed.feed.Goals as goal

pub returns-in-Some-clause-repeats : goal.returns-in-Some-clause-repeats
returns-in-Some-clause-repeats c = repeats c.args.self.now c.self.inside.walker c.self.inside.text.items c.args.piece.now c.self.inside.fault c.in-Some.at c.self.view_is c.in-Some.is c.self.invariant.0

pub returns-in-Ok-clause-takes : goal.returns-in-Ok-clause-takes
returns-in-Ok-clause-takes c = λ none.
    takes c.args.self.now c.self.inside.walker c.in-Ok.walker c.self.inside.text.items c.extend_from_slice.new.self.items c.args.piece.now c.self.inside.fault c.self.view_is none c.self.invariant.0
    (extended c.extend_from_slice.result c.extend_from_slice.new.self.items (c.self.inside.text.items ++ c.args.piece.now) c.self.inside.text.items (sym c.is_err.ensures.value ∙ c.if-is_err.false) c.extend_from_slice.ensures.items)
    (c.in-Ok.ensures Challenges c.self.inside.text.items)
