use Rattle.std.proofs.Common.{◌∙◌, refl, sym}
use Rattle.std.proofs.lemmas.List.Folds.{list_all-map}
use Rattle.authd.proofs.command.command_of.Goals as goal

pub returns-then-are_words : goal.returns-then-are_words
returns-then-are_words c = let h = sym c.are_words.ensures ∙ c.if-are_words.true in rw (list_all-map, h) c.by_name.ensures

pub returns-else-are_words : goal.returns-else-are_words
returns-else-are_words c = let h = sym c.are_words.ensures ∙ c.if-are_words.false in rw (list_all-map, h) refl
