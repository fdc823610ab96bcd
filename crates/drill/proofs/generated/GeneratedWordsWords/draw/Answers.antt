use Rattle.drill.proofs.Generation.{drew_next, stands_next}
use Rattle.drill.proofs.generated.GeneratedWordsWords.draw.Goals as goal

pub invariant_of-self : goal.invariant_of-self
invariant_of-self c =
    let s = c.args.self.now in
    record { goes = λ room. stands_next s.drawn c.saturating_add-self.result s.begun s.generator.state c.words.new.self.state c.saturating_add-self.ensures s.goes c.words.ensures.state room }

pub returns-clause-drawn : goal.returns-clause-drawn
returns-clause-drawn c =
    let s = c.args.self.now in
    drew_next s.drawn c.saturating_add-self.result s.begun s.generator.state c.words.result c.saturating_add-self.ensures s.goes c.words.ensures.words
