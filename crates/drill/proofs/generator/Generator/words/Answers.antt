use Rattle.std.proofs.Common.{◌∙◌, ℕ, ap}
use Rattle.drill.specs.Generator.{moved, upper}
use Rattle.drill.proofs.Generation.{four_numbers, same_bytes}
use Rattle.drill.proofs.generator.Generator.words.Goals as goal

pub returns-clause-words : goal.returns-clause-words
returns-clause-words c =
    let one = c.next.ensures.state in
    let two = c.next-2.ensures.state ∙ ap moved one in
    let three = c.next-3.ensures.state ∙ ap moved two in
    same_bytes c.to_be_bytes.result c.to_be_bytes-2.result c.to_be_bytes-3.result c.to_be_bytes-4.result c.next.result c.next-2.result c.next-3.result c.next-4.result
    c.to_be_bytes.ensures c.to_be_bytes-2.ensures c.to_be_bytes-3.ensures c.to_be_bytes-4.ensures
    ∙ four_numbers c.args.self.now.state c.next.result c.next-2.result c.next-3.result c.next-4.result c.next.ensures.gives
    (c.next-2.ensures.gives ∙ ap (λ (n : ℕ). upper (moved n)) one) (c.next-3.ensures.gives ∙ ap (λ (n : ℕ). upper (moved n)) two) (c.next-4.ensures.gives ∙ ap (λ (n : ℕ). upper (moved n)) three)
