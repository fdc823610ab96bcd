use Rattle.std.proofs.Common.{ℕ, List, ◌∙◌, sym, ap, is_eq, nat_cmp, arith}
use Rattle.std.specs.Cmp.Lexicographic.{slice_cmp}
use Rattle.auth_io.proofs.Entries.{looked_up_all, looked_up_here, looked_up_on, looked_up_end}
use Rattle.auth_io.proofs.memory.files.find.Goals as goal

pub loop-key-init : goal.loop-key-init
loop-key-init c = looked_up_all c.args.contents.now c.args.name.now

pub returns-then-is_eq : goal.returns-then-is_eq
returns-then-is_eq c =
    let same = sym c.if-is_eq.true ∙ c.is_eq.ensures ∙ ap is_eq (c.cmp.ensures ∙ ap (λ (k : List ℕ). slice_cmp nat_cmp c.args.name.now k) c.bytes.ensures) in
    sym (c.loop-key.invariant ∙ looked_up_here c.args.contents.now c.args.name.now c.loop-key.key-index c.loop-key-item.result (omega arith) c.loop-key-item.is same)

pub loop-key-preserved : goal.loop-key-preserved
loop-key-preserved c =
    let same = sym c.if-is_eq.false ∙ c.is_eq.ensures ∙ ap is_eq (c.cmp.ensures ∙ ap (λ (k : List ℕ). slice_cmp nat_cmp c.args.name.now k) c.bytes.ensures) in
    c.loop-key.invariant ∙ looked_up_on c.args.contents.now c.args.name.now c.loop-key.key-index c.loop-key-item.result (omega arith) c.loop-key-item.is same

pub returns : goal.returns
returns c = sym (c.loop-key.invariant ∙ looked_up_end c.args.contents.now c.args.name.now c.loop-key.key-index (omega arith))
