use Rattle.std.proofs.Common.{◌≡◌, List, [], ◌∷◌, ◌++◌, length, Option, Some, sym, ap, ◌∙◌, length-append, arith}
use Rattle.std.specs.List.{slice_get}
use Rattle.std.specs.Option.{option_to_list}
use Rattle.nonce_table.specs.Passes.{TablePassFacts}
use Rattle.nonce_table.specs.Tables.{NonceTableFacts}
use Rattle.nonce_table.proofs.tests.two_passes.Goals as goal

pair_at : {A : Type 0} (rest : List A) (a b : A) (xs : List A) → xs ≡ (rest ++ a ∷ []) ++ b ∷ [] → length xs ≡ 2 → (slice_get xs 0 ≡ Some a) × (slice_get xs 1 ≡ Some b)
pair_at {A} [] a b xs e n = (ap (λ (l : List A). slice_get l 0) e, ap (λ (l : List A). slice_get l 1) e)
pair_at (r ∷ rs) a b xs e n =
    let all = ap length e in
    let last = length-append ((r ∷ rs) ++ a ∷ []) (b ∷ []) in
    let more = length-append (r ∷ rs) (a ∷ []) in
    absurd (omega arith)

pub returns-clause-passes : goal.returns-clause-passes
returns-clause-passes g c =
    let made = c.in_ok-passes.ensures in
    let first = c.unwrap-first.result in
    let second = c.unwrap-second.result in
    let rest : List TablePassFacts = c.pop-2.new.self.items in
    let before : c.pop.new.self.items ≡ rest ++ first ∷ [] = c.pop-2.ensures.items ∙ ap (λ (o : Option TablePassFacts). rest ++ option_to_list o) c.unwrap-first.ensures in
    let items : c.in_ok-passes.passes.items ≡ (rest ++ first ∷ []) ++ second ∷ []
    = c.pop.ensures.items ∙ ap (λ (o : Option TablePassFacts). c.pop.new.self.items ++ option_to_list o) c.unwrap-second.ensures ∙ ap (λ (l : List TablePassFacts). l ++ second ∷ []) before in
    let at = pair_at rest first second c.in_ok-passes.passes.items items made.number in
    let one = made.new 0 first at.0 in
    let two = made.new 1 second at.1 in
    let sizes = sym (ap (λ (t : NonceTableFacts). t.sizes) made.table) in
    let names = sym (ap (λ (t : NonceTableFacts). t.names) made.table) in
    ((ap (λ (p : TablePassFacts). p.sizes) one ∙ sizes, ap (λ (p : TablePassFacts). p.table) one ∙ names), (ap (λ (p : TablePassFacts). p.sizes) two ∙ sizes, ap (λ (p : TablePassFacts). p.table) two ∙ names))
