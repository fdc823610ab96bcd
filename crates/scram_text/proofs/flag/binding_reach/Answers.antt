use Rattle.std.proofs.Common.{◌≡◌, ◌⊎◌, List, ℕ, subst, inl, inr}
use Rattle.scram_text.specs.Contents.{WritesHeader}
use Rattle.scram_text.specs.Reaching.{Reaches}
use Rattle.scram_text.specs.declared.flag.Flag.{Flag}
use Rattle.scram_text.specs.declared.flag.Flag.TheVariants.{N, Y}
use Rattle.scram_text.proofs.EitherLaws.{either_reaches}
use Rattle.scram_text.proofs.FormLaws.{same_reach}
use Rattle.scram_text.proofs.flag.binding_reach.Goals as goal

some_flag : (t : List ℕ) → WritesHeader t N ⊎ WritesHeader t Y → (flag : Flag) × WritesHeader t flag
some_flag t is = elim is [ inl n ↦ (N, n) | inr y ↦ (Y, y) ]

one_flag : (t : List ℕ) → ((flag : Flag) × WritesHeader t flag) → WritesHeader t N ⊎ WritesHeader t Y
one_flag t is = go is.0 is.1
  where
    go : (flag : Flag) → WritesHeader t flag → WritesHeader t N ⊎ WritesHeader t Y
    go N is = inl is
    go Y is = inr is

pub returns-clause-reach : goal.returns-clause-reach
returns-clause-reach c =
    let P : List ℕ → Type 0 = λ w. Reaches (λ t. t ≡ w) c.args.text.now c.word_reach.result in
    let Q : List ℕ → Type 0 = λ w. Reaches (λ t. t ≡ w) c.args.text.now c.word_reach-2.result in
    same_reach (λ t. WritesHeader t N ⊎ WritesHeader t Y) (λ t. (flag : Flag) × WritesHeader t flag) some_flag one_flag c.args.text.now c.farther.result
    (either_reaches (λ t. WritesHeader t N) (λ t. WritesHeader t Y) c.args.text.now c.word_reach.result c.word_reach-2.result c.farther.result c.farther.ensures.first c.farther.ensures.second c.farther.ensures.one
    (subst P c.binding.ensures c.word_reach.ensures.reach) (subst Q c.binding-2.ensures c.word_reach-2.ensures.reach))
