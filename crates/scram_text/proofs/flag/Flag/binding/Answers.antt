use Rattle.std.proofs.Common.{[], ◌∷◌, subst, sym}
use Rattle.scram_text.specs.Contents.{WritesHeader}
use Rattle.scram_text.specs.declared.flag.Flag.{Flag}
use Rattle.scram_text.proofs.Base64Groups.{header_n, header_y}
use Rattle.scram_text.proofs.flag.Flag.binding.Goals as goal

pub returns-in-N : goal.returns-in-N
returns-in-N c = subst (λ (f : Flag). WritesHeader (98 ∷ 105 ∷ 119 ∷ 115 ∷ []) f) (sym c.in-N.is) (sym header_n)

pub returns-in-Y : goal.returns-in-Y
returns-in-Y c = subst (λ (f : Flag). WritesHeader (101 ∷ 83 ∷ 119 ∷ 115 ∷ []) f) (sym c.in-Y.is) (sym header_y)
