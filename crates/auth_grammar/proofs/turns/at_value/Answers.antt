use Rattle.std.proofs.Common.{inl, inr, refl}
use Rattle.auth_grammar.proofs.turns.at_value.Goals as goal

pub returns-in-Space : goal.returns-in-Space
returns-in-Space c = elim c.in-Space.is [
  | inl e ↦ rw e (λ params schemes w b h. (inr refl, λ q. absurd (cc (q))))
  | inr e ↦ rw e (λ params schemes w b h. (inr refl, λ q. absurd (cc (q))))
]
