use Rattle.std.proofs.Common.{◌≡◌, inl, refl, subst, sym, IsTrue}
use Rattle.auth_grammar.specs.Kinds.{is_equals}
use Rattle.auth_grammar.specs.declared.kinds.Kind.{Kind}
use Rattle.auth_grammar.proofs.FormReadings.{equals_is}
use Rattle.auth_grammar.proofs.turns.at_second.Goals as goal

pub returns-in-Equals : goal.returns-in-Equals
returns-in-Equals c = rw c.in-Equals.is (λ params schemes w b h.
    let e : b.byte ≡ 61 = equals_is b.byte (subst (λ (k : Kind). IsTrue (is_equals k)) (sym h) refl) in
    (rw e (inl refl), λ q. absurd (cc (q))))
