use Rattle.std.proofs.Common.{◌≡◌, ◌∙◌, true, ap, sym, subst}
use Rattle.client_core.specs.Changes.{applied}
use Rattle.client_core.specs.declared.conclusion.Conclusion.{Conclusion}
use Rattle.client_core.specs.declared.state.State.{State}
use Rattle.client_core.specs.Writings.{is_quotable_state}
use Rattle.client_core.proofs.KeptLaws.{applied_user, kept_quotable}
use Rattle.client_core.proofs.client.Client.on_response.Goals as goal

pub invariant_of-self : goal.invariant_of-self
invariant_of-self c =
    let s : State = c.self.inside.state in
    let Q : State → Type 0 = λ x. is_quotable_state x ≡ true in
    record {
      name = applied_user c.in_ok-conclusion.conclusion.change s c.apply.new.self c.apply.ensures c.self.invariant.name;
      quotable = subst Q (sym (c.apply.ensures ∙ ap (λ (k : Conclusion). applied k.change s) c.in_ok-conclusion.ensures))
          (kept_quotable s c.args.request.now c.args.sent.now c.args.response.now c.args.moment c.in_ok-said.said c.in_ok-heard.heard c.in_ok-said.ensures.written c.self.invariant.quotable);
    }
