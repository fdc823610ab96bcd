use Rattle.std.proofs.Common.{◌≡◌, ◌∙◌, ◌&&◌, Some, true, ap, subst, sym}
use Rattle.client_core.specs.declared.state.Chosen.TheVariants.{Digest}
use Rattle.client_core.specs.declared.state.DigestChoice.{DigestChoice}
use Rattle.client_core.specs.declared.state.State.{State}
use Rattle.client_core.specs.Writings.{is_quotable_challenge, is_quotable_draw}
use Rattle.client_core.proofs.WritingLaws.{both_kept, choice_kept, prime_kept}
use Rattle.client_core.proofs.state.State.give_digest.Goals as goal
use Rattle.client_core.proofs.state.State.give_digest.Goals.{then-choice, else-choice}

pub returns-clause-valid : goal.returns-clause-valid
returns-clause-valid c = λ target.
    let has : c.in-Digest.choice.nonce ≡ Some c.in-Some.nonce = ap (λ (x : DigestChoice). x.nonce) (sym c.choice.view_is) ∙ c.in-Some.is in
    let Q : DigestChoice → Type 0 = λ x. (is_quotable_challenge x.challenge && is_quotable_draw c.in_ok-draw.draw) ≡ true in
    c.in_ok-item.ensures.valid
    (subst Q (sym c.choice.view_is) (both_kept c.args.self.now c.in-Digest.choice c.in-Some.nonce c.in_ok-draw.draw c.in-Digest.is has c.requires.quotable c.in_ok-draw.ensures.quotable)) target

pub returns-clause-quotable : goal.returns-clause-quotable
returns-clause-quotable c =
    let has : c.in-Digest.choice.nonce ≡ Some c.in-Some.nonce = ap (λ (x : DigestChoice). x.nonce) (sym c.choice.view_is) ∙ c.in-Some.is in
    elim c.if-choice.branch [
      | then-choice w ↦ prime_kept c.args.self.now c.if-choice.self c.in-Digest.choice c.in-Some.nonce c.in_ok-draw.draw c.in-Digest.is has c.requires.quotable c.in_ok-draw.ensures.quotable
          (ap (λ (s : State). s.choice) w.self-is ∙ ap (λ (x : DigestChoice). Digest (record x { prime = Some c.in_ok-draw.draw.cnonce })) c.choice.view_is)
          (ap (λ (s : State). s.progress) w.self-is)
      | else-choice w ↦ choice_kept c.args.self.now c.if-choice.self c.in-Digest.choice c.in-Digest.is c.requires.quotable
          (ap (λ (s : State). s.choice) w.self-is) (ap (λ (s : State). s.progress) w.self-is)
    ]
