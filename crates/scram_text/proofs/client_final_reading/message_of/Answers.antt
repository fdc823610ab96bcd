use Rattle.std.proofs.Common.{◌≡◌, List, ℕ, true, subst, sym}
use Rattle.scram_text.specs.Bytes.{is_nonce_byte, some_of}
use Rattle.scram_text.proofs.ClientFinalLaws.{read_is, spells_nonce}
use Rattle.scram_text.proofs.client_final_reading.message_of.Goals as goal

pub invariant_of-result : goal.invariant_of-result
invariant_of-result c =
    record { is_nonce = subst (λ (w : List ℕ). some_of is_nonce_byte w ≡ true) (sym c.in_ok-of.ensures) c.requires.holds_nonce; spelled = ∣ read_is c.args.text.now c.args.binding.now c.args.nonce.now c.in_ok-of.field-0 c.args.proof.now c.in-Some.flag c.in_ok-of-2.field-0 c.in_ok-digest_of.field-0 c.requires c.in-Some.ensures.some c.in_ok-of.ensures c.in_ok-of-2.ensures c.in_ok-digest_of.ensures ∣₁ }

pub returns : goal.returns
returns c = spells_nonce c.args.text.now c.args.binding.now c.args.nonce.now c.in_ok-of.field-0 c.args.proof.now c.in-Some.flag c.in_ok-of-2.field-0 c.in_ok-digest_of.field-0 c.requires c.in-Some.ensures.some c.in_ok-of.ensures c.in_ok-of-2.ensures c.in_ok-digest_of.ensures
