use Rattle.std.proofs.Common.{◌≡◌, List, ℕ, true, subst, sym, rules, arith}
use Rattle.scram_text.specs.Bytes.{IsDigest, is_nonce_byte, some_of}
use Rattle.scram_text.proofs.ClientFinalLaws.{new_is}
use Rattle.scram_text.proofs.client_final.ClientFinal.new.Goals as goal

pub invariant_of-result : goal.invariant_of-result
invariant_of-result c =
    let is : IsDigest c.args.proof.now = record { long = search rules; bytes = λ i. omega (arith, c.fits-proof i) } in
    record { is_nonce = subst (λ (w : List ℕ). some_of is_nonce_byte w ≡ true) (sym c.in_ok-of.ensures) c.requires.nonce; spelled = ∣ new_is c.args.flag c.args.nonce.now c.in_ok-of.field-0 c.in_ok-without.field-0 c.args.proof.now c.requires.nonce c.in_ok-of.ensures c.in_ok-without.ensures is ∣₁ }
