use Rattle.std.proofs.Common.{◌≡◌, List, ℕ, true, subst, sym, arith}
use Rattle.scram_text.specs.Bytes.{is_nonce_byte, some_of}
use Rattle.scram_text.proofs.ServerFirstLaws.{new_is}
use Rattle.scram_text.proofs.server_first.ServerFirst.new.Goals as goal

pub invariant_of-result : goal.invariant_of-result
invariant_of-result c =
    record { is_nonce = subst (λ (w : List ℕ). some_of is_nonce_byte w ≡ true) (sym c.in_ok-of.ensures) c.requires.nonce; counted = c.requires.count; spelled = ∣ new_is c.args.nonce.now c.args.salt.now c.in_ok-of.field-0 c.in_ok-of-2.field-0 c.in_ok-text_of.field-0 c.args.i c.requires.nonce (record { some = c.requires.salt; bytes = λ i. omega (arith, c.type_inv.salt i) }) (record { some = c.requires.count; fits = omega (arith, c.ranges.i.fits) }) c.in_ok-of.ensures c.in_ok-of-2.ensures c.in_ok-text_of.ensures c.requires.short ∣₁ }
