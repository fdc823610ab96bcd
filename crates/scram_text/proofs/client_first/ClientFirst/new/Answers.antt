use Rattle.std.proofs.Common.{◌≡◌, ◌≤◌, List, ℕ, length, true, subst, sym, arith}
use Rattle.std.proofs.lemmas.Grind.{common_steps}
use Rattle.scram_text.specs.Bytes.{is_nonce_byte, some_of}
use Rattle.scram_text.specs.ClientFirsts.{bare_text}
use Rattle.scram_text.proofs.ClientFirstLaws.{new_is}
use Rattle.scram_text.proofs.client_first.ClientFirst.new.Goals as goal

pub invariant_of-result : goal.invariant_of-result
invariant_of-result c =
    let e : c.extend-2.new.self ≡ bare_text c.args.name.now c.args.nonce.now = grind (arith, common_steps) in
    record { is_nonce = subst (λ (w : List ℕ). some_of is_nonce_byte w ≡ true) (sym c.in_ok-of-2.ensures) c.requires.nonce; short_nonce = subst (λ (w : List ℕ). length w ≤ 128) (sym c.in_ok-of-2.ensures) c.requires.short_nonce; spelled = ∣ new_is c.args.flag c.args.name.now c.args.nonce.now c.in_ok-of.field-0 c.in_ok-of-2.field-0 c.extend-2.new.self c.requires.name c.requires.short_name c.requires.nonce c.requires.short_nonce c.in_ok-of.ensures c.in_ok-of-2.ensures e ∣₁ }
