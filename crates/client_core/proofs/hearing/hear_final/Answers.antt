use Rattle.std.proofs.Common.{Some, ap, sym, ◌∙◌}
use Rattle.std.specs.Prelude.{option_copied}
use Rattle.scram_text.specs.Bytes.{base64_bytes}
use Rattle.client_core.proofs.ScramProofs.{hears_final}
use Rattle.client_core.proofs.hearing.hear_final.Goals as goal

pub returns-in-Some-2 : goal.returns-in-Some-2
returns-in-Some-2 c =
    let stands = ap option_copied c.in-Some.is in
    let is = ap base64_bytes (sym c.bytes.ensures) ∙ sym (c.in_ok-text.ensures {u = tt}) ∙ c.in-Some-2.is in
    hears_final c.in-Some.message.now c.in-Some-2.text c.bytes-in-Some-2.result.now (option_copied c.args.found) c.read_final.result stands is c.bytes-in-Some-2.ensures c.read_final.ensures
