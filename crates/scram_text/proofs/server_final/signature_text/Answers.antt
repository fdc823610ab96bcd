use Rattle.std.proofs.Common.{◌≡◌, rules, arith}
use Rattle.std.proofs.lemmas.Grind.{common_steps}
use Rattle.scram_text.specs.Bytes.{IsDigest}
use Rattle.scram_text.specs.ServerFinals.{server_final_text, signed}
use Rattle.scram_text.proofs.ServerFinalLaws.{written_is}
use Rattle.scram_text.proofs.server_final.signature_text.Goals as goal

pub returns-clause-spells : goal.returns-clause-spells
returns-clause-spells c =
    let is : IsDigest c.args.signature.now = record { long = search rules; bytes = λ i. omega (arith, c.fits-signature i) } in
    let e : c.push_base64.new.text ≡ server_final_text (signed c.args.signature.now) = grind (arith, common_steps) in
    written_is c.push_base64.new.text (signed c.args.signature.now) e is
