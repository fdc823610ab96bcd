use Rattle.std.proofs.Common.{rules, ◌≡◌}
use Rattle.hex.specs.Hex.{encode_lower}
use Rattle.auth_hash.proofs.HexTexts.{short_text}
use Rattle.auth_hash.proofs.hex_text.HexText.of_short.Goals as goal

pub invariant_of-result : goal.invariant_of-result
invariant_of-result c =
    let written : c.encode_to_slice.new.output ≡ encode_lower c.args.digest.now = search rules in
    short_text c.encode_to_slice.new.output c.args.digest.now written c.told-digest c.fits-digest
