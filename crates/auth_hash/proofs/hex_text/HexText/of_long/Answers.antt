use Rattle.std.proofs.Common.{rules, ◌≡◌}
use Rattle.hex.specs.Hex.{encode_lower}
use Rattle.auth_hash.proofs.HexTexts.{long_text}
use Rattle.auth_hash.proofs.hex_text.HexText.of_long.Goals as goal

pub invariant_of-result : goal.invariant_of-result
invariant_of-result c =
    let written : c.encode_to_slice.new.output ≡ encode_lower c.args.digest.now = search rules in
    long_text c.encode_to_slice.new.output c.args.digest.now written c.told-digest c.fits-digest
