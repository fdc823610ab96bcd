use Rattle.std.proofs.Common.{length, sym, ◌∙◌, ap, subst}
use Rattle.scram_text.specs.Contents.{WritesDigest}
use Rattle.scram_text.proofs.Base64Groups.{written_bytes}
use Rattle.scram_text.proofs.base64_texts.digest_of.Goals as goal

pub copy_from_slice-requires : goal.copy_from_slice-requires
copy_from_slice-requires c =
    let writes = c.requires.1 in
    let read = sym (c.in_ok-bytes.ensures {u = tt}) ∙ c.in-Some.is in
    let same = written_bytes c.args.text.now c.requires.0 c.in-Some.bytes writes.is_digest.bytes writes.written read in
    sym (ap length (c.bytes-in-Some.ensures ∙ sym same) ∙ writes.is_digest.long)

pub returns-in-Some : goal.returns-in-Some
returns-in-Some c =
    let writes = c.requires.1 in
    let read = sym (c.in_ok-bytes.ensures {u = tt}) ∙ c.in-Some.is in
    let same = written_bytes c.args.text.now c.requires.0 c.in-Some.bytes writes.is_digest.bytes writes.written read in
    subst (WritesDigest c.args.text.now) (same ∙ sym c.bytes-in-Some.ensures ∙ sym c.copy_from_slice.ensures.after) writes
