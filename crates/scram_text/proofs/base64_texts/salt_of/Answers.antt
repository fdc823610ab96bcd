use Rattle.std.proofs.Common.{sym, ◌∙◌, subst}
use Rattle.scram_text.specs.Contents.{WritesSalt}
use Rattle.scram_text.proofs.Base64Groups.{written_bytes}
use Rattle.scram_text.proofs.base64_texts.salt_of.Goals as goal

pub returns-in-Some : goal.returns-in-Some
returns-in-Some c =
    let writes = c.requires.1 in
    let read = sym (c.in_ok-salt.ensures {u = tt}) ∙ c.in-Some.is in
    subst (WritesSalt c.args.text.now) (written_bytes c.args.text.now c.requires.0 c.in-Some.salt writes.is_salt.bytes writes.written read) writes
