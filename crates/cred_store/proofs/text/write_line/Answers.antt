use Rattle.cred_store.specs.Kinds.{kind_name, kind_of}
use Rattle.cred_store.specs.Values.{flag_text, text_of}
use Rattle.cred_store.proofs.StoreTexts.{line_written}
use Rattle.cred_store.proofs.text.write_line.Goals as goal

pub returns : goal.returns
returns c =
    let entry = c.args.entry.now in
    cc (
      line_written c.args.text.now entry.name entry.realm (kind_name (kind_of entry.secret)) (flag_text entry.on) (text_of entry.secret),
      c.in_ok-write_part.ensures,
      c.in_ok-write_part-2.ensures,
      c.in_ok-write_part-3.ensures,
      c.in_ok-write_part-4.ensures,
      c.in_ok-write_secret.ensures,
      c.in_ok-push.ensures.ok,
      c.bytes.ensures,
      c.bytes-2.ensures,
      c.kind.ensures,
      c.name.ensures,
      c.flag_text.ensures,
    )
