use Rattle.std.proofs.Common.{map, string_bytes, sym, ◌∙◌}
use Rattle.std.proofs.lemmas.List.{length-map}
use Rattle.authd.proofs.Asked.{other_length}
use Rattle.authd.proofs.options.asked_without_option.Goals as goal

pub returns : goal.returns
returns c =
    let words = c.args.words.now in
    c.command_of.ensures ∙ sym (other_length (map string_bytes words) (λ six. c.requires (sym (length-map words string_bytes) ∙ six)))
