use Rattle.std.proofs.Common.{◌≡◌, true, ℕ, List, sym, subst, arith}
use Rattle.scram_text.specs.Bytes.{is_nonce_byte, some_of}
use Rattle.client_core.proofs.FirstMessages.{short_name, some_nonce, some_printable}
use Rattle.client_core.proofs.scram.first_of.Goals as goal

pub new-requires-clause-name : goal.new-requires-clause-name
new-requires-clause-name c = some_printable c.args.name.now c.requires

pub new-requires-clause-nonce : goal.new-requires-clause-nonce
new-requires-clause-nonce c =
    let P : List ℕ → Type 0 = λ text. some_of is_nonce_byte text ≡ true in
    subst P (sym c.words_text-nonce.ensures.text) (some_nonce c.args.words.now (omega arith) c.fits-words)
