use Rattle.std.proofs.Common.{[], ◌∷◌, arith}
use Rattle.scram_text.proofs.ServerFirstLaws.{short_text}
use Rattle.scram_text.proofs.tests.each_message_is_written.Goals as goal

pub new-requires-2-clause-short : goal.new-requires-2-clause-short
new-requires-2-clause-short c d = short_text (97 ∷ 98 ∷ 99 ∷ []) (0 ∷ 16 ∷ 131 ∷ 16 ∷ []) 4096 (omega arith) (omega arith) (omega arith)
