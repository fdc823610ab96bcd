use Rattle.std.proofs.Common.{Some}
use Rattle.turn_table.proofs.turn.answer_in_turn.Given as goal

abbrev pub ghosts-commit : goal.ghosts-commit
ghosts-commit g a = record { said = Some a.call.now }
