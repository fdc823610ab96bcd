use Rattle.std.proofs.Common.{◌≡◌, ◌∷◌, arith}
use Rattle.std.proofs.Math.Logic.{∥∥₁_map}
use Rattle.std.proofs.lemmas.Grind.{common_steps}
use Rattle.scram_text.specs.ClientFirstAnswers.{parts_of}
use Rattle.scram_text.specs.Flags.{flag_letter}
use Rattle.scram_text.proofs.ClientFirstLaws.{written_spells}
use Rattle.scram_text.proofs.client_first.ClientFirst.write.Goals as goal

pub returns-clause-reads_back : goal.returns-clause-reads_back
returns-clause-reads_back c =
    let cut : c.extend.new.self ≡ flag_letter c.args.self.now.flag ∷ 44 ∷ 44 ∷ c.args.self.now.bare = grind (arith, common_steps) in
    ∥∥₁_map c.args.self.now.spelled (written_spells c.extend.new.self (parts_of c.args.self.now) cut)
