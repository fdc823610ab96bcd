use Rattle.std.proofs.Common.{◌≡◌, List, ℕ, subst, sym, arith}
use Rattle.std.proofs.Math.Logic.{∥∥₁_map}
use Rattle.std.proofs.lemmas.Grind.{common_steps}
use Rattle.scram_text.specs.Reauths.{IsReauth, reauth_text}
use Rattle.scram_text.proofs.reauth.ReauthNonce.write.Goals as goal

pub returns-clause-reads_back : goal.returns-clause-reads_back
returns-clause-reads_back c =
    let self = c.args.self.now in
    let cut : c.extend-2.new.self ≡ reauth_text self.client self.count self.sr = grind (arith, common_steps) in
    ∥∥₁_map self.spelled (λ is. subst (λ (t : List ℕ). IsReauth t self.client self.count self.sr) (sym cut) is)
