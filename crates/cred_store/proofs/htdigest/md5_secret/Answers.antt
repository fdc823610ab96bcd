use Rattle.std.proofs.Common.{sym, ◌∙◌, refl}
use Rattle.cred_store.specs.Htdigest.{md5_secret}
use Rattle.cred_store.proofs.Pairs.{none_weaker}
use Rattle.cred_store.proofs.htdigest.md5_secret.Goals as goal

pub returns-clause-none : goal.returns-clause-none
returns-clause-none c =
    none_weaker c.digest_of.result (λ none form. none (md5_secret c.args.value.now) form refl (sym (c.as_slice.ensures.value ∙ c.in_ok-digits.ensures)))
    c.digest_of.ensures.none
