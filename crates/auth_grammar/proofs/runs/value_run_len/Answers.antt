use Rattle.auth_grammar.specs.Kinds.{is_plain, is_quotable, is_token, is_token68, kind_of}
use Rattle.auth_grammar.proofs.RunLaws.{run_stays}
use Rattle.auth_grammar.proofs.runs.value_run_len.Goals as goal

pub returns-in-Value-clause-stays : goal.returns-in-Value-clause-stays
returns-in-Value-clause-stays c = rw c.in-Value.is (run_stays (λ b. is_plain (kind_of b)) c.args.rest.now c.plain_len.result c.plain_len.ensures.len)

pub returns-in-Token-clause-stays : goal.returns-in-Token-clause-stays
returns-in-Token-clause-stays c = rw c.in-Token.is (run_stays (λ b. is_token (kind_of b)) c.args.rest.now c.token_len.result c.token_len.ensures.len)

pub returns-in-Loose-clause-stays : goal.returns-in-Loose-clause-stays
returns-in-Loose-clause-stays c = rw c.in-Loose.is (run_stays (λ b. is_token68 (kind_of b)) c.args.rest.now c.token68_len.result c.token68_len.ensures.len)

pub returns-in-Quoted-clause-stays : goal.returns-in-Quoted-clause-stays
returns-in-Quoted-clause-stays c = rw c.in-Quoted.is (run_stays (λ b. is_quotable (kind_of b)) c.args.rest.now c.quotable_len.result c.quotable_len.ensures.len)
