use Rattle.std.proofs.Common.{inl, inr}
use Rattle.auth_grammar.specs.Kinds.{is_plain, is_token, is_token68, kind_of}
use Rattle.auth_grammar.proofs.RunLaws.{run_stays}
use Rattle.auth_grammar.proofs.runs.word_run_len.Goals as goal

pub returns-in-Word-clause-stays : goal.returns-in-Word-clause-stays
returns-in-Word-clause-stays c =
    let stays = run_stays (λ b. is_token (kind_of b)) c.args.rest.now c.token_len.result c.token_len.ensures.len in
    elim c.in-Word.is [
      | inl e ↦ rw e stays
      | inr x ↦ elim x [ inl e ↦ rw e stays | inr e ↦ rw e stays ]
    ]

pub returns-in-Second-clause-stays : goal.returns-in-Second-clause-stays
returns-in-Second-clause-stays c = rw c.in-Second.is (run_stays (λ b. is_plain (kind_of b)) c.args.rest.now c.plain_len.result c.plain_len.ensures.len)

pub returns-in-Token68-clause-stays : goal.returns-in-Token68-clause-stays
returns-in-Token68-clause-stays c = rw c.in-Token68.is (run_stays (λ b. is_token68 (kind_of b)) c.args.rest.now c.token68_len.result c.token68_len.ensures.len)
