use Rattle.std.proofs.Common.{arith}
use Rattle.auth_grammar.specs.Kinds.{is_mark_byte, is_plain_byte, kind_of}
use Rattle.auth_grammar.proofs.KindTable.{in_table}
use Rattle.auth_grammar.proofs.kinds.kind_at.Goals as goal

-- the table, as it computes
pub returns : goal.returns
unfolding kind_of is_plain_byte is_mark_byte
returns c = in_table c.kind_in.result c.args.b (omega arith) c.kind_in.ensures
