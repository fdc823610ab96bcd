use Rattle.std.proofs.Common.{rules}
use Rattle.origin_core.proofs.Admitted.{serves_connection}
use Rattle.origin_core.proofs.serving.serve_connection.Goals as goal

pub returns-clause-serves : goal.returns-clause-serves
returns-clause-serves g c = serves_connection _ _ _ _ _ _ _ _ (search rules)
