use Rattle.std.proofs.Common.{◌≡◌}
use Rattle.auth_decide.specs.Decisions.{asks_left}
use Rattle.auth_grammar.specs.declared.items.Role.{Role}
use Rattle.connection_loop.specs.Machine.{Incoming}
use Rattle.request_deciding.specs.Deciding.{IsUnderWay}
use Rattle.request_deciding.specs.Outside.{TableState, table_state}
use Rattle.request_deciding.specs.declared.server.Server.{Server}
use Rattle.request_deciding.proofs.deciding.run.Given as goal

-- what was done so far is what the decision asked for, and no draw has failed
abbrev pub invariant-loop-verdict : goal.invariant-loop-verdict
invariant-loop-verdict g l =
    let at = table_state g.W.Words.drawn g.W.Words.faults g.T.TableSeat.seat in record {
      goes : (before : TableState) (role : Role) (s : Server) (t : Incoming) → IsUnderWay before (at l.initial.random l.initial.seat) role s t l.initial.decision
          → IsUnderWay before (at l.random l.seat) role s t l.decision;
      draws : g.W.Words.faults l.random ≡ g.W.Words.faults l.initial.random;
      shards : (g.T.TableSeat.seat l.seat).shards ≡ l.decision.question.shards;
    }

abbrev pub decreases-loop-verdict : goal.decreases-loop-verdict
decreases-loop-verdict g l = asks_left l.decision.stage
