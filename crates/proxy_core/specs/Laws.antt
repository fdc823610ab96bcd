-- What passed in two parts passed in one.
use Rattle.std.proofs.Common.{[], ◌++◌, List, sym, subst}
use Rattle.dial_exchange.specs.Dials.{DialPassed}
use Rattle.dial_exchange.specs.Laws.{dial_none, dial_then}
use Rattle.dial_exchange.specs.declared.events.DialEvent.{DialEvent}
use Rattle.request_deciding.specs.Findings.{behind_in}
use Rattle.request_deciding.specs.Laws.{behind_in-append, table_join, table_none}
use Rattle.request_deciding.specs.declared.events.Event.{Event}
use Rattle.proxy_core.specs.Outside.{Outside, Passed}

pub passed_none : (u : Outside) → Passed u u []
passed_none u = record { dial = dial_none u.dial; table = table_none u.table }

pub passed_then : (u v w : Outside) (xs ys : List (Event DialEvent)) → Passed u v xs → Passed v w ys → Passed u w (xs ++ ys)
passed_then u v w xs ys p q = record {
  dial = subst (λ (l : List DialEvent). DialPassed u.dial w.dial l) (sym (behind_in-append xs ys))
      (dial_then u.dial v.dial w.dial (behind_in xs) (behind_in ys) p.dial q.dial);
  table = table_join u.table v.table w.table xs ys p.table q.table;
}
