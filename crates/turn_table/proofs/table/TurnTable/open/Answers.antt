use Rattle.std.proofs.Common.{ap, sym}
use Rattle.turn_table.proofs.Closing.{opens}
use Rattle.turn_table.proofs.table.TurnTable.open.Goals as goal

pub new-requires : goal.new-requires
new-requires g c = rw (c.push_reserved.ensures.items, c.in-Ok.ensures.items) (opens _ _ _ c.args.object c.requires.new (ap g.O.Object.setting (sym c.of-start.ensures)))
