use Rattle.std.proofs.Common.{refl}
use Rattle.origin_core.proofs.Never.{never}
use Rattle.origin_core.proofs.alone.serve_alone.Goals as goal

pub returns-clause-never_worn : goal.returns-clause-never_worn
returns-clause-never_worn g c =
    let session = c.serve_connection.ensures.serves.session in
    λ calls. never c.args.table.now c.serve_connection.new.seat _ _ _ _ _ _ session.account calls _ c.requires.new c.requires.room refl refl session.events.table session.tells
