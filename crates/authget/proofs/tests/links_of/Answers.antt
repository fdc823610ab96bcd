use Rattle.std.proofs.Common.{All, subst, sym}
use Rattle.std.proofs.lemmas.List.Elements.{All-push}
use Rattle.auth_io.specs.Memory.{IsUnused}
use Rattle.authget.proofs.tests.links_of.Goals as goal

pub loop-reply-preserved : goal.loop-reply-preserved
loop-reply-preserved c =
    subst (All IsUnused) (sym c.in_ok-push.ensures.items) (All-push IsUnused c.loop-reply.links.items c.in_ok-link_of.field-0 c.loop-reply.invariant c.in_ok-link_of.ensures)
