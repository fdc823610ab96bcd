use Rattle.std.proofs.Common.{sym, ◌∙◌}
use Rattle.drill.proofs.Stepping.{gives_role, make_at, no_make_at}
use Rattle.drill.proofs.world.World.make.Goals as goal

pub returns-then-not-has_nonce-clause-ok : goal.returns-then-not-has_nonce-clause-ok
returns-then-not-has_nonce-clause-ok g c =
    let s = c.self.inside in
    no_make_at c.args.self.now s.client s.made s.clock s.tally c.args.table.now (g.W.Words.drawn c.args.random.now) c.self.view_is (sym c.has_nonce.ensures ∙ c.if-not-has_nonce.true)

pub invariant_of-self-2 : goal.invariant_of-self-2
invariant_of-self-2 g c =
    let s = c.self.inside in
    record {
      its_site = c.self.invariant.its_site;
      role = gives_role s.client c.give.new.client s.clock (g.W.Words.drawn c.args.random.now) (g.W.Words.drawn c.give.new.random) c.in_ok-sent.sent c.in_ok-sent.ensures.ok ∙ c.self.invariant.role;
      sendable = c.self.invariant.sendable;
    }

pub returns-clause-ok : goal.returns-clause-ok
returns-clause-ok g c =
    let s = c.self.inside in
    make_at c.args.self.now c.keep.new.self s.client c.give.new.client s.made s.clock s.tally c.args.table.now (g.W.Words.drawn c.args.random.now) (g.W.Words.drawn c.give.new.random)
    c.in_ok-sent.sent c.self.view_is (sym c.has_nonce.ensures ∙ c.if-not-has_nonce.false) c.in_ok-sent.ensures.ok c.in_ok-keep.ensures.ok
