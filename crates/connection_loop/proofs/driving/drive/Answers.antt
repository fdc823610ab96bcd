use Rattle.std.proofs.Common.{◌≡◌, ◌∙◌, refl, ap, Ok, Err, arith, rules}
use Rattle.std.proofs.lemmas.Result.{err_from_is_err_and}
use Rattle.auth_io.proofs.Passing.{Adds_trans, Adds_none}
use Rattle.http_wire.specs.RequestFeed.{Held}
use Rattle.connection_loop.specs.declared.served.End.TheVariants.{Limit}
use Rattle.connection_loop.specs.declared.served.Served.{Served}
use Rattle.connection_loop.specs.Account.{join, no_account}
use Rattle.connection_loop.proofs.Passing.{LinkPassed_join, LinkPassed_none}
use Rattle.connection_loop.proofs.Whole.{at_first, go_on, finish, at_limit, prompt_join, tells}
use Rattle.connection_loop.proofs.Requests.{ends_well, ends_at_limit}
use Rattle.connection_loop.proofs.driving.drive.Goals as goal

pub loop-requests-init : goal.loop-requests-init
loop-requests-init g c =
    let feed = c.new-feed.result in
    let is = c.new-feed.ensures in (
      record {
        account = no_account;
        linked = LinkPassed_none _;
        moments = Adds_none _;
        events = g.met.R.Responder.passed_none c.args.responder.now;
        prompt = tt;
        reached = at_first g.R.Responder.machine (g.R.Responder.state c.args.responder.now) feed (ap (λ (h : Held). h.rest) is) (ap (λ (h : Held). h.at) is);
      },
      record {
        read = search rules;
        write = search rules;
        draws = refl;
        few = search rules;
        between = record { fresh = ap (λ (h : Held). h.told) is; going = ap (λ (h : Held). h.stopped) is };
        within = rw is (omega arith);
      },
    )

pub loop-requests-preserved : goal.loop-requests-preserved
loop-requests-preserved g c =
    let m = g.R.Responder.machine in
    let a = c.args.responder.now in
    let b = c.loop-requests.responder in
    let d = c.serve_next.new.responder in
    let have = c.loop-requests.invariant.0 in
    let later = c.loop-requests.invariant.1 in
    let took = rw c.in-More.is at c.in_ok-one.ensures.steps in
    let few = rw c.in-More.is at c.in_ok-one.ensures.few in (
      record {
        account = join have.account took.account;
        linked = LinkPassed_join _ _ _ _ _ _ _ _ _ have.linked took.linked;
        moments = Adds_trans _ _ _ _ _ have.moments took.moments;
        events = g.met.R.Responder.passed_join a b d have.account.events took.account.events have.events took.events;
        prompt = prompt_join m _ _ have.account took.account c.loop-requests.feed c.loop-requests.requests c.loop-requests.admitted have.reached have.prompt took.prompt;
        reached = go_on m _ _ _ have.account took.account c.loop-requests.feed c.serve_next.new.feed c.loop-requests.requests c.loop-requests.admitted c.in-More.one (omega arith) have.reached took.steps;
      },
      record {
        read = omega (arith, later.read, c.serve_next.ensures.read_later);
        write = omega (arith, later.write, c.serve_next.ensures.write_later);
        draws = c.in_ok-one.ensures.draws (λ e. cc) ∙ later.draws;
        few = omega (arith, few, later.few);
        between = took.steps.between;
        within = c.in_ok-one.ensures.within;
      },
    )

pub returns-in_err-one-clause-session : goal.returns-in_err-one-clause-session
returns-in_err-one-clause-session g c =
    let p = err_from_is_err_and c.from_residual.result c.from_residual.ensures.1 in
    let m = g.R.Responder.machine in
    let a = c.args.responder.now in
    let b = c.loop-requests.responder in
    let d = c.serve_next.new.responder in
    let have = c.loop-requests.invariant.0 in
    let took = c.in_err-one.ensures.steps in
    let account = join have.account took.account in
    let linked = LinkPassed_join _ _ _ _ _ _ _ _ _ have.linked took.linked in
    let follows = finish m (g.R.Responder.lacked b d) (g.R.Responder.lacked a d) _ _ _ have.account took.account c.loop-requests.feed c.loop-requests.requests c.loop-requests.admitted (Err c.in_err-one.field-0.0)
    (g.met.R.Responder.lacked_later a b d have.account.events have.events) have.reached took.steps in
    rw (p.1, p.2) (record {
      account = account;
      linked = linked;
      moments = Adds_trans _ _ _ _ _ have.moments took.moments;
      events = g.met.R.Responder.passed_join a b d have.account.events took.account.events have.events took.events;
      prompt = prompt_join m _ _ have.account took.account c.loop-requests.feed c.loop-requests.requests c.loop-requests.admitted have.reached have.prompt took.prompt;
      tells = tells m (g.R.Responder.lacked a d) _ _ _ _ account (Err c.in_err-one.field-0.0) linked.gave c.in_err-one.ensures.at_end follows;
    })

pub returns-in-Over-clause-session : goal.returns-in-Over-clause-session
returns-in-Over-clause-session g c =
    let m = g.R.Responder.machine in
    let a = c.args.responder.now in
    let b = c.loop-requests.responder in
    let d = c.serve_next.new.responder in
    let have = c.loop-requests.invariant.0 in
    let took = rw c.in-Over.is at c.in_ok-one.ensures.steps in
    let at_end = rw c.in-Over.is at c.in_ok-one.ensures.at_end in
    let account = join have.account took.account in
    let linked = LinkPassed_join _ _ _ _ _ _ _ _ _ have.linked took.linked in
    let follows = finish m (g.R.Responder.lacked b d) (g.R.Responder.lacked a d) _ _ _ have.account took.account c.loop-requests.feed c.loop-requests.requests c.loop-requests.admitted (Ok c.in-Over.served)
    (g.met.R.Responder.lacked_later a b d have.account.events have.events) have.reached took.steps in
    record {
      account = account;
      linked = linked;
      moments = Adds_trans _ _ _ _ _ have.moments took.moments;
      events = g.met.R.Responder.passed_join a b d have.account.events took.account.events have.events took.events;
      prompt = prompt_join m _ _ have.account took.account c.loop-requests.feed c.loop-requests.requests c.loop-requests.admitted have.reached have.prompt took.prompt;
      tells = tells m (g.R.Responder.lacked a d) _ _ _ _ account (Ok c.in-Over.served) linked.gave at_end follows;
    }

pub returns-clause-session : goal.returns-clause-session
returns-clause-session g c =
    let m = g.R.Responder.machine in
    let before = g.R.Responder.state c.args.responder.now in
    let now = g.R.Responder.state c.loop-requests.responder in
    let lacked = g.R.Responder.lacked c.args.responder.now c.loop-requests.responder in
    let have = c.loop-requests.invariant.0 in
    let all : c.loop-requests.requests ≡ 4096 = omega arith in
    let served : Served = record { requests = 4096; admitted = c.loop-requests.admitted; end = Limit } in
    let follows = at_limit m lacked before now have.account c.loop-requests.feed c.loop-requests.requests c.loop-requests.admitted all have.reached in
    record {
      account = have.account;
      linked = have.linked;
      moments = have.moments;
      events = have.events;
      prompt = have.prompt;
      tells = tells m lacked before now _ _ have.account (Ok served) have.linked.gave (λ e. cc) follows;
    }

pub returns-in_err-one-clause-complete : goal.returns-in_err-one-clause-complete
returns-in_err-one-clause-complete g c = ends_well g.R.Responder.machine _ _ _ _ _ _ _ _ _ (returns-in_err-one-clause-session g c)

pub returns-in_err-one-clause-full : goal.returns-in_err-one-clause-full
returns-in_err-one-clause-full g c = ends_at_limit g.R.Responder.machine _ _ _ _ _ _ _ _ _ (returns-in_err-one-clause-session g c)

pub returns-in-Over-clause-complete : goal.returns-in-Over-clause-complete
returns-in-Over-clause-complete g c = ends_well g.R.Responder.machine _ _ _ _ _ _ _ _ _ (returns-in-Over-clause-session g c)

pub returns-in-Over-clause-full : goal.returns-in-Over-clause-full
returns-in-Over-clause-full g c = ends_at_limit g.R.Responder.machine _ _ _ _ _ _ _ _ _ (returns-in-Over-clause-session g c)

pub returns-clause-complete : goal.returns-clause-complete
returns-clause-complete g c = ends_well g.R.Responder.machine _ _ _ _ _ _ _ _ _ (returns-clause-session g c)
