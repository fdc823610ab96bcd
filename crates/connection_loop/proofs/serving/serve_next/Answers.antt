use Rattle.std.proofs.Common.{◌≡◌, ◌∙◌, refl, [], ℕ, Ok, Err, Bool, false, ap, sym, subst}
use Rattle.std.proofs.lemmas.List.{append-nil}
use Rattle.std.proofs.lemmas.Result.{err_from_is_err_and}
use Rattle.http_wire.specs.Requests.{begun_at}
use Rattle.http_wire.proofs.StatusLemmas.{wrong_status}
use Rattle.auth_io.proofs.Passing.{Adds_none}
use Rattle.connection_loop.specs.Steps.{Steps, Serves, Follows, place_at, request_account}
use Rattle.connection_loop.specs.declared.serving.Step.{Step}
use Rattle.connection_loop.specs.declared.served.ServeError.TheVariants.{Truncated}
use Rattle.connection_loop.proofs.Passing.{link_account, served_account, served_passed}
use Rattle.connection_loop.proofs.Steps.{room_is, step_served, step_err, step_bad, step_bad_err, step_ended, step_truncated, step_read_err, prompt_all, none_begun, some_begun}
use Rattle.connection_loop.proofs.serving.serve_next.Goals as goal

pub refuse-requires-clause-low : goal.refuse-requires-clause-low
refuse-requires-clause-low g c = let have = rw c.in-Bad.is at c.in_ok-request.ensures.reads in (wrong_status _ c.in-Bad.status have.5.0).low

pub refuse-requires-clause-high : goal.refuse-requires-clause-high
refuse-requires-clause-high g c = let have = rw c.in-Bad.is at c.in_ok-request.ensures.reads in (wrong_status _ c.in-Bad.status have.5.0).high

pub returns-in_err-request-clause-steps : goal.returns-in_err-request-clause-steps
returns-in_err-request-clause-steps g c =
    let p = err_from_is_err_and c.from_residual.result c.from_residual.ensures.1 in
    let have = c.in_err-request.ensures.reads in
    let m = g.R.Responder.machine in
    let held = c.args.feed.now in
    let place = place_at (g.R.Responder.state c.args.responder.now) held c.args.requests c.args.admitted in
    let room = room_is 4096 c.args.requests c.requires.room in
    let lacked = g.R.Responder.lacked c.args.responder.now c.args.responder.now in
    let account = link_account have.0 have.1 have.2 in
    rw (p.1, p.2) (record {
      account = account;
      linked = have.3;
      moments = Adds_none _;
      events = g.met.R.Responder.passed_none c.args.responder.now;
      prompt = prompt_all m place account have.0 have.1 _ have.2 [] room refl (sym (append-nil have.1)) have.4;
      steps = step_read_err m lacked place have.0 have.1 have.2 _ held.at c.next_message.new.feed (g.L.Link.left c.next_message.new.link) c.in_err-request.field-0.0 room have.5;
    })

pub returns-in_err-one-in-Message-clause-steps : goal.returns-in_err-one-in-Message-clause-steps
returns-in_err-one-in-Message-clause-steps g c =
    let p = err_from_is_err_and c.from_residual-in_err-one-in-Message.result c.from_residual-in_err-one-in-Message.ensures.1 in
    let have = rw c.in-Message.is at c.in_ok-request.ensures.reads in
    let m = g.R.Responder.machine in
    let before = g.R.Responder.state c.args.responder.now in
    let now = g.R.Responder.state c.serve_request.new.responder in
    let place = place_at before c.args.feed.now c.args.requests c.args.admitted in
    let room = room_is 4096 c.args.requests c.requires.room in
    let lacked = g.R.Responder.lacked c.args.responder.now c.serve_request.new.responder in
    let request = c.in-Message.request in
    let served = c.in_err-one-in-Message.ensures.served in
    let serves = subst (λ (t : Bool). Serves m lacked before now (record { request = request; last = t; moment = served.1 }) (request_account served.0 served.1 served.2) (Err c.in_err-one-in-Message.field-0.0)) c.closes_after-last.ensures served.6 in
    let account = served_account have.0 have.1 have.2 served.0 served.1 served.2 in
    rw (p.1, p.2) (record {
      account = account;
      linked = served_passed _ _ _ have.0 have.1 have.2 served.0 have.3 served.3;
      moments = served.4;
      events = served.5;
      prompt = prompt_all m place account have.0 have.1 _ have.2 served.0 room refl refl have.4;
      steps = step_err m lacked place now have.0 have.1 have.2 request c.next_message.new.feed served.0 served.1 _ served.2 c.in_err-one-in-Message.field-0.0 room have.5 serves;
    })

pub returns-in_ok-one-in-Message-clause-steps : goal.returns-in_ok-one-in-Message-clause-steps
returns-in_ok-one-in-Message-clause-steps g c =
    let have = rw c.in-Message.is at c.in_ok-request.ensures.reads in
    let m = g.R.Responder.machine in
    let before = g.R.Responder.state c.args.responder.now in
    let now = g.R.Responder.state c.serve_request.new.responder in
    let place = place_at before c.args.feed.now c.args.requests c.args.admitted in
    let room = room_is 4096 c.args.requests c.requires.room in
    let lacked = g.R.Responder.lacked c.args.responder.now c.serve_request.new.responder in
    let request = c.in-Message.request in
    let served = c.in_ok-one-in-Message.ensures.served in
    let one = c.in_ok-one-in-Message.one in
    let serves = subst (λ (t : Bool). Serves m lacked before now (record { request = request; last = t; moment = served.1 }) (request_account served.0 served.1 served.2) (Ok one)) c.closes_after-last.ensures served.6 in
    let account = served_account have.0 have.1 have.2 served.0 served.1 served.2 in
    record {
      account = account;
      linked = served_passed _ _ _ have.0 have.1 have.2 served.0 have.3 served.3;
      moments = served.4;
      events = served.5;
      prompt = prompt_all m place account have.0 have.1 _ have.2 served.0 room refl refl have.4;
      steps = subst (λ (r : Step). Steps m lacked place now account c.next_message.new.feed (Ok r)) (sym c.after_request.ensures.step)
          (step_served m lacked place now have.0 have.1 have.2 request c.next_message.new.feed served.0 served.1 c.args.requests c.args.admitted one served.2 _ refl refl refl c.requires.room have.5 serves refl);
    }

pub returns-in_err-refuse-in-Bad-clause-steps : goal.returns-in_err-refuse-in-Bad-clause-steps
returns-in_err-refuse-in-Bad-clause-steps g c =
    let p = err_from_is_err_and c.from_residual-in_err-refuse-in-Bad.result c.from_residual-in_err-refuse-in-Bad.ensures.1 in
    let have = rw c.in-Bad.is at c.in_ok-request.ensures.reads in
    let m = g.R.Responder.machine in
    let place = place_at (g.R.Responder.state c.args.responder.now) c.args.feed.now c.args.requests c.args.admitted in
    let room = room_is 4096 c.args.requests c.requires.room in
    let lacked = g.R.Responder.lacked c.args.responder.now c.args.responder.now in
    let refused = c.in_err-refuse-in-Bad.ensures.refused in
    let account = served_account have.0 have.1 have.2 refused.0 refused.1 [] in
    rw (p.1, p.2) (record {
      account = account;
      linked = served_passed _ _ _ have.0 have.1 have.2 refused.0 have.3 refused.2;
      moments = refused.3;
      events = g.met.R.Responder.passed_none c.args.responder.now;
      prompt = prompt_all m place account have.0 have.1 _ have.2 refused.0 room refl refl have.4;
      steps = step_bad_err m lacked place have.0 have.1 have.2 refused.0 refused.1 _ c.in-Bad.status c.in_err-refuse-in-Bad.field-0.0 room have.5.0 have.5.1 refused.4;
    })

pub returns-in_ok-refuse-in-Bad-clause-steps : goal.returns-in_ok-refuse-in-Bad-clause-steps
returns-in_ok-refuse-in-Bad-clause-steps g c =
    let have = rw c.in-Bad.is at c.in_ok-request.ensures.reads in
    let m = g.R.Responder.machine in
    let place = place_at (g.R.Responder.state c.args.responder.now) c.args.feed.now c.args.requests c.args.admitted in
    let room = room_is 4096 c.args.requests c.requires.room in
    let lacked = g.R.Responder.lacked c.args.responder.now c.args.responder.now in
    let refused = c.in_ok-refuse-in-Bad.ensures.refused in
    let account = served_account have.0 have.1 have.2 refused.0 refused.1 [] in
    record {
      account = account;
      linked = served_passed _ _ _ have.0 have.1 have.2 refused.0 have.3 refused.2;
      moments = refused.3;
      events = g.met.R.Responder.passed_none c.args.responder.now;
      prompt = prompt_all m place account have.0 have.1 _ have.2 refused.0 room refl refl have.4;
      steps = step_bad m lacked place have.0 have.1 have.2 refused.0 refused.1 _ c.in-Bad.status room have.5.0 have.5.1 refused.4;
    }

pub returns-in-None-clause-steps : goal.returns-in-None-clause-steps
returns-in-None-clause-steps g c =
    let have = rw c.in-NoMore.is at c.in_ok-request.ensures.reads in
    let m = g.R.Responder.machine in
    let place = place_at (g.R.Responder.state c.args.responder.now) c.args.feed.now c.args.requests c.args.admitted in
    let room = room_is 4096 c.args.requests c.requires.room in
    let lacked = g.R.Responder.lacked c.args.responder.now c.args.responder.now in
    let kept = c.next_message.new.feed in
    let account = link_account have.0 have.1 have.2 in
    let none : begun_at kept.rest ≡ false = none_begun (begun_at kept.rest) kept.at (sym c.in-None.ensures) in
    record {
      account = account;
      linked = have.3;
      moments = Adds_none _;
      events = g.met.R.Responder.passed_none c.args.responder.now;
      prompt = prompt_all m place account have.0 have.1 _ have.2 [] room refl (sym (append-nil have.1)) have.4;
      steps = step_ended m lacked place have.0 have.1 have.2 _ room have.5.0 (ap begun_at (sym have.5.1) ∙ none);
    }

pub returns-in-Some-clause-steps : goal.returns-in-Some-clause-steps
returns-in-Some-clause-steps g c =
    let have = rw c.in-NoMore.is at c.in_ok-request.ensures.reads in
    let m = g.R.Responder.machine in
    let held = c.args.feed.now in
    let place = place_at (g.R.Responder.state c.args.responder.now) held c.args.requests c.args.admitted in
    let room = room_is 4096 c.args.requests c.requires.room in
    let lacked = g.R.Responder.lacked c.args.responder.now c.args.responder.now in
    let kept = c.next_message.new.feed in
    let account = link_account have.0 have.1 have.2 in
    let some = some_begun (begun_at kept.rest) kept.at c.in-Some.at (sym c.in-Some.ensures) in
    record {
      account = account;
      linked = have.3;
      moments = Adds_none _;
      events = g.met.R.Responder.passed_none c.args.responder.now;
      prompt = prompt_all m place account have.0 have.1 _ have.2 [] room refl (sym (append-nil have.1)) have.4;
      steps = subst (λ (n : ℕ). Follows m lacked place place.state account (Err (Truncated n))) (sym (some.1 ∙ have.5.2))
          (step_truncated m lacked place have.0 have.1 have.2 _ room have.5.0 (ap begun_at (sym have.5.1) ∙ some.0));
    }
