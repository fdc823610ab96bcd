use Rattle.std.proofs.Common.{◌≡◌, ◌≤◌, ℕ, List, length, take, Some, refl, sym, ap, ◌∙◌, subst}
use Rattle.http_wire.specs.declared.response_stage.Stage.TheVariants.{Head}
use Rattle.http_wire.specs.HeadPlace.{head_len}
use Rattle.http_wire.specs.Responses.{Broken}
use Rattle.http_wire.specs.ResponseChecks.{judge_response}
use Rattle.http_wire.specs.ResponseFeed.{HeldResponse, place_of}
use Rattle.http_wire.proofs.ResponseFeedLemmas.{wait_steps, head_short, head_long, first_head, first_within, first_text, first_missing}
use Rattle.http_wire.proofs.response_feed.ResponseFeed.read_head.Goals as goal

pub returns-in-Missing : goal.returns-in-Missing
returns-in-Missing c =
    let o = c.args.self.now in
    let rest = c.as_slice.ensures ∙ ap (λ (h : HeldResponse). h.rest) c.self.view_is in
    let first = c.window-first.ensures ∙ ap (take 16384) rest in
    let none = first_missing o.rest c.window-first.result.now first c.args.from c.requires.search c.in-Missing.from c.in-Missing.ensures in
    wait_steps _ o c.wait_or_stop.new.self (Head c.in-Missing.from) c.place.result c.wait_or_stop.result c.wait_or_stop.ensures refl (λ more. refl)
    (head_short o.to_head (place_of o) o.rest none) (λ l more. head_long o.to_head (place_of o) o.rest none l more ∙ ap Broken (sym c.place.ensures.place))

pub front_of-requires : goal.front_of-requires
front_of-requires c =
    let o = c.args.self.now in
    let first = c.window-first.ensures ∙ ap (take 16384) (c.as_slice.ensures ∙ ap (λ (h : HeldResponse). h.rest) c.self.view_is) in
    first_within o.rest c.window-first.result.now first c.args.from c.requires.search c.in-At.end c.in-At.ensures

pub judge_response_text-requires-clause-whole : goal.judge_response_text-requires-clause-whole
judge_response_text-requires-clause-whole c =
    let o = c.args.self.now in
    let first = c.window-first.ensures ∙ ap (take 16384) (c.as_slice.ensures ∙ ap (λ (h : HeldResponse). h.rest) c.self.view_is) in
    subst (λ (b : List ℕ). head_len b ≡ Some (length b)) (sym c.front_of.ensures) (first_text o.rest c.window-first.result.now first c.args.from c.requires.search c.in-At.end c.in-At.ensures).0

pub judge_response_text-requires-clause-short : goal.judge_response_text-requires-clause-short
judge_response_text-requires-clause-short c =
    let o = c.args.self.now in
    let first = c.window-first.ensures ∙ ap (take 16384) (c.as_slice.ensures ∙ ap (λ (h : HeldResponse). h.rest) c.self.view_is) in
    subst (λ (b : List ℕ). length b ≤ 16384) (sym c.front_of.ensures) (first_text o.rest c.window-first.result.now first c.args.from c.requires.search c.in-At.end c.in-At.ensures).1

pub pass_head-requires-clause-head : goal.pass_head-requires-clause-head
pass_head-requires-clause-head c =
    let o = c.args.self.now in
    let first = c.window-first.ensures ∙ ap (take 16384) (c.as_slice.ensures ∙ ap (λ (h : HeldResponse). h.rest) c.self.view_is) in
    first_head o.rest c.window-first.result.now first c.args.from c.requires.search c.in-At.end c.in-At.ensures

pub pass_head-requires-clause-judged : goal.pass_head-requires-clause-judged
pass_head-requires-clause-judged c =
    let o = c.args.self.now in
    let first = c.window-first.ensures ∙ ap (take 16384) (c.as_slice.ensures ∙ ap (λ (h : HeldResponse). h.rest) c.self.view_is) in
    let text = first_text o.rest c.window-first.result.now first c.args.from c.requires.search c.in-At.end c.in-At.ensures in
    c.in-Ok.ensures ∙ (λ i. judge_response (ap (λ (h : HeldResponse). h.to_head) c.self.view_is i) ((c.front_of.ensures ∙ text.2) i))
