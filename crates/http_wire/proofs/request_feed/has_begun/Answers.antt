use Rattle.std.proofs.Common.{◌≡◌, ◌<◌, ◌≤◌, ◌-◌, ℕ, length, length-drop, drop, None, Some, sym, ap, arith}
use Rattle.std.specs.Prelude.{nat_lt}
use Rattle.http_wire.proofs.SearchLemmas.{line_at, line_none, begun_open, begun_some, begun_more}
use Rattle.http_wire.proofs.request_feed.has_begun.Goals as goal

pub returns-in-None : goal.returns-in-None
returns-in-None c = ap (λ (k : ℕ). nat_lt k (length c.args.bytes.now)) (sym (begun_open c.args.bytes.now c.lines.at c.lines.invariant.blank (line_at c.args.bytes.now c.lines.at None c.in-None.ensures)))

pub returns-in-Some-eq0 : goal.returns-in-Some-eq0
returns-in-Some-eq0 c = sym (begun_some c.args.bytes.now c.lines.at c.lines.invariant.blank (line_none c.args.bytes.now c.lines.at c.in-Some-eq0.field-0 c.in-Some-eq0.field-0-test c.in-Some-eq0.ensures))

pub lines-preserved : goal.lines-preserved
lines-preserved c =
    let more : 0 < c.in-Some.n = omega arith in
    let t = line_at c.args.bytes.now c.lines.at (Some c.in-Some.n) c.in-Some.ensures in
    let fits : c.in-Some.n ≤ length (drop c.lines.at c.args.bytes.now) = t.0 in
    let size : length (drop c.lines.at c.args.bytes.now) ≡ length c.args.bytes.now - c.lines.at = length-drop c.lines.at c.args.bytes.now in
    record { within = omega arith; blank = begun_more c.args.bytes.now c.lines.at c.in-Some.n c.lines.invariant.blank t more }
