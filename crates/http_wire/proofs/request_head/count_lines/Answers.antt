use Rattle.std.proofs.Common.{◌≡◌, ap, length, ◌∙◌, List, ℕ, arith}
use Rattle.memchr.specs.Find.{is_byte}
use Rattle.memchr.proofs.lemmas.CallerLemmas.{length-places}
use Rattle.http_wire.specs.Lines.{line_feeds}
use Rattle.http_wire.proofs.request_head.count_lines.Goals as goal

pub feeds-init : goal.feeds-init
feeds-init c =
    let found = c.memchr_iter-feeds in
    let all : length found.result ≡ line_feeds c.args.text.now = ap (λ (l : List ℕ). length l) found.ensures.value ∙ length-places (is_byte 10) c.args.text.now in
    record { all = omega (arith, all); few = omega (arith, found.ensures.len) }
