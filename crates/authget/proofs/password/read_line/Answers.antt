use Rattle.std.proofs.Common.{◌≡◌, ◌++◌, ◌∷◌, [], ◌∙◌, ap, inl, length, length-append, arith}
use Rattle.std.proofs.lemmas.Bool.Decides.{nat_tests}
use Rattle.std.proofs.lemmas.Result.{err_from_is_err_and}
use Rattle.auth_io.proofs.Passing.{Consumes_trans}
use Rattle.authget.proofs.password.read_line.Goals as goal

pub returns-in_err-of-clause-line : goal.returns-in_err-of-clause-line
returns-in_err-of-clause-line g c =
    let got = rw c.in-Some.is at c.in_ok-byte.ensures.byte in
    let p = err_from_is_err_and c.from_residual-in_err-of.result c.from_residual-in_err-of.ensures.1 in
    rw p.1 (
      c.loop-alloc.line ++ got.0,
      Consumes_trans _ _ _ c.loop-alloc.line got.0 c.loop-alloc.invariant.read got.1,
      grind (arith, nat_tests, length-append c.loop-alloc.line got.0, ap length got.2, c.loop-alloc-test.true, c.len.ensures.len),
      tt,
    )

pub returns-then-byte-eq10-clause-line : goal.returns-then-byte-eq10-clause-line
returns-then-byte-eq10-clause-line g c =
    let got = rw c.in-Some.is at c.in_ok-byte.ensures.byte in
    let ten : c.in-Some.byte ≡ 10 = grind (arith, nat_tests, c.if-byte-eq10.true) in (
      c.loop-alloc.line ++ got.0,
      Consumes_trans _ _ _ c.loop-alloc.line got.0 c.loop-alloc.invariant.read got.1,
      grind (arith, nat_tests, length-append c.loop-alloc.line got.0, ap length got.2, c.loop-alloc-test.true, c.len.ensures.len),
      inl (
        c.loop-alloc.line,
        ap (λ l. c.loop-alloc.line ++ l) (got.2 ∙ ap (λ b. b ∷ []) ten),
        c.loop-alloc.invariant.none,
        cc (c.in_ok-of.ensures, c.without_return.ensures, c.bytes.ensures),
      ),
    )

pub returns-in_err-push-clause-line : goal.returns-in_err-push-clause-line
returns-in_err-push-clause-line g c =
    let got = rw c.in-Some.is at c.in_ok-byte.ensures.byte in
    let p = err_from_is_err_and c.from_residual-in_err-push.result c.from_residual-in_err-push.ensures.1 in
    rw p.1 (
      c.loop-alloc.line ++ got.0,
      Consumes_trans _ _ _ c.loop-alloc.line got.0 c.loop-alloc.invariant.read got.1,
      grind (arith, nat_tests, length-append c.loop-alloc.line got.0, ap length got.2, c.loop-alloc-test.true, c.len.ensures.len),
      tt,
    )
