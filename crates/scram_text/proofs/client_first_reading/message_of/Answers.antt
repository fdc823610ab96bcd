use Rattle.std.proofs.Common.{refl, arith}
use Rattle.scram_text.proofs.client_first_reading.message_of.Goals as goal

pub returns-then-len-gt-NAME_LIMIT : goal.returns-then-len-gt-NAME_LIMIT
returns-then-len-gt-NAME_LIMIT c = (
  refl,
  omega arith,
  (
    record { flag = c.args.flag; name = c.in_ok-name.name; nonce = c.args.nonce.now; bare = c.args.bare.now },
    record { written = c.args.written.now; cut = refl; is_bare = c.requires.bare; is_name = c.in_ok-name.ensures },
    omega (arith, c.len.ensures.len, c.if-len-gt-NAME_LIMIT.true),
  ),
)

pub returns-then-nonce-gt-NONCE_LIMIT : goal.returns-then-nonce-gt-NONCE_LIMIT
returns-then-nonce-gt-NONCE_LIMIT c = (
  refl,
  omega arith,
  (
    record { flag = c.args.flag; name = c.in_ok-name.name; nonce = c.args.nonce.now; bare = c.args.bare.now },
    record { written = c.args.written.now; cut = refl; is_bare = c.requires.bare; is_name = c.in_ok-name.ensures },
    omega (arith, c.len.ensures.len, c.if-len-gt-NAME_LIMIT.false),
    omega (arith, c.if-nonce-gt-NONCE_LIMIT.true),
  ),
)
