use Rattle.std.proofs.Common.{arith}
use Rattle.count_window.proofs.Bits.{slid_newest, slid_between, slid_older, one_above}
use Rattle.count_window.proofs.window.slide.Goals as goal

pub returns-then-rise-lt-WIDTH-clause-newest : goal.returns-then-rise-lt-WIDTH-clause-newest
returns-then-rise-lt-WIDTH-clause-newest c = slid_newest c.args.mask c.args.rise

pub returns-then-rise-lt-WIDTH-clause-between : goal.returns-then-rise-lt-WIDTH-clause-between
returns-then-rise-lt-WIDTH-clause-between c i = slid_between c.args.mask c.args.rise i

pub returns-then-rise-lt-WIDTH-clause-older : goal.returns-then-rise-lt-WIDTH-clause-older
returns-then-rise-lt-WIDTH-clause-older c i h = slid_older c.args.mask c.args.rise i (omega arith) h

pub returns-else-rise-lt-WIDTH-clause-between : goal.returns-else-rise-lt-WIDTH-clause-between
returns-else-rise-lt-WIDTH-clause-between c i h _ _ = one_above i h
