use Rattle.std.proofs.Common.{◌≡◌, take}
use Rattle.digest_fields.specs.Nc.{nc_number}
use Rattle.digest_fields.proofs.nc.number_of.Given as goal

-- the number is that of the digits so far
abbrev pub invariant-loop-digit : goal.invariant-loop-digit
invariant-loop-digit l = l.number ≡ nc_number (take l.digit-index l.digits)
