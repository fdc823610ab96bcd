use Rattle.std.proofs.Common.{map, string_bytes, arith}
use Rattle.std.proofs.lemmas.List.{length-map}
use Rattle.authd.proofs.Asked.{not_two}
use Rattle.authd.proofs.options.drill_with.Goals as goal

pub returns-in-empty : goal.returns-in-empty
returns-in-empty c =
    let options = c.args.options.now in
    let same = length-map options string_bytes in
    let few = c.in-empty.len_below in
    not_two (map string_bytes options) (λ two. omega (arith, few, same, two))

pub returns-in-len3-up : goal.returns-in-len3-up
returns-in-len3-up c =
    let options = c.args.options.now in
    let same = length-map options string_bytes in
    let many = c.in-len3-up.len_at_least in
    not_two (map string_bytes options) (λ two. omega (arith, many, same, two))
