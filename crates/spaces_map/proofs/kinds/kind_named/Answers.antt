use Rattle.std.proofs.Common.{◌≡◌, ◌≢◌, ◌∙◌, sym, codes, true≢false}
use Rattle.std.proofs.lemmas.Slice.Eq.{bytes_eq-Decides}
use Rattle.spaces_map.proofs.OfferTexts.{no_kind}
use Rattle.spaces_map.proofs.kinds.kind_named.Goals as goal

pub returns-in_default-clause-none : goal.returns-in_default-clause-none
returns-in_default-clause-none c =
    let other : c.args.name.now ≢ codes "SCRAM-SHA-256" = λ is.
    let same : c.args.name.now ≡ c.as_slice.result.now = cc in
    true≢false (sym ((bytes_eq-Decides c.args.name.now c.as_slice.result.now).1 same) ∙ sym c.if-eq.ensures) in
    no_kind c.args.name.now _ _ other c.split_flag-session.ensures.text c.split_flag-session.ensures.absent c.in_default.ensures.none
