use Rattle.std.proofs.Common.{◌≡◌, ◌∙◌, rules, tests, not}
use Rattle.std.specs.Prelude.{bytes_eq}
use Rattle.std.specs.List.{position_or_len}
use Rattle.std.proofs.lemmas.Iterator.{YieldsList-from_slice}
use Rattle.std.proofs.lemmas.Iterator.Search.{position_from_yields_List}
use Rattle.std.proofs.lemmas.List.Sums.{prefix_len-le-length}
use Rattle.spaces_map.specs.declared.space.Space.{Space}
use Rattle.spaces_map.proofs.SpaceTexts.{place_is}
use Rattle.spaces_map.proofs.texts.place_of.Goals as goal

place : (c : goal.After-unwrap_or) → c.unwrap_or.result ≡ position_or_len (λ (space : Space). bytes_eq space.realm c.args.realm.now) c.args.spaces.now
place c =
    c.unwrap_or.ensures
    ∙ place_is _ _ c.position.result (prefix_len-le-length (λ (space : Space). not (bytes_eq space.realm c.args.realm.now)) c.args.spaces.now)
    (position_from_yields_List (λ (space : Space). bytes_eq space.realm c.args.realm.now) _ _ c.position.result c.position.ensures.ran
    (YieldsList-from_slice c.args.spaces.now cc) (λ x b q h. search (rules, tests)))

pub returns-clause-place : goal.returns-clause-place
returns-clause-place c = place c

pub returns-clause-within : goal.returns-clause-within
returns-clause-within c =
    let is = place c in
    let within = prefix_len-le-length (λ (space : Space). not (bytes_eq space.realm c.args.realm.now)) c.args.spaces.now in
    rw is within
