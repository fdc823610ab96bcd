-- What a reply says of the authentication.
use Rattle.std.specs.Prelude.{ℕ, Bool, true, false, List, [], ◌∷◌, map}
use Rattle.auth_grammar.specs.RoleFields.{challenge_name, info_name, offer_name}
use Rattle.auth_grammar.specs.Writing.{items_text, params_text}
use Rattle.auth_grammar.specs.declared.items.Item.{Item}
use Rattle.auth_grammar.specs.declared.items.Quoting.TheVariants as quoting
use Rattle.auth_grammar.specs.declared.items.Role.{Role}
use Rattle.auth_decide.specs.Infos.{info_of}
use Rattle.auth_decide.specs.declared.info.Proof.{Proof}
use Rattle.auth_decide.specs.declared.verdict.Verdict.{Verdict}
use Rattle.auth_decide.specs.declared.verdict.Verdict.TheVariants.{Admit, Open, Challenge, Continue, Bad}
use Rattle.http_wire.specs.declared.pair.Pair.{Pair}

abbrev pub pair : List ℕ → List ℕ → Pair
pair name value = record { name = name; value = value }

abbrev pub item_line : List ℕ → Item → Pair
item_line name item = pair name (items_text quoting.Challenge (item ∷ []))

abbrev pub info_line : Role → Proof → List ℕ → Pair
info_line role proof body = pair (info_name role) (params_text quoting.Info (info_of proof body))

-- what the server proves over the body that it sends, or what it offers
abbrev pub verdict_lines : Role → Verdict → List ℕ → List Pair
verdict_lines role (Admit user proof) body = info_line role proof body ∷ []
verdict_lines role (Open items) body = map (item_line (offer_name role)) items
verdict_lines role (Challenge items) body = map (item_line (challenge_name role)) items
verdict_lines role (Continue item) body = item_line (challenge_name role) item ∷ []
verdict_lines role (Bad why) body = []

abbrev pub is_admitted : Verdict → Bool
is_admitted (Admit user proof) = true
is_admitted (Open items) = false
is_admitted (Challenge items) = false
is_admitted (Continue item) = false
is_admitted (Bad why) = false
