use Rattle.std.proofs.Common.{◌≡◌, List, [], ◌∷◌, refl, ap, arith}
use Rattle.std.specs.Prelude.{Result, Ok, Err}
use Rattle.spaces_map.specs.Texts.{IsSpaces, MayFollow, header, spaces_text}
use Rattle.spaces_map.specs.declared.error.SpacesError.{SpacesError}
use Rattle.spaces_map.specs.declared.space.Space.{Space}
use Rattle.spaces_map.proofs.OneWay.{one_way}
use Rattle.drill.specs.Site.{space}
use Rattle.drill.proofs.site.spaces_of.Goals as goal

may_stand : MayFollow [] space
may_stand = record {
  line = record {
    prefix = refl;
    terms = record { kinds = record { some = omega arith; apart = (record { flags = refl; apart = refl }, tt) }; plain = refl };
  };
  prefix = refl;
  number = refl;
}

its_spaces : IsSpaces (space ∷ [])
its_spaces = record { few = omega arith; each = (may_stand, tt) }

abbrev list_in : Result (List Space) SpacesError → List Space
list_in (Ok spaces) = spaces
list_in (Err error) = []

one_space : (spaces : List Space) → IsSpaces spaces → spaces_text (space ∷ []) ≡ spaces_text spaces → spaces ≡ space ∷ []
one_space spaces form is = ap list_in (one_way (spaces_text (space ∷ [])) (Ok spaces) (Ok (space ∷ [])) (form, is) (its_spaces, refl))

pub returns-in-Ok : goal.returns-in-Ok
unfolding header
returns-in-Ok c = one_space c.in-Ok.spaces c.in-Ok.ensures.form c.in-Ok.ensures.ok
