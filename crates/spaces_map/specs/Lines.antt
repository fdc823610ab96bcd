-- The line of a space in a text of spaces.
use Rattle.std.specs.Prelude.{◌≡◌, ℕ, Bool, true, ◌&&◌, ◌||◌, not, nat_le, nat_eq, bytes_eq, List, [], ◌∷◌, ◌++◌, codes}
use Rattle.std.specs.List.{list_all, starts_with, ends_with}
use Rattle.auth_grammar.specs.Plain.{is_plain_name}
use Rattle.spaces_map.specs.Kinds.{IsOffers, kinds_text}
use Rattle.spaces_map.specs.declared.space.Mode.{Mode}
use Rattle.spaces_map.specs.declared.space.Mode.TheVariants.{Open, Optional, Required}
use Rattle.spaces_map.specs.declared.space.Offer.{Offer}
use Rattle.spaces_map.specs.declared.space.Space.{Space}

-- a byte of printable ASCII other than the space (21 to 7E, hexadecimal)
abbrev pub is_visible : ℕ → Bool
is_visible b = nat_le 33 b && nat_le b 126

-- a prefix is `/`, or visible bytes that begin with `/` and don't end in it
abbrev pub is_prefix : List ℕ → Bool
is_prefix prefix =
    bytes_eq prefix (47 ∷ []) || (starts_with nat_eq prefix (47 ∷ [])
    && (not (ends_with nat_eq prefix (47 ∷ [])) && list_all is_visible prefix))

abbrev pub mode_name : Mode → List ℕ
mode_name Open = codes "none"
mode_name Optional = codes "optional"
mode_name Required = codes "required"

-- mode, kinds and realm, a space between each two
abbrev pub asked_text : Mode → List Offer → List ℕ → List ℕ
asked_text mode offers realm = mode_name mode ++ 32 ∷ (kinds_text offers ++ 32 ∷ realm)

-- what stands behind the prefix
abbrev pub terms_text : Mode → List Offer → List ℕ → List ℕ
terms_text Open offers realm = mode_name Open
terms_text Optional offers realm = asked_text Optional offers realm
terms_text Required offers realm = asked_text Required offers realm

-- what a space that asks for credentials has
pub record IsAsked (offers : List Offer) (realm : List ℕ) : Type 0 where
  pub kinds : IsOffers offers
  pub plain : is_plain_name realm ≡ true

-- an open space offers nothing and has no realm
pub record IsNothing (offers : List Offer) (realm : List ℕ) : Type 0 where
  pub no_offer : offers ≡ []
  pub no_realm : realm ≡ []

abbrev pub IsTerms : Mode → List Offer → List ℕ → Type 0
IsTerms Open offers realm = IsNothing offers realm
IsTerms Optional offers realm = IsAsked offers realm
IsTerms Required offers realm = IsAsked offers realm

-- the line, without its line feed
abbrev pub line_text : Space → List ℕ
line_text space = space.prefix ++ 32 ∷ terms_text space.mode space.offers space.realm

-- a space that a line may give
pub record IsLine (space : Space) : Type 0 where
  pub prefix : is_prefix space.prefix ≡ true
  pub terms : IsTerms space.mode space.offers space.realm
