-- The quality of protection that a challenge offers and that credentials take (RFC 7616 sections 3.3 and 3.4).
use Rattle.std.specs.Prelude.{ℕ, List, [], ◌∷◌, length, drop, codes, position, find, nat_eq, Option, Result, Ok, Err, Bool, not, ◌&&◌, ◌||◌, ◌==◌, if◌then◌else◌}
use Rattle.std.specs.List.{list_all, list_any, slice_split, starts_with}
use Rattle.std.specs.Option.{ok_or, option_map_or}
use Rattle.auth_grammar.specs.declared.items.Param.{Param}
use Rattle.auth_grammar.specs.Names.{same_name}
use Rattle.auth_hash.specs.declared.algorithm.Qop.{Qop}
use Rattle.auth_hash.specs.declared.algorithm.Qop.TheVariants.{Auth, AuthInt}
use Rattle.auth_hash.specs.Qop.{qop_name}
use Rattle.digest_fields.specs.declared.field.FieldName.TheVariants as field
use Rattle.digest_fields.specs.declared.field.FieldError.{FieldError}
use Rattle.digest_fields.specs.declared.field.FieldError.TheVariants.{BadValue}
use Rattle.digest_fields.specs.declared.qop.Offer.{Offer}
use Rattle.digest_fields.specs.Field.{required, ◌>>=◌}

-- the quality of that name
unfoldable pub qop_named : List ℕ → Option Qop
qop_named text = find (λ qop. same_name (qop_name qop) text) (Auth ∷ AuthInt ∷ [])

-- the quality that a text names
unfoldable pub qop_from : List ℕ → Result Qop FieldError
qop_from text = ok_or (qop_named text) (BadValue field.Qop)

-- the quality that credentials take
unfoldable pub qop_of : List Param → Result Qop FieldError
qop_of params = do
  text ← required field.Qop params
  qop_from text

-- whether a byte is a space or a tab
unfoldable pub is_blank : ℕ → Bool
is_blank byte = byte == 32 || byte == 9

-- the text from its first byte on that is no blank
unfoldable pub past_blanks : List ℕ → List ℕ
past_blanks text = option_map_or (λ at. drop at text) (position (λ byte. not (is_blank byte)) text) []

-- whether a part is the name, with blanks round it
unfoldable pub is_part : List ℕ → List ℕ → Bool
is_part name part =
    starts_with nat_eq (past_blanks part) name && list_all is_blank (drop (length name) (past_blanks part))

-- whether a part of the list, between its commas, is the name
unfoldable pub has_part : List ℕ → List ℕ → Bool
has_part name text = list_any (is_part name) (slice_split (λ byte. byte == 44) text)

-- what a list offers
abbrev pub offer_in : List ℕ → Offer
offer_in text = record { auth = has_part (codes "auth") text; auth_int = has_part (codes "auth-int") text }

-- what a challenge offers, which is one quality at least
unfoldable pub offer_of : List Param → Result Offer FieldError
offer_of params = do
  text ← required field.Qop params
  if (offer_in text).auth || (offer_in text).auth_int then Ok (offer_in text) else Err (BadValue field.Qop)
