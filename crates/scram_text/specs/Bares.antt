-- What a client-first says by the text behind its flag, by computing it.
use Rattle.std.specs.Prelude.{ℕ, Bool, true, false, ◌&&◌, ◌==◌, nat_le, bytes_eq, if◌then◌else◌, List, [], ◌∷◌, ◌++◌, codes, drop, length, zero, suc, slice_index, Option, Some, None}
use Rattle.std.specs.List.{list_all, slice_split}
use Rattle.auth_grammar.specs.Plain.{is_printable}
use Rattle.scram_text.specs.Bytes.{escaped, is_letter, is_nonce_byte, is_value_byte, some_of}
use Rattle.scram_text.specs.ClientFirsts.{FirstParts}
use Rattle.scram_text.specs.declared.flag.Flag.TheVariants.{N}
use Rattle.auth_grammar.specs.declared.plain.TheConstants.{NAME_LIMIT}
use Rattle.scram_text.specs.declared.limits.TheConstants.{BARE_LIMIT, NONCE_LIMIT}

-- a name and a nonce
pub record BareParts : Type 0 where
  pub name : List ℕ
  pub nonce : List ℕ

-- the byte behind an equals sign (61): of 2C, which ends with C (67), a comma (44), and of 3D an equals sign
abbrev pub escaped_byte : List ℕ → ℕ
escaped_byte text = if slice_index text 1 == 67 then 44 else 61

-- the name that is written so, behind so many bytes that are passed over
abbrev pub name_from : ℕ → List ℕ → List ℕ
name_from skip [] = []
name_from zero (b ∷ text) = if b == 61 then escaped_byte text ∷ name_from 2 text else b ∷ name_from 0 text
name_from (suc skip) (b ∷ text) = name_from skip text

-- what stands before the first comma
abbrev pub before_comma : List ℕ → List ℕ
before_comma [] = []
before_comma (b ∷ text) = if b == 44 then [] else b ∷ before_comma text

-- an extension: a letter, an equals sign and a value
abbrev pub is_extension : List ℕ → Bool
is_extension [] = false
is_extension (letter ∷ []) = false
is_extension (letter ∷ sign ∷ value) = is_letter letter && (sign == 61) && some_of is_value_byte value

-- extensions with a comma before each
abbrev pub are_extensions : List ℕ → Bool
are_extensions [] = true
are_extensions (b ∷ text) = (b == 44) && list_all is_extension (slice_split (λ b. b == 44) text)

-- the name as it is written behind n=, and what stands behind ,r=
abbrev pub written_in : List ℕ → List ℕ
written_in bare = before_comma (drop 2 bare)

abbrev pub behind_name : List ℕ → List ℕ
behind_name bare = drop 3 (drop (length (written_in bare)) (drop 2 bare))

abbrev pub parts_in : List ℕ → BareParts
parts_in bare = record { name = name_from 0 (written_in bare); nonce = before_comma (behind_name bare) }

-- what stands behind the nonce
abbrev pub rest_in : List ℕ → List ℕ
rest_in bare = drop (length (before_comma (behind_name bare))) (behind_name bare)

-- n=name,r=nonce and the rest
abbrev pub bare_of : BareParts → List ℕ → List ℕ
bare_of parts rest = codes "n=" ++ (escaped parts.name ++ (codes ",r=" ++ (parts.nonce ++ rest)))

abbrev pub is_bare_of : List ℕ → BareParts → List ℕ → Bool
is_bare_of bare parts rest =
    bytes_eq bare (bare_of parts rest) && are_extensions rest && some_of is_printable parts.name && some_of is_nonce_byte parts.nonce

abbrev pub are_short : List ℕ → BareParts → Bool
are_short bare parts = nat_le (length bare) BARE_LIMIT && nat_le (length parts.name) NAME_LIMIT && nat_le (length parts.nonce) NONCE_LIMIT

-- as what stands behind the flag n
abbrev pub first_of : List ℕ → BareParts → FirstParts
first_of bare parts = record { flag = N; name = parts.name; nonce = parts.nonce; bare = bare }

-- what a client-first that is taken says, by what stands behind its flag n
unfoldable pub first_behind : List ℕ → Option FirstParts
first_behind bare =
    if is_bare_of bare (parts_in bare) (rest_in bare) && are_short bare (parts_in bare)
    then Some (first_of bare (parts_in bare)) else None
