-- The variants of an algorithm (RFC 7616 sections 3.3 and 6.1).
use Rattle.std.specs.Prelude.{ℕ, List, [], ◌∷◌, ◌++◌, codes, Option, Result, true, false, find, unwrap_or, if◌then◌else◌}
use Rattle.std.specs.Option.{ok_or}
use Rattle.auth_grammar.specs.declared.items.Param.{Param}
use Rattle.auth_grammar.specs.Names.{same_name}
use Rattle.auth_hash.specs.Algorithm.{algorithm_name}
use Rattle.auth_hash.specs.declared.algorithm.Algorithm.{Algorithm}
use Rattle.auth_hash.specs.declared.algorithm.Algorithm.TheVariants.{Md5, Sha256, Sha512t256}
use Rattle.digest_fields.specs.declared.field.FieldName.TheVariants as field
use Rattle.digest_fields.specs.declared.field.FieldError.{FieldError}
use Rattle.digest_fields.specs.declared.field.FieldError.TheVariants.{BadValue}
use Rattle.digest_fields.specs.declared.kind.Kind.{Kind}
use Rattle.digest_fields.specs.Field.{given}

-- how a kind is written
unfoldable pub kind_name : Kind → List ℕ
kind_name kind = algorithm_name kind.alg ++ (if kind.session then codes "-sess" else [])

-- the kinds of an algorithm
abbrev pub kinds_of : Algorithm → List Kind
kinds_of alg = record { alg = alg; session = false } ∷ record { alg = alg; session = true } ∷ []

-- every kind
abbrev pub kinds : List Kind
kinds = kinds_of Md5 ++ kinds_of Sha256 ++ kinds_of Sha512t256

-- the kind of that name
unfoldable pub kind_named : List ℕ → Option Kind
kind_named text = find (λ kind. same_name (kind_name kind) text) kinds

-- the kind that the parameters say, which is MD5 where they say none
unfoldable pub kind_of : List Param → Result Kind FieldError
kind_of params =
    ok_or (kind_named (unwrap_or (given field.Algorithm params) (codes "MD5"))) (BadValue field.Algorithm)
