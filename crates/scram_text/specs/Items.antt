-- The items that carry messages (RFC 7804 section 5).
use Rattle.std.specs.Prelude.{ℕ, List, codes}
use Rattle.auth_grammar.specs.Params.{param}
use Rattle.auth_grammar.specs.declared.items.Item.{Item}
use Rattle.auth_grammar.specs.declared.items.Param.{Param}
use Rattle.auth_grammar.specs.declared.items.Rest.TheVariants.{Params}
use Rattle.scram_text.specs.Bytes.{base64_text}

abbrev pub scram_scheme : List ℕ
scram_scheme = codes "SCRAM-SHA-256"

abbrev pub scram_item : List Param → Item
scram_item params = record { scheme = scram_scheme; rest = Params params }

-- the parameter with a message
abbrev pub data_param : List ℕ → Param
data_param message = param (codes "data") (base64_text message)
