-- What can be written.
use Rattle.std.specs.Prelude.{ℕ, Bool, true, ◌&&◌, ◌==◌, nat_lt, not, List, length, drop}
use Rattle.std.specs.List.{list_all, prefix_len}
use Rattle.auth_grammar.specs.declared.items.Param.{Param}
use Rattle.auth_grammar.specs.declared.items.Item.{Item}
use Rattle.auth_grammar.specs.declared.items.Rest.{Rest}
use Rattle.auth_grammar.specs.declared.items.Rest.TheVariants.{Empty, Token68, Params}
use Rattle.auth_grammar.specs.Kinds.{kind_of, is_token, is_token68, is_escapable}
use Rattle.auth_grammar.specs.Names.{has_repeat}

-- a token (RFC 9110 section 5.6.2)
abbrev pub is_token_text : List ℕ → Bool
is_token_text text = nat_lt 0 (length text) && list_all (λ b. is_token (kind_of b)) text

-- how many bytes of a token68 stand before its `=`
abbrev pub token68_len : List ℕ → ℕ
token68_len text = prefix_len (λ b. is_token68 (kind_of b)) text

-- a token68 (RFC 9110 section 11.2)
abbrev pub is_token68_text : List ℕ → Bool
is_token68_text text = nat_lt 0 (token68_len text) && list_all (λ b. b == 61) (drop (token68_len text) text)

-- bytes that a quoted string can mean (RFC 9110 section 5.6.4)
abbrev pub is_quotable_text : List ℕ → Bool
is_quotable_text value = list_all (λ b. is_escapable (kind_of b)) value

-- a parameter's name is a token, and its value can be quoted
abbrev pub is_valid_param : Param → Bool
is_valid_param p = is_token_text p.name && is_quotable_text p.value

-- parameters that can be written: no name comes twice
abbrev pub are_valid_params : List Param → Bool
are_valid_params params = list_all is_valid_param params && not (has_repeat params)

-- what can be written behind a scheme: nothing, a token68, or one parameter or more
abbrev pub is_valid_rest : Rest → Bool
is_valid_rest Empty = true
is_valid_rest (Token68 text) = is_token68_text text
is_valid_rest (Params params) = nat_lt 0 (length params) && are_valid_params params

-- an item that can be written
abbrev pub is_valid : Item → Bool
is_valid item = is_token_text item.scheme && is_valid_rest item.rest
