-- Which fault a response's head has, and where its body ends (RFC 9112 section 6.3).
use Rattle.std.specs.Prelude.{ℕ, Bool, true, false, ◌||◌, not, List, [], ◌∷◌, if◌then◌else◌, ◌==◌, nat_lt, nat_le, Option, Some, None, map, codes}
use Rattle.httparse.specs.Grammar.{ResponseHead, status_code}
use Rattle.httparse.specs.Spans.{name_and_value}
use Rattle.auth_grammar.specs.Names.{same_name}
use Rattle.http_wire.specs.declared.response_checks.Framing.{Framing}
use Rattle.http_wire.specs.declared.response_checks.Framing.TheVariants.{Sized, TooLong, Chunked, UntilEnd}
use Rattle.http_wire.specs.declared.response_checks.JudgedResponse.{JudgedResponse}
use Rattle.http_wire.specs.declared.response_checks.JudgedResponse.TheVariants.{Sound, Informational, Faulty}
use Rattle.http_wire.specs.Lines.{line_feeds}
use Rattle.http_wire.specs.Fields.{Pairs, fields_of, values_of}
use Rattle.http_wire.specs.Values.{is_empty, are_lengths, first_number}
use Rattle.http_wire.specs.ResponseHead.{read_response_head}
use Rattle.http_wire.specs.declared.response_checks.TheConstants.{RESPONSE_LIMIT}
use Rattle.http_wire.specs.declared.front.TheConstants.{LINE_LIMIT}

-- a Transfer-Encoding that isn't `chunked` alone
abbrev pub is_other_coding : List (List ℕ) → Bool
is_other_coding [] = false
is_other_coding (value ∷ []) = not (same_name value (codes "chunked"))
is_other_coding (value ∷ next ∷ values) = true

-- a body of that many bytes, where it isn't above the limit
abbrev pub sized : ℕ → Framing
sized n = if nat_le n RESPONSE_LIMIT then Sized n else TooLong

-- the first rule that applies
abbrev pub framing_of : Bool → ℕ → Pairs → Framing
framing_of to_head status fields =
    if (to_head || status == 204) || status == 304 then Sized 0
    else if not (is_empty (values_of fields (codes "transfer-encoding"))) then Chunked
    else if is_empty (values_of fields (codes "content-length")) then UntilEnd
    else sized (first_number (values_of fields (codes "content-length")))

unfoldable pub judge_response_fields : Bool → ℕ → Pairs → JudgedResponse
judge_response_fields to_head status fields =
    if nat_lt status 100 || nat_lt 599 status then Faulty
    else if not (are_lengths (values_of fields (codes "content-length")))
    || is_other_coding (values_of fields (codes "transfer-encoding")) then Faulty
    else if nat_lt status 200 then Informational
    else Sound (record { response = record { status = status; fields = fields; body = [] }; framing = framing_of to_head status fields })

-- where each name is one of a header map
abbrev pub judge_response_named : Bool → ResponseHead → Option Pairs → JudgedResponse
judge_response_named to_head h None = Faulty
judge_response_named to_head h (Some fields) = judge_response_fields to_head (status_code h) fields

abbrev pub judge_response_head : Bool → Option ResponseHead → JudgedResponse
judge_response_head to_head None = Faulty
judge_response_head to_head (Some h) = judge_response_named to_head h (fields_of (map name_and_value h.fields))

-- the text of a head, which may answer a request of the method HEAD
unfoldable pub judge_response : Bool → List ℕ → JudgedResponse
judge_response to_head text = if nat_lt LINE_LIMIT (line_feeds text) then Faulty else judge_response_head to_head (read_response_head text)
