-- What a request's head asks for, and which fault it has.
use Rattle.std.specs.Prelude.{ℕ, Bool, true, false, ◌&&◌, ◌||◌, not, List, [], ◌∷◌, if◌then◌else◌, ◌==◌, nat_lt, nat_le, Option, Some, None, map, codes}
use Rattle.std.specs.List.{list_all}
use Rattle.httparse.specs.Grammar.{RequestHead}
use Rattle.httparse.specs.Spans.{name_and_value}
use Rattle.http_wire.specs.declared.request_head.SoundHead.{SoundHead}
use Rattle.http_wire.specs.declared.request_head.Judged.{Judged}
use Rattle.http_wire.specs.declared.request_head.Judged.TheVariants.{Sound, Faulty}
use Rattle.http_wire.specs.Values.{is_empty, are_lengths, first_number, has_token}
use Rattle.auth_grammar.specs.Names.{same_name}
use Rattle.http_wire.specs.Lines.{line_feeds}
use Rattle.http_wire.specs.RequestHead.{read_head}
use Rattle.http_wire.specs.Fields.{Pairs, fields_of, values_of}
use Rattle.http_wire.specs.declared.request_checks.TheConstants.{BODY_LIMIT}
use Rattle.http_wire.specs.declared.front.TheConstants.{LINE_LIMIT}

-- more than one Host, or none with HTTP/1.1
abbrev pub is_wrong_host : ℕ → List (List ℕ) → Bool
is_wrong_host minor [] = minor == 1
is_wrong_host minor (value ∷ []) = false
is_wrong_host minor (value ∷ next ∷ values) = true

-- what the values of the named fields say
pub record Named : Type 0 where
  pub hosts : List (List ℕ)
  pub codings : List (List ℕ)
  pub lengths : List (List ℕ)
  pub expects : List (List ℕ)
  pub connections : List (List ℕ)

unfoldable pub named_of : Pairs → Named
named_of fields = record {
  hosts = values_of fields (codes "host");
  codings = values_of fields (codes "transfer-encoding");
  lengths = values_of fields (codes "content-length");
  expects = values_of fields (codes "expect");
  connections = values_of fields (codes "connection");
}

-- the first fault of a head, by the status that tells it
unfoldable pub fault_of : ℕ → Named → Option ℕ
fault_of minor n =
    if is_wrong_host minor n.hosts then Some 400
    else if not (is_empty n.codings) then Some 411
    else if not (are_lengths n.lengths) then Some 400
    else if not (nat_le (first_number n.lengths) BODY_LIMIT) then Some 413
    else if not (list_all (λ value. same_name value (codes "100-continue")) n.expects) then Some 417
    else None

-- a head without fault
unfoldable pub sound_head : List ℕ → List ℕ → ℕ → Pairs → Named → SoundHead
sound_head method target minor fields n = record {
  request = record {
    method = method;
    target = target;
    minor = minor;
    fields = fields;
    body = [];
    closes = minor == 0 || has_token n.connections (codes "close");
  };
  body_len = first_number n.lengths;
  expects = (minor == 1 && not (is_empty n.expects)) && nat_lt 0 (first_number n.lengths);
}

abbrev pub judge_fault : Option ℕ → SoundHead → Judged
judge_fault (Some status) head = Faulty status
judge_fault None head = Sound head

unfoldable pub judge_fields : List ℕ → List ℕ → ℕ → Pairs → Judged
judge_fields method target minor fields =
    judge_fault (fault_of minor (named_of fields)) (sound_head method target minor fields (named_of fields))

-- where each name is one of a header map
abbrev pub judge_named : RequestHead → Option Pairs → Judged
judge_named h None = Faulty 400
judge_named h (Some fields) = judge_fields h.method h.target h.minor fields

abbrev pub judge_head : Option RequestHead → Judged
judge_head None = Faulty 400
judge_head (Some h) = judge_named h (fields_of (map name_and_value h.fields))

-- the text of a head, checked in order
unfoldable pub judge : List ℕ → Judged
judge text = if nat_lt LINE_LIMIT (line_feeds text) then Faulty 431 else judge_head (read_head text)
