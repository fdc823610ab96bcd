-- What `httparse` finds in the text of a response's head.
use Rattle.std.specs.Prelude.{◌≡◌, ℕ, List, Option, Some, None}
use Rattle.httparse.specs.declared.spans.HeaderSpan.{HeaderSpan}
use Rattle.httparse.specs.declared.spans.ResponseSpans.{ResponseSpans}
use Rattle.httparse.specs.Grammar.{ResponseHead}
use Rattle.httparse.specs.Spans.{IsResponseAt, IsResponseWithin}
use Rattle.http_wire.specs.ResponseHead.{read_response_head}

-- the spans are those of the head that the text is
pub record IsResponseHeadAt (text : List ℕ) (headers : List HeaderSpan) (r : ResponseSpans) : Type 0 where
  pub head : ResponseHead
  pub read : read_response_head text ≡ Some head
  pub spans : IsResponseAt text headers r head
  pub within : IsResponseWithin text headers r

abbrev pub FindsResponseHead : List ℕ → List HeaderSpan → Option ResponseSpans → Type 0
FindsResponseHead text headers None = read_response_head text ≡ None
FindsResponseHead text headers (Some r) = IsResponseHeadAt text headers r
