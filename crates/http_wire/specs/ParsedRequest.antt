-- What `httparse` finds in the text of a head.
use Rattle.std.specs.Prelude.{◌≡◌, ℕ, List, Option, Some, None}
use Rattle.httparse.specs.declared.spans.HeaderSpan.{HeaderSpan}
use Rattle.httparse.specs.declared.spans.RequestSpans.{RequestSpans}
use Rattle.httparse.specs.Grammar.{RequestHead}
use Rattle.httparse.specs.Spans.{IsRequestAt, IsRequestWithin}
use Rattle.http_wire.specs.RequestHead.{read_head}

-- the spans are those of the head that the text is
pub record IsHead (text : List ℕ) (headers : List HeaderSpan) (r : RequestSpans) : Type 0 where
  pub head : RequestHead
  pub read : read_head text ≡ Some head
  pub spans : IsRequestAt text headers r head
  pub within : IsRequestWithin text headers r

abbrev pub FindsHead : List ℕ → List HeaderSpan → Option RequestSpans → Type 0
FindsHead text headers None = read_head text ≡ None
FindsHead text headers (Some r) = IsHead text headers r
