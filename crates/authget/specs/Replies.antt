-- What is read of a connection.
use Rattle.std.specs.Prelude.{◌≡◌, ℕ, ◌+◌, ◌^◌, ◌<◌, ◌≤◌, Bool, true, false, List, [], ◌++◌, length, Option, Some, None, Result, Ok, Err, ⊤}
use Rattle.std.specs.Io.KnownBytes.{Consumes, IsAtEnd}
use Rattle.http_wire.specs.ResponseFeed.{HeldResponse, ahead}
use Rattle.http_wire.specs.declared.response.Response.{Response}
use Rattle.authget.specs.Requests.{reply_in}
use Rattle.http_wire.specs.declared.response.NextResponse.{NextResponse}
use Rattle.http_wire.specs.declared.response.NextResponse.TheVariants as next
use Rattle.authget.specs.declared.stop.Stop.{Stop}
use Rattle.authget.specs.declared.stop.Stop.TheVariants.{OutOfMemory}

-- all that a connection had to give, where it told so, and else what was read of it
abbrev pub whole_of : Option (List ℕ) → List ℕ → List ℕ
whole_of None got = got
whole_of (Some bytes) got = bytes

abbrev pub IsReply : Option (List ℕ) → List ℕ → Result (Option Response) Stop → Type 0
IsReply left got (Ok reply) = reply ≡ reply_in (whole_of left got)
IsReply left got (Err stop) = ⊤

-- The reply is that of all the bytes of the connection, of which some were read.
abbrev pub ReadsReply : Option (List ℕ) → Option (List ℕ) → Result (Option Response) Stop → Type 0
ReadsReply left left' result = (got : List ℕ) × Consumes left left' got × IsReply left got result

-- ---- pieces

-- the bytes were pushed into the feed
pub record Pushes (old new : HeldResponse) (got : List ℕ) (given : ℕ) : Type 0 where
  pub to_head : new.to_head ≡ old.to_head
  pub ahead : (more : List ℕ) → ahead new more ≡ ahead old (got ++ more)
  pub within : new.count ≤ given

abbrev pub IsPiece : Option (List ℕ) → List ℕ → Bool → Type 0
IsPiece left got true = 0 < length got
IsPiece left got false = (got ≡ []) × IsAtEnd left

-- what an answer says of a piece that was read: whether there was any
abbrev pub Took : HeldResponse → HeldResponse → Option (List ℕ) → ℕ → ℕ → List ℕ → Result Bool Stop → Type 0
Took old new left given given' got (Ok more) =
    Pushes old new got given' × (given' ≡ given + length got) × (given' < 2 ^ 63) × IsPiece left got more
Took old new left given given' got (Err stop) = ⊤

abbrev pub ReadsPiece : HeldResponse → HeldResponse → Option (List ℕ) → Option (List ℕ) → ℕ → ℕ → Result Bool Stop → Type 0
ReadsPiece old new left left' given given' result = (got : List ℕ) × Consumes left left' got × Took old new left' given given' got result

-- the reply where a feed gives this at the end of the bytes
abbrev pub told : NextResponse → Result (Option Response) Stop
told (next.Message response) = Ok (Some response)
told next.NeedMore = Ok None
told (next.Bad at) = Ok None
told next.OutOfMemory = Err OutOfMemory
