-- What a call took from the outside and gave to it.
use Rattle.std.specs.Prelude.{◌≡◌, ℕ, ◌+◌, ◌<◌, ◌^◌, List, [], ◌++◌, length, map, Option, Some, None, ⊤}
use Rattle.std.specs.Io.KnownBytes.{Consumes, Appends}
use Rattle.connection_loop.specs.Machine.{Machine}
use Rattle.connection_loop.specs.Session.{Supply}

-- the bytes read and written, the moments shown, the calls to the outside,
-- and each read of the link by the numbers of bytes that were read and written before it
pub record Account (E : Type 0) : Type 0 where
  pub input : List ℕ
  pub output : List ℕ
  pub moments : List ℕ
  pub events : List E
  pub reads : List (ℕ × ℕ)

abbrev pub asks_of : {S Q E : Type 0} → Machine S Q E → Account E → List Q
asks_of m a = map (m.ask_of) a.events

abbrev pub supply_of : {E : Type 0} → Account E → Supply E
supply_of a = record { moments = a.moments; events = a.events }

-- a link at one moment, as far as it tells
pub record LinkState : Type 0 where
  pub left : Option (List ℕ)
  pub given : ℕ
  pub written : Option (List ℕ)
  pub reads : Option (List (ℕ × ℕ))

abbrev pub link_of : {L : Type 0} → (L → Option (List ℕ)) → (L → ℕ) → (L → Option (List ℕ)) → (L → Option (List (ℕ × ℕ))) → L → LinkState
link_of left given written reads link = record { left = left link; given = given link; written = written link; reads = reads link }

-- a read, by the bytes read and written before it, where this many came earlier still
abbrev pub shifted : ℕ → ℕ → ℕ × ℕ → ℕ × ℕ
shifted read written r = (read + r.0, written + r.1)

-- The told list of reads has grown by these. Nothing is said where what was written isn't told.
abbrev pub AddsReads : Option (List (ℕ × ℕ)) → Option (List (ℕ × ℕ)) → ℕ → Option (List ℕ) → List (ℕ × ℕ) → Type 0
AddsReads None new given written reads = ⊤
AddsReads (Some old) None given written reads = ⊥
AddsReads (Some old) (Some new) given None reads = ⊤
AddsReads (Some old) (Some new) given (Some written) reads = new ≡ old ++ map (shifted given (length written)) reads

-- between two moments the link gave these bytes, in these reads, and took these
pub record LinkPassed (before now : LinkState) (input output : List ℕ) (reads : List (ℕ × ℕ)) : Type 0 where
  pub gave : Consumes before.left now.left input
  pub counted : now.given ≡ before.given + length input
  pub bound : 0 < length input → now.given < 2 ^ 63
  pub took : Appends before.written now.written output
  pub noted : AddsReads before.reads now.reads before.given before.written reads

-- one account, and then another
abbrev pub join : {E : Type 0} → Account E → Account E → Account E
join a b = record {
  input = a.input ++ b.input;
  output = a.output ++ b.output;
  moments = a.moments ++ b.moments;
  events = a.events ++ b.events;
  reads = a.reads ++ map (shifted (length a.input) (length a.output)) b.reads;
}

-- what came first, and then more
abbrev pub add : {E : Type 0} → Supply E → Supply E → Supply E
add first more = record {
  moments = first.moments ++ more.moments;
  events = first.events ++ more.events;
}

-- nothing was taken or given
abbrev pub no_account : {E : Type 0} → Account E
no_account = record { input = []; output = []; moments = []; events = []; reads = [] }
