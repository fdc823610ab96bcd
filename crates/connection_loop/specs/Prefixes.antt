-- One session as the front of another.
use Rattle.std.specs.Prelude.{◌≡◌, ℕ, List, ◌++◌}
use Rattle.connection_loop.specs.Account.{Account, asks_of}
use Rattle.connection_loop.specs.Machine.{Machine}
use Rattle.connection_loop.specs.Session.{Session}

-- What one session writes and asks begins with what another does.
pub record Extends {S Q E : Type 0} (s t : Session S Q E) : Type 0 where
  pub output : (more : List ℕ) × (t.output ≡ s.output ++ more)
  pub asks : (more : List Q) × (t.asks ≡ s.asks ++ more)

-- What was written and asked is the front of what a session has.
pub record IsFront {S Q E : Type 0} (s : Session S Q E) (m : Machine S Q E) (a : Account E) : Type 0 where
  pub output : (more : List ℕ) × (s.output ≡ a.output ++ more)
  pub asks : (more : List Q) × (s.asks ≡ asks_of m a ++ more)
