-- What requests take from the outside and give to it.
use Rattle.std.specs.Prelude.{◌≡◌, ◌⊎◌, ℕ, Bool, true, false, List, [], ◌∷◌, ◌++◌, map, take, Option, Some, ⊤}
use Rattle.auth_io.specs.Causes.{Rose}
use Rattle.auth_io.specs.Dialling.{Dialled}
use Rattle.auth_io.specs.Handing.{Handed, HandsAll, TakesAll}
use Rattle.auth_io.specs.Told.{Adds}
use Rattle.authget.specs.Fetched.{Round}
use Rattle.authget.specs.declared.stop.Stop.{Stop}
use Rattle.authget.specs.declared.stop.Stop.TheVariants.{Fault, OutOfMemory}

-- what makes connections, as far as it tells, and its counts of faults
pub record DialState : Type 0 where
  pub dialled : Option Dialled
  pub coming : Option (List (List ℕ))
  pub handed : Option Handed
  pub faults : ℕ
  pub link_faults : ℕ

abbrev pub dial_of : {N : Type 0} → (N → Option Dialled) → (N → Option (List (List ℕ))) → (N → Option Handed) → (N → ℕ) → (N → ℕ)
    → N → DialState
dial_of dialled coming handed faults link_faults dial =
    record { dialled = dialled dial; coming = coming dial; handed = handed dial; faults = faults dial; link_faults = link_faults dial }

-- that, a clock and a source of random words
pub record Outside : Type 0 where
  pub dial : DialState
  pub shown : Option (List ℕ)
  pub drawn : Option (List (List ℕ))
  pub word_faults : ℕ

-- what is seen of each
pub record Views (N C W : Type 0) : Type 0 where
  pub dial : N → DialState
  pub shown : C → Option (List ℕ)
  pub drawn : W → Option (List (List ℕ))
  pub word_faults : W → ℕ

abbrev pub views : {N C W : Type 0} → (N → DialState) → (C → Option (List ℕ)) → (W → Option (List (List ℕ))) → (W → ℕ) → Views N C W
views dial shown drawn word_faults = record { dial = dial; shown = shown; drawn = drawn; word_faults = word_faults }

abbrev pub outside : {N C W : Type 0} → Views N C W → N → C → W → Outside
outside v dial clock random =
    record { dial = v.dial dial; shown = v.shown clock; drawn = v.drawn random; word_faults = v.word_faults random }

-- ---- what was taken and given

-- the moments that were shown, the words that were drawn, the dials, the bytes of each connection, and of each connection
-- what was written on it and whether one of its calls failed
pub record Account : Type 0 where
  pub moments : List ℕ
  pub draws : List (List ℕ)
  pub dials : Dialled
  pub bytes : List (List ℕ)
  pub ended : List (List ℕ × Bool)

abbrev pub no_account : Account
no_account = record { moments = []; draws = []; dials = []; bytes = []; ended = [] }

-- one account, and then another
abbrev pub join : Account → Account → Account
join a b = record {
  moments = a.moments ++ b.moments;
  draws = a.draws ++ b.draws;
  dials = a.dials ++ b.dials;
  bytes = a.bytes ++ b.bytes;
  ended = a.ended ++ b.ended;
}

abbrev pub moment_of : Round → ℕ
moment_of x = x.moment

abbrev pub words_of : Round → List ℕ
words_of x = x.words

abbrev pub bytes_of : Round → List ℕ
bytes_of x = x.bytes

-- a dial of that peer that made a connection
abbrev pub made_by : List ℕ → Round → List ℕ × Bool
made_by peer x = (peer, false)

-- a text that was written whole, on a connection without a fault
abbrev pub whole : List ℕ → List ℕ × Bool
whole text = (text, false)

-- rounds of which each had one moment, one draw, one dial, and one connection, on which its text was written
abbrev pub account_of : List ℕ → List Round → List (List ℕ) → Account
account_of peer xs texts = record {
  moments = map moment_of xs;
  draws = map words_of xs;
  dials = map (made_by peer) xs;
  bytes = map bytes_of xs;
  ended = map whole texts;
}

-- Between two moments exactly these dials were made, of connections with these bytes, and each of them is back.
pub record DialPassed (u v : DialState) (dials : Dialled) (bytes : List (List ℕ)) (ended : List (List ℕ × Bool)) : Type 0 where
  pub dialled : Adds u.dialled v.dialled dials
  pub coming : HandsAll u.coming v.coming (map Some bytes)
  pub handed : TakesAll u.handed v.handed ended

-- Between two moments exactly this was shown, drawn, and done over connections.
pub record Passed (u v : Outside) (a : Account) : Type 0 where
  pub shown : Adds u.shown v.shown a.moments
  pub drawn : Adds u.drawn v.drawn a.draws
  pub dial : DialPassed u.dial v.dial a.dials a.bytes a.ended

-- ---- a request that wasn't made whole

-- how far it came
pub data Stage : Type 0 where
  -- nothing was asked for it
  Unbegun : Stage
  -- no words were drawn
  Undrawn : Stage
  -- no dial is told
  Undialled : Stage
  -- the dial failed
  Unconnected : Stage
  -- the bytes that its connection had to give, how many of its text were written, and whether a call of the connection failed
  Connected : List ℕ → ℕ → Bool → Stage

abbrev pub account_at : Stage → List ℕ → List ℕ → Round → Account
account_at Unbegun peer text x = no_account
account_at Undrawn peer text x = record no_account { moments = x.moment ∷ [] }
account_at Undialled peer text x = record no_account { moments = x.moment ∷ []; draws = x.words ∷ [] }
account_at Unconnected peer text x = record no_account { moments = x.moment ∷ []; draws = x.words ∷ []; dials = (peer, true) ∷ [] }
account_at (Connected bytes n failed) peer text x = record {
  moments = x.moment ∷ [];
  draws = x.words ∷ [];
  dials = (peer, false) ∷ [];
  bytes = bytes ∷ [];
  ended = (take n text, failed) ∷ [];
}

-- a fault of a connection's call, or want of memory
abbrev pub CutBy : Bool → Stop → Type 0
CutBy failed Fault = failed ≡ true
CutBy failed OutOfMemory = ⊤

-- why it came no further
abbrev pub StopsAt : Stage → Stop → Type 0
StopsAt Unbegun stop = ⊤
StopsAt Undrawn stop = stop ≡ Fault
StopsAt Undialled stop = stop ≡ OutOfMemory
StopsAt Unconnected stop = stop ≡ Fault
StopsAt (Connected bytes n failed) stop = CutBy failed stop

-- ---- faults

-- no count has changed
pub record HasSameFaults (u v : Outside) : Type 0 where
  pub dial : v.dial.faults ≡ u.dial.faults
  pub link : v.dial.link_faults ≡ u.dial.link_faults
  pub word : v.word_faults ≡ u.word_faults

-- a count has risen of what makes connections
abbrev pub DialRose : DialState → DialState → Type 0
DialRose u v = Rose u.faults v.faults ⊎ Rose u.link_faults v.link_faults

-- a count has risen of the outside
abbrev pub SomeRose : Outside → Outside → Type 0
SomeRose u v = DialRose u.dial v.dial ⊎ Rose u.word_faults v.word_faults
