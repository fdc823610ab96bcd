-- What a client keeps after a response (RFC 7616 sections 3.3 to 3.5, RFC 7804 section 5).
use Rattle.std.specs.Prelude.{ℕ, ◌+◌, ◌-◌, ◌^◌, min, List, [], Option, Some, None}
use Rattle.client_core.specs.declared.state.Chosen.{Chosen}
use Rattle.client_core.specs.declared.state.Chosen.TheVariants.{Nothing, Digest, Scram}
use Rattle.client_core.specs.declared.state.Progress.{Progress}
use Rattle.client_core.specs.declared.state.Progress.TheVariants as progress
use Rattle.client_core.specs.declared.state.State.{State}
use Rattle.client_core.specs.declared.state.Change.{Change}
use Rattle.client_core.specs.declared.state.Change.TheVariants.{Keep, Choose, Begin, Renew, Answer, Replace, Forget, Pass, PassTo, Finish, Fail}

-- the choice with another nonce, or none
abbrev pub with_nonce : Option (List ℕ) → Chosen → Chosen
with_nonce kept Nothing = Nothing
with_nonce kept (Digest choice) = Digest (record choice { nonce = kept })
with_nonce kept (Scram choice) = Scram choice

-- what would be answered with is forgotten, and the choice stays
abbrev pub forgetting : State → State
forgetting s = record s { choice = with_nonce None s.choice; progress = progress.Nothing }

-- an exchange that the server has answered is finished
abbrev pub finished : Progress → Progress
finished (progress.Answered exchange) = progress.Finished exchange []
finished progress.Nothing = progress.Nothing
finished (progress.Begun first) = progress.Begun first
finished (progress.Finished exchange nonce) = progress.Finished exchange nonce

abbrev pub finishing : State → State
finishing s = record s { progress = finished s.progress; stale = 0 }

-- one stale answer more
abbrev pub one_more : ℕ → ℕ
one_more stale = min (stale + 1) (2 ^ 32 - 1)

-- what a client keeps after a change
abbrev pub applied : Change → State → State
applied Keep s = s
applied (Choose chosen) s = record s { choice = chosen }
applied (Renew nonce) s = record s { choice = with_nonce (Some nonce) s.choice; stale = one_more s.stale }
applied (Begin choice reuse) s = record s { choice = Scram choice; reuse = reuse }
applied (Answer exchange) s = record s { progress = progress.Answered exchange }
applied (Replace reuse) s = record s { progress = progress.Nothing; reuse = reuse }
applied Finish s = finishing s
applied Forget s = forgetting s
applied Pass s = record s { stale = 0 }
applied (PassTo nonce) s = record s { choice = with_nonce (Some nonce) s.choice; stale = 0 }
applied Fail s = record (forgetting s) { stale = 0 }
