-- Which credentials go with a request (RFC 7616 section 3.4, RFC 7804 section 5).
use Rattle.std.specs.Prelude.{ℕ, ◌+◌, List, Option, Some, None, if◌then◌else◌}
use Rattle.client_core.specs.declared.request.OutRequest.{OutRequest}
use Rattle.client_core.specs.declared.request.Sent.{Sent}
use Rattle.client_core.specs.declared.request.Sent.TheVariants as sent
use Rattle.client_core.specs.declared.state.Chosen.{Chosen}
use Rattle.client_core.specs.declared.state.Chosen.TheVariants.{Nothing, Digest, Scram}
use Rattle.client_core.specs.declared.state.Exchange.{Exchange}
use Rattle.client_core.specs.declared.state.First.{First}
use Rattle.client_core.specs.declared.state.Progress.{Progress}
use Rattle.client_core.specs.declared.state.Progress.TheVariants as progress
use Rattle.client_core.specs.declared.state.Reuse.{Reuse}
use Rattle.client_core.specs.declared.state.ScramChoice.{ScramChoice}
use Rattle.client_core.specs.declared.state.State.{State}
use Rattle.client_core.specs.Cnonces.{words_text}
use Rattle.client_core.specs.Counts.{count_of, with_count}
use Rattle.client_core.specs.Digests.{digest_given}
use Rattle.client_core.specs.Scrams.{again_nonce, can_reuse, final_item, first_bare, first_item}

-- ---- the client's first message

abbrev pub first_with : State → ScramChoice → First → Sent × State
first_with s choice first = (sent.ScramFirst (first_item choice.realm first.bare), record s { progress = progress.Begun first })

-- where SCRAM-SHA-256 was chosen
abbrev pub first_given : State → List ℕ → Chosen → Sent × State
first_given s words Nothing = (sent.Nothing, s)
first_given s words (Digest choice) = (sent.Nothing, s)
first_given s words (Scram choice) = first_with s choice (record { nonce = words_text words; bare = first_bare s.user.name words })

-- ---- an exchange that is used again

abbrev pub again_with : State → Exchange → Reuse → ℕ → List ℕ → Sent × State
again_with s x reuse count nonce =
    (sent.ScramAgain (final_item x nonce), record s { progress = progress.Finished x nonce; drawn = with_count s.drawn reuse.sr count })

abbrev pub again_next : State → Exchange → Reuse → List ℕ → Sent × State
again_next s x reuse words =
    let count = count_of s.drawn reuse.sr + 1 in
    again_with s x reuse count (again_nonce reuse.sr count words)

abbrev pub again_by : State → ℕ → List ℕ → Exchange → Option Reuse → Option (Sent × State)
again_by s moment words x None = None
again_by s moment words x (Some reuse) = if can_reuse s.drawn reuse moment then Some (again_next s x reuse words) else None

-- where one is finished, and what the server gave for that is still good
abbrev pub again_given : State → ℕ → List ℕ → Progress → Option Reuse → Option (Sent × State)
again_given s moment words progress.Nothing reuse = None
again_given s moment words (progress.Begun first) reuse = None
again_given s moment words (progress.Answered x) reuse = None
again_given s moment words (progress.Finished x last) reuse = again_by s moment words x reuse

-- ---- all cases

-- what the challenge takes that was chosen
abbrev pub by_choice : State → OutRequest → List ℕ → Chosen → Sent × State
by_choice s request words Nothing = (sent.Nothing, s)
by_choice s request words (Digest choice) = digest_given s request words (Digest choice)
by_choice s request words (Scram choice) = first_given s words (Scram choice)

abbrev pub or_choice : State → OutRequest → List ℕ → Option (Sent × State) → Sent × State
or_choice s request words (Some found) = found
or_choice s request words None = by_choice s request words s.choice

abbrev pub unanswered : State → OutRequest → ℕ → List ℕ → Sent × State
unanswered s request moment words = or_choice s request words (again_given s moment words s.progress s.reuse)

abbrev pub given_at : State → OutRequest → ℕ → List ℕ → Progress → Sent × State
given_at s request moment words (progress.Answered x) = (sent.ScramFinal (final_item x x.nonce), s)
given_at s request moment words progress.Nothing = unanswered s request moment words
given_at s request moment words (progress.Begun first) = unanswered s request moment words
given_at s request moment words (progress.Finished x last) = unanswered s request moment words

-- What is given, and what the client keeps behind it. The first of these goes: a final message where the server's first
-- waits for it, a finished exchange again, and what was chosen.
abbrev pub given : State → OutRequest → ℕ → List ℕ → Sent × State
given s request moment words = given_at s request moment words s.progress
