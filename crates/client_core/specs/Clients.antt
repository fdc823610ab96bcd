-- Clients.
use Rattle.std.specs.Prelude.{◌≡◌, ℕ, List, [], length, None, Bool, ◌&&◌}
use Rattle.auth_grammar.specs.Plain.{is_password, is_plain_name}
use Rattle.auth_grammar.specs.declared.items.Role.{Role}
use Rattle.http_wire.specs.declared.response.Response.{Response}
use Rattle.client_core.specs.declared.hearing.Heard.{Heard}
use Rattle.client_core.specs.declared.outcome.Outcome.{Outcome}
use Rattle.client_core.specs.declared.reading.Said.{Said}
use Rattle.client_core.specs.declared.request.OutRequest.{OutRequest}
use Rattle.client_core.specs.declared.request.Sent.{Sent}
use Rattle.client_core.specs.declared.state.Chosen.TheVariants.{Nothing}
use Rattle.client_core.specs.declared.state.Progress.TheVariants as progress
use Rattle.client_core.specs.declared.state.State.{State}
use Rattle.client_core.specs.Changes.{applied}
use Rattle.client_core.specs.Conclusions.{concluded}
use Rattle.client_core.specs.Hearings.{Hears}
use Rattle.client_core.specs.Readings.{Says}

-- a name and a password that a client may have
abbrev pub fits : List ℕ → List ℕ → Bool
fits name password = is_plain_name name && is_password password

-- a client that has seen nothing
abbrev pub new_state : Role → List ℕ → List ℕ → State
new_state role name password = record {
  role = role;
  user = record { name = name; password = password };
  choice = Nothing;
  progress = progress.Nothing;
  reuse = None;
  stale = 0;
  drawn = [];
}

-- The response means this, and then the client keeps that.
pub record Concludes (s : State) (request : OutRequest) (what : Sent) (response : Response) (moment : ℕ) (outcome : Outcome)
    (t : State) : Type 0 where
  pub said : Said
  pub heard : Heard
  pub says : Says s.role what response said
  pub hears : Hears what said heard
  pub means : outcome ≡ (concluded s request what response moment said heard).outcome
  pub keeps : t ≡ applied (concluded s request what response moment said heard).change s

-- the challenge that was answered is forgotten, and the exchange
abbrev pub forgotten : State → State
forgotten s = record s { choice = Nothing; progress = progress.Nothing; reuse = None }
