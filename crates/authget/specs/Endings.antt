-- How the program ends, and what that says of the outside.
use Rattle.std.specs.Prelude.{◌≡◌, ◌⊎◌, ℕ, true, false, List, [], ◌∷◌, ◌++◌, take, Option, Some, None, Result, Ok, Err, codes}
use Rattle.std.specs.Io.KnownBytes.{Appends}
use Rattle.auth_io.specs.Causes.{Rose}
use Rattle.client_core.specs.Clients.{fits, new_state}
use Rattle.client_core.specs.declared.state.State.{State}
use Rattle.authget.specs.Fetched.{Fetched, Report, Round}
use Rattle.authget.specs.Outside.{Account, Outside, Passed, SomeRose, Stage, StopsAt, account_at, account_of, join, no_account}
use Rattle.authget.specs.Passwords.{ReadsLine}
use Rattle.authget.specs.Requests.{peer_of, role_of}
use Rattle.authget.specs.Stops.{stop_status}
use Rattle.authget.specs.Telling.{Heard, Tells}
use Rattle.authget.specs.declared.plan.Plan.{Plan}
use Rattle.authget.specs.declared.stop.Stop.{Stop}
use Rattle.authget.specs.declared.stop.Stop.TheVariants.{OutOfMemory}

-- ---- fetching

-- what the outside, the output and diag are at one moment
pub record Scene : Type 0 where
  pub outside : Outside
  pub output : Option (List ℕ)
  pub diag : Heard

abbrev pub scene : Outside → Option (List ℕ) → Heard → Scene
scene outside output diag = record { outside = outside; output = output; diag = diag }

-- All that these rounds give was written and told, but diag stops at a write of it that failed.
pub record IsDone (plan : Plan) (s : State) (u v : Scene) (report : Report) : Type 0 where
  pub rounds : List Round
  pub fetched : Fetched plan s rounds report
  pub passed : Passed u.outside v.outside (account_of (peer_of plan) rounds report.texts)
  pub output : Appends u.output v.output report.output
  pub told : Tells u.diag v.diag report.lines

-- what was begun last: nothing, or a request of which no reply was taken
abbrev pub Leaves : List ℕ → List Round → List (List ℕ) → Stop → Account → Type 0
Leaves peer [] [] stop last = last ≡ no_account
Leaves peer [] (text ∷ texts) stop last = ⊥
Leaves peer (x ∷ []) [] stop last = ⊥
Leaves peer (x ∷ []) (text ∷ []) stop last =
    (stage : Stage) × StopsAt stage stop × (x.bytes ≡ []) × (last ≡ account_at stage peer text x)
Leaves peer (x ∷ []) (text ∷ next ∷ texts) stop last = ⊥
Leaves peer (x ∷ y ∷ xs) texts stop last = ⊥

-- Fetching broke off. There is a way on, with one round more at most, of which what was done is a front: the same requests
-- were made, but for what was begun last, and the output and diag have grown by fronts of what this way writes and tells.
pub record BreaksOff (plan : Plan) (s : State) (u v : Scene) (stop : Stop) : Type 0 where
  pub rounds : List Round
  pub begun : List Round
  pub report : Report
  pub sent : List (List ℕ)
  pub more : List (List ℕ)
  pub last : Account
  pub written : ℕ
  pub told : ℕ
  pub fetched : Fetched plan s (rounds ++ begun) report
  pub texts : report.texts ≡ sent ++ more
  pub leaves : Leaves (peer_of plan) begun more stop last
  pub passed : Passed u.outside v.outside (join (account_of (peer_of plan) rounds sent) last)
  pub output : Appends u.output v.output (take written report.output)
  pub lines : Appends u.diag.written v.diag.written (take told report.lines)

-- what an answer says of fetching all URLs
abbrev pub FetchesSo : Plan → State → Scene → Scene → Result ℕ Stop → Type 0
FetchesSo plan s u v (Ok status) = (report : Report) × IsDone plan s u v report × (status ≡ report.status)
FetchesSo plan s u v (Err stop) = BreaksOff plan s u v stop

-- ---- the program

-- what the objects are at one moment
pub record World : Type 0 where
  pub scene : Scene
  pub left : Option (List ℕ)
  pub input_faults : ℕ
  pub output_faults : ℕ

abbrev pub world : Scene → Option (List ℕ) → ℕ → ℕ → World
world scene left input_faults output_faults =
    record { scene = scene; left = left; input_faults = input_faults; output_faults = output_faults }

abbrev pub usage_line : List ℕ
usage_line = codes "usage: authget [--proxy=HOST:PORT] NAME URL..\n"

-- nothing was asked of the outside, and nothing was written
abbrev pub IsUntouched : Scene → Scene → Type 0
IsUntouched u v = (v.outside ≡ u.outside) × (v.output ≡ u.output)

-- The words are refused, of which nothing was read; or the name and the first line of the input.
abbrev pub IsRefused : Option Plan → World → World → Type 0
IsRefused None u v = IsUntouched u.scene v.scene × (v.left ≡ u.left)
IsRefused (Some plan) u v =
    IsUntouched u.scene v.scene × (line : List ℕ) × ReadsLine u.left v.left (Ok line) × (fits plan.name line ≡ false)

-- The words ask for this, and the first line of the input is its password.
pub record Accepts (asked : Option Plan) (u v : World) : Type 0 where
  pub plan : Plan
  pub asks : asked ≡ Some plan
  pub line : List ℕ
  pub reads : ReadsLine u.left v.left (Ok line)
  pub fit : fits plan.name line ≡ true

-- the user's client, which has seen nothing
abbrev pub first_state : {asked : Option Plan} → {u v : World} → Accepts asked u v → State
first_state b = new_state (role_of b.plan.proxy) b.plan.name b.line

-- how the program ends
pub data Ending : Type 0 where
  Refused : Ending
  Done : Report → Ending
  Stopped : Stop → Ending

abbrev pub status_of : Ending → ℕ
status_of Refused = 5
status_of (Done report) = report.status
status_of (Stopped stop) = stop_status stop

-- nothing was done but reading, and nothing was told
abbrev pub StopsEarly : World → World → Type 0
StopsEarly u v = IsUntouched u.scene v.scene × Appends u.scene.diag.written v.scene.diag.written []

-- memory failed while the usage line was told
abbrev pub StopsAtUsage : Option Plan → World → World → Stop → Type 0
StopsAtUsage asked u v stop =
    IsRefused asked u v × (stop ≡ OutOfMemory) × (n : ℕ) × Appends u.scene.diag.written v.scene.diag.written (take n usage_line)

-- What an ending says of the objects.
abbrev pub Does : Option Plan → World → World → Ending → Type 0
Does asked u v Refused = IsRefused asked u v × Tells u.scene.diag v.scene.diag usage_line
Does asked u v (Done report) = (b : Accepts asked u v) × IsDone b.plan (first_state b) u.scene v.scene report
Does asked u v (Stopped stop) =
    StopsEarly u v ⊎ (StopsAtUsage asked u v stop ⊎ ((b : Accepts asked u v) × BreaksOff b.plan (first_state b) u.scene v.scene stop))

-- a count of faults has risen, other than that of diag
abbrev pub SomeCountRose : World → World → Type 0
SomeCountRose u v =
    SomeRose u.scene.outside v.scene.outside ⊎ (Rose u.input_faults v.input_faults ⊎ Rose u.output_faults v.output_faults)

-- ---- the parts of the program

-- the user's client, or none where the name or the password is refused
abbrev pub ForClient : Plan → List ℕ → Option State → Type 0
ForClient plan password (Some client) = (client ≡ new_state (role_of plan.proxy) plan.name password) × (fits plan.name password ≡ true)
ForClient plan password None = fits plan.name password ≡ false

-- before anything is told of a refusal
abbrev pub Performs : Option Plan → World → World → Result (Option ℕ) Stop → Type 0
Performs asked u v (Ok (Some status)) =
    (b : Accepts asked u v) × (report : Report) × IsDone b.plan (first_state b) u.scene v.scene report × (status ≡ report.status)
Performs asked u v (Ok None) = IsRefused asked u v × (v.scene.diag ≡ u.scene.diag)
Performs asked u v (Err stop) =
    (IsUntouched u.scene v.scene × (v.scene.diag ≡ u.scene.diag))
    ⊎ ((b : Accepts asked u v) × BreaksOff b.plan (first_state b) u.scene v.scene stop)

-- the usage line was told, or memory failed before it was whole
abbrev pub TellsUsage : Heard → Heard → ℕ → Type 0
TellsUsage u v status =
    ((status ≡ 5) × Tells u v usage_line) ⊎ ((status ≡ 7) × (n : ℕ) × Appends u.written v.written (take n usage_line))
