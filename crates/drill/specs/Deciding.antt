-- How the server decides on a request, at a table of one shard that nobody else uses.
use Rattle.std.specs.Prelude.{◌≡◌, ◌⊎◌, ◌≤◌, ◌<◌, ℕ, zero, suc, Option, Some, None, Result, Ok, Err, List, [], ◌∷◌, ◌++◌, length, ⊤}
use Rattle.std.specs.Option.{option_map_or}
use Rattle.base64.specs.GeneralPurpose.{IsBytes}
use Rattle.auth_grammar.specs.declared.items.Role.TheVariants.{Origin}
use Rattle.auth_io.specs.Told.{Adds}
use Rattle.http_wire.specs.declared.request.Request.{Request}
use Rattle.nonce_shard.specs.declared.calls.Call.{Call}
use Rattle.nonce_shard.specs.Journal.{Journal}
use Rattle.nonce_shard.specs.Sizes.{single_sizes}
use Rattle.auth_decide.specs.Asks.{asked}
use Rattle.auth_decide.specs.Credentials.{Reads, credentials_lines}
use Rattle.auth_decide.specs.Decisions.{Deciding, asks_left}
use Rattle.auth_decide.specs.Stages.{Question, stage_at}
use Rattle.auth_decide.specs.declared.credentials.RequestCredentials.{RequestCredentials}
use Rattle.auth_decide.specs.declared.verdict.Ask.{Ask}
use Rattle.auth_decide.specs.declared.verdict.Ask.TheVariants.{Draw, Table, Verdict}
use Rattle.auth_decide.specs.declared.verdict.Verdict.{Verdict as VerdictValue}
use Rattle.admission.specs.Steps.{Step, Drew, Called, answers_of}
use Rattle.drill.specs.declared.error.DrillError.{DrillError}
use Rattle.drill.specs.declared.error.DrillError.TheVariants.{RandomFault, Worn, OutOfMemory}
use Rattle.drill.specs.Site.{the_site}

-- a request as it is decided at a moment, with the credentials that its lines say
abbrev pub question : ℕ → Request → RequestCredentials → Question
question moment request credentials = record {
  role = Origin;
  request = request;
  moment = moment;
  site = the_site;
  shards = 1;
  credentials = credentials;
}

-- the calls among steps
abbrev pub calls_in : List Step → List Call
calls_in [] = []
calls_in (Drew words ∷ steps) = calls_in steps
calls_in (Called shard before call ∷ steps) = call ∷ calls_in steps

-- the words that were drawn in them
abbrev pub draws_in : List Step → List (List ℕ)
draws_in [] = []
draws_in (Drew words ∷ steps) = words ∷ draws_in steps
draws_in (Called shard before call ∷ steps) = draws_in steps

-- what is done for an ask, with these words and behind these calls
abbrev pub done_for : Ask → List ℕ → List Call → Option Step
done_for Draw words calls = Some (Drew words)
done_for (Table shard call) words calls = Some (Called shard calls call)
done_for (Verdict verdict) words calls = None

-- what is done to decide on a request, behind these calls and with these steps done: so much at most
unfoldable pub conduct : ℕ → Question → List ℕ → List Call → List Step → List Step
conduct zero q words calls done = done
conduct (suc n) q words calls done =
    option_map_or (λ step. conduct n q words calls (done ++ step ∷ []))
    (done_for (asked q (answers_of single_sizes done)) words (calls ++ calls_in done)) done

-- a request asks four times at most
unfoldable pub steps_for : Question → List ℕ → List Call → List Step
steps_for q words calls = conduct 5 q words calls []

-- what is asked after that, which is the verdict
abbrev pub decided : Question → List ℕ → List Call → Ask
decided q words calls = asked q (answers_of single_sizes (steps_for q words calls))

-- ---- on the way

-- the words are those that were drawn
abbrev pub Serves : List ℕ → List (List ℕ) → Type 0
Serves words [] = ⊤
Serves words (drawn ∷ more) = (words ≡ drawn) × Serves words more

-- sixteen bytes
pub record AreWords (words : List ℕ) : Type 0 where
  pub long : length words ≡ 16
  pub bytes : IsBytes words

-- nothing was drawn, or these words once
abbrev pub OneDraw : List (List ℕ) → Type 0
OneDraw [] = ⊤
OneDraw (words ∷ []) = AreWords words
OneDraw (words ∷ next ∷ more) = ⊥

-- the table behind some more calls
abbrev pub with_calls : Journal → List Call → Journal
with_calls table more = record table { calls = table.calls ++ more }

-- A decision has come this far: these steps were done, at a table that was as before, and told are the words that were drawn.
pub record IsUnderWay (q : Question) (before now : Journal) (told drawn : Option (List (List ℕ))) (d : Deciding) : Type 0 where
  pub done : List Step
  pub fuel : ℕ
  pub question : d.question ≡ q
  pub stage : d.stage ≡ stage_at q (answers_of single_sizes done)
  pub enough : asks_left d.stage ≤ fuel
  pub last_draw : (draws_in done ≡ []) ⊎ (asks_left d.stage ≤ 1)
  pub table : now ≡ with_calls before (calls_in done)
  pub goes : (words : List ℕ) → Serves words (draws_in done) → steps_for q words before.calls ≡ conduct fuel q words before.calls done
  pub words : OneDraw (draws_in done)
  pub adds : Adds told drawn (draws_in done)

-- It has come to this verdict.
pub record IsEnded (q : Question) (before now : Journal) (told drawn : Option (List (List ℕ))) (verdict : VerdictValue) : Type 0 where
  pub words : List ℕ
  pub form : AreWords words
  pub is : decided q words before.calls ≡ Verdict verdict
  pub table : now ≡ with_calls before (calls_in (steps_for q words before.calls))
  pub adds : Adds told drawn (draws_in (steps_for q words before.calls))

-- It asks for more calls than the table takes.
pub record IsOver (q : Question) (before now : Journal) (calls : ℕ) : Type 0 where
  pub words : List ℕ
  pub form : AreWords words
  pub limit : calls ≡ before.limit
  pub full : length now.calls ≡ before.limit
  pub over : before.limit < length (before.calls ++ calls_in (steps_for q words before.calls))

-- some of its calls were made
abbrev pub Begins : Journal → Journal → Type 0
Begins before now = (more : List Call) × (now ≡ with_calls before more)

abbrev pub Stops : Question → Journal → Journal → DrillError → Type 0
Stops q before now RandomFault = Begins before now
Stops q before now (Worn calls) = Begins before now × IsOver q before now calls
Stops q before now OutOfMemory = Begins before now

abbrev pub Ends : Question → Journal → Journal → Option (List (List ℕ)) → Option (List (List ℕ)) → Result VerdictValue DrillError → Type 0
Ends q before now told drawn (Ok verdict) = IsEnded q before now told drawn verdict
Ends q before now told drawn (Err error) = Stops q before now error

-- ---- deciding

-- The request was decided on, with the credentials that its lines say.
pub record Decides (moment : ℕ) (request : Request) (before now : Journal) (told drawn : Option (List (List ℕ)))
    (verdict : VerdictValue) : Type 0 where
  pub credentials : RequestCredentials
  pub reads : Reads (credentials_lines Origin request) credentials
  pub ended : IsEnded (question moment request credentials) before now told drawn verdict

-- It asks for more calls than the table takes.
pub record Wears (moment : ℕ) (request : Request) (before now : Journal) (calls : ℕ) : Type 0 where
  pub credentials : RequestCredentials
  pub reads : Reads (credentials_lines Origin request) credentials
  pub over : IsOver (question moment request credentials) before now calls
