-- What the words of the command line ask for.
use Rattle.std.specs.Prelude.{ℕ, Bool, true, false, ◌==◌, not, bytes_eq, if◌then◌else◌, List, [], ◌∷◌, Option, Some, None, codes}
use Rattle.std.specs.List.{list_all}
use Rattle.scram_proof.specs.declared.keys.TheConstants.{LEAST_ITERATIONS}
use Rattle.auth_grammar.specs.Numbers.{number_in}
use Rattle.auth_io.specs.Addresses.{is_address}
use Rattle.authd.specs.declared.crew.TheConstants.{MOST_WORKERS, MOST_CONNECTIONS}

-- what `listen` asks for: the names of a store and of spaces, the folder of the files, an address, how many workers there are,
-- and how many connections each of them serves
pub record Listening : Type 0 where
  pub store : List ℕ
  pub spaces : List ℕ
  pub root : List ℕ
  pub address : List ℕ
  pub workers : ℕ
  pub connections : ℕ

-- what `proxy` asks for: the same without a folder
pub record Proxying : Type 0 where
  pub store : List ℕ
  pub spaces : List ℕ
  pub address : List ℕ
  pub workers : ℕ
  pub connections : ℕ

pub data Command : Type 0 where
  -- the words are none that the program knows
  Usage : Command
  Show : Command
  -- the names of a store and of spaces, and the folder of the files
  Pipe : List ℕ → List ℕ → List ℕ → Command
  -- the names of a store and of spaces
  Check : List ℕ → List ℕ → Command
  -- the names of a store and of a text of htdigest
  Import : List ℕ → List ℕ → Command
  -- the name of a store, a user's name, realm and kind, and an iteration count
  Passwd : List ℕ → List ℕ → List ℕ → List ℕ → ℕ → Command
  -- the name of a store, a user's name and realm, and the flag that its secrets are given
  Switch : List ℕ → List ℕ → List ℕ → Bool → Command
  -- the name of a store
  Migrate : List ℕ → Command
  -- a seed and a number of steps
  Drill : ℕ → ℕ → Command
  Listen : Listening → Command
  Proxy : Proxying → Command

-- a word of the command line isn't empty and doesn't begin with `-`
abbrev pub is_word : List ℕ → Bool
is_word [] = false
is_word (b ∷ word) = not (b == 45)

-- ---- what stands behind the name of each command

abbrev pub show_with : List (List ℕ) → Command
show_with [] = Show
show_with (word ∷ words) = Usage

abbrev pub pipe_with : List (List ℕ) → Command
pipe_with (store ∷ spaces ∷ root ∷ []) = Pipe store spaces root
pipe_with words = Usage

abbrev pub check_with : List (List ℕ) → Command
check_with (store ∷ spaces ∷ []) = Check store spaces
check_with words = Usage

abbrev pub import_with : List (List ℕ) → Command
import_with (store ∷ htdigest ∷ []) = Import store htdigest
import_with words = Usage

abbrev pub passwd_with : List (List ℕ) → Command
passwd_with (store ∷ name ∷ realm ∷ kind ∷ []) = Passwd store name realm kind LEAST_ITERATIONS
passwd_with words = Usage

abbrev pub switch_with : Bool → List (List ℕ) → Command
switch_with on (store ∷ name ∷ realm ∷ []) = Switch store name realm on
switch_with on words = Usage

abbrev pub migrate_with : List (List ℕ) → Command
migrate_with (store ∷ []) = Migrate store
migrate_with words = Usage

-- where both numbers are well
abbrev pub listen_by : List ℕ → List ℕ → List ℕ → List ℕ → Option ℕ → Option ℕ → Command
listen_by store spaces root address (Some workers) (Some connections) =
    Listen (record { store = store; spaces = spaces; root = root; address = address; workers = workers; connections = connections })
listen_by store spaces root address _ _ = Usage

abbrev pub listen_at : List ℕ → List ℕ → List ℕ → List ℕ → List ℕ → List ℕ → Command
listen_at store spaces root address workers connections =
    if is_address address then listen_by store spaces root address (number_in 1 MOST_WORKERS workers)
    (number_in 1 MOST_CONNECTIONS connections) else Usage

abbrev pub listen_with : List (List ℕ) → Command
listen_with (store ∷ spaces ∷ root ∷ address ∷ workers ∷ connections ∷ []) = listen_at store spaces root address workers connections
listen_with words = Usage

-- where both numbers are well
abbrev pub proxy_by : List ℕ → List ℕ → List ℕ → Option ℕ → Option ℕ → Command
proxy_by store spaces address (Some workers) (Some connections) =
    Proxy (record { store = store; spaces = spaces; address = address; workers = workers; connections = connections })
proxy_by store spaces address _ _ = Usage

abbrev pub proxy_at : List ℕ → List ℕ → List ℕ → List ℕ → List ℕ → Command
proxy_at store spaces address workers connections =
    if is_address address then proxy_by store spaces address (number_in 1 MOST_WORKERS workers)
    (number_in 1 MOST_CONNECTIONS connections) else Usage

abbrev pub proxy_with : List (List ℕ) → Command
proxy_with (store ∷ spaces ∷ address ∷ workers ∷ connections ∷ []) = proxy_at store spaces address workers connections
proxy_with words = Usage

-- ---- all of them

-- a command by its name, with exactly its words
abbrev pub named : List ℕ → List (List ℕ) → Command
named name words =
    if bytes_eq name (codes "show") then show_with words
    else if bytes_eq name (codes "pipe") then pipe_with words
    else if bytes_eq name (codes "check") then check_with words
    else if bytes_eq name (codes "import") then import_with words
    else if bytes_eq name (codes "passwd") then passwd_with words
    else if bytes_eq name (codes "disable") then switch_with false words
    else if bytes_eq name (codes "enable") then switch_with true words
    else if bytes_eq name (codes "migrate") then migrate_with words
    else if bytes_eq name (codes "listen") then listen_with words
    else if bytes_eq name (codes "proxy") then proxy_with words
    else Usage

abbrev pub by_name : List (List ℕ) → Command
by_name [] = Usage
by_name (name ∷ words) = named name words

abbrev pub command_of : List (List ℕ) → Command
command_of words = if list_all is_word words then by_name words else Usage

-- what words of `listen` ask for
abbrev pub listening_in : Command → Option Listening
listening_in Usage = None
listening_in Show = None
listening_in (Pipe store spaces root) = None
listening_in (Check store spaces) = None
listening_in (Import store htdigest) = None
listening_in (Passwd store name realm kind rounds) = None
listening_in (Switch store name realm on) = None
listening_in (Migrate store) = None
listening_in (Drill seed steps) = None
listening_in (Listen listening) = Some listening
listening_in (Proxy proxying) = None

-- what words of `proxy` ask for
abbrev pub proxying_in : Command → Option Proxying
proxying_in Usage = None
proxying_in Show = None
proxying_in (Pipe store spaces root) = None
proxying_in (Check store spaces) = None
proxying_in (Import store htdigest) = None
proxying_in (Passwd store name realm kind rounds) = None
proxying_in (Switch store name realm on) = None
proxying_in (Migrate store) = None
proxying_in (Drill seed steps) = None
proxying_in (Listen listening) = None
proxying_in (Proxy proxying) = Some proxying

-- what main makes: whether a proxy, how many workers, and the address
abbrev pub crew_in : Command → Option (Bool × ℕ × List ℕ)
crew_in Usage = None
crew_in Show = None
crew_in (Pipe store spaces root) = None
crew_in (Check store spaces) = None
crew_in (Import store htdigest) = None
crew_in (Passwd store name realm kind rounds) = None
crew_in (Switch store name realm on) = None
crew_in (Migrate store) = None
crew_in (Drill seed steps) = None
crew_in (Listen listening) = Some (false, listening.workers, listening.address)
crew_in (Proxy proxying) = Some (true, proxying.workers, proxying.address)
