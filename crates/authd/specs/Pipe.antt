-- What `pipe` does: it reads a site, and serves one connection by it.
use Rattle.std.specs.Prelude.{◌≡◌, ◌≢◌, ◌⊎◌, ℕ, List, [], Result, Ok, Err}
use Rattle.auth_decide.specs.declared.site.Site.{Site}
use Rattle.connection_loop.specs.declared.served.ServeError.{ServeError}
use Rattle.connection_loop.specs.declared.served.ServeError.TheVariants as error
use Rattle.connection_loop.specs.declared.served.Served.{Served}
use Rattle.nonce_shard.specs.Journal.{Journal, seat_of}
use Rattle.nonce_shard.specs.Sizes.{single_sizes}
use Rattle.origin_core.specs.Admissions.{ServesConnection}
use Rattle.origin_core.specs.Outside.{Outside, outside_of}
use Rattle.origin_core.specs.declared.alone.TheConstants.{CONNECTION_CALLS}
use Rattle.request_deciding.specs.Outside.{table_state}
use Rattle.request_deciding.specs.Serving.{server}
use Rattle.authd.specs.Causes.{serve_failure}
use Rattle.authd.specs.Endings.{Ending}
use Rattle.authd.specs.Loading.{LoadsSite}
use Rattle.authd.specs.Outside.{Objects, Views, objects}
use Rattle.authd.specs.declared.failure.Failure.{Failure}
use Rattle.authd.specs.declared.failure.Failure.TheVariants as failure

-- a table of one shard that takes as many calls as a connection can make
abbrev pub fresh_table : Journal
fresh_table = record { sizes = single_sizes; limit = CONNECTION_CALLS; calls = [] }

abbrev pub outside_at : {L F C W : Type 0} → Views L F C W → Objects L F C W → Journal → Outside
outside_at v o table = outside_of (v.files o.files) (table_state v.drawn v.word_faults seat_of o.random table)

-- The site is served, with this table of its own: what was read, written, shown, drawn, called and done with files is its session,
-- and each request in it that was answered was admitted exactly where it was to be.
abbrev pub ServesBy : {L F C W : Type 0} → Views L F C W → Site → Objects L F C W → Objects L F C W → Journal → Journal
    → Result Served ServeError → Type 0
ServesBy v site before now table table' served =
    ServesConnection (outside_at v before table) (outside_at v now table') (v.link before.link) (v.link now.link)
    (v.shown before.clock) (v.shown now.clock) (server site 1) served

abbrev pub ending_of : Result Served ServeError → Ending
ending_of (Ok served) = Ok tt
ending_of (Err error) = Err (serve_failure error)

-- A connection is served over a fresh table, where there is memory for one. The table is never worn.
abbrev pub ServesSite : {L F C W : Type 0} → Views L F C W → Site → Objects L F C W → Objects L F C W → Ending → Type 0
ServesSite v site before now ending =
    ((ending ≡ Err failure.OutOfMemory) × (now ≡ before))
    ⊎ ((table : Journal) × (table' : Journal) × (table ≡ fresh_table) × (served : Result Served ServeError)
    × ServesBy v site before now table table' served × ((calls : ℕ) → served ≢ Err (error.Worn calls)) × (ending ≡ ending_of served))

-- Without a site nothing is served.
abbrev pub ServesLoaded : {L F C W : Type 0} → Views L F C W → Result Site Failure → Objects L F C W → Objects L F C W → Ending → Type 0
ServesLoaded v (Err other) before now ending = (ending ≡ Err other) × (now ≡ before)
ServesLoaded v (Ok site) before now ending = ServesSite v site before now ending

-- The site is read first, which changes no more than what the files tell of it.
abbrev pub Pipes : {L F C W : Type 0} → Views L F C W → List ℕ → List ℕ → List ℕ → Objects L F C W → Objects L F C W → Ending → Type 0
Pipes {F = F} v store spaces root before now ending =
    (files : F) × (site : Result Site Failure) × LoadsSite (v.files) (before.files) files store spaces root site
    × ServesLoaded v site (objects before.link files before.clock before.random) now ending
