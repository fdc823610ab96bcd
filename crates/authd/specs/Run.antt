-- What the program does.
use Rattle.std.specs.Prelude.{◌≡◌, Err}
use Rattle.authd.specs.Check.{Checks}
use Rattle.authd.specs.Drills.{Drills}
use Rattle.authd.specs.Endings.{Ending}
use Rattle.authd.specs.Import.{Imports}
use Rattle.authd.specs.Migrate.{Migrates}
use Rattle.authd.specs.Outside.{Objects, Views}
use Rattle.authd.specs.Passwd.{Passwds}
use Rattle.authd.specs.Pipe.{Pipes}
use Rattle.authd.specs.Show.{Shows}
use Rattle.authd.specs.Switch.{Switches}
use Rattle.authd.specs.Words.{Command, Usage, Show, Pipe, Check, Import, Passwd, Switch, Migrate, Drill, Listen, Proxy}
use Rattle.authd.specs.declared.failure.Failure.TheVariants as failure

-- What each command does to the outside, and how it ends. Other words touch nothing, nor do those of `listen` and
-- `proxy`, which are done over workers, and `show` and `drill` touch the link alone.
abbrev pub Does : {L F C W : Type 0} → Views L F C W → Command → Objects L F C W → Objects L F C W → Ending → Type 0
Does v Usage before now ending = (ending ≡ Err failure.Usage) × (now ≡ before)
Does v (Listen listening) before now ending = (ending ≡ Err failure.Usage) × (now ≡ before)
Does v (Proxy proxying) before now ending = (ending ≡ Err failure.Usage) × (now ≡ before)
Does v Show before now ending = Shows (v.link before.link) (v.link now.link) ending × (now ≡ record before { link = now.link })
Does v (Pipe store spaces root) before now ending = Pipes v store spaces root before now ending
Does v (Check store spaces) before now ending =
    Checks (v.files) store spaces before.files now.files (v.link before.link) (v.link now.link) ending
    × (now ≡ record before { link = now.link; files = now.files })
Does v (Import store htdigest) before now ending =
    Imports (v.files) store htdigest before.files now.files (v.link before.link) (v.link now.link) ending
    × (now ≡ record before { link = now.link; files = now.files })
Does v (Passwd store name realm kind rounds) before now ending =
    Passwds (v.files) (v.drawn) (v.word_faults) store name realm kind rounds before.files now.files before.random now.random
    (v.link before.link) (v.link now.link) ending × (now ≡ record before { link = now.link; files = now.files; random = now.random })
Does v (Switch store name realm on) before now ending =
    Switches (v.files) store name realm on before.files now.files (v.link before.link) (v.link now.link) ending
    × (now ≡ record before { link = now.link; files = now.files })
Does v (Migrate store) before now ending =
    Migrates (v.files) store before.files now.files (v.link before.link) (v.link now.link) ending
    × (now ≡ record before { link = now.link; files = now.files })
Does v (Drill seed steps) before now ending =
    Drills seed steps (v.link before.link) (v.link now.link) ending × (now ≡ record before { link = now.link })
