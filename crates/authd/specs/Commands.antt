-- What the program's own form of a command stands for.
use Rattle.std.specs.Prelude.{ℕ, Bool, List}
use Rattle.authd.specs.Words as words
use Rattle.authd.specs.declared.command.Command.{Command}
use Rattle.authd.specs.declared.command.Command.TheVariants.{Usage, Show, Pipe, Check, Import, Passwd, Switch, Migrate, Drill, Listen, Proxy}
use Rattle.authd.specs.declared.crew.Listening.{Listening}
use Rattle.authd.specs.declared.crew.Proxying.{Proxying}
use Rattle.authd.specs.declared.crew.Crew.{Crew}

abbrev pub listening_of : Listening → words.Listening
listening_of l =
    record {
      store = l.place.store.now;
      spaces = l.place.spaces.now;
      root = l.place.root.now;
      address = l.address.now;
      workers = l.workers;
      connections = l.connections;
    }

abbrev pub proxying_of : Proxying → words.Proxying
proxying_of p =
    record { store = p.store.now; spaces = p.spaces.now; address = p.address.now; workers = p.workers; connections = p.connections }

abbrev pub meaning : Command → words.Command
meaning Usage = words.Usage
meaning Show = words.Show
meaning (Pipe place) = words.Pipe place.store.now place.spaces.now place.root.now
meaning (Check store spaces) = words.Check store.now spaces.now
meaning (Import store htdigest) = words.Import store.now htdigest.now
meaning (Passwd account) = words.Passwd account.store.now account.name.now account.realm.now account.kind.now account.rounds
meaning (Switch holder on) = words.Switch holder.store.now holder.name.now holder.realm.now on
meaning (Migrate store) = words.Migrate store.now
meaning (Drill plan) = words.Drill plan.seed plan.steps
meaning (Listen listening) = words.Listen (listening_of listening)
meaning (Proxy proxying) = words.Proxy (proxying_of proxying)

-- whether a proxy, how many workers, and the address
abbrev pub parts_of : Crew → Bool × ℕ × List ℕ
parts_of c = (c.proxy, c.workers, c.address)
