use Rattle.served_requests.proofs.Connections.{admits_rightly}
use Rattle.served_requests.proofs.admits_rightly.Goals as goal

pub returns : goal.returns
returns g c = admits_rightly
