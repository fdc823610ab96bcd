use Rattle.cred_store.proofs.Pairs.{read_few, read_more}
use Rattle.cred_store.proofs.htdigest.read_pairs.Goals as goal

pub loop-rest-preserved : goal.loop-rest-preserved
loop-rest-preserved c =
    let added = c.in_ok-add_pair.ensures.ok in
    rw added.2 (read_more _ _ _ _ c.loop-rest.invariant c.first_line.result.0.now _ added.0 c.first_line.ensures.lines c.first_line.ensures.shorter added.1)

pub returns-clause-few : goal.returns-clause-few
returns-clause-few c = rw c.into_vec.ensures (read_few _ _ _ _ c.loop-rest.invariant)
