-- `records::edge_at` meets its contract.
use Rattle.model.specs.Records.{decode}
use Rattle.records.proofs.edge_at.Goals as goal

pub returns : goal.returns
unfolding decode
returns c = cc
