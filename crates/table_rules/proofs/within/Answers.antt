-- `table_rules::within` meets its contract.
use Rattle.table_rules.specs.Laws.{within-decides}
use Rattle.table_rules.proofs.within.Goals as goal

pub returns : goal.returns
returns c = within-decides c.args.x c.args.y c.ranges.x.fits c.ranges.y.fits
