-- `table_least::write_least` meets its contract: the least set that has the seed and is closed is the least that holds.
use Rattle.table_least.specs.Laws.{made}
use Rattle.model.proofs.Laws.Bytes.{valid-wf}
use Rattle.model.specs.Records.{records}
use Rattle.table_least.proofs.write_least.Goals as goal

pub returns : goal.returns
returns c =
    let it = c.args.it.now in let q = c.close_table in
    record {
      made = made (records it) (valid-wf it q.ensures.valid) c.args.policy.now c.seed.new.table q.new.table q.array_long q.ensures.narrow c.seed.ensures q.ensures.closed;
      counted = c.count_ones.ensures;
    }
