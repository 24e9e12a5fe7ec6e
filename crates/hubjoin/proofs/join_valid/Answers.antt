-- `hubjoin::join_valid` meets its contract: by how many records the members have together.
use Rattle.std.proofs.Common.{arith}
use Rattle.hubjoin.specs.Laws.{filled-none, filled-set, set-many, set_fits}
use Rattle.hubjoin.proofs.join_valid.Goals as goal

pub returns-then-n-gt1024 : goal.returns-then-n-gt1024
returns-then-n-gt1024 g c =
    let w = filled-none (set-many c.args.members.now c.requires.valid (omega (arith, c.count-n.ensures))) c.requires.long c.put_byte.auto.text c.put_byte.ensures in
    record { length = w.0; bytes = w.1; within = w.2 }

pub write-requires : goal.write-requires
write-requires g c = set_fits c.args.members.now c.args.it.now c.requires.long c.count-n.ensures (omega arith)

pub returns : goal.returns
returns g c =
    let w = filled-set c.args.members.now c.args.it.now c.requires.long c.count-n.ensures (omega arith) c.requires.valid c.write.ensures in
    record { length = w.0; bytes = w.1; within = w.2 }
