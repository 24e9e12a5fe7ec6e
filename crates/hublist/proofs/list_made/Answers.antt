-- `hublist::list_made` meets its contract: by the answer of the maker, done or refused.
use Rattle.std.proofs.Common.{arith}
use Rattle.hublist.specs.Listed.{listed-fits, made-done, made-refused}
use Rattle.hublist.proofs.list_made.Goals as goal

pub returns-in-Err : goal.returns-in-Err
returns-in-Err g c =
    let t = made-refused _ c.args.policy.now _ c.make.result c.make.ensures.answer c.in-Err.r c.in-Err.is c.tell.ensures c.args.text.now in
    record { length = t.0; bytes = t.1; table = c.make.ensures.table; within = omega (arith, listed-fits _ _ _ t.0) }

pub returns-in-Ok : goal.returns-in-Ok
returns-in-Ok g c =
    let t = made-done _ c.args.policy.now _ c.make.result c.make.ensures.answer _ c.in-Ok.is _ _ c.make.ensures.table (c.list.ensures.length, c.list.ensures.bytes) in
    record { length = t.0; bytes = t.1; table = c.make.ensures.table; within = omega (arith, listed-fits _ _ _ t.0) }
