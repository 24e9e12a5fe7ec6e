-- `text_write::write_by` meets its contract.
use Rattle.text_form.specs.Laws.Walking.{written_all, written_none}
use Rattle.text_form.specs.Writing.{written_as}
use Rattle.text_write.proofs.write_by.Goals as goal

pub returns-then-text-n : goal.returns-then-text-n
unfolding written_as
returns-then-text-n c = written_none _ _ _ c.measure-n.ensures c.if-text-n.true

pub returns : goal.returns
unfolding written_as
returns c = written_all _ _ _ _ c.measure-n.ensures c.if-text-n.false c.fill.ensures
