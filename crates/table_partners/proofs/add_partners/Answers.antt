-- `table_partners::add_partners` meets its contract: a record that is no capability adds nothing, and one that is has its word
-- among the 192 and its name among the 64, by its form.
use Rattle.std.proofs.Common.{◌+◌, ◌-◌, ◌∙◌, sym, arith}
use Rattle.table_partners.specs.Laws.{Found, added_none, added-one, found}
use Rattle.table_partners.proofs.add_partners.Goals as goal
use Rattle.table_partners.proofs.add_partners.Goals.{After-first_word}

at-word : (c : After-first_word) → Found c.args.r (c.first_word.result + (c.args.r.label - 64))
at-word c = found c.args.r c.in-Some.capability c.first_word.result c.requires (sym c.capability.ensures ∙ c.in-Some.is) c.first_word.ensures

pub returns-in_default : goal.returns-in_default
returns-in_default c = added_none _ c.args.r c.args.partners.now (sym c.capability.ensures ∙ c.in_default.is)

pub overflow_sub-slot : goal.overflow_sub-slot
overflow_sub-slot c = (at-word (goal.at.overflow_sub-slot c).After-first_word).low

pub overflow_add-slot : goal.overflow_add-slot
overflow_add-slot c = let f = at-word (goal.at.overflow_add-slot c).After-first_word in let l = f.below in omega arith

pub bounds-bearers-name : goal.bounds-bearers-name
bounds-bearers-name c = (at-word (goal.at.bounds-bearers-name c).After-first_word).name

pub offset_bounds-partners-slot : goal.offset_bounds-partners-slot
offset_bounds-partners-slot c = let f = at-word (goal.at.offset_bounds-partners-slot c).After-first_word in let l = f.below in omega arith

pub bounds-partners-slot : goal.bounds-partners-slot
bounds-partners-slot c = let f = at-word (goal.at.bounds-partners-slot c).After-first_word in let l = f.below in omega arith

pub bounds-partners-slot-2 : goal.bounds-partners-slot-2
bounds-partners-slot-2 c = let f = at-word (goal.at.bounds-partners-slot-2 c).After-first_word in let l = f.below in omega arith

pub returns : goal.returns
returns c =
    let f = at-word (goal.at.returns c).After-first_word in let l = f.below in
    added-one c.args.bearers.now c.args.r c.args.partners.now _ c.fits-bearers f (omega arith)
