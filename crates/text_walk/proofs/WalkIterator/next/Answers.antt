-- `text_walk::WalkIterator::next` meets its contract: a visit is the first of those left, and what is left after it goes on from it.
use Rattle.std.proofs.Common.{◌≡◌, ◌≤◌, ◌∙◌, ap, arith, length, rules, sym}
use Rattle.std.specs.Prelude.{None}
use Rattle.model.specs.Records.{records}
use Rattle.text_form.specs.Laws.Identity.{next-visited}
use Rattle.text_form.specs.Laws.Walking.{walk-on, walk-stop, walk_none}
use Rattle.text_walk.specs.Visits.{visits_left}
use Rattle.text_walk.proofs.WalkIterator.next.Goals as goal
use Rattle.text_walk.proofs.WalkIterator.next.Goals.{In_ok-v}

pub returns-then-self-eq0-clause-steps : goal.returns-then-self-eq0-clause-steps
unfolding visits_left
returns-then-self-eq0-clause-steps c =
    let w = c.args.self.now in
    let none = walk_none (records w.it.now) w.left w.number w.depth (omega arith) in
    (none, none)

pub returns-in_err-v-clause-steps : goal.returns-in_err-v-clause-steps
unfolding visits_left
returns-in_err-v-clause-steps c =
    let w = c.args.self.now in
    let e : c.from_residual.result ≡ None = search rules in
    let none = walk-stop (records w.it.now) w.left w.number w.depth (sym c.next_visit.ensures ∙ c.in_err-v.was) in
    rw e (none, none)

shallow : (c : In_ok-v) → c.in_ok-v.v.depth ≤ c.args.self.now.depth
shallow c =
    let w = c.args.self.now in
    (next-visited (records w.it.now) w.depth w.number 0 c.in_ok-v.v (sym c.next_visit.ensures ∙ c.in_ok-v.was)).deep

pub overflow_add-self : goal.overflow_add-self
overflow_add-self c = record { fits = omega (arith, shallow ((goal.at.overflow_add-self c).In_ok-v), c.args.self.now.shallow) }

pub invariant_of-self : goal.invariant_of-self
invariant_of-self c = record { whole = c.args.self.now.whole; shallow = omega (arith, shallow ((goal.at.invariant_of-self c).In_ok-v), c.args.self.now.shallow) }

pub returns-clause-steps : goal.returns-clause-steps
unfolding visits_left
returns-clause-steps c =
    let w = c.args.self.now in
    walk-on (records w.it.now) w.left w.number w.depth (omega arith) (sym c.next_visit.ensures ∙ c.in_ok-v.was)

pub returns-clause-goes : goal.returns-clause-goes
unfolding visits_left
returns-clause-goes c =
    let w = c.args.self.now in
    let e = walk-on (records w.it.now) w.left w.number w.depth (omega arith) (sym c.next_visit.ensures ∙ c.in_ok-v.was) in
    record { on = λ f. (search rules, search rules, omega (arith, ap length e)); keeps = search rules; rests = λ f. search rules }
