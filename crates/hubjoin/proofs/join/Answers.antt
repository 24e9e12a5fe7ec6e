-- `hubjoin::join` meets its contract: by whether each file can be read, and then by what its members' checks say.
use Rattle.std.proofs.Common.{rules, ◌∙◌, ◌≡◌, sym}
use Rattle.std.specs.Prelude.{option_map}
use Rattle.hubjoin.specs.Joined.{joined_file}
use Rattle.hubjoin.specs.Laws.{all-read, filled-none, set-refused, unread-first, unread-second, unread-third, unread-fourth}
use Rattle.model.specs.Joins.{four}
use Rattle.model.specs.Numbers.{check_as}
use Rattle.text_form.specs.Reading.{no_itinerary}
use Rattle.hubjoin.proofs.join.Goals as goal
use Rattle.hubjoin.proofs.join.Goals.{in_default-via-in-Some+in-Some+in-Some+in_default, in_default-via-in-Some+in-Some+in_default, in_default-via-in-Some+in_default, in_default-via-in_default}

pub returns-in_default : goal.returns-in_default
returns-in_default g c =
    let none : joined_file (option_map (λ s. s.now) c.args.first) (option_map (λ s. s.now) c.args.second) (option_map (λ s. s.now) c.args.third) (option_map (λ s. s.now) c.args.fourth) ≡ no_itinerary =
    elim c.in_default.branch [
      | in_default-via-in-Some+in-Some+in-Some+in_default w ↦ rw w.in_default.is-3 (unread-fourth _ _ _)
      | in_default-via-in-Some+in-Some+in_default w ↦ rw w.in_default.is-2 (unread-third _ _ _)
      | in_default-via-in-Some+in_default w ↦ rw w.in_default.is-1 (unread-second _ _ _)
      | in_default-via-in_default w ↦ rw w.in_default.is-0 (unread-first _ _ _)
    ] in
    let w = filled-none none (search rules) c.put_byte.auto.text c.put_byte.ensures in
    record { length = w.0; bytes = w.1; within = w.2 }

pub join_valid-requires-clause-valid : goal.join_valid-requires-clause-valid
unfolding check_as
join_valid-requires-clause-valid g c = rw c.in-Ok.ensures.same (sym c.in-Ok.ensures.checks)

pub returns-in-Ok : goal.returns-in-Ok
returns-in-Ok g c =
    let f = c.in-Some-Some-Some-Some in
    rw (all-read f.is-0 f.is-1 f.is-2 f.is-3, ← c.in-Ok.ensures.same) (record { length = c.join_valid.ensures.length; bytes = c.join_valid.ensures.bytes; within = c.join_valid.ensures.within })

pub returns-in-Err : goal.returns-in-Err
unfolding check_as
returns-in-Err g c =
    let f = c.in-Some-Some-Some-Some in
    let w = filled-none (all-read f.is-0 f.is-1 f.is-2 f.is-3 ∙ set-refused (four f.a.now f.b.now f.c.now f.d.now) (sym c.in-Err.ensures.checks)) (search rules) c.put_byte-in-Err.auto.text c.put_byte-in-Err.ensures in
    record { length = w.0; bytes = w.1; within = w.2 }
