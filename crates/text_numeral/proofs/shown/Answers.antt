-- `text_numeral::shown` meets its contract: the first byte that is not visible ends them.
use Rattle.std.proofs.Common.{rules, tests}
use Rattle.std.proofs.lemmas.Iterator.{YieldsList-from_slice}
use Rattle.std.proofs.lemmas.Iterator.Search.{position_from_yields_List}
use Rattle.std.specs.Prelude.{not}
use Rattle.text_form.specs.Laws.Scanning.{leading-found}
use Rattle.text_form.specs.Reading.{visible}
use Rattle.text_numeral.proofs.shown.Goals as goal

pub returns : goal.returns
unfolding visible
returns c =
    let s = c.args.s.now in
    let found = position_from_yields_List (λ x. not (visible x)) _ _ c.position.result c.position.ensures.ran (YieldsList-from_slice s cc) (λ x q k. search (rules, tests)) in
    leading-found visible s found c.unwrap_or.ensures
