-- `steps::act` meets its contract: what is decided is the outcome; a refusal leaves the bytes, and the pass is the move.
use Rattle.std.proofs.Common.{◌∙◌, ◌≡◌, Err, sym, rules}
use Rattle.model.proofs.Laws.Bytes.{valid-whole}
use Rattle.model.specs.Numbers.{outcome_as}
use Rattle.steps.specs.Laws.{act-done, act-refused}
use Rattle.steps.proofs.act.Goals as goal

pub decide-requires : goal.decide-requires
decide-requires c = valid-whole _ c.requires

pub returns-in_err-k : goal.returns-in_err-k
unfolding outcome_as
returns-in_err-k c =
    let e : c.from_residual.result ≡ Err c.in_err-k.field-0.0 = search rules in
    record { outcome = rw e c.in_err-k.ensures; bytes = act-refused _ _ _ (sym c.in_err-k.ensures) }

pub returns : goal.returns
unfolding outcome_as
returns c = record {
  outcome = c.in_ok-k.ensures;
  bytes = c.apply.ensures ∙ act-done _ _ _ c.requires (sym c.in_ok-k.ensures) c.record_at-c.ensures c.record_at-p.ensures c.move_of.ensures;
}
