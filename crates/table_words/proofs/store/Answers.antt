-- The goals of `table_words::store`; the argument stands in Invariants.
use Rattle.std.proofs.Common.{refl, ◌*◌, ◌∙◌, arith, length}
use Rattle.table_words.specs.Words.{Stored, stored, stored-narrow, stored-none, stored_next}
use Rattle.table_words.proofs.store.Goals as goal

pub loop-i-init : goal.loop-i-init
loop-i-init c = (refl, stored-none _ _)

pub loop-i-preserved : goal.loop-i-preserved
loop-i-preserved c =
    let l = c.loop-i in
    let s = stored_next c.args.words.now l.bytes c.copy_from_slice.new.self l.i _ (omega arith) (omega arith) l.invariant.1 (c.copy_from_slice.ensures.after ∙ c.to_le_bytes.ensures) in
    (s.0 ∙ l.invariant.0, s.1)

pub returns : goal.returns
unfolding Stored
returns c =
    let w = c.args.words.now in let l = c.loop-i in let s : Stored w (length w * 8) l.bytes = λ i h. l.invariant.1 i (omega arith) in
    record { same_bits = stored (length w) w l.bytes refl (l.invariant.0 ∙ c.requires) s; narrow = stored-narrow (length w * 8) w l.bytes (l.invariant.0 ∙ c.requires) s }
