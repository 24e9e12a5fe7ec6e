-- The goals of `table_suspects::close_suspects`; the argument stands in Invariants.
use Rattle.std.proofs.Common.{◌%◌, ◌*◌, ◌<◌, ◌^◌, ℕ, le_refl, subst, sym, arith}
use Rattle.std.specs.Int.Bits.{bit_xor}
use Rattle.table_suspects.specs.Suspects.{suspects-end, suspects-next, suspects-none, suspects-same}
use Rattle.model.proofs.Laws.Bit.{one_shl}
use Rattle.table_words.specs.BitSets.{and_r}
use Rattle.table_words.specs.Lowest.{xor-less}
use Rattle.table_suspects.proofs.close_suspects.Goals as goal
use Rattle.table_suspects.proofs.close_suspects.Goals.{In-Some}

fewer : (c : In-Some) → bit_xor c.loop-b.unseen ((1 * 2 ^ c.in-Some.b) % 2 ^ 64) < c.loop-b.unseen
fewer c =
    let l = c.loop-b in let o = c.in-Some.ensures.steps.lowest in
    subst (λ (x : ℕ). bit_xor l.unseen x < l.unseen) (sym (one_shl c.in-Some.b 64 o.below)) (xor-less l.unseen c.in-Some.b (and_r l.suspects l.unseen c.in-Some.b o.bit))

pub loop-b-init : goal.loop-b-init
loop-b-init c = let a = c.args in (le_refl _, suspects-none a.movers.now a.w.now)

pub made_suspect-suspects-requires : goal.made_suspect-suspects-requires
made_suspect-suspects-requires c = c.in-Some.ensures.steps.lowest.below

pub overflow_shl-unseen : goal.overflow_shl-unseen
overflow_shl-unseen c = let h = c.in-Some.ensures.steps.lowest.below in omega arith

pub loop-b-smaller : goal.loop-b-smaller
loop-b-smaller c = fewer (goal.at.loop-b-smaller c).In-Some

pub loop-b-preserved : goal.loop-b-preserved
loop-b-preserved c =
    let a = c.args in let l = c.loop-b in let o = c.in-Some.ensures.steps.lowest in
    let f = fewer (goal.at.loop-b-preserved c).In-Some in
    let h = l.invariant.0 in
    (omega arith, suspects-next a.movers.now a.w.now l.suspects l.unseen _ c.made_suspect-suspects.result l.invariant.1 o.below o.bit c.made_suspect-suspects.ensures)

pub returns : goal.returns
returns c =
    let a = c.args in let l = c.loop-b in record { smallest = suspects-end a.movers.now a.w.now l.suspects l.unseen (omega arith) l.invariant.1 c.in_default.ensures.steps; rows_kept = suspects-same a.movers.now a.w.now l.suspects l.unseen (omega arith) }
