-- `text_read::read_lines` meets its contract: the records read are as many as the itinerary and the scratch have room for, and are
-- copied to its start.
use Rattle.std.proofs.Common.{◌≡◌, ◌≤◌, ◌*◌, ℕ, List, ◌++◌, length, take, drop, arith, refl, replicate, rules, sym, ◌∙◌}
use Rattle.std.proofs.Common.{take_all}
use Rattle.std.specs.Prelude.{Err}
use Rattle.std.proofs.Math.ListN.{length-replicate}
use lib.ListN.{length-take}
use Rattle.std.proofs.Math.Seq.{length-take-le}
use Rattle.text_form.specs.Laws.Placing.{read-fault, read-few, read_fits, read-records}
use Rattle.text_read.proofs.read_lines.Goals as goal
use Rattle.text_read.proofs.read_lines.Goals.{In_ok-n}

pub returns-in_err-n : goal.returns-in_err-n
returns-in_err-n c =
    let e : c.from_residual.result ≡ Err c.in_err-n.field-0.0 = search rules in
    let w = read-fault c.args.text.now c.args.it.now (replicate 8192 0) c.room_in.result c.scan.result c.room_in.ensures c.scan.ensures.answer c.in_err-n.was in
    record { answer = e ∙ sym c.in_err-n.was ∙ w.0; bytes = w.1 }

long : length {A = ℕ} (replicate 8192 0) ≡ 8192
long = length-replicate {0} {A = ℕ} 8192 0

few : (c : In_ok-n) → 8 * c.in_ok-n.n ≤ length c.args.it.now
few c = read-few c.args.text.now c.args.it.now (replicate 8192 0) c.room_in.result c.scan.result c.room_in.ensures c.scan.ensures.answer _ c.in_ok-n.was long

fits : (c : In_ok-n) → 8 * c.in_ok-n.n ≤ length c.scan.new.it
fits c = omega (arith, read_fits c.args.text.now c.args.it.now (replicate 8192 0) c.room_in.result c.scan.result c.room_in.ensures c.scan.ensures.answer _ c.in_ok-n.was long, c.scan.auto.it)

pub slice_bounds-copy_from_slice-end : goal.slice_bounds-copy_from_slice-end
slice_bounds-copy_from_slice-end c = few c

pub slice_bounds-copy_from_slice-end-2 : goal.slice_bounds-copy_from_slice-end-2
slice_bounds-copy_from_slice-end-2 c = simp length-take (omega (arith, few ((goal.at.slice_bounds-copy_from_slice-end-2 c).In_ok-n)))

pub slice_bounds-scratch-end : goal.slice_bounds-scratch-end
slice_bounds-scratch-end c = fits ((goal.at.slice_bounds-scratch-end c).In_ok-n)

pub slice_bounds-copy_from_slice-end-3 : goal.slice_bounds-copy_from_slice-end-3
slice_bounds-copy_from_slice-end-3 c = simp length-take (omega (arith, fits ((goal.at.slice_bounds-copy_from_slice-end-3 c).In_ok-n)))

pub copy_from_slice-requires : goal.copy_from_slice-requires
copy_from_slice-requires c =
    let place = (goal.at.copy_from_slice-requires c).In_ok-n in
    simp length-take (omega (arith, few place, fits place))

-- the first k bytes of s in front of what follows the first k of t
front : (s t u : List ℕ) (k : ℕ) → k ≤ length s → u ≡ take k s → u ++ drop k t ≡ take (length (take k s)) (take k s) ++ drop (length (take k s)) t
front s t u k h e =
    let l : length (take k s) ≡ k = length-take-le k s h in
    let m : length (take k s) ≤ k = omega arith in
    rw (l, e, take_all k (take k s) m) refl

pub returns : goal.returns
returns c =
    let place = (goal.at.returns c).In_ok-n in
    let w = read-records c.args.text.now c.args.it.now (replicate 8192 0) c.room_in.result c.scan.result c.room_in.ensures c.scan.ensures.answer _ c.in_ok-n.was long _ _ c.scan.ensures.bytes
    (front _ _ _ _ (fits place) c.copy_from_slice.ensures.after) in
    record { answer = w.0; bytes = w.1 }
