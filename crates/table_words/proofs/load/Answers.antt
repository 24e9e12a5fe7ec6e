-- The goals of `table_words::load`; the argument stands in Invariants.
use Rattle.std.proofs.Common.{refl, ◌≡◌, ℕ, ◌*◌, ◌/◌, List, [], get_or, length, drop, length-set, length-take, length-drop, take, ◌∙◌, ap, w64, arith}
use Rattle.std.specs.Int.{from_le_bytes}
use Rattle.table_words.specs.Words.{fill-next, get_or-first_chunks, loaded, value, value-eight}
use Rattle.table_words.proofs.load.Goals as goal

pub loop-i-init : goal.loop-i-init
loop-i-init c = (refl, λ k l. absurd (omega arith))

pub loop-i-preserved : goal.loop-i-preserved
loop-i-preserved c =
    let t = c.args.bytes.now in let l = c.loop-i in
    let part = take 8 (drop (8 * l.i) t) in
    let chunk = ap (λ (xs : List (List ℕ)). get_or xs l.i []) c.as_chunks.ensures.front ∙ get_or-first_chunks 8 (length t / 8) t l.i (omega arith) in
    let long : length part ≡ 8 = omega (arith, length-take 8 (drop (8 * l.i) t), length-drop (8 * l.i) t) in
    (simp length-set l.invariant.0, fill-next (λ k. value (take 8 (drop (8 * k) t))) l.words l.i c.from_le_bytes.result (omega arith) l.invariant.1 (c.from_le_bytes.ensures ∙ ap (from_le_bytes w64) chunk ∙ value-eight part long))

pub returns : goal.returns
returns c =
    let l = c.loop-i in loaded c.args.bytes.now (λ j. omega (arith, c.type_inv.bytes j)) (length c.args.words.now) l.words l.invariant.0 c.requires (λ i h. l.invariant.1 i (omega arith))
