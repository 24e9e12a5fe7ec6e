-- `table_movers::fold_partners` meets its contract. The loop's invariant: the first i words of partners are folded.
use Rattle.std.proofs.Common.{◌≡◌, length}
use Rattle.table_words.specs.Adds.{Adds}
use Rattle.table_movers.specs.Folds.{MoversFolded}
use Rattle.table_movers.proofs.fold_partners.Given as goal

abbrev pub invariant-loop-i : goal.invariant-loop-i
invariant-loop-i l = (length l.movers ≡ 192) × Adds (MoversFolded l.holders l.partners l.i) (MoversFolded l.holders l.partners 192) l.initial.movers l.movers
