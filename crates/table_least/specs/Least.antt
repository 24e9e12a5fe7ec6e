-- What closing a table establishes.
use Rattle.std.specs.Prelude.{List}
use Rattle.model.specs.declared.Rec.{Rec}
use Rattle.tables.specs.Grow.{Set, Smallest}
use Rattle.table_partners.specs.Rules.{AllRules}

-- s' is the least set around s that is closed under the rules
abbrev pub LeastClosed : List Rec → Set → Set → Type 0
LeastClosed its s s' = Smallest (AllRules its) s s'
