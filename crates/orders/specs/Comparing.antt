-- What a comparison answers.
use Rattle.std.specs.Prelude.{cond}
use Rattle.std.specs.declared.cmp.Ordering.TheVariants.{Less, Equal, Greater}
use Rattle.std.specs.declared.cmp.Ordering.{Ordering}
use Rattle.loads.specs.declared.Load.{Load}
use Rattle.orders.specs.Laws.{Relation}

-- x compared with y under a relation: greater if x is above, less if y is, and else equal
abbrev pub answer : Relation → Load → Load → Ordering
answer above x y = cond (above x y) Greater (cond (above y x) Less Equal)
