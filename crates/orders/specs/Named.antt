-- The two orders that have names.
use Rattle.std.specs.Prelude.{ℕ, List, replicate}
use Rattle.orders.specs.declared.bulk.Bulk.{Bulk}
use Rattle.orders.specs.declared.listed.Listed.{Listed}
use Rattle.orders.specs.declared.weights.Weights.{Weights}
use Rattle.orders.specs.Laws.{Relation}
use Rattle.orders.specs.Relations.{listed, bulk, weighted}

-- weights of 1
abbrev pub ones : List ℕ
ones = replicate 8 1

-- weights of 1 over an order
abbrev pub evenly : {O : Type 0} → O → Weights O
evenly below = record { row = record { 0 = ones }; below = below }

-- the report order: weights of 1 over listed
abbrev pub the_report : Weights Listed
the_report = evenly (record {})

-- the relation of the report order
abbrev pub report_above : Relation
report_above = weighted ones listed

-- the house order: weights of 1 over bulk
abbrev pub the_house : Weights Bulk
the_house = evenly (record {})

-- the relation of the house order
abbrev pub house_above : Relation
house_above = weighted ones bulk
