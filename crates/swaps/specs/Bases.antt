-- The order that a script lays others over.
use Rattle.orders.specs.Laws.{Relation, Admissible}
use Rattle.orders.specs.Relations.{listed, bulk}
use Rattle.orders.specs.ListedLaws.{listed_laws}
use Rattle.orders.specs.BulkLaws.{bulk_laws}
use Rattle.swaps.specs.declared.ordering.Base.{Base}
use Rattle.swaps.specs.declared.ordering.Base.TheVariants.{Listed, Bulk}

-- listed or bulk, as it was named
abbrev pub base_above : Base → Relation
base_above Listed = listed
base_above Bulk = bulk

-- either keeps the five laws
pub base_laws : (b : Base) → Admissible (base_above b)
base_laws Listed = listed_laws
base_laws Bulk = bulk_laws
