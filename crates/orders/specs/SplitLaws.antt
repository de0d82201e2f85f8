-- Split keeps the laws if both its orders do: the key is the marked part beside the unmarked part.
use Rattle.std.specs.Prelude.{Bool, true, false, List}
use Rattle.loads.specs.Tests.{alike}
use Rattle.loads.proofs.Deciding.{alike_decides}
use Rattle.orders.specs.Laws.{Relation, Admissible}
use Rattle.orders.specs.Relations.{part, split}
use Rattle.orders.specs.Pairs.{pairs}
use Rattle.orders.specs.Rankings.{loads}
use Rattle.orders.specs.Keys.{both, by_key}
use Rattle.orders.specs.Parts.{part_adds, part_both}

-- two orders, split by marks, keep the five laws
pub split_laws : (ms : List Bool) {first second : Relation} → Admissible first → Admissible second → Admissible (split ms first second)
split_laws ms laws₁ laws₂ =
    by_key (λ x. (part ms true x, part ms false x)) (pairs alike alike_decides (loads laws₁) (loads laws₂)) (both (part_adds ms true) (part_adds ms false))
    (λ x y e. part_both ms x y (λ i. (e i).0) (λ i. (e i).1))
