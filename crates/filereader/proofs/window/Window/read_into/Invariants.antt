use Rattle.std.proofs.Common.{◌≡◌, ◌+◌, ◌≤◌, ◌++◌, vec_items, vec_len, vec_capacity}
use Rattle.swapfile.specs.Sections.{values}
use Rattle.filereader.proofs.window.Window.read_into.Given as goal

abbrev pub invariant-loop-value : goal.invariant-loop-value
invariant-loop-value g l =
    let values_of = values g.R.Record.size g.R.Record.value in
    (vec_len l.row + l.self.count ≤ vec_capacity l.row)
    × (vec_capacity l.row ≡ vec_capacity l.initial.row)
    × (vec_items l.row ++ values_of l.self ≡ vec_items l.initial.row ++ values_of l.initial.self)

abbrev pub decreases-loop-value : goal.decreases-loop-value
decreases-loop-value g l = l.self.count
