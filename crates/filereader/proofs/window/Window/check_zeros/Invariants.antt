use Rattle.std.proofs.Common.{◌≡◌}
use Rattle.swapfile.specs.Sections.{zero_free}
use Rattle.filereader.proofs.window.Window.check_zeros.Given as goal

abbrev pub invariant-loop-found : goal.invariant-loop-found
invariant-loop-found g l =
    (goal.iterator-loop-found g).can_next l.found-iterator
    × (goal.iterator-loop-found g).is_finite l.found-iterator
    × (l.found-iterator.bytes ≡ l.self.bytes)
    × (zero_free g.R.Record.size g.R.Record.zeros l.found-iterator ≡ zero_free g.R.Record.size g.R.Record.zeros l.self)
