use Rattle.std.proofs.Common.{◌≡◌}
use Rattle.swapfile.specs.Sections.{filled}
use Rattle.filereader.proofs.window.Window.check_records.Given as goal

abbrev pub invariant-loop : goal.invariant-loop
invariant-loop g l = filled g.R.Record.size l.rest ≡ filled g.R.Record.size l.self
