use Rattle.std.proofs.Common.{◌+◌, length, sym}
use Rattle.adoption.proofs.Loops.{even_lengths}
use Rattle.adoption.proofs.lines.check_lines.Goals as goal

pub replay_lines-requires : goal.replay_lines-requires
replay_lines-requires c = even_lengths (length c.args.lines.now.book.now + 1) c.args.lines.now.added.now (length c.args.chain.now) tt (sym c.in_ok-check_lengths.ensures)
