use Rattle.std.proofs.Common.{sym}
use Rattle.register.proofs.Viewing.{lines-shown}
use Rattle.register.proofs.register.Register.lines.Goals as goal

pub returns : goal.returns
returns c = sym (lines-shown c.args.self.now _ _ c.equations.ensures.value c.lines.ensures)
