use Rattle.std.proofs.Common.{length, sym, refl, ap, ◌∙◌, length-append, rules}
use lib.ListN.{length-map}
use Rattle.register.proofs.Viewing.{lines-shown}
use Rattle.register.proofs.register.Register.line_count.Goals as goal

pub returns : goal.returns
returns c =
    let g = c.args.self.now in
    sym (ap length (lines-shown g _ _ refl refl) ∙ simp (length-append, length-map) (search rules))
