use Rattle.std.proofs.Common.{not, eqb, ◌∙◌, ap₂}
use lib.Bits.{bit_and}
use Rattle.std.proofs.lemmas.Bool.Decides.{same_from_decides}
use Rattle.loads.proofs.Bits.{shared-bits}
use Rattle.loads.proofs.Deciding.{shares_decides}
use Rattle.loads.proofs.Load.shares.Goals as goal

pub returns : goal.returns
returns c =
    let x = c.args.self.now in
    let y = c.args.other.now in
    ap₂ (λ p q. not (eqb (bit_and p q) 0)) x.present y.present ∙ same_from_decides _ _ (shared-bits x y) (shares_decides x y)
