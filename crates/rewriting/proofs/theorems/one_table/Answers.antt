use Rattle.rewriting.proofs.Uniqueness.{one_table}
use Rattle.rewriting.proofs.theorems.one_table.Goals as goal

pub returns : goal.returns
returns c = one_table
