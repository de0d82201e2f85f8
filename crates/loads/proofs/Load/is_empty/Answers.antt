use Rattle.std.proofs.lemmas.Bool.Decides.{Decides-eqb, Decides-like, same_from_decides}
use Rattle.std.proofs.Common.{sym, ◌∙◌}
use Rattle.loads.proofs.Deciding.{alike_decides}
use Rattle.loads.proofs.Summing.{no_pieces, pieces_none}
use Rattle.loads.proofs.Load.is_empty.Goals as goal

pub returns : goal.returns
returns c =
    let x = c.args.self.now in
    let n = c.pieces.result in
    record {
      is = same_from_decides _ _ (Decides-like _ (λ e. no_pieces x (sym c.pieces.ensures.is ∙ e)) (λ e. c.pieces.ensures.is ∙ pieces_none x e) (Decides-eqb n 0)) (alike_decides x _);
      small = c.pieces.ensures.small;
    }
