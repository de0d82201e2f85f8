use Rattle.std.proofs.Common.{◌&&◌, leb, get_or, sym, ap, ◌∙◌, arith}
use Rattle.std.proofs.lemmas.List.Folds.{list_all_more}
use Rattle.loads.proofs.exchange.fit.Goals as goal

pub loop-count-preserved : goal.loop-count-preserved
loop-count-preserved c =
    let i = c.loop-count.count-index in
    ap (λ b. b && leb (get_or c.args.counts.now i 0) 65535) c.loop-count.invariant
    ∙ sym (list_all_more (λ n. leb n 65535) c.args.counts.now i 0 (omega arith))
