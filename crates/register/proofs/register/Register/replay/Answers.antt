use Rattle.std.proofs.Common.{sym}
use Rattle.std.proofs.lemmas.Result.{err_from_is_err_and}
use Rattle.register.specs.View.{view}
use Rattle.register.proofs.Replaying.{follows, falters, passes, stops}
use Rattle.register.proofs.register.Register.replay.Goals as goal

pub returns-in_err-end : goal.returns-in_err-end
returns-in_err-end c =
    let g = c.args.self.now in
    let p = err_from_is_err_and c.from_residual.result c.from_residual.ensures.1 in
    record {
      did = rw (p.1, p.2) (falters (view g) c.args.load.now c.args.chain.now _ (sym c.lines.ensures) _ c.in_err-end.ensures);
      refused = rw (p.1, p.2) (stops (view g) c.args.load.now c.args.chain.now _ (sym c.lines.ensures) _ c.in_err-end.ensures);
    }

pub returns : goal.returns
returns c =
    let g = c.args.self.now in
    record {
      did = follows (view g) c.args.load.now c.args.chain.now _ (sym c.lines.ensures) c.in_ok-end.end c.net.result c.in_ok-end.ensures c.net.ensures;
      refused = passes (view g) c.args.load.now c.args.chain.now _ (sym c.lines.ensures) c.in_ok-end.end c.in_ok-end.ensures;
    }
