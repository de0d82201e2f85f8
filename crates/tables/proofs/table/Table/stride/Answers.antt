use Rattle.std.proofs.Common.{Some, None, vec_items, sym, ap, ◌∙◌, arith}
use Rattle.std.specs.Result.{result_ok}
use Rattle.tables.proofs.Citing.{citable-at}
use Rattle.tables.proofs.Strides.{stride-none, fits_read, stride_next}
use Rattle.tables.proofs.table.Table.stride.Goals as goal

pub returns-in_err-place-clause-is : goal.returns-in_err-place-clause-is
returns-in_err-place-clause-is c = rw (c.from_residual.ensures, ← c.self.view_is) (sym (stride-none (vec_items c.self.inside.rules) c.args.load.now c.as_slice.result.now c.as_slice.ensures.value c.in_err-place.ensures.is))

pub returns-in_err-next-clause-is : goal.returns-in_err-next-clause-is
returns-in_err-next-clause-is c =
    let t = vec_items c.self.inside.rules in
    let fit = fits_read t c.args.load.now c.as_slice.result.now c.in_ok-place.place c.index.result.now c.as_slice.ensures.value c.in_ok-place.ensures.is c.index.ensures in
    rw (c.from_residual-in_err-next.ensures, ← c.self.view_is) (sym (stride_next t c.args.load.now c.index.result.now fit None (c.in_err-next.ensures.value ∙ ap result_ok c.exchange.ensures)))

pub returns-clause-is : goal.returns-clause-is
returns-clause-is c =
    let t = vec_items c.self.inside.rules in
    let fit = fits_read t c.args.load.now c.as_slice.result.now c.in_ok-place.place c.index.result.now c.as_slice.ensures.value c.in_ok-place.ensures.is c.index.ensures in
    rw (← c.self.view_is) (sym (stride_next t c.args.load.now c.index.result.now fit (Some c.in_ok-next.next) (c.in_ok-next.ensures.value ∙ ap result_ok c.exchange.ensures)))

pub returns-clause-cited : goal.returns-clause-cited
returns-clause-cited c = citable-at (vec_items c.self.inside.rules) c.in_ok-place.place c.index.result.now (omega (arith, c.in_ok-place.ensures.within)) c.index.ensures c.self.invariant.cited
