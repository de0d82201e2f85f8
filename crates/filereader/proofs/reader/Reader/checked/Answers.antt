use Rattle.std.proofs.Common.{Ok, Err, refl, ap, ◌∙◌}
use Rattle.std.proofs.lemmas.Result.{err_from_is_err_and}
use Rattle.swapfile.specs.WellFormed.{records_fill, zeros_absent}
use Rattle.filereader.proofs.Conditions.{conditions}
use Rattle.filereader.proofs.reader.Reader.checked.Goals as goal

pub returns-in_err-check_counts : goal.returns-in_err-check_counts
returns-in_err-check_counts c =
    let p = err_from_is_err_and c.from_residual.result c.from_residual.ensures.1 in
    rw (p.1, p.2) (conditions c.args.bytes.now (Err _) _ _ _ c.in_err-check_counts.ensures refl refl refl)

pub returns-in_err-check_offsets : goal.returns-in_err-check_offsets
returns-in_err-check_offsets c =
    let p = err_from_is_err_and c.from_residual-in_err-check_offsets.result c.from_residual-in_err-check_offsets.ensures.1 in
    rw (p.1, p.2) (conditions c.args.bytes.now (Ok tt) (Err _) _ _ c.in_ok-check_counts.ensures c.in_err-check_offsets.ensures refl refl)

pub returns-in_err-check_records : goal.returns-in_err-check_records
returns-in_err-check_records c =
    let p = err_from_is_err_and c.from_residual-in_err-check_records.result c.from_residual-in_err-check_records.ensures.1 in
    rw (p.1, p.2) (conditions c.args.bytes.now (Ok tt) (Ok tt) (Err _) _ c.in_ok-check_counts.ensures c.in_ok-check_offsets.ensures (c.in_err-check_records.ensures ∙ ap records_fill c.over-reader.ensures) refl)

pub returns-in_err-check_zeros : goal.returns-in_err-check_zeros
returns-in_err-check_zeros c =
    let p = err_from_is_err_and c.from_residual-in_err-check_zeros.result c.from_residual-in_err-check_zeros.ensures.1 in
    rw (p.1, p.2)
    (conditions c.args.bytes.now (Ok tt) (Ok tt) (Ok tt) (Err _) c.in_ok-check_counts.ensures c.in_ok-check_offsets.ensures (c.in_ok-check_records.ensures ∙ ap records_fill c.over-reader.ensures)
    (c.in_err-check_zeros.ensures ∙ ap zeros_absent c.over-reader.ensures))

pub returns : goal.returns
returns c =
    ap Ok c.over-reader.ensures
    ∙ conditions c.args.bytes.now (Ok tt) (Ok tt) (Ok tt) (Ok tt) c.in_ok-check_counts.ensures c.in_ok-check_offsets.ensures (c.in_ok-check_records.ensures ∙ ap records_fill c.over-reader.ensures)
    (c.in_ok-check_zeros.ensures ∙ ap zeros_absent c.over-reader.ensures)
