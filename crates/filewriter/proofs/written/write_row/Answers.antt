use Rattle.std.proofs.Common.{length, ap, ◌∙◌, arith, length-append}
use Rattle.filewriter.proofs.Puts.{row-rest, written_more}
use Rattle.filewriter.proofs.written.write_row.Goals as goal

pub loop-x-preserved : goal.loop-x-preserved
loop-x-preserved g c =
    let l = c.loop-x in
    let bytes = g.W.Written.bytes in
    let one = row-rest bytes c.args.row.now l.x-index c.x-item.result c.loop-x-test.true c.x-item.is in
    let long = ap length one ∙ length-append (bytes c.x-item.result) _ in
    (omega (arith, long, l.invariant.0, c.size.ensures), written_more l.at _ _ l.out c.write.new.out _ _ _ _ (omega (arith, c.size.ensures)) (omega (arith, l.invariant.0)) c.write.ensures one l.invariant.1)
