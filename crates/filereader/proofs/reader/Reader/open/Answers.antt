use Rattle.swapfile.specs.Bytes.{Bytes}
use Rattle.filereader.proofs.Conditions.{tells, counts}
use Rattle.filereader.proofs.reader.Reader.open.Goals as goal

pub returns : goal.returns
returns c =
    let b = c.args.bytes.now in
    let bytes : Bytes b = λ i. (c.type_inv.bytes i).fits in
    let told = c.checked.ensures in
    record { read = told; tells = tells b bytes c.checked.result told; counted = counts b bytes c.checked.result told }
