use Rattle.std.proofs.Common.{◌≡◌, ◌+◌, ◌<◌, ◌≤◌, length, refl, arith}
use Rattle.swapfile.specs.Content.{content_of}
use Rattle.swapfile.specs.Encoding.{encode}
use Rattle.swapfile.proofs.Laying.{encode_long}
use Rattle.filewriter.proofs.WholeFile.{few_from, file_short, too_short, has_room, reads_as, whole_file}
use Rattle.filewriter.proofs.file.write_file.Goals as goal

pub total-rules_at-requires : goal.total-rules_at-requires
total-rules_at-requires c =
    let m = content_of c.args.equations.now c.args.rules.now c.args.lines.now c.args.chain.now in
    omega (arith, file_short m (omega arith) (omega arith) (omega arith) (omega arith))

pub overflow_add-rules_at : goal.overflow_add-rules_at
overflow_add-rules_at c =
    let m = content_of c.args.equations.now c.args.rules.now c.args.lines.now c.args.chain.now in
    record { fits = omega (arith, file_short m (omega arith) (omega arith) (omega arith) (omega arith)) }

pub total-requires : goal.total-requires
total-requires c =
    let m = content_of c.args.equations.now c.args.rules.now c.args.lines.now c.args.chain.now in
    omega (arith, file_short m (omega arith) (omega arith) (omega arith) (omega arith))

pub overflow_add-lines_at : goal.overflow_add-lines_at
overflow_add-lines_at c =
    let m = content_of c.args.equations.now c.args.rules.now c.args.lines.now c.args.chain.now in
    record { fits = omega (arith, file_short m (omega arith) (omega arith) (omega arith) (omega arith)) }

pub total-requires-2 : goal.total-requires-2
total-requires-2 c =
    let m = content_of c.args.equations.now c.args.rules.now c.args.lines.now c.args.chain.now in
    omega (arith, file_short m (omega arith) (omega arith) (omega arith) (omega arith))

pub overflow_add-chain_at : goal.overflow_add-chain_at
overflow_add-chain_at c =
    let m = content_of c.args.equations.now c.args.rules.now c.args.lines.now c.args.chain.now in
    record { fits = omega (arith, file_short m (omega arith) (omega arith) (omega arith) (omega arith)) }

pub total-requires-3 : goal.total-requires-3
total-requires-3 c =
    let m = content_of c.args.equations.now c.args.rules.now c.args.lines.now c.args.chain.now in
    omega (arith, file_short m (omega arith) (omega arith) (omega arith) (omega arith))

pub overflow_add-end : goal.overflow_add-end
overflow_add-end c =
    let m = content_of c.args.equations.now c.args.rules.now c.args.lines.now c.args.chain.now in
    record { fits = omega (arith, file_short m (omega arith) (omega arith) (omega arith) (omega arith)) }

pub overflow_cast-offsets : goal.overflow_cast-offsets
overflow_cast-offsets c =
    let m = content_of c.args.equations.now c.args.rules.now c.args.lines.now c.args.chain.now in
    record { fits = omega (arith, file_short m (omega arith) (omega arith) (omega arith) (omega arith)) }

pub overflow_cast-offsets-2 : goal.overflow_cast-offsets-2
overflow_cast-offsets-2 c =
    let m = content_of c.args.equations.now c.args.rules.now c.args.lines.now c.args.chain.now in
    record { fits = omega (arith, file_short m (omega arith) (omega arith) (omega arith) (omega arith)) }

pub overflow_cast-offsets-3 : goal.overflow_cast-offsets-3
overflow_cast-offsets-3 c =
    let m = content_of c.args.equations.now c.args.rules.now c.args.lines.now c.args.chain.now in
    record { fits = omega (arith, file_short m (omega arith) (omega arith) (omega arith) (omega arith)) }

pub returns-then-out-end : goal.returns-then-out-end
returns-then-out-end c =
    let m = content_of c.args.equations.now c.args.rules.now c.args.lines.now c.args.chain.now in
    let short : length c.args.out.now < length (encode m) = omega (arith, encode_long m, c.total-rules_at.ensures, c.total.ensures, c.total-2.ensures, c.total-3.ensures) in
    record { told = too_short m (few_from m (omega arith) (omega arith) (omega arith) (omega arith)) _ short; buffer = refl; back = tt }

pub returns : goal.returns
returns c =
    let out = c.args.out.now in
    let m = content_of c.args.equations.now c.args.rules.now c.args.lines.now c.args.chain.now in
    let e = c.total-rules_at.ensures in
    let r = c.total.ensures in
    let l = c.total-2.ensures in
    let n = c.total-3.ensures in
    let rules_at = 16 + c.total-rules_at.result in
    let lines_at = rules_at + c.total.result in
    let chain_at = lines_at + c.total-2.result in
    let end = chain_at + c.total-3.result in
    let room : length (encode m) ≤ length out = omega (arith, encode_long m, e, r, l, n) in
    let whole : end ≡ length (encode m) = omega (arith, encode_long m, e, r, l, n) in
    let file =
    whole_file m rules_at lines_at chain_at end out
    c.write_row.new.out c.write_row-2.new.out c.write_row-3.new.out c.write_row-4.new.out c.write_row-5.new.out c.write_row-6.new.out
    (omega (arith, e)) (omega (arith, e, r)) (omega (arith, e, r, l)) (omega (arith, n))
    c.write_row.ensures c.write_row-2.ensures c.write_row-3.ensures c.write_row-4.ensures c.write_row-5.ensures c.write_row-6.ensures in
    record { told = has_room m (few_from m (omega arith) (omega arith) (omega arith) (omega arith)) _ end room whole; buffer = file; back = reads_as m out _ end whole file }
