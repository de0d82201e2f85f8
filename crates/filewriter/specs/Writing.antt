-- Writing a file into a buffer.
use Rattle.std.specs.Prelude.{◌≡◌, ℕ, List, ◌++◌, length, take, drop, Ok, Err, Result, nat_le}
use Rattle.loads.specs.Answers.{◌>>=◌, check}
use Rattle.swapfile.specs.Content.{Content, few, Within}
use Rattle.swapfile.specs.Decoding.{decode}
use Rattle.swapfile.specs.Encoding.{encode}
use Rattle.filewriter.specs.declared.fault.WriteFault.{WriteFault}
use Rattle.filewriter.specs.declared.fault.WriteFault.TheVariants.{OverLimit, ShortBuffer}

-- how many bytes are written into a buffer of a length, or why none
abbrev pub written : Content → ℕ → Result ℕ WriteFault
written m long =
    check (few m) OverLimit >>= λ _.
    check (nat_le (length (encode m)) long) ShortBuffer >>= λ _.
    Ok (length (encode m))

-- the buffer then: the file and the bytes beyond it, or what it was
abbrev pub buffer_after : Content → Result ℕ WriteFault → List ℕ → List ℕ
buffer_after m (Ok n) out = encode m ++ drop n out
buffer_after m (Err e) out = out

-- what was written reads as the content
abbrev pub ReadsAs : Content → Result ℕ WriteFault → List ℕ → Type 0
ReadsAs m (Ok n) out = Within m → decode (take n out) ≡ Ok m
ReadsAs m (Err e) out = Unit {0}
