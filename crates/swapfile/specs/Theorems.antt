-- What holds of all files.
use Rattle.std.specs.Prelude.{◌≡◌, ℕ, List, Ok, Err, Result, ◌≢◌}
use Rattle.swapfile.specs.declared.fault.FileFault.{FileFault}
use Rattle.swapfile.specs.Bytes.{Bytes}
use Rattle.swapfile.specs.Content.{Content, Within}
use Rattle.swapfile.specs.Encoding.{encode}
use Rattle.swapfile.specs.Decoding.{decode}

-- decoding undoes encoding
abbrev pub ReadsBack : Type 0
ReadsBack = (m : Content) → Within m → decode (encode m) ≡ Ok m

-- encoding undoes decoding, so that no other bytes read as a content
abbrev pub NoOther : Type 0
NoOther = (b : List ℕ) (m : Content) → Bytes b → decode b ≡ Ok m → Within m × (encode m ≡ b)

-- what is written is a row of bytes
abbrev pub WritesBytes : Type 0
WritesBytes = (m : Content) → Within m → Bytes (encode m)

-- bytes are accepted exactly when they are written for a content within the limits, and then that content is read
abbrev pub Tells : {X : Type 0} → List ℕ → Result X FileFault → Type 0
Tells b (Ok x) = (m : Content) × Within m × (encode m ≡ b) × (decode b ≡ Ok m)
Tells b (Err e) = (m : Content) → Within m → encode m ≢ b
