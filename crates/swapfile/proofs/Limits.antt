-- What the limits say of each row.
use Rattle.std.proofs.Common.{◌≡◌, ◌≤◌, true, length}
use Rattle.std.proofs.lemmas.Bool.{leb-true, and_parts}
use Rattle.swapfile.specs.Content.{Content, few}

-- the limits, one by one
pub record Limits (m : Content) : Type 0 where
  pub equations : length m.equations ≤ 32
  pub rules : length m.rules ≤ 128
  pub lines : length m.lines ≤ 512
  pub chain : length m.chain ≤ 4096

-- from the test
pub limits_of : (m : Content) → few m ≡ true → Limits m
limits_of m e =
    let p = and_parts _ _ e in
    let q = and_parts _ _ p.0 in
    let r = and_parts _ _ q.0 in
    record { equations = leb-true _ _ r.0; rules = leb-true _ _ r.1; lines = leb-true _ _ q.1; chain = leb-true _ _ p.1 }
