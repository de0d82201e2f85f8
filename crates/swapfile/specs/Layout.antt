-- The sections that a file's header lays out.
use Rattle.std.specs.Prelude.{ℕ, ◌+◌, List, length, take}
use Rattle.swapfile.specs.Bytes.{number_at}
use Rattle.swapfile.specs.Sections.{Section}

-- the four sections
pub record Layout : Type 0 where
  pub equations : Section
  pub rules : Section
  pub lines : Section
  pub chain : Section

-- the section whose count stands at a header byte, and its offset eight bytes on
abbrev pub section : List ℕ → (at end : ℕ) → Section
section b at end = record { bytes = take end b; start = number_at b (at + 8); count = number_at b at }

-- each section ends where the next begins, and the last with the file
abbrev pub layout : List ℕ → Layout
layout b = record {
  equations = section b 0 (number_at b 10);
  rules = section b 2 (number_at b 12);
  lines = section b 4 (number_at b 14);
  chain = section b 6 (length b);
}
