-- Which bytes are a file: four conditions, each throughout the file before the next, and the first place at which one fails.
use Rattle.std.specs.Prelude.{ℕ, ◌-◌, Bool, ◌&&◌, List, length, Result, ◌==◌, nat_le}
use Rattle.loads.specs.Answers.{◌>>=◌, check}
use Rattle.swapfile.specs.declared.fault.FileFault.{FileFault}
use Rattle.swapfile.specs.declared.fault.FileFault.TheVariants.{Header, Offset}
use Rattle.swapfile.specs.Bytes.{number_at}
use Rattle.swapfile.specs.Sections.{filled, zero_free}
use Rattle.swapfile.specs.Sides.{sides_zero}
use Rattle.swapfile.specs.Equations.{equation_size}
use Rattle.swapfile.specs.Rules.{rule_size}
use Rattle.swapfile.specs.Lines.{line_size}
use Rattle.swapfile.specs.ChainNumbers.{chain_number_size}
use Rattle.swapfile.specs.Content.{equation_limit, rule_limit, line_limit, chain_limit}
use Rattle.swapfile.specs.Layout.{Layout, layout}

-- the header is whole, and no count passes its limit
abbrev pub counts_kept : List ℕ → Result (Unit {0}) FileFault
counts_kept b =
    check (nat_le 16 (length b)) (Header 0) >>= λ _.
    check (nat_le (number_at b 0) equation_limit) (Header 0) >>= λ _.
    check (nat_le (number_at b 2) rule_limit) (Header 2) >>= λ _.
    check (nat_le (number_at b 4) line_limit) (Header 4) >>= λ _.
    check (nat_le (number_at b 6) chain_limit) (Header 6)

-- an offset is not below the one before it, nor past the file
abbrev pub in_turn : List ℕ → ℕ → Bool
in_turn b at = nat_le (number_at b (at - 2)) (number_at b at) && nat_le (number_at b at) (length b)

-- the first offset is 16, and the others come in turn
abbrev pub offsets_rise : List ℕ → Result (Unit {0}) FileFault
offsets_rise b =
    check (number_at b 8 == 16) (Offset 8) >>= λ _.
    check (in_turn b 10) (Offset 10) >>= λ _.
    check (in_turn b 12) (Offset 12) >>= λ _.
    check (in_turn b 14) (Offset 14)

-- the records of each section fill it
abbrev pub records_fill : Layout → Result (Unit {0}) FileFault
records_fill p =
    filled equation_size p.equations >>= λ _.
    filled rule_size p.rules >>= λ _.
    filled line_size p.lines >>= λ _.
    filled chain_number_size p.chain

-- no present count is 0; chain numbers have no counts
abbrev pub zeros_absent : Layout → Result (Unit {0}) FileFault
zeros_absent p =
    zero_free equation_size sides_zero p.equations >>= λ _.
    zero_free rule_size sides_zero p.rules >>= λ _.
    zero_free line_size sides_zero p.lines

-- all four
unfoldable pub well_formed : List ℕ → Result (Unit {0}) FileFault
well_formed b =
    counts_kept b >>= λ _.
    offsets_rise b >>= λ _.
    records_fill (layout b) >>= λ _.
    zeros_absent (layout b)
