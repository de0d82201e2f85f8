use Rattle.std.proofs.Common.{◌+◌, ◌<◌, length, Some, None, sym, refl, subst, arith}
use Rattle.std.proofs.lemmas.Bool.{ltb-true}
use Rattle.swapfile.specs.Sections.{Section}
use Rattle.records.proofs.Held.{held-some, held_none}
use Rattle.filereader.proofs.Walking.{Gives, gives_none, gives_some, none_left, none-held}
use Rattle.filereader.proofs.walk.WindowIterator.next.Goals as goal

pub returns-in_err-left-clause-steps : goal.returns-in_err-left-clause-steps
returns-in_err-left-clause-steps g c =
    let s : Section = record { bytes = c.self.inside.bytes.now; start = c.self.inside.start; count = c.self.inside.count } in
    let none = none_left g.R.Record.size s.bytes s.count s.start (omega (arith, c.in_err-left.ensures)) in
    subst (λ t. Gives g.R.Record.size g.R.Record.item t c.from_residual.result t) c.self.view_is (gives_none g.R.Record.size g.R.Record.item s none _ c.from_residual.ensures)

pub returns-then-too_few-clause-steps : goal.returns-then-too_few-clause-steps
returns-then-too_few-clause-steps g c =
    let s : Section = record { bytes = c.self.inside.bytes.now; start = c.self.inside.start; count = c.self.inside.count } in
    let past : length s.bytes < s.start + g.R.Record.size s.bytes s.start = omega (arith, g.met.R.Record.enough s.bytes s.start, ltb-true c.saturating_sub.result g.R.Record.SMALLEST (sym c.if-too_few.ensures), c.saturating_sub.ensures) in
    subst (λ t. Gives g.R.Record.size g.R.Record.item t None t) c.self.view_is (gives_none g.R.Record.size g.R.Record.item s (none-held g.R.Record.size s.bytes s.count s.start past) None refl)

pub returns-in_err-found-clause-steps : goal.returns-in_err-found-clause-steps
returns-in_err-found-clause-steps g c =
    let s : Section = record { bytes = c.self.inside.bytes.now; start = c.self.inside.start; count = c.self.inside.count } in
    let none = none-held g.R.Record.size s.bytes s.count s.start (held_none _ _ _ c.in_err-found.ensures) in
    subst (λ t. Gives g.R.Record.size g.R.Record.item t c.from_residual-in_err-found.result t) c.self.view_is (gives_none g.R.Record.size g.R.Record.item s none _ c.from_residual-in_err-found.ensures)

pub returns-clause-steps : goal.returns-clause-steps
returns-clause-steps g c =
    let s : Section = record { bytes = c.self.inside.bytes.now; start = c.self.inside.start; count = c.self.inside.count } in
    let here = held-some _ _ _ _ c.in_ok-found.ensures in
    subst (λ t. Gives g.R.Record.size g.R.Record.item t (Some c.in_ok-found.found) (record { bytes = s.bytes; start = c.in_ok-found.found.end; count = c.in_ok-left.left })) c.self.view_is
    (gives_some g.R.Record.size g.R.Record.item s c.in_ok-left.left (omega (arith, c.in_ok-left.ensures)) here.0 c.in_ok-found.found here.1)
