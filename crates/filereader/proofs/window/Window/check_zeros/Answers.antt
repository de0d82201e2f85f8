use Rattle.std.proofs.Common.{sym, ap, ◌∙◌}
use Rattle.swapfile.specs.Sections.{Section, held}
use Rattle.records.specs.Records.{found}
use Rattle.records.proofs.Held.{told}
use Rattle.filereader.proofs.Walking.{went, ended, zero_found, zero_behind, zero_none}
use Rattle.filereader.proofs.window.Window.check_zeros.Goals as goal

pub returns-in-Some-zero_count : goal.returns-in-Some-zero_count
returns-in-Some-zero_count g c =
    let size = g.R.Record.size in
    let zeros = g.R.Record.zeros in
    let s = c.loop-found.found-iterator in
    let t = c.next.new.self in
    let gives = c.in-Some.ensures.steps in
    let w = went size s t (found size g.R.Record.item s.bytes) c.in-Some.found gives.0 gives.1 in
    let bytes = ap (λ (x : Section). x.bytes) c.self.view_is ∙ sym c.loop-found.invariant.2 in
    let is = c.in-Some-zero_count.ensures ∙ (λ i. held size (bytes i) (w.is i).byte (zeros (bytes i) (w.is i).byte)) ∙ told size s.bytes s.start _ w.room in
    zero_found size zeros s t _ _ w c.in-Some-zero_count.place is ∙ c.loop-found.invariant.3

pub loop-found-preserved : goal.loop-found-preserved
loop-found-preserved g c =
    let size = g.R.Record.size in
    let zeros = g.R.Record.zeros in
    let s = c.loop-found.found-iterator in
    let t = c.next.new.self in
    let gives = c.in-Some.ensures.steps in
    let w = went size s t (found size g.R.Record.item s.bytes) c.in-Some.found gives.0 gives.1 in
    let bytes = ap (λ (x : Section). x.bytes) c.self.view_is ∙ sym c.loop-found.invariant.2 in
    let is = c.in_default.ensures ∙ (λ i. held size (bytes i) (w.is i).byte (zeros (bytes i) (w.is i).byte)) ∙ told size s.bytes s.start _ w.room in
    (tt, tt, w.bytes ∙ c.loop-found.invariant.2, zero_behind size zeros s t _ _ w is ∙ c.loop-found.invariant.3)

pub returns : goal.returns
returns g c =
    let size = g.R.Record.size in
    let s = c.loop-found.found-iterator in
    zero_none size g.R.Record.zeros s (ended size s (found size g.R.Record.item s.bytes) c.in-None.ensures.steps.0) ∙ c.loop-found.invariant.3
