use Rattle.std.proofs.Common.{◌≡◌, drop, Some, sym, ap, ◌∙◌}
use Rattle.worksheet.specs.Claims.{nth}
use Rattle.swapfile.specs.Sections.{Section, held}
use Rattle.records.specs.Records.{found}
use Rattle.records.proofs.Held.{told}
use Rattle.filereader.proofs.Walking.{went, values_step}
use Rattle.filereader.proofs.window.Window.next_value.Goals as goal

pub returns : goal.returns
returns g c =
    let size = g.R.Record.size in
    let value = g.R.Record.value in
    let s = c.args.self.now in
    let t = c.next.new.self in
    let gives = c.in_ok-found.ensures.steps in
    let w = went size s t (found size g.R.Record.item s.bytes) c.in_ok-found.found gives.0 gives.1 in
    let one = values_step size value s t s.start w.places_are w.bytes in
    let bytes = ap (λ (x : Section). x.bytes) c.self.view_is ∙ w.bytes in
    let answer : c.value.result ≡ Some (value s.bytes s.start) =
    c.value.ensures ∙ (λ i. held size (bytes i) (w.is i).byte (Some (value (bytes i) (w.is i).byte))) ∙ told size s.bytes s.start _ w.room in
    record {
      value = answer ∙ ap (λ vs. nth vs 0) (sym one);
      moved = gives.1;
      values = ap (drop 1) (sym one);
      left = rw answer w.count;
    }
