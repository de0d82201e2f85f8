use Rattle.std.proofs.Common.{ap, ◌∙◌}
use Rattle.swapfile.specs.Sections.{places, filled}
use Rattle.filereader.proofs.Walking.{over, fill_goes, fill_full, fill_short}
use Rattle.filereader.proofs.window.Window.check_records.Goals as goal
use Rattle.filereader.proofs.window.Window.check_records.Goals.{else-rest-eq0-via-then-rest-eq0+else-rest, else-rest-eq0-via-else-rest-eq0}

pub loop-preserved : goal.loop-preserved
loop-preserved g c = ap (filled g.R.Record.size) c.next.ensures.steps.1 ∙ fill_goes g.R.Record.size c.loop.rest ∙ c.loop.invariant

pub returns-then-rest : goal.returns-then-rest
returns-then-rest g c =
    let size = g.R.Record.size in
    let s = c.rest.inside in
    fill_full size s.bytes.now s.count s.start c.if-rest-eq0.true c.if-rest.true
    ∙ ap (filled size) (c.rest.view_is ∙ c.next.ensures.steps.1) ∙ fill_goes size c.loop.rest ∙ c.loop.invariant

pub returns-else-rest-eq0 : goal.returns-else-rest-eq0
returns-else-rest-eq0 g c =
    let size = g.R.Record.size in
    let s = c.rest.inside in
    let none = over size g.R.Record.item c.loop.rest c.next.new.self c.next.result c.next.ensures.steps c.loop-test.ensures in
    let none' = ap (places size) c.rest.view_is ∙ none in
    fill_short size s.bytes.now s.count s.start none' (λ z is. elim c.else-rest-eq0.branch [
      | else-rest-eq0-via-then-rest-eq0+else-rest w ↦ w.if-rest.false is
      | else-rest-eq0-via-else-rest-eq0 w ↦ w.if-rest-eq0.false z
    ])
    ∙ ap (filled size) (c.rest.view_is ∙ c.next.ensures.steps.1) ∙ fill_goes size c.loop.rest ∙ c.loop.invariant
