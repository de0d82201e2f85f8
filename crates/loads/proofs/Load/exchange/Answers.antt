use Rattle.std.proofs.Common.{◌≡◌, ◌%◌, true, leb, map, Ok, sym, ap, ◌∙◌}
use Rattle.std.specs.List.{list_all}
use Rattle.loads.specs.Loads.{of_counts}
use Rattle.loads.specs.Exchange.{swapped}
use Rattle.loads.specs.Tests.{fits}
use Rattle.loads.proofs.Exchanging.{exchanged_lacks, exchanged-over, exchanged_made, new-fit, new-load}
use Rattle.loads.proofs.Load.exchange.Goals as goal

pub returns-then-not-contains : goal.returns-then-not-contains
returns-then-not-contains c = sym (exchanged_lacks c.args.self.now c.args.out.now c.args.into.now (sym c.contains.ensures ∙ c.if-not-contains.true))

pub returns-then-not-fit : goal.returns-then-not-fit
returns-then-not-fit c =
    let x = c.args.self.now in
    let out = c.args.out.now in
    let into = c.args.into.now in
    sym (exchanged-over x out into (sym c.contains.ensures ∙ c.if-not-contains.false)
    (sym (c.fit.ensures ∙ ap (list_all (λ n. leb n 65535)) c.new_counts-counts.ensures ∙ new-fit x out into) ∙ c.if-not-fit.true))

pub returns : goal.returns
returns c =
    let x = c.args.self.now in
    let out = c.args.out.now in
    let into = c.args.into.now in
    let small : fits (swapped x out into) ≡ true = sym (c.fit.ensures ∙ ap (list_all (λ n. leb n 65535)) c.new_counts-counts.ensures ∙ new-fit x out into) ∙ c.if-not-fit.false in
    ap Ok (c.from.ensures ∙ ap of_counts (c.low_halves.ensures ∙ ap (map (λ n. n % 65536)) c.new_counts-counts.ensures) ∙ new-load x out into small)
    ∙ sym (exchanged_made x out into (sym c.contains.ensures ∙ c.if-not-contains.false) small)
