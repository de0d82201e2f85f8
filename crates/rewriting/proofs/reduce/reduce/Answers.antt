use Rattle.std.proofs.Common.{◌-◌, sym, ◌∙◌, arith}
use Rattle.rewriting.specs.Reducing.{reduce}
use Rattle.rewriting.proofs.Searching.{search-fits, search_read}
use Rattle.rewriting.proofs.Stepping.{rest_all, rest-none, rest_spent, rest_over, rest_step}
use Rattle.rewriting.proofs.reduce.reduce.Goals as goal

pub loop-place-init : goal.loop-place-init
loop-place-init c = (rest_all (c.args.budget - c.args.budget) (omega arith) (reduce c.args.table.now c.args.budget c.args.load.now), omega arith)

pub returns-then-left-eq0 : goal.returns-then-left-eq0
returns-then-left-eq0 c =
    let l = c.loop-place in
    let fit = search-fits c.args.table.now l.at c.in-Some.place c.in-Some.ensures.is in
    record { is = sym (l.invariant.0 ∙ rest_spent c.args.table.now l.at l.left (c.args.budget - l.left) fit.0 c.if-left-eq0.true fit.1); within = tt }

pub returns-in_default-exchange : goal.returns-in_default-exchange
returns-in_default-exchange c =
    let t = c.args.table.now in
    let l = c.loop-place in
    let r = c.index-table-place.result in
    let fit = search_read t l.at c.in-Some.place r c.in-Some.ensures.is c.index-table-place.is in
    record { is = sym (l.invariant.0 ∙ rest_over t l.at l.left (c.args.budget - l.left) r c.in_default-exchange.field-0 c.if-left-eq0.false fit c.in_default-exchange.ensures); within = tt }

pub loop-place-preserved : goal.loop-place-preserved
loop-place-preserved c =
    let t = c.args.table.now in
    let l = c.loop-place in
    let r = c.index-table-place.result in
    let fit = search_read t l.at c.in-Some.place r c.in-Some.ensures.is c.index-table-place.is in
    (l.invariant.0 ∙ rest_step t l.at l.left c.args.budget r c.in-Ok.next c.if-left-eq0.false l.invariant.1 fit c.in-Ok.ensures, omega arith)

pub returns : goal.returns
returns c =
    let l = c.loop-place in
    record { is = sym (l.invariant.0 ∙ rest-none c.args.table.now l.at l.left (c.args.budget - l.left) c.in_default.ensures.is); within = omega arith }
