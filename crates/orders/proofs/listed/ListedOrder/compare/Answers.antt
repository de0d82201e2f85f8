use Rattle.std.proofs.Common.{◌≡◌, nat_cmp, refl, ◌∙◌}
use Rattle.std.specs.Cmp.Lexicographic.{slice_cmp}
use Rattle.std.proofs.lemmas.Iterator.{YieldsList-from_slice}
use Rattle.std.proofs.lemmas.Iterator.Search.{cmp_from_yields_List}
use Rattle.orders.proofs.Answering.{answer-listed}
use Rattle.orders.proofs.listed.ListedOrder.compare.Goals as goal

pub returns : goal.returns
returns c =
    let x = c.args.a.now in
    let y = c.args.b.now in
    let second = YieldsList-from_slice {s = c.iter-2.result} y.counts cc in
    let e : c.cmp.result ≡ slice_cmp nat_cmp x.counts y.counts =
    cmp_from_yields_List (λ s t. t ≡ s) c.iter-2.result nat_cmp c.cmp.result c.cmp.ensures.ran
    (YieldsList-from_slice x.counts cc)
    (λ it e. rw e second)
    (λ x y. refl) in
    e ∙ answer-listed x y
