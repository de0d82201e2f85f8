use Rattle.std.proofs.Common.{◌≡◌, nat_cmp, refl}
use Rattle.std.proofs.lemmas.Iterator.Search.{cmp_from_yields_List}
use Rattle.std.proofs.lemmas.Iterator.Adapters.{YieldsList-from_rev_slice}
use Rattle.orders.proofs.bulk.from_last.Goals as goal

pub returns : goal.returns
returns c =
    let second = YieldsList-from_rev_slice {s = c.rev-2.result} c.args.b.now.counts cc in
    cmp_from_yields_List (λ s t. t ≡ s) c.rev-2.result nat_cmp c.cmp.result c.cmp.ensures.ran
    (YieldsList-from_rev_slice c.args.a.now.counts cc)
    (λ it e. rw e second)
    (λ x y. refl)
