-- Why document 01 corrects source 002: on the sample chain the paper's merge depends on the order, and is not the least in the
-- paper's own order. And what it keeps: the phase and last of a merge or append are the paper's.
-- Assumes nothing.
use mathlib.Core.Path.{◌≡◌, refl}
use mathlib.Core.Bool.{true, false}
use mathlib.Core.List.{[], ◌∷◌}
use Rattle.chains.specs.Chain.{up, at, climb, prefix_of, growing, forked}
use Rattle.chains.specs.Sample.{sample_chain}
use Rattle.chains.specs.Paper.{on_prev, paper_below?, paper_merge, as_paper}

-- G3, G4 and G9 merged by the paper in two orders: the evidence is 3 and 4, or 3 and 9.
pub paper_order_matters :
    ((paper_merge sample_chain (paper_merge sample_chain (as_paper (growing 3)) (as_paper (growing 4))) (as_paper (growing 9))).forks ≡ 3 ∷ 4 ∷ []) ×
    ((paper_merge sample_chain (paper_merge sample_chain (as_paper (growing 3)) (as_paper (growing 9))) (as_paper (growing 4))).forks ≡ 3 ∷ 9 ∷ [])
unfolding paper_merge on_prev prefix_of climb at up sample_chain
paper_order_matters = (refl, refl)

-- In the paper's order F(2;3,4) is above G7 and above itself; the paper's merge of the two is not at or below it.
pub paper_not_least :
    (paper_below? sample_chain (as_paper (growing 7)) (as_paper (forked 2 3 4)) ≡ true) ×
    (paper_below? sample_chain (as_paper (forked 2 3 4)) (as_paper (forked 2 3 4)) ≡ true) ×
    (paper_below? sample_chain (paper_merge sample_chain (as_paper (growing 7)) (as_paper (forked 2 3 4))) (as_paper (forked 2 3 4)) ≡ false)
unfolding paper_merge paper_below? on_prev prefix_of climb at up sample_chain
paper_not_least = (refl, refl, refl)
