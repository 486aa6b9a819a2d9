-- One desk that meets everybody, and whom then everybody meets, carries every start to every studio.
-- Assumes nothing.
use Prim.Native.Nat.{ℕ, zero, suc, ◌≤◌}
use mathlib.Core.Path.{◌≡◌, refl, subst}
use mathlib.Core.Logic.{inl, inr, ⊎_elim}
use native.Mathlib.Omega.{arith}
use Rattle.chains.proofs.Laws.{le?}
use Rattle.meetings.specs.Meetings.{Studio, Meetings, Carried, AllCarried, Among}
use Rattle.meetings.specs.Desk.{gathered, handed_out, by_one_desk}
use Rattle.meetings.proofs.Carrying.{own_carried}

-- The desk has the start of everybody whom it has met.
gathered_carried : (n k : ℕ) → Studio n k → Carried (gathered n) k 1
unfolding gathered
gathered_carried zero k p = let l = p.0 in let h = p.1 in absurd (omega arith)
gathered_carried (suc n) k p =
    ⊎_elim (λ h. inl (gathered_carried n k (p.0, h)))
    (λ h. let l = p.1 in let e : k ≡ suc n = omega arith in inr (refl, subst (Carried (gathered n) k) e (own_carried (gathered n) k)))
    (le? k n)

-- What a studio has it keeps.
handed_keeps : (n : ℕ) (ms : Meetings) (k i : ℕ) → Carried ms k i → Carried (handed_out n ms) k i
unfolding handed_out
handed_keeps zero ms k i c = c
handed_keeps (suc n) ms k i c = inl (handed_keeps n ms k i c)

-- Whoever has met the desk has what the desk had.
handed_carried : (n : ℕ) (ms : Meetings) (k i : ℕ) → Studio n i → Carried ms k 1 → Carried (handed_out n ms) k i
unfolding handed_out
handed_carried zero ms k i p c = let l = p.0 in let h = p.1 in absurd (omega arith)
handed_carried (suc n) ms k i p c =
    ⊎_elim (λ h. inl (handed_carried n ms k i (p.0, h) c))
    (λ h. let l = p.1 in let e : i ≡ suc n = omega arith in inr (e, handed_keeps n ms k 1 c))
    (le? i n)

-- These are meetings of the studios 1 to `n`.
gathered_among : (n m : ℕ) → m ≤ n → Among n (gathered m)
unfolding gathered
gathered_among n zero h = tt
gathered_among n (suc m) h = (gathered_among n m (omega arith), ((omega arith, omega arith), (omega arith, h)))

handed_among : (n m : ℕ) (ms : Meetings) → m ≤ n → Among n ms → Among n (handed_out m ms)
unfolding handed_out
handed_among n zero ms h a = a
handed_among n (suc m) ms h a = (handed_among n m ms (omega arith) a, ((omega arith, h), (omega arith, omega arith)))

-- ONE DESK IS ENOUGH: the meetings carry every start to every studio,
pub one_desk_carries : (n : ℕ) → AllCarried n (by_one_desk n)
one_desk_carries n k i p q = handed_carried n (gathered n) k i q (gathered_carried n k p)

-- and they can be held, since they are of the studios 1 to `n`.
pub one_desk_among : (n : ℕ) → Among n (by_one_desk n)
one_desk_among n = handed_among n n (gathered n) (omega arith) (gathered_among n n (omega arith))
