-- The steps of the tests and of the walk, one law a step, over plain values.
-- Assumes nothing.
use Prim.Native.Nat.{ℕ, zero, suc, ◌+◌, ◌-◌, ◌≤◌, ◌<◌}
use mathlib.Core.Path.{◌≡◌, refl, sym, ap, subst, ◌∙◌}
use mathlib.Core.Bool.{Bool, true, false}
use mathlib.Core.List.{List}
use mathlib.Core.Logic.{◌⊎◌, inl, inr, ⊎_elim, ◌≢◌}
use native.Mathlib.Omega.{arith}
use lib.ListN.{length, take, get_or}
use lib.Seq.{get_or-take, length-take-le}
use Rattle.std.specs.Bool.{MatchBool}
use Rattle.std.specs.List.{AllWithin, HoldsAt}
use Rattle.basics.specs.Decides.{Decides}
use Rattle.basics.proofs.Decisions.{decided_yes, decided_no}
use Rattle.store.specs.Clauses.{AllChained}
use Rattle.store.specs.Table.{row_at}
use Rattle.store.specs.declared.Row.{Row}
use Rattle.store.proofs.Links.{older}
use Rattle.chains.specs.Chain.{Store, up, AtOrBefore}
use Rattle.logs.specs.Held.{chain}
use Rattle.releases.specs.Current.{component_at, WalksTo}

-- THE TESTS

-- The number at each of the first `k` places, counted from 1, is at most `b`.
abbrev pub AtMost : List ℕ → ℕ → ℕ → Type 0
AtMost xs b k = (r : ℕ) → r ≤ k → 1 ≤ r → get_or xs (r - 1) 0 ≤ b

-- A chain that tests the first `n` numbers one by one decides it.
pub most_decides : (xs : List ℕ) (b n : ℕ) (r : Bool) → n ≤ length xs
    → MatchBool r (AllWithin (λ x. x ≤ b) (take n xs) 0 (length (take n xs))) ((k : ℕ) × (k < length (take n xs)) × HoldsAt (λ x. b < x) (take n xs) k)
    → Decides (AtMost xs b n) r
most_decides xs b n true h m =
    let l : length (take n xs) ≡ n = length-take-le n xs h in
    decided_yes (λ r i j.
    let e : get_or (take n xs) (r - 1) 0 ≡ get_or xs (r - 1) 0 = get_or-take n xs (r - 1) 0 (omega arith) in
    let p : get_or (take n xs) (r - 1) 0 ≤ b = m (r - 1) 0 (omega arith) (omega arith) in
    omega arith)
most_decides xs b n false h m =
    let l : length (take n xs) ≡ n = length-take-le n xs h in
    let k = m.0 in
    let u : k < n = omega (arith, m.1) in
    decided_no (λ p.
    let e : get_or (take n xs) k 0 ≡ get_or xs k 0 = get_or-take n xs k 0 u in
    let q : get_or xs (k + 1 - 1) 0 ≤ b = p (k + 1) (omega arith) (omega arith) in
    let w : k + 1 - 1 ≡ k = omega arith in
    let y : get_or xs k 0 ≤ b = subst (λ (x : ℕ). get_or xs x 0 ≤ b) w q in
    let z : b < get_or (take n xs) k 0 = m.2 0 in
    omega arith)

-- THE WALK

-- The previous link after some steps is those steps after the link.
up_first : (s : Store) (x n : ℕ) → up s n (s.prev x) ≡ s.prev (up s n x)
unfolding up
up_first s x zero = refl
up_first s x (suc n) = ap s.prev (up_first s x n)

-- What is at or before a row is that row, or at or before the one before it.
here_or_back : (s : Store) (q x n : ℕ) → up s n x ≡ q → (q ≡ x) ⊎ AtOrBefore s q (s.prev x)
unfolding up
here_or_back s q x zero e = inl (sym e)
here_or_back s q x (suc n) e = inr (record { steps = n; reach = up_first s x n ∙ e })

-- One step more.
one_back : (s : Store) (q x : ℕ) → AtOrBefore s q x → AtOrBefore s (s.prev q) x
unfolding up
one_back s q x h = record { steps = suc h.steps; reach = ap s.prev h.reach }

-- No step.
no_step : (s : Store) (x : ℕ) → AtOrBefore s x x
unfolding up
no_step s x = record { steps = 0; reach = refl }

-- The walk is at row `at`: it is at or before the last row, and all that carry the component are at or before it.
pub record Walked (rows cs : List ℕ) (last c at : ℕ) : Type 0 where
  pub earlier : at ≤ last
  pub back : (ids : List ℕ) (n : ℕ) → AtOrBefore (chain ids rows n) at last
  pub ahead : (ids : List ℕ) (n q : ℕ) → 1 ≤ q → AtOrBefore (chain ids rows n) q last → component_at cs q ≡ c → AtOrBefore (chain ids rows n) q at

-- Before the first step.
pub walked_first : (rows cs : List ℕ) (last c : ℕ) → Walked rows cs last c last
walked_first rows cs last c = record { earlier = omega arith; back = λ ids n. no_step (chain ids rows n) last; ahead = λ ids n q h b e. b }

-- A row that carries another component: one step more.
pub walked_more : (rows cs : List ℕ) (count last c at : ℕ) (this : Row) → AllChained rows count → last ≤ count → at ≢ 0 → Walked rows cs last c at
    → component_at cs at ≢ c → this ≡ row_at rows at → (this.prev < at) × Walked rows cs last c this.prev
walked_more rows cs count last c at this k b z w d e =
    let h : 1 ≤ at = omega (arith, z) in
    let l : at ≤ last = w.earlier in
    let p : (row_at rows at).prev ≡ this.prev = ap (λ (r : Row). r.prev) (sym e) in
    let o : (row_at rows at).prev < at = older rows at h (k at (omega arith) h) in (
      omega arith,
      record {
        earlier = omega arith;
        back = λ ids n. subst (λ (x : ℕ). AtOrBefore (chain ids rows n) x last) p (one_back (chain ids rows n) at last (w.back ids n));
        ahead = λ ids n q i j f. subst (AtOrBefore (chain ids rows n) q) p (past ids n q f (w.ahead ids n q i j f));
      },
    )
  where
    past : (ids : List ℕ) (n q : ℕ) → component_at cs q ≡ c → AtOrBefore (chain ids rows n) q at → AtOrBefore (chain ids rows n) q (row_at rows at).prev
    past ids n q f j =
        ⊎_elim (λ i. absurd (d (ap (component_at cs) (sym i) ∙ f))) (λ i. i) (here_or_back (chain ids rows n) q at j.steps j.reach)

-- A row that carries it is found,
pub walked_found : (rows cs : List ℕ) (last c at : ℕ) → Walked rows cs last c at → component_at cs at ≡ c
    → (at ≤ last) × ((ids : List ℕ) (n : ℕ) → WalksTo (chain ids rows n) cs last c at)
walked_found rows cs last c at w e = (w.earlier, λ ids n. record { back = w.back ids n; carries = λ z. e; latest = w.ahead ids n })

-- or there is none.
pub walked_none : (rows cs : List ℕ) (last c at : ℕ) → at ≡ 0 → Walked rows cs last c at
    → (0 ≤ last) × ((ids : List ℕ) (n : ℕ) → WalksTo (chain ids rows n) cs last c 0)
walked_none rows cs last c at z w = (
  omega arith,
  λ ids n.
      record {
        back = subst (λ (x : ℕ). AtOrBefore (chain ids rows n) x last) z (w.back ids n);
        carries = λ y. absurd (y refl);
        latest = λ q h b e. subst (AtOrBefore (chain ids rows n) q) z (w.ahead ids n q h b e);
      },
)
