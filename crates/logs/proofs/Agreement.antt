-- Two answers that keep a promise are equal. The ids are bytes, as a lent part's are.
-- Assumes nothing.
use Rattle.std.specs.Prelude.{Bool, Result, Ok, Err}
use Rattle.answers.specs.declared.Refusal.{Refusal}
use Prim.Native.Nat.{ℕ}
use mathlib.Core.Path.{◌≡◌, refl, sym, ap, ◌∙◌}
use mathlib.Core.Logic.{inr}
use native.Mathlib.Omega.{arith}
use Rattle.basics.proofs.Decisions.{one_decision}
use Rattle.answers.specs.Number.{number_of}
use Rattle.answers.proofs.Distinct.{one_number}
use Rattle.basics.specs.Bytes.{Bytes}
use Rattle.store.specs.Table.{Table, WellFormed}
use Rattle.chains.specs.Chain.{RowOf, growing, ValidState, growing_valid}
use Rattle.chains.proofs.Prefix.{prefix_unique}
use Rattle.chains.proofs.Ways.{leads_unique}
use Rattle.chains.proofs.Merge.{merge_unique}
use Rattle.logs.specs.declared.Phase.{Phase}
use Rattle.logs.specs.declared.Phase.TheVariants.{Growing, Forked}
use Rattle.logs.specs.declared.LogState.{LogState}
use Rattle.logs.specs.declared.Nearest.{Nearest}
use Rattle.logs.specs.Held.{chain_of}
use Rattle.logs.specs.States.{standing, state_of}
use Rattle.logs.specs.Refusals.{ValidIn, PrefixRefused, AppendRefused, PairRefused}
use Rattle.logs.specs.Calls.{PrefixDone, Prefixes, Appends, TwoStates, Merges, ComparesStates}
use Rattle.logs.proofs.Tables.{chain_valid}
use Rattle.logs.proofs.Dones.{one_log_places}
use Rattle.logs.proofs.Values.{same_nearest, same_parts}

-- A state says its last row and its phase.
standing_says : (l m : ℕ) (p q : Phase) → standing l p ≡ standing m q → (l ≡ m) × (p ≡ q)
standing_says l m Growing Growing e = (cc, refl)
standing_says l m Growing (Forked a b) e = absurd (let z : ◌≡◌ {A = ℕ} 0 1 = cc in omega arith)
standing_says l m (Forked a b) Growing e = absurd (let z : ◌≡◌ {A = ℕ} 0 1 = cc in omega arith)
standing_says l m (Forked a b) (Forked c d) e = let f : a ≡ c = cc in let g : b ≡ d = cc in (cc, ap (λ z. Forked z b) f ∙ ap (Forked c) g)

-- Log states of one author with one state are equal.
pub same_log : (k l : LogState) → k.author ≡ l.author → state_of k ≡ state_of l → k ≡ l
same_log k l a e = let s = standing_says k.last l.last k.phase l.phase e in same_parts k l a s.0 s.1

-- Each call has at most one refusal: two lines that hold have one number.
one_prefix_refusal : (t : Table) (a b m n : ℕ) → PrefixRefused t a b m → PrefixRefused t a b n → m ≡ n
one_prefix_refusal t a b m n (PrefixRefused.not_well_formed e f) (PrefixRefused.not_well_formed g h) = e ∙ sym g
one_prefix_refusal t a b m n (PrefixRefused.not_well_formed e f) (PrefixRefused.not_one_log g w h) = absurd (f w)
one_prefix_refusal t a b m n (PrefixRefused.not_one_log e w f) (PrefixRefused.not_well_formed g h) = absurd (h w)
one_prefix_refusal t a b m n (PrefixRefused.not_one_log e w f) (PrefixRefused.not_one_log g x h) = e ∙ sym g

-- Of an append.
one_append_refusal : (t : Table) (k : LogState) (x m n : ℕ) → AppendRefused t k x m → AppendRefused t k x n → m ≡ n
one_append_refusal t k x m n (AppendRefused.not_well_formed e f) (AppendRefused.not_well_formed g h) = e ∙ sym g
one_append_refusal t k x m n (AppendRefused.not_well_formed e f) (AppendRefused.not_valid g w h) = absurd (f w)
one_append_refusal t k x m n (AppendRefused.not_well_formed e f) (AppendRefused.not_a_row g w v h) = absurd (f w)
one_append_refusal t k x m n (AppendRefused.not_valid e w f) (AppendRefused.not_well_formed g h) = absurd (h w)
one_append_refusal t k x m n (AppendRefused.not_valid e w f) (AppendRefused.not_valid g y h) = e ∙ sym g
one_append_refusal t k x m n (AppendRefused.not_valid e w f) (AppendRefused.not_a_row g y v h) = absurd (f v)
one_append_refusal t k x m n (AppendRefused.not_a_row e w v f) (AppendRefused.not_well_formed g h) = absurd (h w)
one_append_refusal t k x m n (AppendRefused.not_a_row e w v f) (AppendRefused.not_valid g y h) = absurd (h v)
one_append_refusal t k x m n (AppendRefused.not_a_row e w v f) (AppendRefused.not_a_row g y u h) = e ∙ sym g

-- Of a call on two states.
one_pair_refusal : (t : Table) (k l : LogState) (m n : ℕ) → PairRefused t k l m → PairRefused t k l n → m ≡ n
one_pair_refusal t k l m n (PairRefused.not_well_formed e f) (PairRefused.not_well_formed g h) = e ∙ sym g
one_pair_refusal t k l m n (PairRefused.not_well_formed e f) (PairRefused.first_not_valid g w h) = absurd (f w)
one_pair_refusal t k l m n (PairRefused.not_well_formed e f) (PairRefused.second_not_valid g w v h) = absurd (f w)
one_pair_refusal t k l m n (PairRefused.not_well_formed e f) (PairRefused.two_authors g w v u h) = absurd (f w)
one_pair_refusal t k l m n (PairRefused.first_not_valid e w f) (PairRefused.not_well_formed g h) = absurd (h w)
one_pair_refusal t k l m n (PairRefused.first_not_valid e w f) (PairRefused.first_not_valid g y h) = e ∙ sym g
one_pair_refusal t k l m n (PairRefused.first_not_valid e w f) (PairRefused.second_not_valid g y v h) = e ∙ sym g
one_pair_refusal t k l m n (PairRefused.first_not_valid e w f) (PairRefused.two_authors g y v u h) = absurd (f v)
one_pair_refusal t k l m n (PairRefused.second_not_valid e w v f) (PairRefused.not_well_formed g h) = absurd (h w)
one_pair_refusal t k l m n (PairRefused.second_not_valid e w v f) (PairRefused.first_not_valid g y h) = e ∙ sym g
one_pair_refusal t k l m n (PairRefused.second_not_valid e w v f) (PairRefused.second_not_valid g y u h) = e ∙ sym g
one_pair_refusal t k l m n (PairRefused.second_not_valid e w v f) (PairRefused.two_authors g y u z h) = absurd (f z)
one_pair_refusal t k l m n (PairRefused.two_authors e w v u f) (PairRefused.not_well_formed g h) = absurd (h w)
one_pair_refusal t k l m n (PairRefused.two_authors e w v u f) (PairRefused.first_not_valid g y h) = absurd (h v)
one_pair_refusal t k l m n (PairRefused.two_authors e w v u f) (PairRefused.second_not_valid g y z h) = absurd (h u)
one_pair_refusal t k l m n (PairRefused.two_authors e w v u f) (PairRefused.two_authors g y z x h) = e ∙ sym g

-- What is done is not refused.
prefix_not_refused : (t : Table) (a b : ℕ) (p : Nearest) (n : ℕ) → PrefixDone t a b p → PrefixRefused t a b n → ⊥
prefix_not_refused t a b p n d (PrefixRefused.not_well_formed e f) = f d.well_formed
prefix_not_refused t a b p n d (PrefixRefused.not_one_log e w f) = f d.log

-- An append of a row of the author to a valid state is not refused.
pub append_not_refused : (t : Table) (k : LogState) (x n : ℕ) → WellFormed t → ValidIn t k → RowOf (chain_of t) k.author x → AppendRefused t k x n → ⊥
append_not_refused t k x n w v r (AppendRefused.not_well_formed e f) = f w
append_not_refused t k x n w v r (AppendRefused.not_valid e u f) = f v
append_not_refused t k x n w v r (AppendRefused.not_a_row e u z f) = f r

-- Two valid states of one author are not refused.
pub accepted_not_refused : (t : Table) (k l : LogState) (n : ℕ) → TwoStates t k l → PairRefused t k l n → ⊥
accepted_not_refused t k l n d (PairRefused.not_well_formed e f) = f d.well_formed
accepted_not_refused t k l n d (PairRefused.first_not_valid e w f) = f d.first
accepted_not_refused t k l n d (PairRefused.second_not_valid e w v f) = f d.second
accepted_not_refused t k l n d (PairRefused.two_authors e w v u f) = f d.one

module _ (t : Table) (y : Bytes t.ids) where
  -- The prefix of two rows is one row, with one child toward each.
  one_nearest : (a b : ℕ) (p q : Nearest) → PrefixDone t a b p → PrefixDone t a b q → p ≡ q
  one_nearest a b p q d e =
      let s = one_log_places (chain_of t) a b d.log in
      let v = chain_valid t d.well_formed y in
      let f : p.row ≡ q.row = prefix_unique (chain_of t) v s.author a b p.row q.row s.first d.prefix e.prefix in
      same_nearest p q f
      (leads_unique (chain_of t) v s.author p.row a p.first q.first s.first d.first (rw f e.first))
      (leads_unique (chain_of t) v s.author p.row b p.second q.second s.second d.second (rw f e.second))

  -- So the call has one answer.
  pub one_prefix : (a b : ℕ) (r q : Result Nearest Refusal) → Prefixes t a b r → Prefixes t a b q → r ≡ q
  one_prefix a b (Ok p) (Ok q) d e = ap Ok (one_nearest a b p q d e)
  one_prefix a b (Ok p) (Err q) d e = absurd (prefix_not_refused t a b p (number_of q) d e)
  one_prefix a b (Err r) (Ok q) d e = absurd (prefix_not_refused t a b q (number_of r) e d)
  one_prefix a b (Err r) (Err q) d e = ap Err (one_number r q (one_prefix_refusal t a b (number_of r) (number_of q) d e))

  -- An append has one answer.
  pub one_append : (k : LogState) (x : ℕ) (r q : Result LogState Refusal) → Appends t k x r → Appends t k x q → r ≡ q
  one_append k x (Ok m) (Ok n) d e =
      let w : ValidState (chain_of t) k.author (growing x) = growing_valid (inr d.row) in
      let f = merge_unique (chain_of t) (chain_valid t d.well_formed y) k.author (state_of k) (growing x) (state_of m) (state_of n)
      d.state.state w d.merged e.merged in
      ap Ok (same_log m n (d.author ∙ sym e.author) f)
  one_append k x (Ok m) (Err q) d e = absurd (append_not_refused t k x (number_of q) d.well_formed d.state d.row e)
  one_append k x (Err r) (Ok n) d e = absurd (append_not_refused t k x (number_of r) e.well_formed e.state e.row d)
  one_append k x (Err r) (Err q) d e = ap Err (one_number r q (one_append_refusal t k x (number_of r) (number_of q) d e))

  -- A merge has one answer.
  pub one_merge : (k l : LogState) (r q : Result LogState Refusal) → Merges t k l r → Merges t k l q → r ≡ q
  one_merge k l (Ok m) (Ok n) d e =
      let a = d.accepted in
      let w : ValidState (chain_of t) k.author (state_of l) = rw a.one a.second.state in
      let f = merge_unique (chain_of t) (chain_valid t a.well_formed y) k.author (state_of k) (state_of l) (state_of m) (state_of n)
      a.first.state w d.merged e.merged in
      ap Ok (same_log m n (d.author ∙ sym e.author) f)
  one_merge k l (Ok m) (Err q) d e = absurd (accepted_not_refused t k l (number_of q) d.accepted e)
  one_merge k l (Err r) (Ok n) d e = absurd (accepted_not_refused t k l (number_of r) e.accepted d)
  one_merge k l (Err r) (Err q) d e = ap Err (one_number r q (one_pair_refusal t k l (number_of r) (number_of q) d e))

  -- The order of two states has one answer.
  pub one_order : (k l : LogState) (r q : Result Bool Refusal) → ComparesStates t k l r → ComparesStates t k l q → r ≡ q
  one_order k l (Ok b) (Ok c) d e = ap Ok (one_decision b c d.order e.order)
  one_order k l (Ok b) (Err q) d e = absurd (accepted_not_refused t k l (number_of q) d.accepted e)
  one_order k l (Err r) (Ok c) d e = absurd (accepted_not_refused t k l (number_of r) e.accepted d)
  one_order k l (Err r) (Err q) d e = ap Err (one_number r q (one_pair_refusal t k l (number_of r) (number_of q) d e))
