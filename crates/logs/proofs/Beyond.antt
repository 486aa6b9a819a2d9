-- "Entries beyond the counts are never read": over two tables that agree within the counts, however long their parts are, each call
-- on states keeps its promise with the same answers, so its answer is the same. The ids are bytes, as a lent part's are.
-- Assumes nothing.
use Rattle.std.specs.Prelude.{Bool, Result, Ok, Err}
use Rattle.answers.specs.declared.Refusal.{Refusal}
use Rattle.logs.specs.declared.Nearest.{Nearest}
use Prim.Native.Nat.{ℕ, ◌≤◌}
use mathlib.Core.Path.{◌≡◌, sym, ap}
use mathlib.Core.Logic.{◌↔◌}
use native.Mathlib.Omega.{arith}
use Rattle.answers.specs.Number.{number_of}
use Rattle.basics.specs.Bytes.{Bytes}
use Rattle.chunks.specs.Bytes.{id_num}
use Rattle.store.specs.declared.lent.Counts.{Counts}
use Rattle.store.specs.declared.Row.{Row}
use Rattle.store.specs.Table.{Table, WellFormed}
use Rattle.store.specs.Agree.{SameWithin, Agree}
use Rattle.store.proofs.Agreeing.{agree_rows, agree_ids, well_formed_together, agree_back}
use Rattle.chains.specs.Merging.{Extends}
use Rattle.logs.specs.declared.LogState.{LogState}
use Rattle.logs.specs.Held.{chain_of}
use Rattle.logs.specs.Later.{Later}
use Rattle.logs.specs.Refusals.{ValidIn, PrefixRefused, AppendRefused, PairRefused}
use Rattle.logs.specs.Calls.{Prefixes, Appends, Merges, ComparesStates}
use Rattle.logs.proofs.Stays.{row_stays, state_stays, log_stays, prefix_stays, append_stays, merge_stays, order_stays}
use Rattle.logs.proofs.Agreement.{one_prefix, one_append, one_merge, one_order}

-- A table that has the rows of a well_formed one as they were, and perhaps later ones, has its chains, and perhaps later rows.
pub within_extends : (t u : Table) → WellFormed t → SameWithin t u t.counts.rows t.counts.authors t.counts.deps
    → t.counts.rows ≤ u.counts.rows → Extends (chain_of t) (chain_of u)
within_extends t u w s h =
    record {
      more = h;
      author = λ x k. ap (λ (r : Row). r.author) (sym (agree_rows t u w s x k));
      prev = λ x k. ap (λ (r : Row). r.prev) (sym (agree_rows t u w s x k));
      index = λ x k. ap (λ (r : Row). r.index) (sym (agree_rows t u w s x k));
      key = λ x k. ap id_num (sym (agree_ids t u w s x k));
    }

-- Of two tables that agree within the counts each is the other, no message later.
pub agree_later : (t u : Table) → Agree t u → Bytes t.ids → Bytes u.ids → WellFormed t → Later t u
agree_later t u g y z w =
    let m : t.counts.rows ≡ u.counts.rows = ap (λ (c : Counts). c.rows) g.same_counts in
    let p : t.counts.authors ≡ u.counts.authors = ap (λ (c : Counts). c.authors) g.same_counts in
    record {
      before = w;
      after = well_formed_together t u g w;
      first_ids = y;
      second_ids = z;
      extends = within_extends t u w g.within (omega arith);
      authors = omega arith;
    }

-- What a call promises over a table, it promises over the other.
module _ (t u : Table) (g : Agree t u) (y : Bytes t.ids) (z : Bytes u.ids) where
  back : Agree u t
  back = agree_back t u g

  -- The one table after the other.
  ahead : WellFormed t → Later t u
  ahead w = agree_later t u g y z w

  behind : WellFormed u → Later u t
  behind w = agree_later u t back z y w

  -- What is not well formed is not well formed there.
  unformed : (WellFormed t → ⊥) → WellFormed u → ⊥
  unformed f w = f (well_formed_together u t back w)

  -- What is no valid state is none there.
  no_state_lem : WellFormed t → (k : LogState) → (ValidIn t k → ⊥) → ValidIn u k → ⊥
  no_state_lem w k f v = f (state_stays u t (behind (well_formed_together t u g w)) k v)

  prefixes_there : (a b : ℕ) (r : Result Nearest Refusal) → Prefixes t a b r → Prefixes u a b r
  prefixes_there a b (Ok p) d = prefix_stays t u (ahead d.well_formed) a b p d
  prefixes_there a b (Err r) (PrefixRefused.not_well_formed e f) = PrefixRefused.not_well_formed e (unformed f)
  prefixes_there a b (Err r) (PrefixRefused.not_one_log e w f) =
      let x = well_formed_together t u g w in
      PrefixRefused.not_one_log e x (λ o. f (log_stays u t (behind x) a b o))

  appends_there : (k : LogState) (x : ℕ) (r : Result LogState Refusal) → Appends t k x r → Appends u k x r
  appends_there k x (Ok m) d = append_stays t u (ahead d.well_formed) k x m d
  appends_there k x (Err r) (AppendRefused.not_well_formed e f) = AppendRefused.not_well_formed e (unformed f)
  appends_there k x (Err r) (AppendRefused.not_valid e w f) = AppendRefused.not_valid e (well_formed_together t u g w) (no_state_lem w k f)
  appends_there k x (Err r) (AppendRefused.not_a_row e w v f) =
      let o = well_formed_together t u g w in
      AppendRefused.not_a_row e o (state_stays t u (ahead w) k v) (λ h. f (row_stays u t (behind o) k.author x h))

  -- A refusal of a call on two states.
  pair_there : (k l : LogState) (n : ℕ) → PairRefused t k l n → PairRefused u k l n
  pair_there k l n (PairRefused.not_well_formed e f) = PairRefused.not_well_formed e (unformed f)
  pair_there k l n (PairRefused.first_not_valid e w f) = PairRefused.first_not_valid e (well_formed_together t u g w) (no_state_lem w k f)
  pair_there k l n (PairRefused.second_not_valid e w v f) =
      PairRefused.second_not_valid e (well_formed_together t u g w) (state_stays t u (ahead w) k v) (no_state_lem w l f)
  pair_there k l n (PairRefused.two_authors e w v o f) =
      PairRefused.two_authors e (well_formed_together t u g w) (state_stays t u (ahead w) k v) (state_stays t u (ahead w) l o) f

  merges_there : (k l : LogState) (r : Result LogState Refusal) → Merges t k l r → Merges u k l r
  merges_there k l (Ok m) d = merge_stays t u (ahead d.accepted.well_formed) k l m d
  merges_there k l (Err r) p = pair_there k l (number_of r) p

  compares_there : (k l : LogState) (r : Result Bool Refusal) → ComparesStates t k l r → ComparesStates u k l r
  compares_there k l (Ok b) d = order_stays t u (ahead d.accepted.well_formed) k l b d
  compares_there k l (Err r) p = pair_there k l (number_of r) p

-- Over tables that agree within the counts a call promises the same, and so answers the same.
module _ (t u : Table) (g : Agree t u) (y : Bytes t.ids) (z : Bytes u.ids) where
  pub prefix_beyond : (a b : ℕ) (r : Result Nearest Refusal) → Prefixes t a b r ↔ Prefixes u a b r
  prefix_beyond a b r = (prefixes_there t u g y z a b r, prefixes_there u t (agree_back t u g) z y a b r)

  pub append_beyond : (k : LogState) (x : ℕ) (r : Result LogState Refusal) → Appends t k x r ↔ Appends u k x r
  append_beyond k x r = (appends_there t u g y z k x r, appends_there u t (agree_back t u g) z y k x r)

  pub merge_beyond : (k l : LogState) (r : Result LogState Refusal) → Merges t k l r ↔ Merges u k l r
  merge_beyond k l r = (merges_there t u g y z k l r, merges_there u t (agree_back t u g) z y k l r)

  pub order_beyond : (k l : LogState) (r : Result Bool Refusal) → ComparesStates t k l r ↔ ComparesStates u k l r
  order_beyond k l r = (compares_there t u g y z k l r, compares_there u t (agree_back t u g) z y k l r)

  pub same_prefix : (a b : ℕ) (r q : Result Nearest Refusal) → Prefixes t a b r → Prefixes u a b q → r ≡ q
  same_prefix a b r q p = one_prefix u z a b r q ((prefix_beyond a b r).0 p)

  pub same_append : (k : LogState) (x : ℕ) (r q : Result LogState Refusal) → Appends t k x r → Appends u k x q → r ≡ q
  same_append k x r q p = one_append u z k x r q ((append_beyond k x r).0 p)

  pub same_merge : (k l : LogState) (r q : Result LogState Refusal) → Merges t k l r → Merges u k l q → r ≡ q
  same_merge k l r q p = one_merge u z k l r q ((merge_beyond k l r).0 p)

  pub same_order : (k l : LogState) (r q : Result Bool Refusal) → ComparesStates t k l r → ComparesStates u k l q → r ≡ q
  same_order k l r q p = one_order u z k l r q ((order_beyond k l r).0 p)
