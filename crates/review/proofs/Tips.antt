-- Tips and the rows that they run through: one child only, and a tip above each row.
-- Assumes nothing.
use Prim.Native.Nat.{ℕ, zero, suc, ◌+◌, ◌≤◌, ◌<◌}
use mathlib.Core.Path.{◌≡◌, refl, sym, ap, subst, ◌∙◌}
use mathlib.Core.Bool.{Bool}
use mathlib.Core.List.{List}
use mathlib.Core.Logic.{◌⊎◌, inl, inr, ⊎_elim, ◌≢◌}
use native.Mathlib.Omega.{arith}
use Rattle.basics.specs.Pick.{pick}
use Rattle.basics.proofs.Tests.{by_eqb}
use Rattle.store.specs.Clauses.{AllChained}
use Rattle.store.specs.Table.{row_at, successors_in}
use Rattle.store.proofs.Links.{older, own}
use Rattle.review.specs.Review.{RunsThrough, Branch}
use Rattle.review.proofs.Kids.{counted_none}

-- Of two rows that one row runs through, one runs through the other.
through_both : (rows : List ℕ) (c d x : ℕ) → RunsThrough rows c x → RunsThrough rows d x → RunsThrough rows c d ⊎ RunsThrough rows d c
through_both rows c d x RunsThrough.here q = inr q
through_both rows c d x (RunsThrough.back y h p) RunsThrough.here = inl (RunsThrough.back y h p)
through_both rows c d x (RunsThrough.back y h p) (RunsThrough.back z k q) = through_both rows c d (row_at rows x).prev p q

module _ (rows : List ℕ) (n : ℕ) (chained : AllChained rows n) where
  -- A row runs through none that is later.
  pub through_earlier : (c x : ℕ) → x ≤ n → RunsThrough rows c x → c ≤ x
  through_earlier c x h RunsThrough.here = omega arith
  through_earlier c x h (RunsThrough.back y k p) =
      let o : (row_at rows x).prev < x = older rows x k (chained x h k) in
      let e : c ≤ (row_at rows x).prev = through_earlier c (row_at rows x).prev (omega arith) p in
      omega arith

  -- A child of `last` runs through no other one.
  child_alone : (last c d : ℕ) → 1 ≤ c → c ≤ n → d ≤ n → (row_at rows c).prev ≡ last → (row_at rows d).prev ≡ last → RunsThrough rows c d → c ≡ d
  child_alone last c d h k l e f RunsThrough.here = refl
  child_alone last c d h k l e f (RunsThrough.back y m p) =
      let o : (row_at rows c).prev < c = older rows c h (chained c k h) in
      let o' : (row_at rows d).prev < d = older rows d m (chained d l m) in
      let g : c ≤ (row_at rows d).prev = through_earlier c (row_at rows d).prev (omega arith) p in
      absurd (omega arith)

  -- A tip runs through one child of `last`.
  pub one_child : (a last tip c d : ℕ) → Branch rows n a last tip c → Branch rows n a last tip d → c ≡ d
  one_child a last tip c d b e =
      let h = b.held in
      let k = through_earlier c tip h b.through in
      let l = through_earlier d tip h e.through in
      ⊎_elim
      (λ p. child_alone last c d b.child_some (omega arith) (omega arith) b.child_of_last e.child_of_last p)
      (λ p. sym (child_alone last d c e.child_some (omega arith) (omega arith) e.child_of_last b.child_of_last p))
      (through_both rows c d tip b.through e.through)

  -- A row that follows another.
  record Follower (m x : ℕ) : Type 0 where
    row : ℕ
    some : 1 ≤ row
    held : row ≤ m
    prev : (row_at rows row).prev ≡ x

  -- A row with successors has one that follows it.
  follower : (m x : ℕ) → successors_in rows m x ≢ 0 → Follower m x
  unfolding successors_in
  follower zero x d = absurd (d refl)
  follower (suc m) x d =
      by_eqb (λ (b : Bool). successors_in rows m x + pick b 1 0 ≢ 0 → Follower (suc m) x) (row_at rows (suc m)).prev x
      (λ e g. record { row = suc m; some = omega arith; held = omega arith; prev = e })
      (λ e g.
      let f = follower m x (λ z. g (omega (arith, z))) in
      record { row = f.row; some = f.some; held = (let h = f.held in omega arith); prev = f.prev }) d

  -- A tip above a row, of its author.
  pub record TipAbove (x : ℕ) : Type 0 where
    pub tip : ℕ
    pub some : 1 ≤ tip
    pub held : tip ≤ n
    pub author : (row_at rows tip).author ≡ (row_at rows x).author
    pub unfollowed : (r : ℕ) → r ≤ n → 1 ≤ r → (row_at rows r).prev ≢ tip
    pub through : RunsThrough rows x tip

  -- One row further from what the tip runs through.
  through_then : (x y tip : ℕ) → 1 ≤ y → (row_at rows y).prev ≡ x → RunsThrough rows y tip → RunsThrough rows x tip
  through_then x y tip h e RunsThrough.here = RunsThrough.back y h (subst (λ (z : ℕ). RunsThrough rows x z) (sym e) RunsThrough.here)
  through_then x y tip h e (RunsThrough.back z k p) = RunsThrough.back tip k (through_then x y (row_at rows tip).prev h e p)

  -- A row that follows another is later, and of its author.
  follows_later : (x : ℕ) → 1 ≤ x → (f : Follower n x) → (x < f.row) × ((row_at rows f.row).author ≡ (row_at rows x).author)
  follows_later x h f =
      let c = chained f.row f.held f.some in
      let o : (row_at rows f.row).prev < f.row = older rows f.row f.some c in
      let e : (row_at rows f.row).prev ≡ x = f.prev in (
        omega arith,
        ⊎_elim (λ z. absurd (omega (arith, z, e))) (λ g. sym g ∙ ap (λ (y : ℕ). (row_at rows y).author) e) (own rows f.row c),
      )

  -- A row that none follows is a tip itself.
  tip_itself : (x : ℕ) → 1 ≤ x → x ≤ n → successors_in rows n x ≡ 0 → TipAbove x
  tip_itself x h k e = record { tip = x; some = h; held = k; author = refl; unfollowed = counted_none rows x n e; through = RunsThrough.here }

  -- There is one above each row, within so many rows,
  tip_within : (left x : ℕ) → 1 ≤ x → x ≤ n → n ≤ x + left → TipAbove x
  tip_within zero x h k l =
      by_eqb (λ (b : Bool). TipAbove x) (successors_in rows n x) 0 (tip_itself x h k)
      (λ e. let f = follower n x e in absurd (omega (arith, (follows_later x h f).0, f.held)))
  tip_within (suc left) x h k l =
      by_eqb (λ (b : Bool). TipAbove x) (successors_in rows n x) 0 (tip_itself x h k)
      (λ e.
      let f = follower n x e in
      let g = follows_later x h f in
      let u = tip_within left f.row f.some f.held (omega (arith, g.0)) in
      record {
        tip = u.tip;
        some = u.some;
        held = u.held;
        author = u.author ∙ g.1;
        unfollowed = u.unfollowed;
        through = through_then x f.row u.tip f.some f.prev u.through;
      })

  -- so there is one.
  pub tip_above : (x : ℕ) → 1 ≤ x → x ≤ n → TipAbove x
  tip_above x h k = tip_within n x h k (omega arith)

  -- Above a child of `last` it is the tip of a branch.
  pub child_branch : (a last x : ℕ) → 1 ≤ x → x ≤ n → (row_at rows x).author ≡ a → (row_at rows x).prev ≡ last → (u : TipAbove x) → Branch rows n a last u.tip x
  child_branch a last x h k e f u =
      record {
        some = u.some;
        held = u.held;
        author = u.author ∙ e;
        unfollowed = u.unfollowed;
        child_some = h;
        child_of_last = f;
        through = u.through;
      }
