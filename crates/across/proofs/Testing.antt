-- Whether two stores agree on ids, computed.
-- Assumes nothing.
use Prim.Native.Nat.{ℕ}
use mathlib.Core.Path.{◌≡◌, refl, ap}
use mathlib.Core.Bool.{Bool, true, false, not}
use mathlib.Core.List.{List}
use mathlib.Core.Option.{Option, none, some}
use borrow.Author.Tests.{eqb-true}
use lib.Dec.{eqb}
use Rattle.basics.specs.Pick.{both, either}
use Rattle.basics.proofs.Tests.{both_left, both_right, not_both_ways}
use Rattle.chunks.specs.Bytes.{same_bytes}
use Rattle.chunks.proofs.Sameness.{same_equal, same_refl}
use Rattle.store.specs.Table.{Table, author_of, prev_of, index_of, id_at, key_at}
use Rattle.store.specs.Paper.{Message}
use Rattle.logs.proofs.Example.{up_to, passes}
use Rattle.standing.specs.Standing.{id_of}
use Rattle.across.specs.Stores.{AgreeOnIds}

-- Two ids, or absences, are the same.
abbrev same_id : Option (List ℕ) → Option (List ℕ) → Bool
same_id none none = true
same_id none (some y) = false
same_id (some x) none = false
same_id (some x) (some y) = same_bytes x y

same_id_lem : (x y : Option (List ℕ)) → same_id x y ≡ true → x ≡ y
same_id_lem none none e = refl
same_id_lem none (some y) e = absurd (not_both_ways false e refl)
same_id_lem (some x) none e = absurd (not_both_ways false e refl)
same_id_lem (some x) (some y) e = ap some (same_equal x y e)

module _ (t u : Table) where
  -- Row `x` of the one store and row `y` of the other have one author key,
  abbrev same_key : ℕ → ℕ → Bool
  same_key x y = same_bytes (key_at t (author_of t x)) (key_at u (author_of u y))

  -- one index,
  abbrev same_index : ℕ → ℕ → Bool
  same_index x y = eqb (index_of t x) (index_of u y)

  -- and one previous id,
  abbrev same_previous : ℕ → ℕ → Bool
  same_previous x y = same_id (id_of t (prev_of t x)) (id_of u (prev_of u y))

  -- or not one id.
  unfoldable pub agreed : ℕ → ℕ → Bool
  agreed x y = either (not (same_bytes (id_at t x) (id_at u y))) (both (same_key x y) (both (same_index x y) (same_previous x y)))

  -- Rows with one id that pass have all three.
  agreed_named : (x y : ℕ) → agreed x y ≡ true → id_at t x ≡ id_at u y → both (same_key x y) (both (same_index x y) (same_previous x y)) ≡ true
  unfolding agreed
  agreed_named x y h e = let f : same_bytes (id_at t x) (id_at u y) ≡ true = rw e (same_refl (id_at u y)) in rw f at h

  -- Where all pairs pass, the stores agree on ids.
  pub agree_tested : up_to t.counts.rows (λ x. up_to u.counts.rows (agreed x)) ≡ true → AgreeOnIds t u
  agree_tested h =
      record {
        key = λ x y m n e. same_equal (key_at t (author_of t x)) (key_at u (author_of u y)) (both_left (same_key x y) (rest x y) (pair x y m n e));
        index = λ x y m n e.
            eqb-true (index_of t x) (index_of u y) (both_left (same_index x y) (same_previous x y) (both_right (same_key x y) (rest x y) (pair x y m n e)));
        previous = λ x y m n e.
            same_id_lem (id_of t (prev_of t x)) (id_of u (prev_of u y))
            (both_right (same_index x y) (same_previous x y) (both_right (same_key x y) (rest x y) (pair x y m n e)));
      }
    where
      rest : ℕ → ℕ → Bool
      rest x y = both (same_index x y) (same_previous x y)

      pair : (x y : ℕ) → Message t x → Message u y → id_at t x ≡ id_at u y → both (same_key x y) (rest x y) ≡ true
      pair x y m n e =
          let p = passes (λ z. up_to u.counts.rows (agreed z)) t.counts.rows h x m.held m.some in
          agreed_named x y (passes (agreed x) u.counts.rows p y n.held n.some) e
