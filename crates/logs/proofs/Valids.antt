-- Which states are valid: what the tests of the code say.
-- Assumes nothing.
use Prim.Native.Nat.{ℕ, ◌≤◌, ◌<◌}
use mathlib.Core.Path.{◌≡◌, refl, sym, ap, ◌∙◌}
use mathlib.Core.Bool.{Bool, true, false}
use mathlib.Core.Logic.{◌≢◌, inl, inr, ⊎_elim}
use mathlib.Core.List.{List}
use native.Mathlib.Omega.{arith}
use borrow.Author.Tests.{eqb-true, eqb-false, ltb-true, ltb-false}
use lib.Dec.{eqb, ltb}
use Rattle.basics.specs.Decides.{Decides}
use Rattle.basics.proofs.Decisions.{decided_yes, decided_no}
use Rattle.store.specs.declared.lent.Counts.{Counts}
use Rattle.store.specs.declared.Row.{Row}
use Rattle.store.specs.Table.{row_at}
use Rattle.chains.specs.Chain.{RowOf, Node, Evidence, ValidState, growing_valid, forked_valid, forked}
use Rattle.logs.specs.declared.Phase.TheVariants.{Growing, Forked}
use Rattle.logs.specs.declared.LogState.{LogState}
use Rattle.logs.specs.Held.{key_of, chain, Sound, IdHeld}
use Rattle.logs.specs.States.{ChildOf, ValidLog}
use Rattle.logs.specs.Refusals.{OneLog}
use Rattle.logs.proofs.Additions.{row_named, last_held, evidence_held}

module _ (rows : List ℕ) (n A x : ℕ) where
  -- None is no row,
  pub none_no_row : x ≡ 0 → (ids : List ℕ) → Decides (RowOf (chain ids rows n) A x) false
  none_no_row e ids = decided_no (λ r. omega (arith, e, r.some))

  -- And so is a number above the count.
  pub past_no_row : (place : ℕ) → place ≡ x → n < place → (ids : List ℕ) → Decides (RowOf (chain ids rows n) A x) false
  past_no_row place e h ids = decided_no (λ r. omega (arith, e, h, r.held))

  -- Any other is the author's or not.
  pub row_by_author : (place who : ℕ) (row : Row) → x ≢ 0 → place ≡ x → place ≤ n → row ≡ row_at rows place → who ≡ A
      → (ids : List ℕ) → Decides (RowOf (chain ids rows n) A x) (eqb row.author who)
  row_by_author place who row d e h f g ids =
      record {
        yes = λ t. record { some = omega (arith, d); held = omega (arith, e, h); by = sym is ∙ eqb-true row.author who t ∙ g };
        no = λ t r. eqb-false row.author who t (is ∙ r.by ∙ sym g);
      }
    where
      is : row.author ≡ (row_at rows x).author
      is = ap (λ (z : Row). z.author) (f ∙ ap (row_at rows) e)

  -- None is none or a row,
  pub none_node : x ≡ 0 → (ids : List ℕ) → Decides (Node (chain ids rows n) A x) true
  none_node e ids = decided_yes (inl e)

  -- And any other number where it is a row.
  pub row_node : x ≢ 0 → (r : Bool) → ((ids : List ℕ) → Decides (RowOf (chain ids rows n) A x) r) → (ids : List ℕ) → Decides (Node (chain ids rows n) A x) r
  row_node d r f ids = record { yes = λ t. inr ((f ids).yes t); no = λ t q. ⊎_elim d ((f ids).no t) q }

  -- What is no row is no child,
  pub no_row_no_child : (l : ℕ) (r : Bool) → ((ids : List ℕ) → Decides (RowOf (chain ids rows n) A x) r) → r ≡ false
      → (ids : List ℕ) → Decides (ChildOf (chain ids rows n) A l x) false
  no_row_no_child l r f e ids = decided_no (λ c. (f ids).no e c.row)

  -- And a row is a child by its previous row.
  pub child_by_prev : (l place from : ℕ) (row : Row) (r : Bool) → ((ids : List ℕ) → Decides (RowOf (chain ids rows n) A x) r) → r ≡ true
      → place ≡ x → row ≡ row_at rows place → from ≡ l → (ids : List ℕ) → Decides (ChildOf (chain ids rows n) A l x) (eqb row.prev from)
  child_by_prev l place from row r f e p q g ids =
      record {
        yes = λ t. record { row = (f ids).yes e; prev = sym is ∙ eqb-true row.prev from t ∙ g };
        no = λ t c. eqb-false row.prev from t (is ∙ c.prev ∙ sym g);
      }
    where
      is : row.prev ≡ (row_at rows x).prev
      is = ap (λ (z : Row). z.prev) (q ∙ ap (row_at rows) p)

module _ (rows : List ℕ) (n a b : ℕ) where
  -- A number above the count is in no log,
  pub first_past : (i : ℕ) → i ≡ a → n < i → (ids : List ℕ) → Decides (OneLog (chain ids rows n) a b) false
  first_past i e h ids = decided_no (λ o. omega (arith, e, h, o.first))

  -- Nor is the second.
  pub second_past : (j : ℕ) → j ≡ b → n < j → (ids : List ℕ) → Decides (OneLog (chain ids rows n) a b) false
  second_past j e h ids = decided_no (λ o. omega (arith, e, h, o.second))

  module _ (i j : ℕ) (e : i ≡ a) (f : j ≡ b) (h : i ≤ n) (k : j ≤ n) where
    -- None is in every log,
    pub first_none : a ≡ 0 → (ids : List ℕ) → Decides (OneLog (chain ids rows n) a b) true
    first_none z ids = decided_yes (record { first = omega (arith, e, h); second = omega (arith, f, k); own = λ p. absurd (omega (arith, z, p)) })

    -- So is the second.
    pub second_none : b ≡ 0 → (ids : List ℕ) → Decides (OneLog (chain ids rows n) a b) true
    second_none z ids = decided_yes (record { first = omega (arith, e, h); second = omega (arith, f, k); own = λ p q. absurd (omega (arith, z, q)) })

    -- And two rows are by their authors.
    pub log_by_author : a ≢ 0 → b ≢ 0 → (one other : Row) → one ≡ row_at rows i → other ≡ row_at rows j
        → (ids : List ℕ) → Decides (OneLog (chain ids rows n) a b) (eqb other.author one.author)
    log_by_author p q one other u w ids =
        record {
          yes = λ t.
              record { first = omega (arith, e, h); second = omega (arith, f, k); own = λ x y. sym second ∙ eqb-true other.author one.author t ∙ first };
          no = λ t o. eqb-false other.author one.author t (second ∙ o.own (omega (arith, p)) (omega (arith, q)) ∙ sym first);
        }
      where
        first : one.author ≡ (row_at rows a).author
        first = ap (λ (z : Row). z.author) (u ∙ ap (row_at rows) e)

        second : other.author ≡ (row_at rows b).author
        second = ap (λ (z : Row). z.author) (w ∙ ap (row_at rows) f)

module _ (ids rows : List ℕ) (n A l low high : ℕ) where
  -- Without both children there is no evidence,
  pub low_no_evidence : Decides (ChildOf (chain ids rows n) A l low) false → Decides (Evidence (chain ids rows n) A l low high) false
  low_no_evidence f = decided_no (λ e. f.no refl (record { row = e.low; prev = e.low_prev }))

  -- Nor without the higher one.
  pub high_no_evidence : Decides (ChildOf (chain ids rows n) A l high) false → Decides (Evidence (chain ids rows n) A l low high) false
  high_no_evidence f = decided_no (λ e. f.no refl (record { row = e.high; prev = e.high_prev }))

  -- With both, their ids decide.
  pub evidence_by_ids : ChildOf (chain ids rows n) A l low → ChildOf (chain ids rows n) A l high → (r : Bool) → r ≡ ltb (key_of ids low) (key_of ids high)
      → Decides (Evidence (chain ids rows n) A l low high) r
  evidence_by_ids p q r e =
      record {
        yes = λ t. record {
          low = p.row;
          high = q.row;
          low_prev = p.prev;
          high_prev = q.prev;
          sorted = ltb-true (key_of ids low) (key_of ids high)
              (sym e ∙ t);
        };
        no = λ t v. let h = ltb-false (key_of ids low) (key_of ids high) (sym e ∙ t) in omega (arith, v.sorted);
      }

  -- And both have their ids.
  pub children_named : Sound ids rows n → ChildOf (chain ids rows n) A l low → ChildOf (chain ids rows n) A l high → IdHeld ids low × IdHeld ids high
  children_named h p q = (row_named ids rows n h A low p.row, row_named ids rows n h A high q.row)

module _ (ids rows : List ℕ) (counts : Counts) (k : LogState) (h : Sound ids rows counts.rows) where
  -- The author is none, or there are fewer authors.
  pub no_author : k.author ≡ 0 → Decides (ValidLog ids rows counts k) false
  no_author e = decided_no (λ v. omega (arith, e, v.some))

  -- Nor is one above the count.
  pub past_authors : (who : ℕ) → who ≡ k.author → counts.authors < who → Decides (ValidLog ids rows counts k) false
  past_authors who e l = decided_no (λ v. omega (arith, e, l, v.exists))

  -- The last row is not the author's.
  pub no_last : (r : Bool) → ((i : List ℕ) → Decides (Node (chain i rows counts.rows) k.author k.last) r) → r ≡ false
      → Decides (ValidLog ids rows counts k) false
  no_last r f e = decided_no (λ v. (f ids).no e (last_held ids rows counts.rows h k v.state))

  -- All is well, and the phase decides: growing is valid,
  pub growing_is_valid : (who : ℕ) → k.author ≢ 0 → who ≡ k.author → who ≤ counts.authors → Node (chain ids rows counts.rows) k.author k.last
      → k.phase ≡ Growing → Decides (ValidLog ids rows counts k) true
  growing_is_valid who d e l p f =
      decided_yes (record { some = omega (arith, d); exists = omega (arith, e, l); state = rw f (growing_valid p) })

  -- And forked is valid by its evidence.
  pub forked_by_evidence : (who : ℕ) → k.author ≢ 0 → who ≡ k.author → who ≤ counts.authors → Node (chain ids rows counts.rows) k.author k.last
      → (low high : ℕ) (r : Bool) → k.phase ≡ Forked low high → Decides (Evidence (chain ids rows counts.rows) k.author k.last low high) r
      → Decides (ValidLog ids rows counts k) r
  forked_by_evidence who d e l p low high r f g =
      record {
        yes = λ t. record { some = omega (arith, d); exists = omega (arith, e, l); state = rw f (forked_valid p (g.yes t)) };
        no = λ t v. g.no t (held v);
      }
    where
      held : ValidLog ids rows counts k → Evidence (chain ids rows counts.rows) k.author k.last low high
      held v =
          let w : ValidState (chain ids rows counts.rows) k.author (forked k.last low high) = rw f at v.state in
          evidence_held ids rows counts.rows h k.author k.last low high w
