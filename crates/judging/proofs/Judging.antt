-- The ends of the tests 6 to 16, one law an end, over plain values.
-- Assumes nothing.
use Prim.Native.Nat.{ℕ, ◌+◌, ◌-◌, ◌≤◌, ◌<◌}
use mathlib.Core.Path.{◌≡◌, sym, ap, ◌∙◌}
use mathlib.Core.Bool.{Bool, true, false}
use mathlib.Core.List.{List}
use mathlib.Core.Logic.{◌≢◌}
use native.Mathlib.Omega.{arith}
use lib.ListN.{take}
use lib.Dec.{eqb}
use borrow.Author.Tests.{eq-eqb, ne_eqb, lt-ltb, le-ltb}
use Rattle.basics.specs.Pick.{pick}
use Rattle.answers.specs.declared.Refusal.{Refusal}
use Rattle.answers.specs.declared.Refusal.TheVariants.{Flag, Sign, Index, Prev, Owner, Step, Dep, DepOwner, Full}
use Rattle.chunks.specs.Bytes.{all_zero}
use Rattle.chunks.specs.Lookup.{place_of}
use Rattle.item.specs.Id.{id_of}
use Rattle.item.specs.Layout.{key_of, previous_of}
use Rattle.item.specs.declared.Fields.{Fields}
use Rattle.store.specs.Table.{Table, row_at}
use Rattle.store.specs.declared.Row.{Row}
use Rattle.judging.specs.Message.{row_with, author_with, named}
use Rattle.judging.specs.Named.{Names}
use Rattle.judging.proofs.Named.{names_rows}
use Rattle.std.specs.Prelude.{Result, Ok, Err}
use Rattle.judging.specs.Verdict.{row_by, full, crossed, dep_tests, step_tests, prev_tests, index_tests, chain_tests, then_deps, then_room}
use Rattle.judging.specs.declared.Verdict.{Verdict}
use Rattle.judging.specs.declared.Verdict.TheVariants.{Fits, Holds, Breaks}

module _ (prev : Row) (a : ℕ) (f : Fields) (p : ℕ) where
  -- The previous row has another author.
  pub step_owner : prev.author ≢ a → Breaks Owner ≡ step_tests prev a f p
  unfolding step_tests
  step_owner h = simp (ne_eqb _ _ h)

  -- The index is not one more.
  pub step_step : prev.author ≡ a → 1 < f.index → prev.index ≢ f.index - 1 → Breaks Step ≡ step_tests prev a f p
  unfolding step_tests
  step_step h k m =
      let e : eqb f.index (prev.index + 1) ≡ false = ne_eqb _ _ (λ (q : f.index ≡ prev.index + 1). m (omega arith)) in
      simp (eq-eqb _ _ h, e)

  -- The index is one more.
  one_more : 1 < f.index → prev.index ≡ f.index - 1 → eqb f.index (prev.index + 1) ≡ true
  one_more k m = eq-eqb f.index (prev.index + 1) (omega arith)

  -- The message follows.
  pub step_fits : prev.author ≡ a → 1 < f.index → prev.index ≡ f.index - 1 → Fits (row_by a f p) ≡ step_tests prev a f p
  unfolding step_tests
  step_fits h k m = simp (eq-eqb _ _ h, one_more k m)

module _ (rows : List ℕ) (a : ℕ) (f : Fields) where
  -- The previous id is not in the store.
  pub prev_none : (q : ℕ) → q ≡ 0 → Breaks Prev ≡ prev_tests rows a f q
  unfolding prev_tests
  prev_none q e = simp e

  -- The previous id has a row: the tests on that row decide.
  pub prev_some : (q p : ℕ) (row : Row) (v : Verdict) → q ≡ p → p ≢ 0 → row ≡ row_at rows p → v ≡ step_tests row a f p → v ≡ prev_tests rows a f q
  unfolding prev_tests
  prev_some q p row v e z g h = h ∙ rw (g, e, ne_eqb p 0 z)

module _ (ids rows : List ℕ) (n a : ℕ) (x : List ℕ) (f : Fields) where
  -- The index is 0.
  pub index_none : f.index ≡ 0 → Breaks Index ≡ index_tests ids rows n a x f
  unfolding index_tests
  index_none e = simp e

  -- The index is above 1: the tests on the previous id decide.
  pub index_above : (v : Verdict) → 1 < f.index → v ≡ prev_tests rows a f (place_of ids n x) → v ≡ index_tests ids rows n a x f
  unfolding index_tests
  index_above v h e =
      let e0 : eqb f.index 0 ≡ false = ne_eqb _ _ (λ (q : f.index ≡ 0). omega arith) in
      let e1 : eqb f.index 1 ≡ false = ne_eqb _ _ (λ (q : f.index ≡ 1). omega arith) in
      e ∙ simp (e0, e1)

  -- The index is 1, and the previous field is zero,
  pub index_first : f.index ≢ 0 → f.index ≤ 1 → (b : Bool) → b ≡ all_zero x → b ≡ true → Fits (row_by a f 0) ≡ index_tests ids rows n a x f
  unfolding index_tests
  index_first h k b e g = let i : f.index ≡ 1 = omega arith in simp (i, sym e ∙ g)

  -- or is not.
  pub index_marked : f.index ≢ 0 → f.index ≤ 1 → (b : Bool) → b ≡ all_zero x → b ≡ false → Breaks Index ≡ index_tests ids rows n a x f
  unfolding index_tests
  index_marked h k b e g = let i : f.index ≡ 1 = omega arith in simp (i, sym e ∙ g)

module _ (t : Table) (s : List ℕ) (f : Fields) where
  -- The mark is neither 0 nor 1.
  pub chain_flag : 1 < f.mark → Breaks Flag ≡ chain_tests t s f
  unfolding chain_tests
  chain_flag h = simp (lt-ltb _ _ h)

  -- The mark is 0.
  pub chain_sign : f.mark ≤ 1 → f.mark ≡ 0 → Breaks Sign ≡ chain_tests t s f
  unfolding chain_tests
  chain_sign h e = simp (le-ltb _ _ h, eq-eqb _ _ e)

  -- The id is held.
  pub chain_held : f.mark ≤ 1 → f.mark ≢ 0 → (r : ℕ) → row_with t (id_of s) ≡ r → r ≢ 0 → Holds r ≡ chain_tests t s f
  unfolding chain_tests
  chain_held h k r e z = rw (le-ltb _ _ h, ne_eqb _ _ k, e, ne_eqb r 0 z)

  -- The id is new: the tests from 9 on decide.
  pub chain_new : f.mark ≤ 1 → f.mark ≢ 0 → row_with t (id_of s) ≡ 0 → (v : Verdict)
      → v ≡ index_tests t.ids t.rows t.counts.rows (author_with t (key_of s)) (previous_of s) f → v ≡ chain_tests t s f
  unfolding chain_tests
  chain_new h k e v g = g ∙ rw (le-ltb _ _ h, ne_eqb _ _ k, e)

module _ (ids rows : List ℕ) (n : ℕ) (s : List ℕ) (f : Fields) (row : Row) (r : Result (List ℕ) (List ℕ)) (h : Names ids n s f r) where
  -- A dependency is not in the store.
  pub deps_lack : (ds : List ℕ) → r ≡ Err ds → Breaks Dep ≡ dep_tests ids rows n s f row
  unfolding dep_tests
  deps_lack ds e = rw (h.missing ds e)

  -- All are: their rows' authors decide.
  pub deps_held : (ds : List ℕ) → r ≡ Ok ds → (b d : Bool) → b ≡ crossed rows row.author (take f.count ds) → b ≡ d
      → pick d (Breaks DepOwner) (Fits row) ≡ dep_tests ids rows n s f row
  unfolding dep_tests
  deps_held ds e b d g q =
      let c : crossed rows row.author (named ids n s f f.count) ≡ d = ap (crossed rows row.author) (sym (names_rows ids n s f r h ds e)) ∙ sym g ∙ q in
      rw (h.held ds e, c)

module _ (t : Table) (s : List ℕ) (f : Fields) where
  -- The tests 14 and 15 decide on a row that 6 to 12 give; else the verdict stands.
  pub rules_fits : (v : Verdict) (row : Row) → v ≡ Fits row → (w : Verdict) → w ≡ dep_tests t.ids t.rows t.counts.rows s f row → w ≡ then_deps t s f v
  unfolding then_deps
  rules_fits v row e w g = g ∙ rw e

  pub rules_holds : (v : Verdict) (r : ℕ) → v ≡ Holds r → Holds r ≡ then_deps t s f v
  unfolding then_deps
  rules_holds v r e = rw e

  pub rules_breaks : (v : Verdict) (r : Refusal) → v ≡ Breaks r → Breaks r ≡ then_deps t s f v
  unfolding then_deps
  rules_breaks v r e = rw e

  -- The test 16 decides on a row that 6 to 15 give; else the verdict stands.
  pub room_none : (v : Verdict) (row : Row) → v ≡ Fits row → (b : Bool) → b ≡ full t row → b ≡ true → Breaks Full ≡ then_room t v
  unfolding then_room
  room_none v row e b g h = rw (e, sym g ∙ h)

  pub room_some : (v : Verdict) (row : Row) → v ≡ Fits row → (b : Bool) → b ≡ full t row → b ≡ false → Fits row ≡ then_room t v
  unfolding then_room
  room_some v row e b g h = rw (e, sym g ∙ h)

  pub room_holds : (v : Verdict) (r : ℕ) → v ≡ Holds r → Holds r ≡ then_room t v
  unfolding then_room
  room_holds v r e = rw e

  pub room_breaks : (v : Verdict) (r : Refusal) → v ≡ Breaks r → Breaks r ≡ then_room t v
  unfolding then_room
  room_breaks v r e = rw e
