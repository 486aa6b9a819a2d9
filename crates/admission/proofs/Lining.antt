-- Each refusal is given only where its line holds, and HELD only where the store has the id.
-- Assumes nothing.
use Rattle.std.specs.Prelude.{Result, Ok, Err}
use Prim.Native.Nat.{ℕ, zero, suc, ◌+◌, ◌≤◌, ◌<◌}
use mathlib.Core.Path.{◌≡◌, refl, sym, ap, ◌∙◌}
use mathlib.Core.Bool.{Bool, true, false, not}
use mathlib.Core.List.{List}
use mathlib.Core.Logic.{◌≢◌}
use native.Mathlib.Omega.{arith}
use lib.ListN.{length, get_or, replicate}
use lib.Dec.{eqb, ltb, leb}
use borrow.Author.Tests.{eqb-true, eqb-false, ltb-true, leb-true, not-true}
use Rattle.basics.specs.Pick.{pick, both, either}
use Rattle.basics.proofs.Tests.{by_pick, by_eqb, both_left, both_right, not_both_ways}
use Rattle.answers.specs.declared.Refusal.{Refusal}
use Rattle.answers.specs.declared.Refusal.TheVariants.{Store, DepOwner, Full}
use Rattle.chunks.specs.Bytes.{all_zero}
use Rattle.chunks.specs.Lookup.{place_of}
use Rattle.chunks.proofs.Finding.{place_none, place_some}
use Rattle.chunks.proofs.Sameness.{zero_decides}
use Rattle.item.specs.Id.{id_of}
use Rattle.item.specs.Layout.{layout_of, key_of, previous_of, dependency_of}
use Rattle.item.specs.declared.Fields.{Fields}
use Rattle.item.proofs.Laid.{sound_item}
use Rattle.item.proofs.Verdict.{refused_line}
use Rattle.store.specs.Table.{Table, WellFormed, author_of, index_of, has_author, one_per_author, key_at}
use Rattle.store.specs.declared.Row.{Row}
use Rattle.admission.specs.After.{answer_of, Admits, damaged, sound}
use Rattle.admission.specs.Lines.{Rule, flag, sign, index_none, index_marked, prev, owner, step, dep, own, two, no_row, no_key, no_deps, Line}
use Rattle.admission.specs.Lines.{store, rule}
use Rattle.admission.specs.Lines as lines
use Rattle.judging.specs.Message.{key_number, row_with, author_with, lacks, dep_rows}
use Rattle.admission.specs.Paper.{Has}
use Rattle.judging.specs.Verdict.{row_for, row_room, author_room, dep_room, full, crossed, step_tests, prev_tests, index_tests, chain_tests, dep_tests, then_deps}
use Rattle.judging.specs.Verdict.{then_room, judged_of, then_judged}
use Rattle.admission.specs.declared.Admitted.TheVariants.{Held, Refused}
use Rattle.judging.specs.declared.Verdict.{Verdict}
use Rattle.judging.specs.declared.Verdict.TheVariants.{Fits, Holds, Breaks}
use Rattle.admission.proofs.Accepting.{has_found, not_found, key_of_number, number_of_key, length_deps}
use Rattle.admission.proofs.Authors.{some_of, some_pair}
use Rattle.judging.proofs.Named.{each_found, named_at}
use Rattle.admission.proofs.Writing.{length_previous}

-- One of the dependencies lacks: at some place.
record Lack (ids : List ℕ) (m : ℕ) (s : List ℕ) (f : Fields) (n : ℕ) : Type 0 where
  at : ℕ
  inside : at < n
  none : place_of ids m (dependency_of f at s) ≡ 0

some_lacks : (ids : List ℕ) (m : ℕ) (s : List ℕ) (f : Fields) (n : ℕ) → lacks ids m s f n ≡ true → Lack ids m s f n
unfolding lacks
some_lacks ids m s f zero e = absurd (not_both_ways false e refl)
some_lacks ids m s f (suc n) e = by_first (λ h. some_lacks ids m s f n h) (lacks ids m s f n) refl e
  where
    by_first : (lacks ids m s f n ≡ true → Lack ids m s f n) → (b : Bool) → lacks ids m s f n ≡ b → either b
        (eqb (place_of ids m (dependency_of f n s)) 0) ≡ true → Lack ids m s f (suc n)
    by_first rest true g h = let x = rest g in record { at = x.at; inside = omega (arith, x.inside); none = x.none }
    by_first rest false g h = record { at = n; inside = omega arith; none = eqb-true _ _ h }

-- What a verdict says.
pub data Says (t : Table) (s : List ℕ) (f : Fields) : Verdict → Type 0 where
  says_fits : (row : Row) → row.deps ≡ f.count → row.author ≡ author_with t (key_of s) → Says t s f (Fits row)
  says_holds : (r : ℕ) → Has t (id_of s) r → Says t s f (Holds r)
  says_breaks : {r : Refusal} → Rule t s f r → Says t s f (Breaks r)

module _ (t : Table) (w : WellFormed t) (s : List ℕ) (f : Fields) (l : layout_of s ≡ Ok f) where
  -- The tests 10 to 12.
  prev_says : 1 < f.index → Says t s f (prev_tests t.rows (author_with t (key_of s)) f (row_with t (previous_of s)))
  unfolding prev_tests step_tests
  prev_says h =
      let p : ℕ = row_with t (previous_of s) in
      by_pick (Says t s f) (eqb p 0) _ _
      (λ e. says_breaks (prev h (not_found t w (previous_of s) (eqb-true _ _ e))))
      (λ e.
      let has = has_found t w (previous_of s) (eqb-false _ _ e) in
      by_pick (Says t s f) (not (eqb (author_of t p) (author_with t (key_of s)))) _ _
      (λ g. says_breaks (owner h p has (λ q. eqb-false _ _ (not-true _ g) (number_of_key t w p has.message (key_of s) q))))
      (λ _. by_pick (Says t s f) (not (eqb f.index (index_of t p + 1))) _ _
      (λ g. says_breaks (step h p has (eqb-false _ _ (not-true _ g))))
      (λ _. says_fits (row_for t s f p) refl refl)))

  -- The tests 9 to 12.
  index_says : Says t s f (index_tests t.ids t.rows t.counts.rows (author_with t (key_of s)) (previous_of s) f)
  unfolding index_tests
  index_says =
      by_pick (Says t s f) (eqb f.index 0) _ _
      (λ e. says_breaks (index_none (eqb-true _ _ e)))
      (λ e. by_pick (Says t s f) (eqb f.index 1) _ _
      (λ g. by_pick (Says t s f) (all_zero (previous_of s)) _ _
      (λ _. says_fits (row_for t s f 0) refl refl)
      (λ z. says_breaks (index_marked (eqb-true _ _ g)
      (λ q. (zero_decides (previous_of s)).no z (q ∙ ap (λ (n : ℕ). replicate {A = ℕ} n 0) (sym (length_previous s f l)))))))
      (λ g.
      let a : f.index ≢ 0 = eqb-false _ _ e in
      let b : f.index ≢ 1 = eqb-false _ _ g in
      prev_says (omega arith)))

  -- The tests 6 to 12.
  chain_says : Says t s f (chain_tests t s f)
  unfolding chain_tests
  chain_says =
      by_pick (Says t s f) (ltb 1 f.mark) _ _
      (λ e.
      let h : 1 < f.mark = ltb-true _ _ e in
      says_breaks (flag (λ (q : f.mark ≡ 0). omega arith) (λ (q : f.mark ≡ 1). omega arith)))
      (λ _. by_pick (Says t s f) (eqb f.mark 0) _ _
      (λ e. says_breaks (sign (eqb-true _ _ e)))
      (λ _. by_pick (Says t s f) (eqb (row_with t (id_of s)) 0) _ _
      (λ _. index_says)
      (λ e. says_holds (row_with t (id_of s)) (has_found t w (id_of s) (eqb-false _ _ e)))))

  -- The dependency at a place of the list is in the store, in the row of that place.
  dep_has : (k : ℕ) → lacks t.ids t.counts.rows s f f.count ≡ false → k < f.count → Has t (dependency_of f k s) (get_or (dep_rows t s f) k 0)
  dep_has k e h =
      rw (named_at t.ids t.counts.rows s f f.count k h)
      (has_found t w (dependency_of f k s) (each_found t.ids t.counts.rows s f f.count k e h))

  -- Dependencies that cross are of the message's own author, or two of one author.
  crossed_line : lacks t.ids t.counts.rows s f f.count ≡ false → (b : Bool) → has_author t.rows (author_with t (key_of s)) (dep_rows t s f) ≡ b
      → either b (not (one_per_author t.rows (dep_rows t s f))) ≡ true → Rule t s f DepOwner
  crossed_line e true g h =
      let n : length (dep_rows t s f) ≡ f.count = length_deps t w s f l in
      let x = some_of t.rows (author_with t (key_of s)) (dep_rows t s f) g in
      let k : x.at < f.count = omega (arith, x.inside) in
      let has = dep_has x.at e k in
      own x.at k (get_or (dep_rows t s f) x.at 0) has (key_of_number t w (get_or (dep_rows t s f) x.at 0) has.message (key_of s) x.by)
  crossed_line e false g h =
      let n : length (dep_rows t s f) ≡ f.count = length_deps t w s f l in
      let x = some_pair t.rows (dep_rows t s f) (not-true _ h) in
      let k : x.high < f.count = omega (arith, x.inside) in
      two x.low x.high x.apart k (get_or (dep_rows t s f) x.low 0) (get_or (dep_rows t s f) x.high 0)
      (dep_has x.low e (omega (arith, x.apart))) (dep_has x.high e k) (ap (key_at t) x.same)

  -- The tests 14 and 15.
  deps_says : {v : Verdict} → Says t s f v → Says t s f (then_deps t s f v)
  unfolding then_deps dep_tests
  deps_says (says_holds r h) = says_holds r h
  deps_says (says_breaks h) = says_breaks h
  deps_says (says_fits row c a) =
      by_pick (Says t s f) (lacks t.ids t.counts.rows s f f.count) _ _
      (λ e.
      let x = some_lacks t.ids t.counts.rows s f f.count e in
      says_breaks (dep x.at x.inside (not_found t w (dependency_of f x.at s) x.none)))
      (λ e. by_pick (Says t s f) (crossed t.rows row.author (dep_rows t s f)) _ _
      (λ g. says_breaks (crossed_line e (has_author t.rows (author_with t (key_of s)) (dep_rows t s f)) refl (rw a at g)))
      (λ _. says_fits row c a))

  -- A store is full for want of a row, of a place for a new author, or of dependency places.
  full_line : (b c : Bool) → leb (row_room t) t.counts.rows ≡ b
      → both (ltb t.counts.authors (author_with t (key_of s))) (leb (author_room t) t.counts.authors) ≡ c
      → either b (either c (ltb (dep_room t) (t.counts.deps + f.count))) ≡ true → Rule t s f Full
  full_line true c e g h = no_row (leb-true _ _ e)
  full_line false true e g h =
      let m : t.counts.authors < author_with t (key_of s) = ltb-true _ _ (both_left _ _ g) in
      no_key (new_key m) (leb-true _ _ (both_right (ltb t.counts.authors (author_with t (key_of s))) _ g))
    where
      new_key : t.counts.authors < author_with t (key_of s) → (a : ℕ) → a ≤ t.counts.authors → 1 ≤ a → key_at t a ≢ key_of s
      new_key =
          by_eqb (λ b. t.counts.authors < pick b (t.counts.authors + 1) (key_number t (key_of s)) → (a : ℕ) → a ≤ t.counts.authors → 1 ≤ a → key_at
          t a ≢ key_of s)
          (key_number t (key_of s)) 0
          (λ z m. place_none t.keys (key_of s) t.counts.authors z)
          (λ z m. absurd (omega (arith, (place_some t.keys (key_of s) t.counts.authors z).within)))
  full_line false false e g h = no_deps (ltb-true _ _ h)

  -- The test 16.
  room_says : {v : Verdict} → Says t s f v → Says t s f (then_room t v)
  unfolding then_room
  room_says (says_holds r h) = says_holds r h
  room_says (says_breaks h) = says_breaks h
  room_says (says_fits row c a) =
      by_pick (Says t s f) (full t row) _ _
      (λ e. says_breaks (full_line _ _ refl refl (rw (c, a) at e)))
      (λ _. says_fits row c a)

  -- What the verdict on an item with these fields says.
  pub verdict_says : Says t s f (judged_of t s f)
  verdict_says = room_says (deps_says chain_says)

  -- Where it refuses, the line of the refusal holds;
  breaks_rule : {v : Verdict} → Says t s f v → (r : Refusal) → v ≡ Breaks r → Rule t s f r
  breaks_rule (says_fits row c a) r e = let z : ◌≡◌ {A = ℕ} 0 1 = cc in absurd (omega arith)
  breaks_rule (says_holds q h) r e = let z : ◌≡◌ {A = ℕ} 0 1 = cc in absurd (omega arith)
  breaks_rule (says_breaks {r = x} h) r e = let z : x ≡ r = cc in rw z at h

  -- where it names a holding row, that row has the id.
  holds_has : {v : Verdict} → Says t s f v → (r : ℕ) → v ≡ Holds r → Has t (id_of s) r
  holds_has (says_fits row c a) r e = let z : ◌≡◌ {A = ℕ} 0 1 = cc in absurd (omega arith)
  holds_has (says_holds q h) r e = let z : q ≡ r = cc in rw z at h
  holds_has (says_breaks h) r e = let z : ◌≡◌ {A = ℕ} 0 1 = cc in absurd (omega arith)

-- The verdict behind a refusal.
refused_verdict : (t : Table) (v : Verdict) (r : Refusal) → Refused r ≡ answer_of t v → v ≡ Breaks r
refused_verdict t (Fits row) r e = let z : ◌≡◌ {A = ℕ} 0 1 = cc in absurd (omega arith)
refused_verdict t (Holds q) r e = let z : ◌≡◌ {A = ℕ} 0 1 = cc in absurd (omega arith)
refused_verdict t (Breaks x) r e = cc

-- The verdict behind HELD.
held_verdict : (t : Table) (v : Verdict) (r : ℕ) → Held r ≡ answer_of t v → v ≡ Holds r
held_verdict t (Fits row) r e = let z : ◌≡◌ {A = ℕ} 0 1 = cc in absurd (omega arith)
held_verdict t (Holds q) r e = cc
held_verdict t (Breaks x) r e = let z : ◌≡◌ {A = ℕ} 0 1 = cc in absurd (omega arith)

module _ (t : Table) (w : WellFormed t) (s : List ℕ) where
  -- The line of a refusal, by the layout.
  line_by : (l : Result Fields Refusal) → layout_of s ≡ l → (r : Refusal) → then_judged t s l ≡ Breaks r → Line t s r
  unfolding then_judged
  line_by (Ok f) g r e = rule w (sound_item s f g) (breaks_rule t w s f g (verdict_says t w s f g) r e)
  line_by (Err x) g r e = let z : x ≡ r = cc in lines.layout (refused_line s r (rw z at g))

  -- The row of HELD, by the layout.
  held_by : (l : Result Fields Refusal) → layout_of s ≡ l → (r : ℕ) → then_judged t s l ≡ Holds r → Has t (id_of s) r
  unfolding then_judged
  held_by (Ok f) g r e = holds_has t w s f g (verdict_says t w s f g) r e
  held_by (Err x) g r e = let z : ◌≡◌ {A = ℕ} 0 1 = cc in absurd (omega arith)

-- EACH REFUSAL ONLY WHERE ITS LINE HOLDS.
pub refused_only : (t : Table) (s : List ℕ) (u : Table) (r : Refusal) → Admits t s u (Refused r) → Line t s r
refused_only t s u r (damaged n e g) = let z : r ≡ Store = cc in rw z (store n)
refused_only t s u r (sound w j) = line_by t w s (layout_of s) refl r (refused_verdict t _ r j.answer)

-- HELD only with the row that has the id.
pub held_only : (t : Table) (s : List ℕ) (u : Table) (r : ℕ) → Admits t s u (Held r) → Has t (id_of s) r
held_only t s u r (damaged n e g) = let z : ◌≡◌ {A = ℕ} 0 1 = cc in absurd (omega arith)
held_only t s u r (sound w j) = held_by t w s (layout_of s) refl r (held_verdict t _ r j.answer)
