-- The packing list: it is unique, it is closed, and so is the answer of the call.
-- Assumes nothing.
use Rattle.std.specs.Prelude.{Result, Ok, Err}
use Rattle.answers.specs.declared.Refusal.{Refusal}
use Prim.Native.Nat.{ℕ, ◌≤◌}
use mathlib.Core.Path.{◌≡◌, refl, sym, ap, ◌∙◌}
use mathlib.Core.List.{List, ◌++◌, Memᴰ}
use native.Mathlib.Omega.{arith}
use lib.ListN.{length, take, drop, take-append-drop}
use lib.Seq.{length-take-le}
use Rattle.answers.proofs.Distinct.{one_number, not_done}
use Rattle.answers.specs.Answers.{written_number, written_count}
use Rattle.packing.specs.Before.{Step, HappenedBefore, one}
use Rattle.packing.specs.Packing.{Packs, PackingList, Wrote, TooShort, Writes, packed, too_short}
use Rattle.packing.proofs.Roots.{state_back}
use Rattle.packing.proofs.Rising.{rising_unique}

module _ {rows deps frontier : List ℕ} where
  -- There is one packing list.
  pub list_unique : {l k : List ℕ} → PackingList rows deps frontier l → PackingList rows deps frontier k → l ≡ k
  list_unique {l} {k} p q = rising_unique l k p.rising q.rising (λ x m. q.all x (p.only x m)) (λ x m. p.all x (q.only x m))

  -- What happened before a packed row is packed.
  pub packs_back : {x y : ℕ} → HappenedBefore rows deps x y → Packs rows deps frontier y → Packs rows deps frontier x
  packs_back h p = record { entry = p.entry; inside = p.inside; packs = state_back h p.packs }

  -- The packing list is closed: with a row it has all that happened before it,
  pub list_closed : {l : List ℕ} {x y : ℕ} → PackingList rows deps frontier l → HappenedBefore rows deps x y → Memᴰ y l → Memᴰ x l
  list_closed {x = x} {y} p h m = p.all x (packs_back h (p.only y m))

  -- so its previous row and its dependencies.
  pub step_closed : {l : List ℕ} {x y : ℕ} → PackingList rows deps frontier l → Step rows deps x y → Memᴰ y l → Memᴰ x l
  step_closed p s m = list_closed p (one s) m

-- Two answers with one number that wrote as much are one.
pub same_answer : (r s : Result ℕ Refusal) → written_number r ≡ written_number s → written_count r ≡ written_count s → r ≡ s
same_answer (Ok n) (Ok m) e f = ap Ok f
same_answer (Ok n) (Err why) e f = absurd (not_done why (sym e))
same_answer (Err why) (Ok m) e f = absurd (not_done why e)
same_answer (Err why) (Err other) e f = ap Err (one_number why other e)

-- A refusal wrote nothing.
pub none_written : (r : Result ℕ Refusal) → 1 ≤ written_number r → written_count r ≡ 0
none_written (Ok n) e = absurd (omega arith)
none_written (Err why) e = refl

module _ {rows deps frontier out : List ℕ} where
  -- What was written has the length of the packing list.
  wrote_length : {out' : List ℕ} {n : ℕ} → Wrote rows deps frontier out out' n → length (take n out') ≡ n
  wrote_length {out'} {n} w = let h = w.room in let e = w.same_room in length-take-le n out' (omega arith)

  -- Two writings of the packing list hold the same.
  wrote_unique : {a b : List ℕ} {n m : ℕ} → Wrote rows deps frontier out a n → Wrote rows deps frontier out b m → (n ≡ m) × (a ≡ b)
  wrote_unique {a} {b} {n} {m} v w =
      let l = list_unique v.list w.list in
      let e : n ≡ m = sym (wrote_length v) ∙ ap length l ∙ wrote_length w in
      let d : drop n a ≡ drop m b = v.beyond ∙ ap (λ (k : ℕ). drop k out) e ∙ sym w.beyond in
      (e, sym (take-append-drop n a) ∙ ap (λ (k : List ℕ). k ++ drop n a) l ∙ ap (λ (k : List ℕ). take m b ++ k) d ∙ take-append-drop m b)

  -- Where the output is too short nothing is written.
  short_or_wrote : {a : List ℕ} {n : ℕ} → TooShort rows deps frontier out → Wrote rows deps frontier out a n → ⊥
  short_or_wrote s w =
      let e = ap length (list_unique s.packs w.list) in
      let h = s.short in
      let r = w.room in
      let k = wrote_length w in
      omega arith

  -- The answer and the output are determined.
  pub writes_unique : {a b : List ℕ} {r s : Result ℕ Refusal} → Writes rows deps frontier out a r → Writes rows deps frontier out b s → (r ≡ s) × (a ≡ b)
  writes_unique {r = r} {s} (packed e v) (packed f w) =
      let u = wrote_unique v w in
      (same_answer r s (e ∙ sym f) u.0, u.1)
  writes_unique (packed e v) (too_short f t i) = absurd (short_or_wrote t v)
  writes_unique (too_short e t i) (packed f w) = absurd (short_or_wrote t w)
  writes_unique {r = r} {s} (too_short e t i) (too_short f u j) =
      (same_answer r s (e ∙ sym f) (none_written r (omega arith) ∙ sym (none_written s (omega arith))), i ∙ sym j)
