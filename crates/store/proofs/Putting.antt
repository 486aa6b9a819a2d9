-- A part into which one row more was written.
-- Assumes nothing.
use Prim.Native.Nat.{ℕ, ◌+◌, ◌-◌, ◌*◌, ◌≤◌, ◌<◌}
use mathlib.Core.Path.{◌≡◌, sym, ap, ◌∙◌}
use mathlib.Core.List.{List, [], ◌∷◌}
use native.Mathlib.Omega.{arith}
use native.Mathlib.Nat.{add-zero}
use lib.ListN.{length, take, drop, get_or, set}
use lib.Seq.{paste, paste-zero, paste-suc, length-paste, get_or-take, get_or-drop}
use Rattle.basics.proofs.Prefixes.{at_paste}
use Rattle.store.specs.Limits.{row_width}
use Rattle.store.specs.Table.{row_at, row_numbers, row_put}
use Rattle.store.proofs.Rows.{row_held}
use Rattle.store.specs.declared.Row.{Row}

module _ (s : List ℕ) (row : Row) (n : ℕ) (h : (n + 1) * row_width ≤ length s) where
  -- A row that is added keeps the length.
  pub added_length : length (row_put s n row) ≡ length s
  added_length = length-paste s (n * row_width) (row_numbers row) row_width (omega arith) (omega arith)

  -- The row that was added stands.
  pub added_there : row_at (row_put s n row) (n + 1) ≡ row
  added_there =
      let e : length (row_put s n row) ≡ length s = added_length in
      let p : take row_width (drop (n * row_width) (row_put s n row)) ≡ row_numbers row = at_paste s (n * row_width) (row_numbers row) row_width
      (omega arith) (omega arith) in
      let g : (i : ℕ) → i < row_width → get_or (row_put s n row) (n * row_width + i) 0 ≡ get_or (row_numbers row) i 0
      = λ i j. sym (get_or-take row_width (drop (n * row_width) (row_put s n row)) i 0 j ∙ get_or-drop (n * row_width) (row_put s n row) i 0) ∙ ap
      (λ (l : List ℕ). get_or l i 0) p in
      let z : (n + 1 - 1) * row_width ≡ n * row_width = omega arith in
      let g0 : get_or (row_put s n row) (n * row_width) 0 ≡ row.author = rw add-zero at (g 0 (omega arith)) in
      row_held (row_put s n row) (n + 1) (omega arith) (omega arith)
      ∙ rw (z, g0, g 1 (omega arith), g 2 (omega arith), g 3 (omega arith))

-- Four numbers stored one after the other are a copy of the four.
pub four_stored : (s : List ℕ) (at a b c d : ℕ) → at + 4 ≤ length s
    → set (set (set (set s at a) (at + 1) b) (at + 2) c) (at + 3) d ≡ paste s at (a ∷ b ∷ c ∷ d ∷ []) 4
four_stored s at a b c d h =
    let l : List ℕ = a ∷ b ∷ c ∷ d ∷ [] in
    let e0 : set s at a ≡ paste s at l 1 =
    ap (λ (x : List ℕ). set x at a) (paste-zero s at l)
    ∙ ap (λ (i : ℕ). set (paste s at l 0) i a) (sym (add-zero at))
    ∙ paste-suc s at l 0 0 (omega arith) (omega arith) in
    let e1 : set (set s at a) (at + 1) b ≡ paste s at l 2 =
    ap (λ (x : List ℕ). set x (at + 1) b) e0 ∙ paste-suc s at l 1 0 (omega arith) (omega arith) in
    let e2 : set (set (set s at a) (at + 1) b) (at + 2) c ≡ paste s at l 3 =
    ap (λ (x : List ℕ). set x (at + 2) c) e1 ∙ paste-suc s at l 2 0 (omega arith) (omega arith) in
    ap (λ (x : List ℕ). set x (at + 3) d) e2 ∙ paste-suc s at l 3 0 (omega arith) (omega arith)
