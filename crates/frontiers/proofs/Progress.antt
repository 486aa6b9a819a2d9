-- Writing a frontier author by author: what is written, and what is left.
-- Assumes nothing.
use Rattle.frontiers.specs.Slot.{Slot}
use Prim.Native.Nat.{ℕ, ◌+◌, ◌-◌, ◌≤◌, ◌<◌}
use mathlib.Core.Path.{◌≡◌, refl, sym, ap, ◌∙◌, subst}
use mathlib.Core.List.{List, ◌++◌}
use mathlib.Core.Option.{Option}
use native.Mathlib.Omega.{arith}
use lib.ListN.{length, take, drop, length-append, length-drop}
use lib.Seq.{paste, paste-zero, length-paste, take_at, drop_at, drop-drop}
use Rattle.basics.proofs.Prefixes.{paste_more}
use Rattle.chains.specs.Chain.{Store, State}
use Rattle.frontiers.specs.Entries.{flat, collect, merged_entries}
use Rattle.frontiers.specs.Found.{Holds, slot_numbers, PutBehind}
use Rattle.frontiers.specs.Merging.{joined_at, merged_numbers}
use Rattle.frontiers.proofs.Collecting.{next_numbers}

-- The numbers of the entries that `o` gives the first `n` authors.
abbrev pub all_numbers : (ℕ → Option State) → ℕ → List ℕ
all_numbers o n = flat (collect o n 0)

-- Of these numbers the first `used`, those of the authors up to `a`, stand at the start of `out`, which was `d`.
pub record Progress (o : ℕ → Option State) (n : ℕ) (d : List ℕ) (a used : ℕ) (out : List ℕ) : Type 0 where
  pub reach : a ≤ n
  pub rest : drop used (all_numbers o n) ≡ flat (collect o (n - a) a)
  pub done : out ≡ paste d 0 (all_numbers o n) used
  pub within : used ≤ length (all_numbers o n)
  pub room : length (all_numbers o n) ≤ length d

module _ (o : ℕ → Option State) (n : ℕ) (d : List ℕ) where
  -- At first nothing is written.
  pub progress_start : length (all_numbers o n) ≤ length d → Progress o n d 0 0 d
  progress_start h =
      let e : n - 0 ≡ n = omega arith in
      record { reach = omega arith; rest = rw e; done = paste-zero d 0 (all_numbers o n); within = omega arith; room = h }

  module _ (a used : ℕ) (out : List ℕ) (p : Progress o n d a used out) where
    -- What is written so far keeps the length.
    pub progress_length : length out ≡ length d
    progress_length =
        let w = p.within in
        let r = p.room in
        ap length p.done ∙ length-paste d 0 (all_numbers o n) used (omega arith) w

    -- The whole is written once every author was.
    pub progress_end : n ≤ a → PutBehind d 0 (all_numbers o n) out used
    unfolding collect flat
    progress_end h =
        let e : n - a ≡ 0 = omega arith in
        let l : length (drop used (all_numbers o n)) ≡ 0 = ap length (rw e at p.rest) in
        let k : length (all_numbers o n) - used ≡ 0 = rw length-drop at l in
        let w = p.within in
        let u : used ≡ length (all_numbers o n) = omega arith in
        record { content = rw u at p.done; grown = omega arith }

    module _ (r : Slot) (h : a < n) (k : Holds (a + 1) (o (a + 1)) r) where
      left : drop used (all_numbers o n) ≡ slot_numbers r ++ flat (collect o (n - (a + 1)) (a + 1))
      left = p.rest ∙ next_numbers o n a r h k

      fits_whole : used + length (slot_numbers r) ≤ length (all_numbers o n)
      fits_whole =
          let l : length (all_numbers o n) - used ≡ length (slot_numbers r) + length (flat (collect o (n - (a + 1)) (a + 1))) =
          sym (length-drop used (all_numbers o n)) ∙ ap length left ∙ length-append (slot_numbers r)
          (flat (collect o (n - (a + 1)) (a + 1))) in
          let w = p.within in
          omega arith

      -- The next author's entry has room.
      next_room : used + length (slot_numbers r) ≤ length out
      next_room = let w = fits_whole in let l = progress_length in let q = p.room in omega arith

      -- With it, one author more is written.
      next_more : (out' : List ℕ) (used' : ℕ) → PutBehind out used (slot_numbers r) out' used' → Progress o n d (a + 1) used' out'
      next_more out' used' w =
          let t = slot_numbers r in
          let x : take (length t) (drop used (all_numbers o n)) ≡ t =
          ap (take (length t)) left ∙ take_at t (flat (collect o (n - (a + 1)) (a + 1))) (length t) refl in
          let y : drop (used + length t) (all_numbers o n) ≡ flat (collect o (n - (a + 1)) (a + 1)) =
          sym (drop-drop (length t) used (all_numbers o n)) ∙ ap (drop (length t)) left
          ∙ drop_at t (flat (collect o (n - (a + 1)) (a + 1))) (length t) refl in
          let z : out' ≡ paste d 0 (all_numbers o n) (used + length t) =
          paste_more d (all_numbers o n) used t out out' p.done w.content x fits_whole p.room in
          record {
            reach = omega arith;
            rest = rw w.grown y;
            done = rw w.grown z;
            within = rw w.grown fits_whole;
            room = p.room;
          }

-- At author `a`, the authors before it being written: its entry has room,
module _ (o : ℕ → Option State) (n : ℕ) (d : List ℕ) (a used : ℕ) (out : List ℕ) (p : Progress o n d (a - 1) used out)
    (r : Slot) (h : 1 ≤ a) (l : a ≤ n) (k : Holds a (o a) r) where
  this : Holds (a - 1 + 1) (o (a - 1 + 1)) r
  this = let e : a - 1 + 1 ≡ a = omega arith in subst (λ b. Holds b (o b) r) (sym e) k

  pub progress_room : used + length (slot_numbers r) ≤ length out
  progress_room = next_room o n d (a - 1) used out p r (omega arith) this

  -- and with it, that author is written too.
  pub progress_more : (out' : List ℕ) (used' : ℕ) → PutBehind out used (slot_numbers r) out' used' → Progress o n d (a + 1 - 1) used' out'
  progress_more out' used' w =
      let e : a + 1 - 1 ≡ a - 1 + 1 = omega arith in
      subst (λ b. Progress o n d b used' out') (sym e) (next_more o n d (a - 1) used out p r (omega arith) this out' used' w)

module _ (s : Store) (n : ℕ) (f g d : List ℕ) where
  -- The merged frontier: at first nothing of it is written,
  pub merged_start : length (merged_numbers s n f g) ≤ length d → Progress (joined_at s f g) n d 0 0 d
  unfolding merged_numbers merged_entries joined_at
  merged_start h = progress_start (joined_at s f g) n d h

  -- and the whole once every author was.
  pub merged_end : (a used : ℕ) (out : List ℕ) → Progress (joined_at s f g) n d (a - 1) used out → n < a → PutBehind d 0 (merged_numbers s n f g) out used
  unfolding merged_numbers merged_entries joined_at
  merged_end a used out p h = progress_end (joined_at s f g) n d (a - 1) used out p (omega arith)
