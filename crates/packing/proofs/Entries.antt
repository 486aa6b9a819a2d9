-- The entries of a frontier by author: what they pack is what the frontier packs.
-- Assumes nothing.
use Prim.Native.Nat.{ℕ, zero, suc, ◌+◌, ◌/◌, ◌≤◌, ◌<◌}
use mathlib.Core.Path.{◌≡◌, sym, ap, ◌∙◌, subst}
use mathlib.Core.List.{List, ◌∷◌}
use mathlib.Core.Option.{some}
use native.Mathlib.Omega.{arith}
use lib.ListN.{length}
use Rattle.basics.specs.Pick.{pick}
use Rattle.basics.proofs.Tests.{by_eqb}
use Rattle.chains.specs.Chain.{State}
use Rattle.frontiers.specs.Entries.{Entry, entry_of, RisingFrom, next}
use Rattle.frontiers.specs.Numbers.{entry_width, author_at, state_at, entries_at, entries_of}
use Rattle.frontiers.proofs.Entries.{entry_first, entry_later, some_not_none, some_inj}
use Rattle.packing.specs.Packing.{PacksState, Packs}

-- Where an author's entry stands.
record Stands (f : List ℕ) (low high a : ℕ) (st : State) : Type 0 where
  place : ℕ
  from : low ≤ place
  to : place < high
  author : author_at f place ≡ a
  state : state_at f place ≡ st

-- An author that has an entry has it at a place.
entry_stands : (f : List ℕ) (k i a : ℕ) (st : State) → entry_of (entries_at f k i) a ≡ some st → Stands f i (i + k) a st
unfolding entries_at entry_of
entry_stands f zero i a st = λ e. absurd (some_not_none (sym e))
entry_stands f (suc k) i a st =
    by_eqb (λ t. pick t (some (state_at f i)) (entry_of (entries_at f k (suc i)) a) ≡ some st → Stands f i (i + suc k) a st) (author_at f i) a
    (λ p e. record { place = i; from = omega arith; to = omega arith; author = p; state = some_inj e })
    (λ p e. later (entry_stands f k (suc i) a st e))
  where
    later : Stands f (suc i) (suc i + k) a st → Stands f i (i + suc k) a st
    later s =
        let low = s.from in
        let high = s.to in
        record { place = s.place; from = omega arith; to = omega arith; author = s.author; state = s.state }

-- The first author of rising entries, and the rest.
rise_first : {b : ℕ} {e : Entry} {es : List Entry} → RisingFrom b (e ∷ es) → b < e.author
rise_first (next p r) = p

rise_rest : {b : ℕ} {e : Entry} {es : List Entry} → RisingFrom b (e ∷ es) → RisingFrom e.author es
rise_rest (next p r) = r

-- The authors of rising entries are above where they rise from.
rises_above : (f : List ℕ) (k i b j : ℕ) → RisingFrom b (entries_at f k i) → i ≤ j → j < i + k → b < author_at f j
unfolding entries_at
rises_above f zero i b j r h l = absurd (omega arith)
rises_above f (suc k) i b j r h l =
    let p = rise_first r in
    by_eqb (λ t. b < author_at f j) j i
    (λ e. subst (λ (m : ℕ). b < author_at f m) (sym e) p)
    (λ d. let q = rises_above f k (suc i) (author_at f i) j (rise_rest r) (omega arith) (omega arith) in omega arith)

-- In a rising frontier each place is its author's entry.
stands_entry : (f : List ℕ) (k i b j : ℕ) → RisingFrom b (entries_at f k i) → i ≤ j → j < i + k → entry_of (entries_at f k i) (author_at f j) ≡ some (state_at f j)
unfolding entries_at
stands_entry f zero i b j r h l = absurd (omega arith)
stands_entry f (suc k) i b j r h l =
    by_eqb (λ t. entry_of (entries_at f (suc k) i) (author_at f j) ≡ some (state_at f j)) j i
    (λ e.
    entry_first (record { author = author_at f i; state = state_at f i }) (entries_at f k (suc i)) (author_at f j) (ap (author_at f) (sym e))
    ∙ ap (λ (m : ℕ). some (state_at f m)) (sym e))
    (λ d.
    let q = rises_above f k (suc i) (author_at f i) j (rise_rest r) (omega arith) (omega arith) in
    entry_later (record { author = author_at f i; state = state_at f i }) (entries_at f k (suc i)) (author_at f j) (λ e. omega arith)
    ∙ stands_entry f k (suc i) (author_at f i) j (rise_rest r) (omega arith) (omega arith))

-- Row `x` is packed for some author's entry.
pub record PacksBy (rows deps : List ℕ) (es : List Entry) (x : ℕ) : Type 0 where
  pub author : ℕ
  pub state : State
  pub found : entry_of es author ≡ some state
  pub packs : PacksState rows deps state x

-- What a rising frontier packs its entries pack, and the other way round.
module _ {rows deps f : List ℕ} {x : ℕ} where
  pub packs_by : {b : ℕ} → RisingFrom b (entries_of f) → Packs rows deps f x → PacksBy rows deps (entries_of f) x
  unfolding entries_of
  packs_by {b} r p =
      record {
        author = author_at f p.entry;
        state = state_at f p.entry;
        found = (let h = p.inside in stands_entry f (length f / entry_width) 0 b p.entry r (omega arith) (omega arith));
        packs = p.packs;
      }

  pub by_packs : PacksBy rows deps (entries_of f) x → Packs rows deps f x
  unfolding entries_of
  by_packs p =
      let s = entry_stands f (length f / entry_width) 0 p.author p.state p.found in
      let h = s.to in
      record {
        entry = s.place;
        inside = omega arith;
        packs = subst (λ (st : State). PacksState rows deps st x) (sym s.state) p.packs;
      }
