-- How far a salvage is: what is known of each item, and what is written so far.
-- Assumes nothing.
use Rattle.std.specs.Prelude.{ℕ, ◌+◌, ◌-◌, ◌*◌, ◌≤◌, ◌<◌, ◌≡◌, true, false, List, [], ◌≢◌, length, take, drop, eqb, Ok}
use Rattle.std.proofs.Math.Seq.{paste}
use Rattle.basics.specs.Pick.{pick}
use Rattle.chunks.specs.Piece.{piece_at}
use Rattle.cutting.specs.Cutting.{joined}
use Rattle.item.specs.Layout.{layout_of}
use Rattle.item.specs.declared.Fields.{Fields}
use Rattle.store.specs.declared.lent.StoreMut.{StoreMut}
use Rattle.morning.specs.Intake as intake
use Rattle.morning.specs.Intake.{Kept, answer_width, answer_to}
use Rattle.rescue.specs.Greedy.{Salvage, item_of, among, is_done, greedy, place_in}
use Rattle.rescue.specs.Salvaging.{Lent, lent_of, clean_of}
use Rattle.salvage.specs.Names.{lacks_at, KnownTo}
use Rattle.salvage.specs.Marks.{total, mark_of, note_of, kept_mark, waiting_mark, free_mark, refused_mark, mark_put, LowestFree, Woken}

-- All that is lent, where the parts of the store are one value.
abbrev pub lent_by : StoreMut → List ℕ → List ℕ → List ℕ → Lent
lent_by store origins clean list =
    lent_of store.keys.now store.ids.now store.rows.now store.deps.now store.branches.now origins clean list

-- What is salvaged with this store and this order.
abbrev pub saved : Kept → List ℕ → Salvage
saved k order = record { kept = k; order = order }

-- All names of an item up to a place that are asked for are in the store.
abbrev pub KnownIn : Kept → List ℕ → Fields → ℕ → Type 0
KnownIn k s f x = KnownTo k.store.ids k.store.counts.rows s f x

-- All names of an item that are asked for are in the store, where it has a layout.
abbrev pub AllKnown : Kept → List ℕ → Type 0
AllKnown k s = (f : Fields) → layout_of s ≡ Ok f → KnownIn k s f (f.count + 1)

-- What the mark of item `p` and the number beside it say of it.
pub data Marked (is : List (List ℕ)) (g : Salvage) (p mark note : ℕ) : Type 0 where
  -- It is kept, and this is its place.
  is_kept : mark ≡ kept_mark → among p g.order ≡ true → note ≡ place_in p g.order → Marked is g p mark note
  -- It waits: this is the first of its names that the store lacks.
  is_waiting : mark ≡ waiting_mark → among p g.order ≡ false → (f : Fields) → layout_of (item_of is p) ≡ Ok f → 1 ≤ note → note ≤ f.count + 1
      → KnownIn g.kept (item_of is p) f (note - 1)
      → lacks_at g.kept.store.ids g.kept.store.counts.rows (item_of is p) f note ≡ true → Marked is g p mark note
  -- It may be tried: the store has its names up to this one.
  is_free : mark ≡ free_mark → among p g.order ≡ false → note ≤ 64 → ((f : Fields) → layout_of (item_of is p) ≡ Ok f → KnownIn g.kept (item_of is p) f
      note)
      → Marked is g p mark note
  -- It is refused, although the store has all of its names.
  is_refused : mark ≡ refused_mark → among p g.order ≡ false → AllKnown g.kept (item_of is p) → is_done (answer_to g.kept (item_of is p)) ≡ false
      → Marked is g p mark note

-- How far a salvage is, from an empty store `k₀`, a clean intake's room `c₀` and a list `l₀` on: the store, the clean intake, how many of its
-- bytes are written, and the list.
pub record Rescuing (is : List (List ℕ)) (k₀ : Kept) (c₀ l₀ : List ℕ) (k : Kept) (clean : List ℕ) (bytes : ℕ) (list : List ℕ) : Type 0 where
  pub well : intake.Sound k₀
  pub sound : intake.Sound k
  -- so many turns kept the items of this order
  pub turns : ℕ
  pub order : List ℕ
  pub greedily : saved k order ≡ greedy is (saved k₀ []) turns
  pub counted : k.store.counts.rows ≡ length order
  -- the clean intake has their bytes, and room for all
  pub sized : bytes ≡ length (clean_of is (saved k order))
  pub said : take bytes clean ≡ clean_of is (saved k order)
  pub clean_beyond : drop bytes clean ≡ drop bytes c₀
  pub clean_size : length clean ≡ length c₀
  pub clean_room : length (joined is) ≤ length clean
  -- the list has a mark for each item
  pub marked : (p : ℕ) → p < length is → Marked is (saved k order) p (mark_of list p) (note_of list p)
  pub list_beyond : drop (answer_width * length is) list ≡ drop (answer_width * length is) l₀
  pub list_size : length list ≡ length l₀
  pub list_room : answer_width * length is ≤ length list

-- The lowest free item `p` is next, at some point of some salvage.
pub record Ready (is : List (List ℕ)) (k : Kept) (clean : List ℕ) (bytes : ℕ) (list : List ℕ) (p : ℕ) : Type 0 where
  pub k₀ : Kept
  pub c₀ : List ℕ
  pub l₀ : List ℕ
  pub going : Rescuing is k₀ c₀ l₀ k clean bytes list
  pub lowest : LowestFree list (length is) p
  pub below : p < length is

-- What is left to do for an item with this mark and number: each of its names may be missing once.
abbrev pub effort_of : ℕ → ℕ → ℕ
effort_of mark note = pick (eqb mark free_mark) (2 * (65 - note) + 1) (pick (eqb mark waiting_mark) (2 * (65 - note) + 2) 0)

-- What is left to do.
abbrev pub effort : List ℕ → ℕ → ℕ
effort list n = total (λ (p : ℕ). effort_of (mark_of list p) (note_of list p)) n

-- The salvage is further: whatever it came from, and less is left to do.
pub record Steps (is : List (List ℕ)) (k : Kept) (clean : List ℕ) (bytes : ℕ) (list : List ℕ) (k' : Kept) (clean' : List ℕ) (bytes' : ℕ)
    (list' : List ℕ) : Type 0 where
  pub going : (k₀ : Kept) (c₀ l₀ : List ℕ) → Rescuing is k₀ c₀ l₀ k clean bytes list → Rescuing is k₀ c₀ l₀ k' clean' bytes' list'
  pub less : effort list' (length is) < effort list (length is)

-- Item `p` is kept with this row: its bytes are behind those of the others, its place is noted, and those that wait for its id are free.
pub record KeptAs (is : List (List ℕ)) (p row : ℕ) (ids clean : List ℕ) (bytes : ℕ) (list clean' : List ℕ) (bytes' : ℕ) (list' : List ℕ) : Type 0 where
  pub copied : clean' ≡ paste clean bytes (item_of is p) (length (item_of is p))
  pub further : bytes' ≡ bytes + length (item_of is p)
  pub woken : Woken is (mark_put list p kept_mark row) (piece_at ids row) (length is) list'

-- No item is free.
abbrev pub NoneFree : List (List ℕ) → List ℕ → Type 0
NoneFree is list = (p : ℕ) → p < length is → mark_of list p ≢ free_mark

-- What the salvage of these items starts from: room for all of them, and a list in which each is free, with no name known.
pub record MayStart (is : List (List ℕ)) (clean list : List ℕ) : Type 0 where
  pub clean_room : length (joined is) ≤ length clean
  pub list_room : answer_width * length is ≤ length list
  pub all_free : (p : ℕ) → p < length is → (mark_of list p ≡ free_mark) × (note_of list p ≡ 0)
