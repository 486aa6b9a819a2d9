-- The step of a salvage that keeps an item.
-- Assumes nothing.
use Prim.Native.Nat.{ℕ, ◌+◌, ◌-◌, ◌*◌, ◌≤◌, ◌<◌}
use mathlib.Core.Path.{◌≡◌, sym, ap, subst, ◌∙◌}
use mathlib.Core.Bool.{Bool, true, false}
use mathlib.Core.List.{List, [], ◌∷◌, ◌++◌}
use mathlib.Core.Logic.{◌≢◌}
use native.Mathlib.Omega.{arith}
use lib.Dec.{eqb}
use lib.ListN.{length, take, drop, length-append}
use lib.Seq.{paste, take_all, take-paste, drop-paste, length-paste}
use Rattle.basics.specs.Pick.{pick, both}
use Rattle.basics.proofs.Prefixes.{drop_rest}
use Rattle.basics.proofs.Tests.{by_eqb}
use Rattle.chunks.specs.Piece.{piece_at}
use Rattle.cutting.specs.Cutting.{items_of}
use Rattle.item.specs.Id.{id_of}
use Rattle.admission.specs.declared.Admitted.TheVariants.{Done}
use Rattle.morning.specs.Intake.{Kept, answer_to, kept_after}
use Rattle.rescue.specs.Greedy.{item_of}
use Rattle.rescue.specs.Salvaging.{clean_of}
use Rattle.rescue.proofs.Growth.{sound_after, done_count, done_has}
use Rattle.rescue.proofs.Sums.{among_last}
use Rattle.rescue.proofs.Turns.{greedy_next}
use Rattle.salvage.specs.Names.{names_it}
use Rattle.salvage.specs.Marks.{mark_of, note_of, mark_put, Woken}
use Rattle.salvage.specs.Working.{saved, Marked, is_kept, Rescuing, Ready, effort_of, effort, Steps, KeptAs}
use Rattle.salvage.proofs.Totals.{total_with}
use Rattle.salvage.proofs.Marking.{put_mark_here, put_note_here, put_mark_other, put_note_other, put_length, put_beyond}
use Rattle.salvage.proofs.Knowing.{place_last, marked_later, unmarked_unfree, free_says}
use Rattle.salvage.proofs.Stepping.{marked_as, ready_places, ready_free, ready_effort, next_is_free, clean_more, ready_room}

-- What keeping an item writes: its bytes, its mark, and the marks of those that it wakes.
pub kept_as : (s : List ℕ) (p row : ℕ) (ids clean : List ℕ) (bytes : ℕ) (list clean' list' part l id : List ℕ) (n wide size : ℕ)
    → part ≡ item_of (items_of s) p → size ≡ length (item_of (items_of s) p) → n ≡ length (items_of s) → clean' ≡ paste clean bytes part (length part)
    → l ≡ mark_put list p 0 row → wide ≡ row → id ≡ piece_at ids wide → Woken (items_of s) l id n list'
    → KeptAs (items_of s) p row ids clean bytes list clean' (bytes + size) list'
kept_as s p row ids clean bytes list clean' list' part l id n wide size e z m c a w i k =
    record {
      copied = c ∙ ap (λ (x : List ℕ). paste clean bytes x (length x)) e;
      further = ap (λ (x : ℕ). bytes + x) z;
      woken =
          subst (λ (x : ℕ). Woken (items_of s) (mark_put list p 0 row) (piece_at ids row) x list') m
          (subst (λ (x : List ℕ). Woken (items_of s) (mark_put list p 0 row) x n list') (i ∙ ap (piece_at ids) w)
          (subst (λ (x : List ℕ). Woken (items_of s) x id n list') a k));
    }

-- Waking an item leaves no more to do for it.
woken_less : (m x : ℕ) (b : Bool) → effort_of (pick (both (eqb m 1) b) 2 m) x ≤ effort_of m x
woken_less m x b =
    by_eqb (λ t. effort_of (pick (both t b) 2 m) x ≤ effort_of m x) m 1
    (λ e. subst (λ (n : ℕ). effort_of (pick b 2 n) x ≤ effort_of n x) (sym e) (go b))
    (λ n. omega arith)
  where
    go : (b : Bool) → effort_of (pick b 2 1) x ≤ effort_of 1 x
    go true = omega arith
    go false = omega arith

module _ (is : List (List ℕ)) (k : Kept) (clean : List ℕ) (bytes : ℕ) (list : List ℕ) (p : ℕ) (r : Ready is k clean bytes list p) (row : ℕ)
    (d : answer_to k (item_of is p) ≡ Done row) (clean' : List ℕ) (bytes' : ℕ) (list' : List ℕ)
    (c : KeptAs is p row (kept_after k 0 (item_of is p)).store.ids clean bytes list clean' bytes' list') where
  -- The id of its row.
  id_is : piece_at (kept_after k 0 (item_of is p)).store.ids row ≡ id_of (item_of is p)
  id_is = (done_has k r.going.sound 0 (item_of is p) row d).id

  -- Its own mark and number then,
  mark_own : mark_of list' p ≡ 0
  mark_own =
      c.woken.marks p r.below
      ∙ ap (λ (n : ℕ). pick (both (eqb n 1) (names_it (item_of is p) (note_of (mark_put list p 0 row) p) (piece_at (kept_after k 0 (item_of is p)).store.ids
      row))) 2 n)
      (put_mark_here list p 0 row (ready_places is k clean bytes list p r))

  note_own : note_of list' p ≡ row
  note_own = c.woken.notes p r.below ∙ put_note_here list p 0 row (ready_places is k clean bytes list p r)

  -- and those of every other item.
  mark_later : (q : ℕ) → q < length is → q ≢ p
      → mark_of list' q ≡ pick (both (eqb (mark_of list q) 1) (names_it (item_of is q) (note_of list q) (piece_at (kept_after k 0 (item_of is p)).store.ids row)))
      2 (mark_of list q)
  mark_later q b n =
      c.woken.marks q b
      ∙ ap (λ (m : ℕ). pick (both (eqb m 1) (names_it (item_of is q) (note_of (mark_put list p 0 row) q) (piece_at (kept_after k 0 (item_of is p)).store.ids
      row))) 2 m)
      (put_mark_other list p 0 row q n)
      ∙ ap (λ (x : ℕ). pick (both (eqb (mark_of list q) 1) (names_it (item_of is q) x (piece_at (kept_after k 0 (item_of is p)).store.ids row))) 2 (mark_of list q))
      (put_note_other list p 0 row q n)

  note_later : (q : ℕ) → q < length is → q ≢ p → note_of list' q ≡ note_of list q
  note_later q b n = c.woken.notes q b ∙ put_note_other list p 0 row q n

  -- They say what is known of each.
  kept_marked : (order : List ℕ) → k.store.counts.rows ≡ length order
      → ((q : ℕ) → q < length is → Marked is (saved k order) q (mark_of list q) (note_of list q))
      → (q : ℕ) → q < length is → Marked is (saved (kept_after k 0 (item_of is p)) (order ++ (p ∷ []))) q (mark_of list' q) (note_of list' q)
  kept_marked order e marked q b =
      by_eqb (λ _. Marked is (saved (kept_after k 0 (item_of is p)) (order ++ (p ∷ []))) q (mark_of list' q) (note_of list' q)) q p
      (λ z.
      let a = (free_says is (saved k order) p (mark_of list p) (note_of list p) (marked p r.below) (ready_free is k clean bytes list p r)).0 in
      let n : row ≡ length order + 1 = (done_count k r.going.sound 0 (item_of is p) row d).0 ∙ ap (λ (x : ℕ). x + 1) e in
      subst (λ (i : ℕ). Marked is (saved (kept_after k 0 (item_of is p)) (order ++ (p ∷ []))) i (mark_of list' i) (note_of list' i)) (sym z)
      (is_kept mark_own (among_last p order) (note_own ∙ n ∙ sym (place_last p order a))))
      (λ n.
      marked_as is (saved (kept_after k 0 (item_of is p)) (order ++ (p ∷ []))) q _ _ _ _ (mark_later q b n) (note_later q b n)
      (marked_later is (saved k order) p row r.going.sound d (piece_at (kept_after k 0 (item_of is p)).store.ids row) id_is q n (mark_of list q) (note_of
      list q)
      (marked q b)))

  -- Less is left to do.
  kept_less : effort list' (length is) < effort list (length is)
  kept_less =
      let old : ℕ → ℕ = λ q. effort_of (mark_of list q) (note_of list q) in
      let new : ℕ → ℕ = λ q. effort_of (mark_of list' q) (note_of list' q) in
      let here : new p ≡ 0 = ap (λ (m : ℕ). effort_of m (note_of list' p)) mark_own in
      let was : old p ≡ 2 * (65 - note_of list p) + 1 = ready_effort is k clean bytes list p r in
      let t = total_with new old (length is) p 1 r.below
      (λ q b.
      by_eqb (λ _. new q ≤ old q) q p (λ e. subst (λ (i : ℕ). new i ≤ old i) (sym e) (omega arith))
      (λ n.
      let z = woken_less (mark_of list q) (note_of list q) (names_it (item_of is q) (note_of list q) (piece_at (kept_after k 0 (item_of is p)).store.ids row)) in
      let y : new q ≡ effort_of (pick (both (eqb (mark_of list q) 1) (names_it (item_of is q) (note_of list q) (piece_at (kept_after k 0 (item_of is p)).store.ids
      row))) 2 (mark_of list q)) (note_of list q) =
      ap (λ (m : ℕ). effort_of m (note_of list' q)) (mark_later q b n)
      ∙ ap (effort_of (pick (both (eqb (mark_of list q) 1) (names_it (item_of is q) (note_of list q) (piece_at (kept_after k 0 (item_of is p)).store.ids row))) 2
      (mark_of list q))) (note_later q b n) in
      omega arith))
      (omega arith) in
      omega arith

  -- IT IS KEPT: the turn is greedy's.
  kept_going : (k₀ : Kept) (c₀ l₀ : List ℕ) → Rescuing is k₀ c₀ l₀ k clean bytes list
      → Rescuing is k₀ c₀ l₀ (kept_after k 0 (item_of is p)) clean' bytes' list'
  kept_going k₀ c₀ l₀ g =
      let i = item_of is p in
      let room : bytes + length i ≤ length clean = ready_room is k clean bytes list p r row d in
      let more = clean_more is k clean bytes list p r row d g.order in
      let f : bytes' ≡ bytes + length i = c.further in
      let size : length clean' ≡ length clean = ap length c.copied ∙ length-paste clean bytes i (length i) room (omega arith) in
      let n : length (clean_of is (saved k g.order) ++ i) ≡ length (clean_of is (saved k g.order)) + length i = length-append (clean_of is (saved k
      g.order)) i in
      record {
        well = g.well;
        sound = sound_after k g.sound 0 i;
        turns = g.turns + 1;
        order = g.order ++ (p ∷ []);
        greedily =
            greedy_next is (saved k₀ []) (saved k g.order) g.turns p g.greedily r.below
            (λ q b.
            unmarked_unfree is (saved k g.order) q (mark_of list q) (note_of list q) g.sound (g.marked q (omega (arith, r.below))) (r.lowest.lower q b))
            (next_is_free is k clean bytes list p r row d g.order g.marked);
        counted = (done_count k g.sound 0 i row d).1 ∙ ap (λ (x : ℕ). x + 1) g.counted ∙ sym (length-append g.order (p ∷ []));
        sized = f ∙ ap (λ (x : ℕ). x + length i) g.sized ∙ sym n ∙ ap length (sym more);
        said =
            ap (λ (x : ℕ). take x clean') f
            ∙ ap (take (bytes + length i)) c.copied
            ∙ take-paste clean bytes i (length i) (omega arith) (omega arith)
            ∙ ap (λ (x : List ℕ). x ++ take (length i) i) g.said
            ∙ ap (λ (x : List ℕ). clean_of is (saved k g.order) ++ x) (take_all (length i) i (omega arith))
            ∙ sym more;
        clean_beyond =
            ap (λ (x : ℕ). drop x clean') f
            ∙ ap (drop (bytes + length i)) c.copied
            ∙ drop-paste clean bytes i (length i) (omega arith) (omega arith)
            ∙ drop_rest (bytes + length i) bytes clean c₀ (omega arith) g.clean_beyond
            ∙ ap (λ (x : ℕ). drop x c₀) (sym f);
        clean_size = size ∙ g.clean_size;
        clean_room = omega (arith, size, g.clean_room);
        marked = kept_marked g.order g.counted g.marked;
        list_beyond = c.woken.beyond ∙ put_beyond list p 0 row (length is) r.below ∙ g.list_beyond;
        list_size = c.woken.size ∙ put_length list p 0 row ∙ g.list_size;
        list_room = omega (arith, c.woken.size, put_length list p 0 row, g.list_room);
      }

  pub steps_kept : Steps is k clean bytes list (kept_after k 0 (item_of is p)) clean' bytes' list'
  steps_kept = record { going = kept_going; less = kept_less }

-- The same, as it is written.
pub kept_written : (is : List (List ℕ)) (k : Kept) (clean : List ℕ) (bytes : ℕ) (list : List ℕ) (p : ℕ) → Ready is k clean bytes list p → (row : ℕ)
    → answer_to k (item_of is p) ≡ Done row → (k' : Kept) (clean' : List ℕ) (bytes' : ℕ) (list' : List ℕ) → k' ≡ kept_after k 0 (item_of is p)
    → KeptAs is p row k'.store.ids clean bytes list clean' bytes' list' → Steps is k clean bytes list k' clean' bytes' list'
kept_written is k clean bytes list p r row d k' clean' bytes' list' e c =
    subst (λ (x : Kept). Steps is k clean bytes list x clean' bytes' list') (sym e)
    (steps_kept is k clean bytes list p r row d clean' bytes' list'
    (subst (λ (x : Kept). KeptAs is p row x.store.ids clean bytes list clean' bytes' list') e c))
