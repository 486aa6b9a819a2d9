-- One step of a salvage: the lowest free item waits, is refused for ever, or is kept.
-- Assumes nothing.
use Rattle.std.specs.Prelude.{Ok}
use Prim.Native.Nat.{ℕ, ◌+◌, ◌-◌, ◌*◌, ◌≤◌, ◌<◌}
use mathlib.Core.Path.{◌≡◌, refl, sym, ap, subst, ◌∙◌}
use mathlib.Core.Bool.{true, false, not}
use mathlib.Core.List.{List, [], ◌∷◌, ◌++◌}
use mathlib.Core.Logic.{◌≢◌}
use native.Mathlib.Omega.{arith}
use lib.ListN.{length, length-append}
use Rattle.basics.proofs.Tests.{by_eqb, by_leb, both_of, not_both_ways}
use Rattle.cutting.specs.Cutting.{joined}
use Rattle.item.specs.Layout.{layout_of}
use Rattle.item.specs.declared.Fields.{Fields}
use Rattle.item.proofs.Laid.{sound_item}
use Rattle.admission.specs.declared.Admitted.{Admitted}
use Rattle.admission.specs.declared.Admitted.TheVariants.{Done}
use Rattle.admission.specs.Answer.{answer_number, answer_row}
use Rattle.admission.proofs.Theorems.{same_number}
use Rattle.origins.specs.Origins.{origins_after, JudgedFrom}
use Rattle.morning.specs.Intake.{Kept, answer_to, kept_after}
use Rattle.rescue.specs.Greedy.{Salvage, item_of, among, is_done, free, keep, items_in}
use Rattle.rescue.specs.Salvaging.{clean_of}
use Rattle.rescue.proofs.Growth.{undone_after}
use Rattle.rescue.proofs.Lost.{not_done}
use Rattle.rescue.proofs.Ordered.{Run, run_keep, run_greedy, run_fits, items_more, joined_more}
use Rattle.salvage.specs.Names.{lacks_at, MissingName}
use Rattle.salvage.specs.Marks.{mark_of, note_of, mark_put}
use Rattle.salvage.specs.Working.{saved, KnownIn, AllKnown, Marked, is_waiting, is_refused}
use Rattle.salvage.specs.Working.{Ready, effort_of, effort, Steps}
use Rattle.salvage.proofs.Totals.{total_with}
use Rattle.salvage.proofs.Marking.{put_mark_here, put_note_here, put_mark_other, put_note_other, put_length, put_beyond}
use Rattle.salvage.proofs.Knowing.{free_says}

-- The same mark and number say the same.
pub marked_as : (is : List (List ℕ)) (g : Salvage) (q m x m' x' : ℕ) → m' ≡ m → x' ≡ x → Marked is g q m x → Marked is g q m' x'
marked_as is g q m x m' x' e f k = subst (λ (n : ℕ). Marked is g q n x') (sym e) (subst (λ (n : ℕ). Marked is g q m n) (sym f) k)

-- A new mark at one item says what it is to say, and those of all others what they said.
put_marked : (is : List (List ℕ)) (g : Salvage) (list : List ℕ) (p m x : ℕ) → 2 * p + 1 < length list
    → ((q : ℕ) → q < length is → Marked is g q (mark_of list q) (note_of list q)) → Marked is g p m x
    → (q : ℕ) → q < length is → Marked is g q (mark_of (mark_put list p m x) q) (note_of (mark_put list p m x) q)
put_marked is g list p m x h all here q b =
    by_eqb (λ _. Marked is g q (mark_of (mark_put list p m x) q) (note_of (mark_put list p m x) q)) q p
    (λ e.
    subst (λ (i : ℕ). Marked is g i (mark_of (mark_put list p m x) i) (note_of (mark_put list p m x) i)) (sym e)
    (marked_as is g p m x _ _ (put_mark_here list p m x h) (put_note_here list p m x h) here))
    (λ n. marked_as is g q (mark_of list q) (note_of list q) _ _ (put_mark_other list p m x q n) (put_note_other list p m x q n) (all q b))

-- A mark of less effort leaves less to do.
put_less : (list : List ℕ) (n p m x : ℕ) → 2 * p + 1 < length list → p < n → effort_of m x + 1 ≤ effort_of (mark_of list p) (note_of list p)
    → effort (mark_put list p m x) n < effort list n
put_less list n p m x h b l =
    let old : ℕ → ℕ = λ q. effort_of (mark_of list q) (note_of list q) in
    let new : ℕ → ℕ = λ q. effort_of (mark_of (mark_put list p m x) q) (note_of (mark_put list p m x) q) in
    let here : new p ≡ effort_of m x =
    ap (λ (a : ℕ). effort_of a (note_of (mark_put list p m x) p)) (put_mark_here list p m x h) ∙ ap (effort_of m) (put_note_here list p m x h) in
    let t = total_with new old n p 1 b
    (λ q c.
    by_eqb (λ _. new q ≤ old q) q p (λ e. subst (λ (i : ℕ). new i ≤ old i) (sym e) (omega arith))
    (λ d.
    let z : new q ≡ old q =
    ap (λ (a : ℕ). effort_of a (note_of (mark_put list p m x) q)) (put_mark_other list p m x q d)
    ∙ ap (effort_of (mark_of list q)) (put_note_other list p m x q d) in
    omega arith))
    (omega arith) in
    omega arith

module _ (is : List (List ℕ)) (k : Kept) (clean : List ℕ) (bytes : ℕ) (list : List ℕ) (p : ℕ) (r : Ready is k clean bytes list p) where
  -- The places of the next item are in the list,
  pub ready_places : 2 * p + 1 < length list
  ready_places = omega (arith, r.below, r.going.list_room)

  -- it is marked as free,
  pub ready_free : mark_of list p ≡ 2
  ready_free = r.lowest.here r.below

  -- and so much is left to do for it.
  pub ready_effort : effort_of (mark_of list p) (note_of list p) ≡ 2 * (65 - note_of list p) + 1
  ready_effort = ap (λ (a : ℕ). effort_of a (note_of list p)) ready_free

  -- The names that are known of it.
  pub ready_known : (note_of list p ≤ 64) × ((f : Fields) → layout_of (item_of is p) ≡ Ok f → KnownIn k (item_of is p) f (note_of list p))
  ready_known = (free_says is (saved k r.going.order) p (mark_of list p) (note_of list p) (r.going.marked p r.below) ready_free).1

  -- A mark is put at the next item, and nothing else is written.
  put_steps : (m x : ℕ) → effort_of m x + 1 ≤ effort_of (mark_of list p) (note_of list p)
      → ((order : List ℕ) → among p order ≡ false → Marked is (saved k order) p m x) → Steps is k clean bytes list k clean bytes (mark_put list p m x)
  put_steps m x l here =
      record {
        going =
            λ k₀ c₀ l₀ g.
            let a = (free_says is (saved k g.order) p (mark_of list p) (note_of list p) (g.marked p r.below) ready_free).0 in
            record {
              well = g.well;
              sound = g.sound;
              turns = g.turns;
              order = g.order;
              greedily = g.greedily;
              counted = g.counted;
              sized = g.sized;
              said = g.said;
              clean_beyond = g.clean_beyond;
              clean_size = g.clean_size;
              clean_room = g.clean_room;
              marked = put_marked is (saved k g.order) list p m x ready_places g.marked (here g.order a);
              list_beyond = put_beyond list p m x (length is) r.below ∙ g.list_beyond;
              list_size = put_length list p m x ∙ g.list_size;
              list_room = omega (arith, put_length list p m x, g.list_room);
            };
        less = put_less list (length is) p m x ready_places r.below l;
      }

  -- IT WAITS for the first of its names that is missing.
  pub steps_waiting : (x : ℕ) → MissingName k.store.ids k.store.counts.rows (item_of is p) (note_of list p) x → 1 ≤ x
      → Steps is k clean bytes list k clean bytes (mark_put list p 1 x)
  steps_waiting x s h =
      let a = s.first h in
      let f = a.0 in
      let l = a.1.0 in
      let m = a.1.1.0 in
      let c = (sound_item (item_of is p) f l).count_limit_lem in
      put_steps 1 x (omega (arith, ready_effort, m.later, a.1.1.1))
      (λ order e.
      is_waiting refl e f l h a.1.1.1
      (λ q b o.
      by_leb (λ _. lacks_at k.store.ids k.store.counts.rows (item_of is p) f q ≡ false) q (note_of list p) (λ y. ready_known.1 f l q y o)
      (λ y. m.known q (omega arith) y))
      (m.missing a.1.1.1))

  -- IT IS REFUSED, although all of its names are there.
  pub steps_refused : AllKnown k (item_of is p) → is_done (answer_to k (item_of is p)) ≡ false → Steps is k clean bytes list k clean bytes (mark_put list p 3 0)
  steps_refused known u = put_steps 3 0 (omega (arith, ready_effort)) (λ order e. is_refused refl e known u)

  module _ (row : ℕ) (d : answer_to k (item_of is p) ≡ Done row) where
    -- The next item, which is admitted, is the lowest-numbered one that is.
    pub next_is_free : (order : List ℕ) → ((q : ℕ) → q < length is → Marked is (saved k order) q (mark_of list q) (note_of list q)) → free is (saved k order) p
        ≡ true
    next_is_free order marked =
        both_of (not (among p order)) (is_done (answer_to k (item_of is p)))
        (ap not (free_says is (saved k order) p (mark_of list p) (note_of list p) (marked p r.below) ready_free).0) (ap is_done d)

    -- Its bytes are behind those of the others.
    pub clean_more : (order : List ℕ) → clean_of is (saved (kept_after k 0 (item_of is p)) (order ++ (p ∷ []))) ≡ clean_of is (saved k order) ++ item_of is p
    clean_more order = ap joined (items_more is order p) ∙ joined_more (items_in is order) (item_of is p)

    -- The clean intake has room for them.
    pub ready_room : bytes + length (item_of is p) ≤ length clean
    ready_room =
        let g = r.going in
        let run : Run is r.k₀ (saved k g.order) = subst (Run is r.k₀) (sym g.greedily) (run_greedy is r.k₀ g.well g.turns) in
        let fits = run_fits is r.k₀ (keep is (saved k g.order) p) (run_keep is r.k₀ (saved k g.order) p r.below (next_is_free g.order
        g.marked) run) in
        omega (arith, fits, ap length (clean_more g.order), length-append (clean_of is (saved k g.order)) (item_of is p), g.sized, g.clean_room)

-- The first name that is missing of the bytes of an item, all of its names up to the number beside its mark being there.
pub missing_of : (ids : List ℕ) (n : ℕ) (part s : List ℕ) (w note x : ℕ) → part ≡ s → w ≡ note → MissingName ids n part w x → MissingName ids n s note x
missing_of ids n part s w note x e f m = subst (λ (y : ℕ). MissingName ids n s y x) f (subst (λ (y : List ℕ). MissingName ids n y w x) e m)

-- It is a small number.
pub missing_low : (ids : List ℕ) (n : ℕ) (s : List ℕ) (w x : ℕ) → MissingName ids n s w x → 1 ≤ x → x ≤ 64
missing_low ids n s w x m h = let a = m.first h in omega (arith, a.1.1.1, (sound_item s a.0 a.1.0).count_limit_lem)

-- The step of an item that waits, as it is written.
pub waiting_written : (is : List (List ℕ)) (k : Kept) (clean : List ℕ) (bytes : ℕ) (list : List ℕ) (p : ℕ) → Ready is k clean bytes list p → (x y : ℕ) (list'
    : List ℕ)
    → MissingName k.store.ids k.store.counts.rows (item_of is p) (note_of list p) x → 1 ≤ x → y ≡ x → list' ≡ mark_put list p 1 y
    → Steps is k clean bytes list k clean bytes list'
waiting_written is k clean bytes list p r x y list' m h e f =
    subst (λ (l : List ℕ). Steps is k clean bytes list k clean bytes l) (sym (f ∙ ap (mark_put list p 1) e)) (steps_waiting is k clean bytes list p r x m h)

-- What an admission of an item's bytes leaves and answers.
pub judged_as : (k k' : Kept) (part s : List ℕ) (a : Admitted) → part ≡ s → JudgedFrom k.store k.origins 0 part k'.store k'.origins a
    → (k' ≡ kept_after k 0 s) × (a ≡ answer_to k s)
judged_as k k' part s a e j =
    let q = subst (λ (x : List ℕ). JudgedFrom k.store k.origins 0 x k'.store k'.origins a) e j in (
      ap (λ t. record { store = t; origins = k'.origins }) q.after
          ∙ ap (λ o. record { store = (kept_after k 0 s).store; origins = o }) (q.origins ∙ ap (origins_after k.origins 0) q.answer),
      q.answer,
    )

-- A number other than 0 is no admission, and 0 is one.
pub number_undone : (a : Admitted) (n : ℕ) → n ≡ answer_number a → n ≢ 0 → is_done a ≡ false
number_undone a n e h = not_done a (λ r z. h (e ∙ ap answer_number z))

pub number_done : (a : Admitted) (n row : ℕ) → n ≡ answer_number a → n ≡ 0 → row ≡ answer_row a → a ≡ Done row
number_done a n row e z r = same_number a (Done row) (sym e ∙ z) (sym r)

-- The step of an item that is refused, as it is written: the store stays.
pub refused_written : (is : List (List ℕ)) (k : Kept) (clean : List ℕ) (bytes : ℕ) (list : List ℕ) (p : ℕ) → Ready is k clean bytes list p
    → (k' : Kept) (list' : List ℕ) → AllKnown k (item_of is p) → k' ≡ kept_after k 0 (item_of is p) → is_done (answer_to k (item_of is p)) ≡ false
    → list' ≡ mark_put list p 3 0 → Steps is k clean bytes list k' clean bytes list'
refused_written is k clean bytes list p r k' list' known e u f =
    let z : kept_after k 0 (item_of is p) ≡ k =
    undone_after k r.going.sound 0 (item_of is p) (λ n d. not_both_ways (is_done (answer_to k (item_of is p))) (ap is_done d) u) in
    subst (λ (l : List ℕ). Steps is k clean bytes list k' clean bytes l) (sym f)
    (subst (λ (x : Kept). Steps is k clean bytes list x clean bytes (mark_put list p 3 0)) (sym (e ∙ z)) (steps_refused is k clean bytes list p r known u))
