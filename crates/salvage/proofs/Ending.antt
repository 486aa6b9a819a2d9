-- The start and the end of a salvage.
-- Assumes nothing.
use Prim.Native.Nat.{ℕ, ◌*◌, ◌≤◌, ◌<◌}
use mathlib.Core.Path.{◌≡◌, refl, sym, ap, subst, ◌∙◌}
use mathlib.Core.Bool.{false}
use mathlib.Core.List.{List, [], ◌++◌}
use mathlib.Core.Logic.{◌≢◌}
use native.Mathlib.Omega.{arith}
use lib.ListN.{length, drop, take-append-drop}
use Rattle.basics.proofs.Tests.{by_leb}
use Rattle.cutting.specs.Cutting.{items_of, joined}
use Rattle.cutting.proofs.Items.{items_joined}
use Rattle.store.specs.Clauses.{table_of}
use Rattle.store.specs.Table.{WellFormed}
use Rattle.store.specs.declared.lent.Counts.{Counts}
use Rattle.store.specs.declared.lent.StoreMut.{StoreMut}
use Rattle.store.proofs.Validity.{empty_well_formed}
use Rattle.morning.specs.Intake.{Kept, Sound, kept_of, kept_by}
use Rattle.rescue.specs.Greedy.{Salvage, item_of, among, free, next_item, greedy, salvage_from, items_in}
use Rattle.rescue.specs.Salvaging.{Lent, store_in, empty_counts, empty_in, clean_of, list_for, Rescues}
use Rattle.rescue.proofs.Lost.{waits_not_done}
use Rattle.rescue.proofs.Turns.{lowest_is, turn_none, greedy_stays, greedy_last, greedy_ends}
use Rattle.salvage.specs.Marks.{mark_of, note_of, AllFree, LowestFree, Begins, BeginsIn}
use Rattle.salvage.specs.Working.{saved, Marked, is_kept, is_waiting, is_free, is_refused, Rescuing, Ready, NoneFree, MayStart}
use Rattle.salvage.specs.Listing.{SettledAt, as_kept, as_left, Settled, MayAnswerAll, AnsweredAll}
use Rattle.salvage.proofs.Knowing.{lacks_waits, unmarked_unfree}

-- An empty store is sound, whatever is lent.
pub empty_sound : (store : StoreMut) (origins : List ℕ) → store.counts ≡ empty_counts → Sound (kept_by store origins)
empty_sound store origins e =
    record {
      store =
          subst (λ c. WellFormed (table_of store.keys.now store.ids.now store.rows.now store.deps.now store.branches.now c)) (sym e)
          (empty_well_formed store.keys.now store.ids.now store.rows.now store.deps.now store.branches.now);
      held = omega (arith, ap (λ (c : Counts). c.rows) e);
    }

-- Nothing is kept yet.
pub rescuing_none : (is : List (List ℕ)) (store : StoreMut) (origins clean list : List ℕ) → store.counts ≡ empty_counts → MayStart is clean list
    → Rescuing is (kept_by store origins) clean list (kept_by store origins) clean 0 list
unfolding greedy items_in joined among
rescuing_none is store origins clean list e m =
    record {
      well = empty_sound store origins e;
      sound = empty_sound store origins e;
      turns = 0;
      order = [];
      greedily = refl;
      counted = ap (λ (c : Counts). c.rows) e;
      sized = refl;
      said = refl;
      clean_beyond = refl;
      clean_size = refl;
      clean_room = m.clean_room;
      marked =
          λ p b.
          let a = m.all_free p b in
          is_free a.0 refl (omega (arith, a.1)) (λ f l q h o. absurd (omega (arith, a.1)));
      list_beyond = refl;
      list_size = refl;
      list_room = m.list_room;
    }

-- The lowest free item is next.
pub ready_of : (s begins : List ℕ) (n : ℕ) (k₀ : Kept) (c₀ l₀ : List ℕ) (k : Kept) (clean : List ℕ) (bytes : ℕ) (list : List ℕ) (p : ℕ)
    → BeginsIn s begins n → Rescuing (items_of s) k₀ c₀ l₀ k clean bytes list → LowestFree list n p → p < n → Ready (items_of s) k clean bytes list p
ready_of s begins n k₀ c₀ l₀ k clean bytes list p b g l h =
    record { k₀ = k₀; c₀ = c₀; l₀ = l₀; going = g; lowest = subst (λ (m : ℕ). LowestFree list m p) b.all l; below = omega (arith, b.all) }

-- None is free where the lowest is beyond all.
pub none_free_of : (s begins : List ℕ) (n : ℕ) (list : List ℕ) (p : ℕ) → BeginsIn s begins n → LowestFree list n p → n ≤ p → NoneFree (items_of s) list
none_free_of s begins n list p b l h q o = l.lower q (omega (arith, b.all))

-- What is known of an item that is not free: it is settled.
marked_settled : (is : List (List ℕ)) (g : Salvage) (p m x : ℕ) → Sound g.kept → Marked is g p m x → m ≢ 2 → SettledAt is g p m x
marked_settled is g p m x w (is_kept e a b) n = as_kept e a b
marked_settled is g p m x w (is_waiting e a f l h j known lacks) n =
    as_left (λ z. omega arith) a (waits_not_done g.kept w (item_of is p) f l (lacks_waits g.kept (item_of is p) f x h j lacks))
marked_settled is g p m x w (is_free e a h known) n = absurd (n e)
marked_settled is g p m x w (is_refused e a known u) n = as_left (λ z. omega arith) a u

module _ (is : List (List ℕ)) (k₀ : Kept) (c₀ l₀ : List ℕ) (k : Kept) (clean : List ℕ) (bytes : ℕ) (list : List ℕ) (g : Rescuing is k₀ c₀ l₀ k clean bytes list)
    (none : NoneFree is list) where
  -- Where no item is free all are settled,
  pub all_settled : Settled is k g.order list
  all_settled p b = marked_settled is (saved k g.order) p (mark_of list p) (note_of list p) g.sound (g.marked p b) (none p b)

  -- and what is salvaged is what greedy gives: no more turns are left.
  pub all_turns : saved k g.order ≡ salvage_from is k₀
  all_turns =
      let last : (q : ℕ) → q < length is → free is (saved k g.order) q ≡ false =
      λ q b. unmarked_unfree is (saved k g.order) q (mark_of list q) (note_of list q) g.sound (g.marked q b) (none q b) in
      by_leb (λ _. saved k g.order ≡ salvage_from is k₀) g.turns (length is)
      (λ h. greedy_last is (saved k₀ []) (saved k g.order) g.turns g.greedily h last)
      (λ h.
      let s = greedy is (saved k₀ []) (length is) in
      let z : next_item is s ≡ length is =
      lowest_is (free is s) (length is) (length is) (omega arith) (λ p b. greedy_ends is (saved k₀ []) refl p b) (λ l. absurd (omega arith)) in
      g.greedily ∙ greedy_stays is (saved k₀ []) (length is) g.turns (omega arith) (turn_none is s (omega arith)))

  -- The answers may be listed.
  pub may_answer_all : MayAnswerAll is k list
  may_answer_all = record { sound = g.sound; places = g.list_room; order = g.order; settled = all_settled }

-- The table of beginnings, of all items.
pub begins_in : (s begins : List ℕ) (n : ℕ) → n ≡ length (items_of s) → Begins (items_of s) begins (length (items_of s)) → BeginsIn s begins n
begins_in s begins n e b = record { all = e; table = subst (Begins (items_of s) begins) (sym e) b }

-- What a salvage starts from.
pub may_start : (s clean list list' : List ℕ) (n : ℕ) → n ≡ length (items_of s) → length s ≤ length clean → 2 * n ≤ length list → AllFree list n list'
    → MayStart (items_of s) clean list'
may_start s clean list list' n e h l f =
    record {
      clean_room = omega (arith, ap length (items_joined s));
      list_room = omega (arith, f.size);
      all_free = λ p b. f.marks p (omega arith);
    }

-- What a salvage came from is what an empty store keeps, whatever is lent.
pub rescuing_from : (is : List (List ℕ)) (store : StoreMut) (origins clean list₁ : List ℕ) (k : Kept) (clean' : List ℕ) (bytes : ℕ) (list' : List ℕ)
    → store.counts ≡ empty_counts → Rescuing is (kept_by store origins) clean list₁ k clean' bytes list'
    → Rescuing is (kept_of store.keys.now store.ids.now store.rows.now store.deps.now store.branches.now origins empty_counts) clean list₁ k clean' bytes list'
rescuing_from is store origins clean list₁ k clean' bytes list' e g =
    subst (λ c. Rescuing is (kept_of store.keys.now store.ids.now store.rows.now store.deps.now store.branches.now origins c) clean list₁ k clean' bytes list') e g

-- ALL IS SALVAGED: the kept items, the clean intake and the list.
pub all_rescued : (s : List ℕ) (n : ℕ) (l l' : Lent) (list₁ : List ℕ) (k : Kept) (list₂ : List ℕ) (bytes : ℕ) (c : Counts) → n ≡ length (items_of s)
    → AllFree l.list n list₁ → Rescuing (items_of s) (empty_in l) l.clean list₁ k l'.clean bytes list₂ → NoneFree (items_of s) list₂
    → AnsweredAll (items_of s) n k list₂ (store_in l' c) l'.list → Rescues s l l' n bytes c
all_rescued s n l l' list₁ k list₂ bytes c e f g none a =
    let is = items_of s in
    let k₀ = empty_in l in
    let z = all_turns is k₀ l.clean list₁ k l'.clean bytes list₂ g none in
    let t = a.listed g.order (all_settled is k₀ l.clean list₁ k l'.clean bytes list₂ g none) in
    let b : drop (2 * n) l'.list ≡ drop (2 * n) l.list =
    a.beyond ∙ ap (λ (m : ℕ). drop (2 * m) list₂) e ∙ g.list_beyond ∙ ap (λ (m : ℕ). drop (2 * m) list₁) (sym e) ∙ f.beyond in
    record {
      store = a.kept ∙ ap (λ (x : Salvage). x.kept) z;
      clean =
          sym (take-append-drop bytes l'.clean)
          ∙ ap (λ (x : List ℕ). x ++ drop bytes l'.clean) (g.said ∙ ap (clean_of is) z)
          ∙ ap (λ (x : List ℕ). clean_of is (salvage_from is k₀) ++ x) g.clean_beyond;
      list =
          sym (take-append-drop (2 * n) l'.list)
          ∙ ap (λ (x : List ℕ). x ++ drop (2 * n) l'.list) (t ∙ ap (λ (x : Salvage). list_for is x n) z)
          ∙ ap (λ (x : List ℕ). list_for is (salvage_from is k₀) n ++ x) b;
      counted = e;
      sized = g.sized ∙ ap (λ (x : Salvage). length (clean_of is x)) z;
    }
