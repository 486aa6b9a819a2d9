-- What holds of every answer to the question for a current release. The ids are bytes, as a lent part's are.
-- Assumes nothing.
use Rattle.std.specs.Prelude.{Option, Some, None, Result, Ok, Err}
use Rattle.answers.specs.declared.Refusal.{Refusal}
use Prim.Native.Nat.{ℕ, ◌≤◌}
use mathlib.Core.Path.{◌≡◌, refl, sym, ap, subst, ◌∙◌}
use mathlib.Core.Bool.{Bool, true, false}
use mathlib.Core.List.{List}
use mathlib.Core.Logic.{⊎_elim, ◌≢◌}
use mathlib.Core.Option.{none, some}
use native.Mathlib.Omega.{arith}
use borrow.Author.Tests.{eqb-true, eqb-false}
use lib.ListN.{take}
use Rattle.basics.specs.Bytes.{Bytes}
use Rattle.answers.proofs.Distinct.{one_number}
use Rattle.item.specs.Layout.{payload_of}
use Rattle.store.specs.Table.{Table, WellFormed, index_of}
use Rattle.chains.specs.Chain.{Store, State, growing, forked, last_of, IsForked, Node, RowOf, AtOrBefore, AtOrBelow}
use Rattle.chains.proofs.Climb.{one_index, before_trans}
use Rattle.chains.proofs.Order.{last_node}
use Rattle.logs.specs.Held.{chain_of}
use Rattle.logs.proofs.Tables.{chain_valid}
use Rattle.frontiers.specs.Entries.{entry_of, ValidAt, BelowAt, FrontierBelow}
use Rattle.frontiers.specs.Numbers.{entries_of}
use Rattle.frontiers.specs.Calls.{FrontierOf, MergesInto}
use Rattle.frontiers.proofs.Entries.{some_not_none, some_inj}
use Rattle.frontiers.proofs.Numbers.{valid_entries}
use Rattle.frontiers.proofs.Merged.{merged_above_left, merged_above_right}
use Rattle.frontiers.proofs.Wrote.{wrote_merged, wrote_valid}
use Rattle.admission.specs.declared.Admitted.TheVariants.{Done}
use Rattle.desk.specs.Payload.{component_in, expanded_in, says_yes}
use Rattle.desk.specs.Desk.{Desk, DeskAdmits}
use Rattle.desk.proofs.Theorems.{done_recorded}
use Rattle.releases.specs.declared.Shown.{Shown}
use Rattle.releases.specs.Current.{owner_of, component_at, expanded_at, Carries, IsCurrent, Shows, HasRelease}
use Rattle.releases.specs.Current.{NoRelease, no_owner, no_entry, no_message}
use Rattle.releases.specs.Calls.{Askable, NotAsked, Answers, shown_index, OwnerGrowing}

-- REFUSALS

-- What is sound to ask is not refused.
pub askable_not : {t : Table} {f cs es owners : List ℕ} {c n : ℕ} → Askable t f cs es owners c → NotAsked t f cs es owners c n → ⊥
askable_not a (NotAsked.not_well_formed e x) = x a.well_formed
askable_not a (NotAsked.not_valid e w x) = x a.frontier
askable_not a (NotAsked.not_kept e w v x) = x a.columns
askable_not a (NotAsked.ownerless e w v k x) = x a.owners_known
askable_not a (NotAsked.no_component e w v k o x) = ⊎_elim (λ z. omega (arith, a.some)) (λ z. omega (arith, a.within)) x

-- A question is refused with one number.
pub refused_once : {t : Table} {f cs es owners : List ℕ} {c n m : ℕ} → NotAsked t f cs es owners c n → NotAsked t f cs es owners c m → n ≡ m
refused_once (NotAsked.not_well_formed e x) (NotAsked.not_well_formed d y) = e ∙ sym d
refused_once (NotAsked.not_well_formed e x) (NotAsked.not_valid d w y) = absurd (x w)
refused_once (NotAsked.not_well_formed e x) (NotAsked.not_kept d w v y) = absurd (x w)
refused_once (NotAsked.not_well_formed e x) (NotAsked.ownerless d w v k y) = absurd (x w)
refused_once (NotAsked.not_well_formed e x) (NotAsked.no_component d w v k o y) = absurd (x w)
refused_once (NotAsked.not_valid e w x) (NotAsked.not_well_formed d y) = absurd (y w)
refused_once (NotAsked.not_valid e w x) (NotAsked.not_valid d v y) = e ∙ sym d
refused_once (NotAsked.not_valid e w x) (NotAsked.not_kept d u v y) = absurd (x v)
refused_once (NotAsked.not_valid e w x) (NotAsked.ownerless d u v k y) = absurd (x v)
refused_once (NotAsked.not_valid e w x) (NotAsked.no_component d u v k o y) = absurd (x v)
refused_once (NotAsked.not_kept e w v x) (NotAsked.not_well_formed d y) = absurd (y w)
refused_once (NotAsked.not_kept e w v x) (NotAsked.not_valid d u y) = absurd (y v)
refused_once (NotAsked.not_kept e w v x) (NotAsked.not_kept d u z y) = e ∙ sym d
refused_once (NotAsked.not_kept e w v x) (NotAsked.ownerless d u z k y) = absurd (x k)
refused_once (NotAsked.not_kept e w v x) (NotAsked.no_component d u z k o y) = absurd (x k)
refused_once (NotAsked.ownerless e w v k x) (NotAsked.not_well_formed d y) = absurd (y w)
refused_once (NotAsked.ownerless e w v k x) (NotAsked.not_valid d u y) = absurd (y v)
refused_once (NotAsked.ownerless e w v k x) (NotAsked.not_kept d u z y) = absurd (y k)
refused_once (NotAsked.ownerless e w v k x) (NotAsked.ownerless d u z l y) = e ∙ sym d
refused_once (NotAsked.ownerless e w v k x) (NotAsked.no_component d u z l o y) = absurd (x o)
refused_once (NotAsked.no_component e w v k o x) (NotAsked.not_well_formed d y) = absurd (y w)
refused_once (NotAsked.no_component e w v k o x) (NotAsked.not_valid d u y) = absurd (y v)
refused_once (NotAsked.no_component e w v k o x) (NotAsked.not_kept d u z y) = absurd (y k)
refused_once (NotAsked.no_component e w v k o x) (NotAsked.ownerless d u z l y) = absurd (y o)
refused_once (NotAsked.no_component e w v k o x) (NotAsked.no_component d u z l p y) = e ∙ sym d

-- ONE ANSWER

-- What is shown is its four values.
shown_same : (x y : Shown) → x.row ≡ y.row → x.index ≡ y.index → x.expanded ≡ y.expanded → x.frozen ≡ y.frozen → x ≡ y
shown_same x y e f g h =
    ap (λ (r : ℕ). record { row = r; index = x.index; expanded = x.expanded; frozen = x.frozen }) e
    ∙ ap (λ (i : ℕ). record { row = y.row; index = i; expanded = x.expanded; frozen = x.frozen }) f
    ∙ ap (λ (b : Bool). record { row = y.row; index = y.index; expanded = b; frozen = x.frozen }) g
    ∙ ap (λ (b : Bool). record { row = y.row; index = y.index; expanded = y.expanded; frozen = b }) h

module _ (t : Table) (b : Bytes t.ids) (f cs es owners : List ℕ) (c : ℕ) where
  -- The last row of the owner's entry is none or the owner's.
  last_row : Askable t f cs es owners c → (k : State) → entry_of (entries_of f) (owner_of owners c) ≡ some k → Node (chain_of t) (owner_of owners c) (last_of k)
  last_row ask k e =
      let p : ValidAt (chain_of t) t.counts.authors (owner_of owners c) (some k) =
      subst (ValidAt (chain_of t) t.counts.authors (owner_of owners c)) e
      ((valid_entries (chain_of t) t.counts.authors f ask.frontier).each (owner_of owners c)) in
      last_node (chain_of t) (chain_valid t ask.well_formed b) (owner_of owners c) p.1.1

  -- THE CURRENT RELEASE IS ONE: of the messages at or before one row, one has the highest index.
  pub one_current : Askable t f cs es owners c → (k : State) → entry_of (entries_of f) (owner_of owners c) ≡ some k → (q r : ℕ)
      → IsCurrent t cs (owner_of owners c) (last_of k) c q → IsCurrent t cs (owner_of owners c) (last_of k) c r → q ≡ r
  one_current ask k e q r i j =
      let l = i.highest r j.one in
      let m = j.highest q i.one in
      one_index (chain_of t) (chain_valid t ask.well_formed b) (owner_of owners c) q r (last_of k) (last_row ask k e) i.one.back j.one.back
      (omega arith)

  -- So is what is shown,
  one_shown : Askable t f cs es owners c → (x y : Shown) → HasRelease t f cs es owners c x → HasRelease t f cs es owners c y → x ≡ y
  one_shown ask x y p q =
      let k : q.state ≡ p.state = some_inj (sym q.entry ∙ p.entry) in
      let j : Shows t cs es (owner_of owners c) p.state c y = subst (λ (z : State). Shows t cs es (owner_of owners c) z c y) k q.shows in
      let i = p.shows in
      let r : x.row ≡ y.row = one_current ask p.state p.entry x.row y.row i.current j.current in
      shown_same x y r (i.index ∙ ap (index_of t) r ∙ sym j.index) (i.expanded ∙ ap (λ (n : ℕ). says_yes (expanded_at es n)) r ∙ sym j.expanded)
      (i.frozen ∙ sym j.frozen)

  -- and it is not none.
  shown_not_none : (x : Shown) → HasRelease t f cs es owners c x → NoRelease t f cs owners c → ⊥
  shown_not_none x p (no_owner z) = p.owned z
  shown_not_none x p (no_entry z e) = some_not_none (sym p.entry ∙ e)
  shown_not_none x p (no_message z k e h) =
      let j : p.state ≡ k = some_inj (sym p.entry ∙ e) in
      h x.row (subst (λ (y : State). Carries t cs (owner_of owners c) (last_of y) c x.row) j p.shows.current.one)

  -- Two answers that keep the promise are one.
  pub one_answer : (a d : Result (Option Shown) Refusal) → Answers t f cs es owners c a → Answers t f cs es owners c d → a ≡ d
  one_answer (Ok (Some x)) (Ok (Some y)) (p, i) (q, j) = ap (λ (z : Shown). Ok (Some z)) (one_shown p x y i j)
  one_answer (Ok (Some x)) (Ok None) (p, i) (q, j) = absurd (shown_not_none x i j)
  one_answer (Ok (Some x)) (Err why) (p, i) q = absurd (askable_not p q)
  one_answer (Ok None) (Ok (Some y)) (p, i) (q, j) = absurd (shown_not_none y j i)
  one_answer (Ok None) (Ok None) p q = refl
  one_answer (Ok None) (Err why) (p, i) q = absurd (askable_not p q)
  one_answer (Err why) (Ok (Some y)) p (q, j) = absurd (askable_not q p)
  one_answer (Err why) (Ok None) p (q, j) = absurd (askable_not q p)
  one_answer (Err why) (Err how) p q = ap Err (one_number why how (refused_once p q))

-- A MERGE AT WHICH THE OWNER'S LOG STAYS GROWING

-- What is at or below a state that is not forked has its last row at or before that one's.
below_growing : (s : Store) (k m : State) → (IsForked m → ⊥) → AtOrBelow s k m → AtOrBefore s (last_of k) (last_of m)
below_growing s (growing l) (growing n) g p = p
below_growing s (growing l) (forked n lo hi) g p = absurd (g tt)
below_growing s (forked l x y) (growing n) g p = absurd p
below_growing s (forked l x y) (forked n lo hi) g p = absurd (g tt)

module _ (t : Table) (b : Bytes t.ids) (f h cs es owners : List ℕ) (c : ℕ) (valid : FrontierOf t h)
    (below : FrontierBelow (chain_of t) (entries_of f) (entries_of h)) (calm : OwnerGrowing h owners c) where
  -- The owner's entry is there still,
  entry_there : (k : State) → entry_of (entries_of f) (owner_of owners c) ≡ some k → entry_of (entries_of h) (owner_of owners c) ≡ none → ⊥
  entry_there k e g =
      let p : BelowAt (chain_of t) (some k) (entry_of (entries_of h) (owner_of owners c)) =
      subst (λ o. BelowAt (chain_of t) o (entry_of (entries_of h) (owner_of owners c))) e (below (owner_of owners c)) in
      subst (BelowAt (chain_of t) (some k)) g p

  -- and its last row at or after the old one:
  last_after : (k m : State) → entry_of (entries_of f) (owner_of owners c) ≡ some k → entry_of (entries_of h) (owner_of owners c) ≡ some m
      → AtOrBefore (chain_of t) (last_of k) (last_of m)
  last_after k m e g =
      let p : BelowAt (chain_of t) (some k) (entry_of (entries_of h) (owner_of owners c)) =
      subst (λ o. BelowAt (chain_of t) o (entry_of (entries_of h) (owner_of owners c))) e (below (owner_of owners c)) in
      below_growing (chain_of t) k m (calm m g) (subst (BelowAt (chain_of t) (some k)) g p)

  -- so what carried the component is still there.
  carried_on : WellFormed t → (k m : State) → entry_of (entries_of f) (owner_of owners c) ≡ some k → entry_of (entries_of h) (owner_of owners c) ≡ some m → (r : ℕ)
      → Carries t cs (owner_of owners c) (last_of k) c r → Carries t cs (owner_of owners c) (last_of m) c r
  carried_on w k m e g r p =
      record {
        message = p.message;
        back = before_trans (chain_of t) (chain_valid t w b) (owner_of owners c) r (last_of k) (last_of m) p.back (last_after k m e g);
        carries = p.carries;
      }

  -- The question is as sound to ask as it was.
  still_askable : Askable t f cs es owners c → Askable t h cs es owners c
  still_askable a =
      record {
        well_formed = a.well_formed;
        frontier = valid;
        columns = a.columns;
        owners_known = a.owners_known;
        some = a.some;
        within = a.within;
      }

  -- Above a frontier, while the owner's log is growing, the index of what is shown is no lower.
  pub above_never_lowers : (a d : Result (Option Shown) Refusal) → Answers t f cs es owners c a → Answers t h cs es owners c d → shown_index a ≤ shown_index d
  above_never_lowers (Ok (Some x)) (Ok (Some y)) (p, i) (q, j) =
      let z = j.shows.current.highest x.row
      (carried_on p.well_formed i.state j.state i.entry j.entry x.row i.shows.current.one) in
      omega (arith, z, i.shows.index, j.shows.index)
  above_never_lowers (Ok (Some x)) (Ok None) (p, i) (q, no_owner z) = absurd (i.owned z)
  above_never_lowers (Ok (Some x)) (Ok None) (p, i) (q, no_entry z e) = absurd (entry_there i.state i.entry e)
  above_never_lowers (Ok (Some x)) (Ok None) (p, i) (q, no_message z k e n) =
      absurd (n x.row (carried_on p.well_formed i.state k i.entry e x.row i.shows.current.one))
  above_never_lowers (Ok (Some x)) (Err why) (p, i) q = absurd (askable_not (still_askable p) q)
  above_never_lowers (Ok None) d p q = omega arith
  above_never_lowers (Err why) d p q = omega arith

-- A MERGE AT WHICH THE OWNER'S LOG STAYS GROWING NEVER LOWERS THE CURRENT RELEASE'S INDEX: neither that of the first frontier's nor that of the
-- second's; none counts 0.
pub merge_never_lowers : (t : Table) (f g out out' : List ℕ) (n : ℕ) → Bytes t.ids → MergesInto t f g out out' (Ok n)
    → (cs es owners : List ℕ) (c : ℕ) → OwnerGrowing (take n out') owners c → (a d m : Result (Option Shown) Refusal) → Answers t f cs es owners c a
    → Answers t g cs es owners c d → Answers t (take n out') cs es owners c m → (shown_index a ≤ shown_index m) × (shown_index d ≤ shown_index m)
merge_never_lowers t f g out out' n b p cs es owners c calm a d m i j k =
    let s = chain_of t in
    let r = take n out' in
    let v = chain_valid t p.0.well_formed b in
    let ef = valid_entries s t.counts.authors f p.0.first in
    let eg = valid_entries s t.counts.authors g p.0.second in
    let w = wrote_merged t f g out out' n p in (
      above_never_lowers t b f r cs es owners c (wrote_valid t f g out out' n p b)
          (merged_above_left s v t.counts.authors (entries_of f) (entries_of g) (entries_of r) ef eg w) calm a m i k,
      above_never_lowers t b g r cs es owners c (wrote_valid t f g out out' n p b)
          (merged_above_right s v t.counts.authors (entries_of f) (entries_of g) (entries_of r) ef eg w) calm d m j k,
    )

-- NOTHING BUT 1 IS YES

-- A release that is shown stands in a counted row's place.
shown_counted : {t : Table} {f cs es owners : List ℕ} {c : ℕ} {x : Shown} → HasRelease t f cs es owners c x → RowOf (chain_of t) (owner_of owners c) x.row
shown_counted p = p.shows.current.one.message

-- Where the answer says that a menu starts expanded, the byte in the row's place is 1; where it says that it does not, the byte is 0. So a byte
-- that is neither is never read as yes, nor as no.
pub yes_is_one : (t : Table) (f cs es owners : List ℕ) (c : ℕ) (x : Shown) → Answers t f cs es owners c (Ok (Some x))
    → (x.expanded ≡ true → expanded_at es x.row ≡ 1) × (x.expanded ≡ false → expanded_at es x.row ≡ 0)
yes_is_one t f cs es owners c x (a, p) = (
  λ e. eqb-true (expanded_at es x.row) 1 (sym p.shows.expanded ∙ e),
  λ e.
      let n : expanded_at es x.row ≢ 1 = eqb-false (expanded_at es x.row) 1 (sym p.shows.expanded ∙ e) in
      let r = shown_counted p in
      let l = a.columns.marked x.row r.held r.some in
      omega (arith, n, l),
)

-- BY ANY CALL: of a row that the desk admitted, the question answers yes only where the item's own payload has the byte 1 there, and no only where it
-- has 0; and it is asked for by the payload's own component number.
pub shows_what_was_said : (t : Table) (d : Desk) (g : ℕ) (s : List ℕ) (u : Table) (d' : Desk) (n : ℕ) → DeskAdmits t d g s u d' (Done n)
    → (f owners : List ℕ) (c : ℕ) (x : Shown) → Answers u f d'.components d'.expanded owners c (Ok (Some x)) → x.row ≡ n
    → (c ≡ component_in (payload_of s)) × ((x.expanded ≡ true → expanded_in (payload_of s) ≡ 1) × (x.expanded ≡ false → expanded_in (payload_of s) ≡ 0))
shows_what_was_said t d g s u d' n h f owners c x a e =
    let q = done_recorded t d g s u d' n h in
    let y = yes_is_one u f d'.components d'.expanded owners c x a in
    let o : expanded_at d'.expanded x.row ≡ expanded_in (payload_of s) = ap (expanded_at d'.expanded) e ∙ q.expanded.own in (
      sym a.1.shows.current.one.carries ∙ ap (component_at d'.components) e ∙ q.component.own,
      (λ z. sym o ∙ y.0 z, λ z. sym o ∙ y.1 z),
    )
