-- Demand 3 for frontiers, over calls: any tree of merges and appends over valid frontiers and rows ends in the frontier of all that
-- is merged; so two trees that are given the same end in the same numbers. The ids are bytes, as a lent part's are.
-- Assumes nothing.
use Rattle.std.specs.Prelude.{Result, Ok, Err}
use Rattle.answers.specs.declared.Refusal.{Refusal}
use Prim.Native.Nat.{ℕ, ◌≤◌}
use mathlib.Core.Path.{◌≡◌, refl, sym, ap, ◌∙◌, subst}
use mathlib.Core.Logic.{◌⊎◌, inl, inr, ⊎_elim, ◌↔◌}
use mathlib.Core.List.{List}
use mathlib.Core.Option.{Option, none, some, IsSome}
use native.Mathlib.Omega.{arith}
use lib.ListN.{length, take, length-append}
use lib.Seq.{take-append_seam, length-take-le}
use Rattle.answers.specs.Number.{number_of}
use Rattle.basics.specs.Bytes.{Bytes}
use Rattle.store.specs.Table.{Table, WellFormed}
use Rattle.chains.specs.Chain.{Store, Valid, State, Closed, Union}
use Rattle.chains.proofs.Sandwich.{Sandwich, sandwich_state, state_unique}
use Rattle.chains.proofs.Sets.{stands_closed, sandwich_ext, own_sandwich, reduce}
use Rattle.chains.proofs.Merge.{merge_sandwich}
use Rattle.logs.specs.Held.{chain_of}
use Rattle.logs.proofs.Tables.{chain_valid}
use Rattle.frontiers.specs.Entries.{entry_of, flat, ValidAt, Joins}
use Rattle.frontiers.specs.Numbers.{entries_of}
use Rattle.frontiers.specs.Calls.{FrontierOf, NotMerged, MergesInto}
use Rattle.frontiers.specs.Appending.{row_frontier, Held, NotAppended, AppendsEntry}
use Rattle.frontiers.specs.Trees.{FrontierCalls, given, merging, appending, Ran, Proper, Leaf, StandsAt, AllStandOn, Present, SameMessages, Stated}
use Rattle.frontiers.specs.Trees.{FrontierOfAll, Ends}
use Rattle.frontiers.proofs.Entries.{rising_unique}
use Rattle.frontiers.proofs.Numbers.{valid_entries, valid_flat}
use Rattle.frontiers.proofs.Appends.{row_valid}
use Rattle.frontiers.proofs.Answers.{accepted_compared}
use Rattle.frontiers.proofs.Wrote.{wrote_merged, wrote_valid, wrote_length, append_merges}

module _ (s : Store) (v : Valid s) (n a : ℕ) where
  -- What an entry stands on is closed under previous links.
  pub stands_at_closed : (x : Option State) → ValidAt s n a x → Closed s a (StandsAt s x)
  stands_at_closed none p = record { rows = λ y h. absurd h; back = λ y h. absurd h }
  stands_at_closed (some l) p = stands_closed s v a p.1.1

  -- An entry that is there exactly when `P` holds, and is then the state of `S`, by what it stands on and takes in.
  abbrev pub Stood : (ℕ → Type 0) → Type 0 → Option State → Type 0
  Stood S P none = (P → ⊥) × ((x : ℕ) → S x → ⊥)
  Stood S P (some l) = P × Sandwich s a S l

  pub own_stood : (x : Option State) → ValidAt s n a x → Stood (StandsAt s x) (IsSome x) x
  own_stood none p = (λ h. h, λ y h. h)
  own_stood (some l) p = (tt, own_sandwich s v a p.1.1)

  -- The join of two such entries is one for the union.
  pub joins_stood : {U W : ℕ → Type 0} (P Q : Type 0) (x y r : Option State) → Closed s a U → Closed s a W → Joins s x y r → Stood U P x → Stood W Q y
      → Stood (Union U W) (P ⊎ Q) r
  joins_stood P Q none none r cu cw j h k = rw j (λ z. ⊎_elim h.0 k.0 z, λ y z. ⊎_elim (h.1 y) (k.1 y) z)
  joins_stood P Q none (some l) r cu cw j h k =
      rw j (inr k.0, sandwich_ext s v a (λ y z. inr z) (λ y z. ⊎_elim (λ w. absurd (h.1 y w)) (λ w. w) z) k.1)
  joins_stood P Q (some l) none r cu cw j h k =
      rw j (inl h.0, sandwich_ext s v a (λ y z. inl z) (λ y z. ⊎_elim (λ w. w) (λ w. absurd (k.1 y w)) z) h.1)
  joins_stood P Q (some l) (some o) none cu cw j h k = absurd j
  joins_stood P Q (some l) (some o) (some m) cu cw j h k =
      let w = merge_sandwich s v a l o m h.1.valid k.1.valid j in
      let one = reduce s v a cu.rows h.1 w in
      let two = reduce s v a cw.rows k.1 (sandwich_ext s v a (λ x z. ⊎_elim inr inl z) (λ x z. ⊎_elim inr inl z) one) in
      (inl h.0, sandwich_ext s v a (λ x z. ⊎_elim inr inl z) (λ x z. ⊎_elim inr inl z) two)

  -- What stands so for one set does for another with the same members.
  pub stood_ext : {S R : ℕ → Type 0} {P Q : Type 0} (x : Option State) → ((y : ℕ) → S y ↔ R y) → P ↔ Q → Stood S P x → Stood R Q x
  stood_ext none f g h = (λ q. h.0 (g.1 q), λ y r. h.1 y ((f y).1 r))
  stood_ext (some l) f g h = (g.0 h.0, sandwich_ext s v a (λ y. (f y).0) (λ y. (f y).1) h.1)

  pub stood_stated : {S : ℕ → Type 0} (P : Type 0) (x : Option State) → Closed s a S → Stood S P x → Stated s S P x
  stood_stated P none c h = h.0
  stood_stated {S = S} P (some l) c h = (h.0, sandwich_state s v a S c h.1)

  -- There is one such entry.
  pub stated_unique : (S : ℕ → Type 0) (P : Type 0) (x y : Option State) → Closed s a S → Stated s S P x → Stated s S P y → x ≡ y
  stated_unique S P none none c h k = refl
  stated_unique S P none (some l) c h k = absurd (h k.0)
  stated_unique S P (some l) none c h k = absurd (k h.0)
  stated_unique S P (some l) (some o) c h k = ap some (state_unique s v a S c l o h.1 k.1)

module _ (t : Table) (w : WellFormed t) (b : Bytes t.ids) where
  -- Every frontier of the set is valid.
  abbrev AllValid : (List ℕ → Type 0) → Type 0
  AllValid L = (f : List ℕ) → L f → FrontierOf t f

  -- So are those that proper calls merge.
  pub leaves_valid : (c : FrontierCalls) → Proper t c → (f : List ℕ) → Leaf t c f → FrontierOf t f
  leaves_valid (given g) p f e = subst (FrontierOf t) (sym e) p
  leaves_valid (merging c d) p f (inl h) = leaves_valid c p.0 f h
  leaves_valid (merging c d) p f (inr h) = leaves_valid d p.1 f h
  leaves_valid (appending c x) p f (inl h) = leaves_valid c p.0 f h
  leaves_valid (appending c x) p f (inr e) = subst (FrontierOf t) (sym e) (row_valid t b w x p.1)

  -- An entry of a valid frontier is valid.
  entry_valid : (f : List ℕ) → FrontierOf t f → (a : ℕ) → ValidAt (chain_of t) t.counts.authors a (entry_of (entries_of f) a)
  entry_valid f v a = (valid_entries (chain_of t) t.counts.authors f v).each a

  -- What the entries of valid frontiers stand on is closed under previous links.
  pub all_closed : (L : List ℕ → Type 0) → ((f : List ℕ) → L f → FrontierOf t f) → (a : ℕ) → Closed (chain_of t) a (AllStandOn t L a)
  all_closed L f a =
      record {
        rows = λ x h. (here h.frontier h.one).rows x h.on;
        back = λ x h.
            ⊎_elim inl (λ g. inr record { frontier = h.frontier; one = h.one; on = g }) ((here h.frontier h.one).back x h.on);
      }
    where
      here : (g : List ℕ) → L g → Closed (chain_of t) a (StandsAt (chain_of t) (entry_of (entries_of g) a))
      here g h = stands_at_closed (chain_of t) (chain_valid t w b) t.counts.authors a (entry_of (entries_of g) a) (entry_valid g (f g h) a)

  -- A frontier that has come of a set of frontiers.
  record Came (L : List ℕ → Type 0) (f : List ℕ) : Type 0 where
    valid : FrontierOf t f
    stood : (a : ℕ) → Stood (chain_of t) (chain_valid t w b) t.counts.authors a (AllStandOn t L a) (Present L a) (entry_of (entries_of f) a)

  -- One frontier alone.
  came_alone : (f : List ℕ) → FrontierOf t f → Came (λ g. g ≡ f) f
  came_alone f v =
      record {
        valid = v;
        stood = λ a.
            stood_ext (chain_of t) (chain_valid t w b) t.counts.authors a (entry_of (entries_of f) a)
            (λ y. (
              λ h. record { frontier = f; one = refl; on = h },
              λ h. subst (λ (g : List ℕ). StandsAt (chain_of t) (entry_of (entries_of g) a) y) h.one h.on,
            ))
            (λ h. record { frontier = f; one = refl; some = h }, λ h. subst (λ (g : List ℕ). IsSome (entry_of (entries_of g) a)) h.one h.some)
            (own_stood (chain_of t) (chain_valid t w b) t.counts.authors a (entry_of (entries_of f) a) (entry_valid f v a));
      }

  -- Of one set comes what comes of another that has the same messages.
  came_same : (L M : List ℕ → Type 0) (f : List ℕ) → SameMessages t L M → Came L f → Came M f
  came_same L M f e x =
      record {
        valid = x.valid;
        stood = λ a. stood_ext (chain_of t) (chain_valid t w b) t.counts.authors a (entry_of (entries_of f) a) (e.on a) (e.present a) (x.stood a);
      }

  -- What has come of valid frontiers is the frontier of them all,
  came_all : (L : List ℕ → Type 0) (f : List ℕ) → AllValid L → Came L f → FrontierOfAll t L f
  came_all L f v x =
      record {
        valid = x.valid;
        entries = λ a. stood_stated (chain_of t) (chain_valid t w b) t.counts.authors a (Present L a) (entry_of (entries_of f) a) (all_closed L v a)
            (x.stood a);
      }

  -- and there is one.
  pub one_of_all : (L : List ℕ → Type 0) (f g : List ℕ) → ((h : List ℕ) → L h → FrontierOf t h) → FrontierOfAll t L f → FrontierOfAll t L g → f ≡ g
  one_of_all L f g v x y =
      let s = chain_of t in
      let k = t.counts.authors in
      sym (valid_flat s k f x.valid)
      ∙ ap flat (rising_unique (valid_entries s k f x.valid).rising (valid_entries s k g y.valid).rising
      (λ a. stated_unique s (chain_valid t w b) k a (AllStandOn t L a) (Present L a) (entry_of (entries_of f) a) (entry_of (entries_of g) a)
      (all_closed L v a) (x.entries a) (y.entries a)))
      ∙ valid_flat s k g y.valid

  -- The union of two sets of frontiers.
  abbrev Both : (List ℕ → Type 0) → (List ℕ → Type 0) → List ℕ → Type 0
  Both L M f = L f ⊎ M f

  both_stand : (L M : List ℕ → Type 0) (a x : ℕ) → Union (AllStandOn t L a) (AllStandOn t M a) x ↔ AllStandOn t (Both L M) a x
  both_stand L M a x = (to, λ h. from h.frontier h.one h.on)
    where
      to : Union (AllStandOn t L a) (AllStandOn t M a) x → AllStandOn t (Both L M) a x
      to (inl h) = record { frontier = h.frontier; one = inl h.one; on = h.on }
      to (inr h) = record { frontier = h.frontier; one = inr h.one; on = h.on }

      from : (f : List ℕ) → Both L M f → StandsAt (chain_of t) (entry_of (entries_of f) a) x → Union (AllStandOn t L a) (AllStandOn t M a) x
      from f (inl l) h = inl record { frontier = f; one = l; on = h }
      from f (inr l) h = inr record { frontier = f; one = l; on = h }

  both_present : (L M : List ℕ → Type 0) (a : ℕ) → (Present L a ⊎ Present M a) ↔ Present (Both L M) a
  both_present L M a = (to, λ h. from h.frontier h.one h.some)
    where
      to : Present L a ⊎ Present M a → Present (Both L M) a
      to (inl h) = record { frontier = h.frontier; one = inl h.one; some = h.some }
      to (inr h) = record { frontier = h.frontier; one = inr h.one; some = h.some }

      from : (f : List ℕ) → Both L M f → IsSome (entry_of (entries_of f) a) → Present L a ⊎ Present M a
      from f (inl l) h = inl record { frontier = f; one = l; some = h }
      from f (inr l) h = inr record { frontier = f; one = l; some = h }

  -- What a merge of two of them wrote has come of both sets.
  came_merged : (L M : List ℕ → Type 0) → AllValid L → AllValid M → (f g out out' : List ℕ) (n : ℕ) → Came L f → Came M g
      → MergesInto t f g out out' (Ok n) → Came (Both L M) (take n out')
  came_merged L M vl vm f g out out' n x y p =
      record {
        valid = wrote_valid t f g out out' n p b;
        stood = λ a.
            stood_ext (chain_of t) (chain_valid t w b) t.counts.authors a (entry_of (entries_of (take n out')) a) (both_stand L M a) (both_present L M a)
            (joins_stood (chain_of t) (chain_valid t w b) t.counts.authors a (Present L a) (Present M a) (entry_of (entries_of f) a)
            (entry_of (entries_of g) a) (entry_of (entries_of (take n out')) a)
            (all_closed L vl a) (all_closed M vm a) ((wrote_merged t f g out out' n p).joins a) (x.stood a) (y.stood a));
      }

  -- Where calls have come to.
  abbrev CameTo : FrontierCalls → Result ℕ Refusal → List ℕ → Type 0
  CameTo c (Ok n) l = (n ≤ length l) × Came (Leaf t c) (take n l)
  CameTo c (Err why) l = number_of why ≡ 21

  -- Where a merge comes to.
  merge_came : (c d : FrontierCalls) → Proper t c → Proper t d → (f g out out' : List ℕ) (r : Result ℕ Refusal) → Came (Leaf t c) f → Came (Leaf t d) g
      → MergesInto t f g out out' r → CameTo (merging c d) r out'
  merge_came c d p q f g out out' (Ok n) x y m =
      let h = m.1.fits in
      let e = wrote_length t f g out out' n m in
      (omega arith, came_merged (Leaf t c) (Leaf t d) (leaves_valid c p) (leaves_valid d q) f g out out' n x y m)
  merge_came c d p q f g out out' (Err why) x y (NotMerged.not_sound m, e) =
      absurd (accepted_compared (record { well_formed = w; first = x.valid; second = y.valid }) m)
  merge_came c d p q f g out out' (Err why) x y (NotMerged.no_room m a h, e) = m

  -- Where an append comes to.
  append_came : (c : FrontierCalls) → Proper t c → (n x : ℕ) → Held t x → (l l' : List ℕ) (r : Result ℕ Refusal) → n ≤ length l → Came (Leaf t c) (take n l)
      → AppendsEntry t l n x l' r → CameTo (appending c x) r l'
  append_came c p n x h l l' (Ok m) k y a =
      merge_came c (given (row_frontier t.rows x)) p (row_valid t b w x h) (take n l) (row_frontier t.rows x) l l' (Ok m) y
      (came_alone (row_frontier t.rows x) (row_valid t b w x h)) (append_merges t l n x l' m b a)
  append_came c p n x h l l' (Err why) k y (NotAppended.not_well_formed e f, d) = absurd (f w)
  append_came c p n x h l l' (Err why) k y (NotAppended.not_valid e u f, d) = absurd (f record { within = k; valid = y.valid })
  append_came c p n x h l l' (Err why) k y (NotAppended.not_a_row e u v f, d) = absurd (f h)
  append_came c p n x h l l' (Err why) k y (NotAppended.no_room e u v i f, d) = e

  -- Where a tree of calls comes to.
  run_came : {c : FrontierCalls} {r : Result ℕ Refusal} {l : List ℕ} → Ran t c r l → Proper t c → CameTo c r l
  run_came (Ran.lent f room) p =
      (rw length-append (omega arith), subst (Came (λ g. g ≡ f)) (sym (take-append_seam f room)) (came_alone f p))
  run_came (Ran.merged {c = c} {d = d} n m k l out out' r x y q) p =
      merge_came c d p.0 p.1 (take n k) (take m l) out out' r (run_came x p.0).1 (run_came y p.1).1 q
  run_came (Ran.appended {c = c} n x l l' r y q) p =
      let i = run_came y p.0 in
      append_came c p.0 n x p.1 l l' r i.0 i.1 q

  -- Demand 3: any tree of merges and appends ends in the frontier of all that is merged, or the last call is refused for want of room.
  pub runs_end : (c : FrontierCalls) (r : Result ℕ Refusal) (l : List ℕ) → Proper t c → Ran t c r l → Ends t c r l
  runs_end c (Ok n) l p x = let i = run_came x p in (i.0, came_all (Leaf t c) (take n l) (leaves_valid c p) i.1)
  runs_end c (Err why) l p x = run_came x p

  -- Demand 3: two trees that are given the same messages end in the same numbers, in any order and grouping, with repeats.
  pub runs_agree : (c d : FrontierCalls) (n m : ℕ) (k l : List ℕ) → Proper t c → Proper t d → SameMessages t (Leaf t c) (Leaf t d)
      → Ran t c (Ok n) k → Ran t d (Ok m) l → (n ≡ m) × (take n k ≡ take m l)
  runs_agree c d n m k l p q e x y =
      let i : CameTo c (Ok n) k = run_came x p in
      let j : CameTo d (Ok m) l = run_came y q in
      let v = leaves_valid d q in
      let h : take n k ≡ take m l = one_of_all (Leaf t d) (take n k) (take m l) v
      (came_all (Leaf t d) (take n k) v (came_same (Leaf t c) (Leaf t d) (take n k) e i.1)) (came_all (Leaf t d) (take m l) v j.1) in
      (sym (length-take-le n k i.0) ∙ ap length h ∙ length-take-le m l j.0, h)

  -- So do two trees of the same frontiers.
  pub runs_same_leaves : (c d : FrontierCalls) (n m : ℕ) (k l : List ℕ) → Proper t c → Proper t d → ((f : List ℕ) → Leaf t c f ↔ Leaf t d f)
      → Ran t c (Ok n) k → Ran t d (Ok m) l → (n ≡ m) × (take n k ≡ take m l)
  runs_same_leaves c d n m k l p q e =
      runs_agree c d n m k l p q
      record {
        present = λ a. (
          λ h. record { frontier = h.frontier; one = (e h.frontier).0 h.one; some = h.some },
          λ h. record { frontier = h.frontier; one = (e h.frontier).1 h.one; some = h.some },
        );
        on = λ a x. (
          λ h. record { frontier = h.frontier; one = (e h.frontier).0 h.one; on = h.on },
          λ h. record { frontier = h.frontier; one = (e h.frontier).1 h.one; on = h.on },
        );
      }
