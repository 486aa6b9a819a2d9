-- Between two items the intake stands as it should: at the start, and after each item. So no append of an admitted row is refused.
-- Assumes nothing.
use Rattle.std.specs.Prelude.{Ok, Err}
use Prim.Native.Nat.{ℕ, zero, suc, ◌-◌, ◌*◌, ◌≤◌}
use mathlib.Core.Path.{◌≡◌, refl, sym, ap, ◌∙◌, subst}
use mathlib.Core.List.{List, ◌∷◌}
use native.Mathlib.Omega.{arith}
use lib.ListN.{length, set, replicate}
use Rattle.basics.specs.Bytes.{Bytes}
use Rattle.store.specs.Limits.{author_limit, row_limit}
use Rattle.store.specs.Clauses.{table_of}
use Rattle.store.specs.Table.{Table, WellFormed}
use Rattle.store.specs.declared.lent.Counts.{Counts}
use Rattle.store.specs.declared.lent.StoreMut.{StoreMut}
use Rattle.store.proofs.Validity.{empty_well_formed}
use Rattle.admission.specs.declared.Admitted.{Admitted}
use Rattle.admission.specs.declared.Admitted.TheVariants.{Done, Held, Refused}
use Rattle.origins.specs.Origins.{origins_after, JudgedFrom, AdmitsFrom, sound}
use Rattle.origins.proofs.Theorems.{from_keeps, undone_keeps}
use Rattle.morning.specs.Intake.{Kept, Sound, kept_by}
use Rattle.morning.proofs.Going.{kept_after_lem}
use Rattle.frontiers.specs.Numbers.{entry_width}
use Rattle.frontiers.specs.Appending.{HoldsFrontier, AppendAccepted}
use Rattle.frontiers.proofs.Appends.{append_ready, append_answers}
use Rattle.frontiers.proofs.Wrote.{appended_valid, appended_length}
use Rattle.later.proofs.Admitting.{admitted_accepted, admitted_appends}
use Rattle.intake.specs.Judging.{origin, no_origins, none_counted, InOrder, MayEnter, EnteredTo, Entered, JudgedAndEntered}

-- An empty store, and no entry.
pub starts_in_order : (store : StoreMut) (origins f : List ℕ) → store.counts ≡ none_counted → Bytes store.ids.now → origins ≡ no_origins
    → author_limit * entry_width ≤ length f → InOrder (kept_by store origins) f 0
starts_in_order store origins f n b e h =
    record {
      sound =
          record {
            store =
                subst (λ c. WellFormed (table_of store.keys.now store.ids.now store.rows.now store.deps.now store.branches.now c)) (sym n)
                (empty_well_formed store.keys.now store.ids.now store.rows.now store.deps.now store.branches.now);
            held = omega (arith, ap (λ (c : Counts). c.rows) n);
          };
      bytes = b;
      origins = e;
      frontier = record { within = omega arith; valid = record { whole = refl; entries = λ i l. absurd (omega arith) } };
      room = h;
    }

-- Zeros are bytes.
pub zeros_are_bytes : (n : ℕ) → Bytes (replicate n 0)
zeros_are_bytes zero i = omega arith
zeros_are_bytes (suc n) zero = omega arith
zeros_are_bytes (suc n) (suc i) = zeros_are_bytes n i

-- Zeros with one more are the same zeros.
zeros_stay : (n i : ℕ) → set (replicate {A = ℕ} n 0) i 0 ≡ replicate {A = ℕ} n 0
zeros_stay zero i = refl
zeros_stay (suc n) zero = refl
zeros_stay (suc n) (suc i) = ap (λ (r : List ℕ). 0 ∷ r) (zeros_stay n i)

-- So the origins stay as the program lends them.
same_origins : (o : List ℕ) (a : Admitted) → o ≡ no_origins → origins_after o origin a ≡ no_origins
same_origins o (Done n) e = ap (λ (x : List ℕ). set x (n - 1) origin) e ∙ zeros_stay row_limit (n - 1)
same_origins o (Held r) e = e
same_origins o (Refused why) e = e

module _ (k : Kept) (s : List ℕ) (f : List ℕ) (used : ℕ) (l : Kept) (a : Admitted) (o : InOrder k f used)
    (z : Bytes l.store.ids) (j : JudgedFrom k.store k.origins origin s l.store l.origins a) where
  -- The promise of the admission.
  admits : AdmitsFrom k.store k.origins origin s l.store l.origins a
  admits = sound o.sound j

  -- The store is sound after it, and so are the origins.
  still_sound : Sound l
  still_sound = from_keeps k.store k.origins origin s l.store l.origins a admits o.sound

  -- The row of an admission may be appended, with no check.
  may_append : (x : ℕ) → a ≡ Done x → AppendAccepted l.store f used x
  may_append x e =
      admitted_accepted k.store k.origins origin s l.store l.origins x
      (subst (AdmitsFrom k.store k.origins origin s l.store l.origins) e admits) o.bytes z f used o.frontier

  -- The append of the row of an admission needs no check, and is never refused.
  pub may_enter : MayEnter l.store.ids l.store.rows l.store.counts f used a
  may_enter x e =
      let w = still_sound.store in
      let c = may_append x e in
      let h = subst (AdmitsFrom k.store k.origins origin s l.store l.origins) e admits in
      record {
        ready = append_ready l.store z w f used x c;
        never_refused = λ f' why d.
            admitted_appends k.store k.origins origin s l.store l.origins x h o.bytes z f used f' why o.frontier
            (omega (arith, w.authors_limit, o.room)) (append_answers l.store z w f used x c f' (Err why) d);
      }

  -- What is appended to the lent parts is appended to the store.
  entered_as : (f' : List ℕ) (used' : ℕ) (b : Admitted) → a ≡ b → EnteredTo l.store.ids l.store.rows l.store.counts f used b f' used'
      → Entered l.store f used b f' used'
  entered_as f' used' (Done x) e p = append_answers l.store z still_sound.store f used x (may_append x e) f' (Ok used') p
  entered_as f' used' (Held r) e p = p
  entered_as f' used' (Refused why) e p = p

  -- A frontier that stays is valid still.
  frontier_stays : (b : Admitted) → a ≡ b → ((x : ℕ) → b ≡ Done x → ⊥) → (f' : List ℕ) (used' : ℕ) → f' ≡ f → used' ≡ used → HoldsFrontier l.store f' used'
  frontier_stays b e n f' used' g h =
      let t = (undone_keeps k.store k.origins origin s l.store l.origins a admits (λ x d. n x (sym e ∙ d))).0 in
      rw (g, h) (subst (λ (u : Table). HoldsFrontier u f used) (sym t) o.frontier)

  -- The frontier after an item is valid, and its list is as long as it was.
  frontier_after : (f' : List ℕ) (used' : ℕ) (b : Admitted) → a ≡ b → Entered l.store f used b f' used'
      → HoldsFrontier l.store f' used' × (length f' ≡ length f)
  frontier_after f' used' (Done x) e p =
      let n = appended_length l.store f used x f' used' z p in
      (record { within = omega (arith, n, p.1.fits); valid = appended_valid l.store f used x f' used' z p }, n)
  frontier_after f' used' (Held r) e (g, h) =
      (frontier_stays (Held r) e (λ x d. let q : ◌≡◌ {A = ℕ} 0 1 = cc in omega arith) f' used' g h, ap length g)
  frontier_after f' used' (Refused why) e (g, h) =
      (frontier_stays (Refused why) e (λ x d. let q : ◌≡◌ {A = ℕ} 0 1 = cc in omega arith) f' used' g h, ap length g)

  -- After an item the intake stands as it should again.
  pub judged_and_entered : (f' : List ℕ) (used' : ℕ) → EnteredTo l.store.ids l.store.rows l.store.counts f used a f' used'
      → JudgedAndEntered k s f used l f' used'
  judged_and_entered f' used' p =
      let q = entered_as f' used' a refl p in
      let h = frontier_after f' used' a refl q in
      record {
        kept = kept_after_lem k origin s l a j;
        entered = subst (λ (b : Admitted). Entered l.store f used b f' used') j.answer q;
        in_order =
            record {
              sound = still_sound;
              bytes = z;
              origins = j.origins ∙ same_origins k.origins a o.origins;
              frontier = h.0;
              room = omega (arith, h.1, o.room);
            };
      }
