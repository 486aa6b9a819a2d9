-- What a studio shows came of merges of exactly the starts carried to it, whether the starts are valid or not.
-- Assumes nothing.
use Rattle.std.specs.Prelude.{Ok}
use Prim.Native.Nat.{ℕ}
use mathlib.Core.Path.{◌≡◌, refl, sym, ◌∙◌, ap, subst}
use mathlib.Core.Logic.{◌≢◌, ◌⊎◌, ◌↔◌, inl, inr, ⊎_elim}
use mathlib.Core.List.{List, [], ◌++◌}
use lib.ListN.{length, take}
use lib.Seq.{take-append_seam}
use Rattle.store.specs.Table.{Table}
use Rattle.frontiers.specs.Calls.{MergesInto}
use Rattle.frontiers.specs.Trees.{given, merging, Ran}
use Rattle.basics.proofs.Tests.{by_eqb}
use Rattle.meetings.specs.Meetings.{Studio, Shown, Meeting, Meetings, start, ◌then◌, Held, Carried, CarriedTo, NeverOne}
use Rattle.meetings.specs.Merging.{MergedSomehow}
use Rattle.meetings.proofs.Merging.{somehow_same}

-- A studio's own start has always been carried to it.
pub own_carried : (ms : Meetings) (i : ℕ) → Carried ms i i
own_carried start i = refl
own_carried (ms then m) i = inl (own_carried ms i)

-- At the start it is the only one.
begun_carried : (s : Shown) (i : ℕ) (f : List ℕ) → f ≡ s i ↔ CarriedTo s start i f
begun_carried s i f = (λ e. record { studio = i; carried = refl; its_start = e }, λ h. h.its_start ∙ ap s h.carried)

-- A meeting adds, for the one, what the other had,
one_carried : (s : Shown) (ms : Meetings) (m : Meeting) (i : ℕ) (f : List ℕ) → i ≡ m.one
    → (CarriedTo s ms m.one f ⊎ CarriedTo s ms m.other f) ↔ CarriedTo s (ms then m) i f
one_carried s ms m i f e = (
  λ h. ⊎_elim
      (λ c. record { studio = c.studio; carried = inl (subst (Carried ms c.studio) (sym e) c.carried); its_start = c.its_start })
      (λ c. record { studio = c.studio; carried = inr (e, c.carried); its_start = c.its_start }) h,
  λ h. ⊎_elim
      (λ c. inl record { studio = h.studio; carried = subst (Carried ms h.studio) e c; its_start = h.its_start })
      (λ c. inr record { studio = h.studio; carried = c.1; its_start = h.its_start }) h.carried,
)

-- and for every other studio nothing.
others_carried : (s : Shown) (ms : Meetings) (m : Meeting) (i : ℕ) (f : List ℕ) → i ≢ m.one → CarriedTo s ms i f ↔ CarriedTo s (ms then m) i f
others_carried s ms m i f d = (
  λ h. record { studio = h.studio; carried = inl h.carried; its_start = h.its_start },
  λ h. record { studio = h.studio; carried = ⊎_elim (λ c. c) (λ c. absurd (d c.0)) h.carried; its_start = h.its_start },
)

module _ (t : Table) (n : ℕ) (s : Shown) where
  -- Whoever's start has been carried to a studio is a studio.
  pub carried_studio : {ms : Meetings} {u : Shown} → Held t n s ms u → (k i : ℕ) → Studio n i → Carried ms k i → Studio n k
  carried_studio Held.begun k i p c = subst (Studio n) (sym c) p
  carried_studio (Held.met u v h x) k i p (inl c) = carried_studio h k i p c
  carried_studio (Held.met {m = m} u v h x) k i p (inr c) = carried_studio h k m.other x.other c.1

  -- A start, as a tree of no merges.
  begun_somehow : (i : ℕ) → MergedSomehow t (CarriedTo s start i) (s i)
  begun_somehow i =
      record {
        calls = given (s i);
        all = record { only = tt; exactly = begun_carried s i };
        count = length (s i);
        list = s i ++ [];
        ran = Ran.lent (s i) [];
        ends = take-append_seam (s i) [];
      }

  -- What a meeting writes came of the merges behind the one's frontier and the other's, and of one more.
  met_somehow : (C D : List ℕ → Type 0) (f g room after : List ℕ) (count : ℕ) → MergedSomehow t C f → MergedSomehow t D g
      → MergesInto t f g room after (Ok count) → MergedSomehow t (λ e. C e ⊎ D e) (take count after)
  met_somehow C D f g room after count x y p =
      record {
        calls = merging x.calls y.calls;
        all =
            record {
              only = (x.all.only, y.all.only);
              exactly = λ e. (
                λ h. ⊎_elim (λ l. inl ((x.all.exactly e).0 l)) (λ l. inr ((y.all.exactly e).0 l)) h,
                λ h. ⊎_elim (λ l. inl ((x.all.exactly e).1 l)) (λ l. inr ((y.all.exactly e).1 l)) h,
              );
            };
        count = count;
        list = after;
        ran =
            Ran.merged x.count y.count x.list y.list room after (Ok count) x.ran y.ran
            (rw (x.ends, y.ends) p);
        ends = refl;
      }

  -- EXACTLY THE STARTS CARRIED TO IT: what a studio shows at any moment came of merges of them.
  pub shows_somehow : {ms : Meetings} {u : Shown} → Held t n s ms u → (i : ℕ) → Studio n i → MergedSomehow t (CarriedTo s ms i) (u i)
  shows_somehow Held.begun i p = begun_somehow i
  shows_somehow (Held.met {ms = ms} {m = m} u v h x) i p =
      by_eqb (λ _. MergedSomehow t (CarriedTo s (ms then m) i) (v i)) i m.one
      (λ e.
      subst (MergedSomehow t (CarriedTo s (ms then m) i)) (sym (ap v e ∙ x.replaced))
      (somehow_same t (λ f. CarriedTo s ms m.one f ⊎ CarriedTo s ms m.other f) (CarriedTo s (ms then m) i) (take x.count x.after)
      (λ f. one_carried s ms m i f e)
      (met_somehow (CarriedTo s ms m.one) (CarriedTo s ms m.other) (u m.one) (u m.other) x.room x.after x.count
      (shows_somehow h m.one x.one) (shows_somehow h m.other x.other) x.merges)))
      (λ d.
      subst (MergedSomehow t (CarriedTo s (ms then m) i)) (sym (x.others i p d))
      (somehow_same t (CarriedTo s ms i) (CarriedTo s (ms then m) i) (u i) (λ f. others_carried s ms m i f d) (shows_somehow h i p)))

  -- A studio whose frontier no meeting has replaced shows its start.
  pub never_one : {ms : Meetings} {u : Shown} → Held t n s ms u → (i : ℕ) → Studio n i → NeverOne ms i → u i ≡ s i
  never_one Held.begun i p e = refl
  never_one (Held.met u v h x) i p e = x.others i p e.1 ∙ never_one h i p e.0
