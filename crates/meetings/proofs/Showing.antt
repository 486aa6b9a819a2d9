-- "When can everyone be sure to show the same thing?": what studios show that have met.
-- Assumes nothing.
use Prim.Native.Nat.{ℕ}
use mathlib.Core.Path.{◌≡◌, refl, sym, subst}
use mathlib.Core.Logic.{◌↔◌, inl}
use mathlib.Core.List.{List}
use Rattle.store.specs.Table.{Table}
use Rattle.frontiers.specs.Calls.{FrontierOf}
use Rattle.meetings.specs.Meetings.{Studio, Shown, Starts, Meeting, Meets, Meetings, ◌then◌, Held, Carried, CarriedTo, AnyStart, AllCarried}
use Rattle.meetings.specs.Merging.{IsMergeOf}
use Rattle.meetings.specs.Shows.{NowShow}
use Rattle.meetings.proofs.Merging.{somehow_same, somehow_merge, one_merge_of}
use Rattle.meetings.proofs.Carrying.{own_carried, carried_studio, shows_somehow, never_one}

module _ (t : Table) (n : ℕ) (s : Shown) (g : Starts t n s) where
  -- All starts are valid frontiers,
  starts_valid : (f : List ℕ) → AnyStart n s f → FrontierOf t f
  starts_valid f h = subst (FrontierOf t) (sym h.its_start) (g.valid h.studio h.is)

  module _ (ms : Meetings) (u : Shown) (h : Held t n s ms u) where
    -- and so are those that have been carried to a studio.
    carried_valid : (i : ℕ) → Studio n i → (f : List ℕ) → CarriedTo s ms i f → FrontierOf t f
    carried_valid i p f c =
        subst (FrontierOf t) (sym c.its_start) (g.valid c.studio (carried_studio t n s h c.studio i p c.carried))

    -- Each studio's frontier is the merge of exactly the starts carried to it,
    exactly : (i : ℕ) → Studio n i → IsMergeOf t (CarriedTo s ms i) (u i)
    exactly i p = somehow_merge t g.store g.bytes (CarriedTo s ms i) (carried_valid i p) (u i) (shows_somehow t n s h i p)

    -- where all have been carried, of all of them,
    carried_any : AllCarried n ms → (i : ℕ) → Studio n i → (f : List ℕ) → CarriedTo s ms i f ↔ AnyStart n s f
    carried_any a i p f = (
      λ c. record { studio = c.studio; is = carried_studio t n s h c.studio i p c.carried; its_start = c.its_start },
      λ c. record { studio = c.studio; carried = a c.studio i c.is p; its_start = c.its_start },
    )

    of_all : AllCarried n ms → (i : ℕ) → Studio n i → IsMergeOf t (AnyStart n s) (u i)
    of_all a i p =
        somehow_merge t g.store g.bytes (AnyStart n s) starts_valid (u i)
        (somehow_same t (CarriedTo s ms i) (AnyStart n s) (u i) (carried_any a i p) (shows_somehow t n s h i p))

    -- REQUEST 12.
    pub studios_show : NowShow t n s ms u
    studios_show =
        record {
          equal = λ a i j p q. one_merge_of t (AnyStart n s) (u i) (u j) (of_all a i p) (of_all a j q);
          of_all = of_all;
          exactly = exactly;
          own = λ i p. record { studio = i; carried = own_carried ms i; its_start = refl };
          alone = λ i p. never_one t n s h i p;
        }

    -- The frontiers are valid at every moment.
    pub shows_valid : (i : ℕ) → Studio n i → FrontierOf t (u i)
    shows_valid i p = (exactly i p).frontier.valid

  -- Only what has been carried to a studio decides what it shows: not by whom, not how often, not in which order. Two studios to which
  -- the same starts have been carried, by whatever meetings, show the same.
  pub carried_decides : (ms ls : Meetings) (u v : Shown) → Held t n s ms u → Held t n s ls v → (i j : ℕ) → Studio n i → Studio n j
      → ((k : ℕ) → Carried ms k i ↔ Carried ls k j) → u i ≡ v j
  carried_decides ms ls u v x y i j p q e =
      one_merge_of t (CarriedTo s ls j) (u i) (v j)
      (somehow_merge t g.store g.bytes (CarriedTo s ls j) (carried_valid ls v y j q) (u i)
      (somehow_same t (CarriedTo s ms i) (CarriedTo s ls j) (u i)
      (λ f. (
        λ c. record { studio = c.studio; carried = (e c.studio).0 c.carried; its_start = c.its_start },
        λ c. record { studio = c.studio; carried = (e c.studio).1 c.carried; its_start = c.its_start },
      )) (shows_somehow t n s x i p)))
      (exactly ls v y j q)

  -- The meetings alone decide what is shown, and not the rooms that were lent.
  pub one_showing : (ms : Meetings) (u v : Shown) → Held t n s ms u → Held t n s ms v → (i : ℕ) → Studio n i → u i ≡ v i
  one_showing ms u v x y i p = carried_decides ms ms u v x y i i p p (λ k. (λ c. c, λ c. c))

  -- Once all has been carried, a further meeting changes nothing.
  pub settled : (ms : Meetings) (m : Meeting) (u v : Shown) → Held t n s ms u → AllCarried n ms → Meets t n u m v → (i : ℕ) → Studio n i → v i ≡ u i
  settled ms m u v h a x i p =
      one_merge_of t (AnyStart n s) (v i) (u i)
      (of_all (ms then m) v (Held.met u v h x) (λ k j q r. inl (a k j q r)) i p) (of_all ms u h a i p)
