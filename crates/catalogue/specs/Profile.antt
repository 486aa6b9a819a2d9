-- Admission under the catalogue's profile: document 02, §7, "An admission under the profile starts from a store that keeps M7 and ends in
-- one. .. Refusals: 23 BACKSTEP, from catalogue admission only: for a store that breaks M7, straight after 1; for a message that would,
-- after 15 and before 16."
-- `t` is the store, `s` the item's bytes, `f` the fields that its layout gives.
-- Assumes nothing.
use Rattle.std.specs.Prelude.{ℕ, ◌<◌, ◌≡◌, Ok}
use mathlib.Core.List.{List, Memᴰ}
use Rattle.answers.specs.declared.Refusal.TheVariants.{Store, Backstep}
use Rattle.item.specs.Layout.{layout_of, previous_of, dependency_of}
use Rattle.item.specs.Id.{id_of}
use Rattle.item.specs.declared.Fields.{Fields}
use Rattle.store.specs.Table.{Table, WellFormed, deps_of}
use Rattle.store.specs.declared.Row.{Row}
use Rattle.judging.specs.Verdict.{rules_of, judged_of}
use Rattle.judging.specs.declared.Verdict.{Verdict}
use Rattle.judging.specs.declared.Verdict.TheVariants.{Fits, Breaks}
use Rattle.admission.specs.Paper.{Has, author_key, NoPrevious}
use Rattle.admission.specs.declared.Admitted.{Admitted}
use Rattle.admission.specs.declared.Admitted.TheVariants.{Refused}
use Rattle.origins.specs.Origins.{WellKept, JudgedFrom}
use Rattle.catalogue.specs.Steady.{InLog, SameOrBefore, KeepsM7}

-- M7 (monotonic dependencies) of a message that comes as an item: "if one message is before another in a log", row `p`, which is the
-- message's previous one or before it, "and both depend on messages of the same third author", `d` and `e`, "the earlier dependency is the
-- same as the later one or happened before it."
abbrev pub M7 : Table → List ℕ → Fields → Type 0
M7 t s f =
    (NoPrevious f → ⊥) → (r : ℕ) → Has t (previous_of s) r → (p : ℕ) → InLog t.rows p r → (d : ℕ) → Memᴰ d (deps_of t p)
    → (k : ℕ) → k < f.count → (e : ℕ) → Has t (dependency_of f k s) e → author_key t d ≡ author_key t e → SameOrBefore t.rows t.deps d e

-- 23 BACKSTEP "for a message that would, after 15": the rules 6 to 15 let it through, and it breaks M7.
pub record StepsBack (t : Table) (s : List ℕ) (f : Fields) : Type 0 where
  pub row : Row
  pub through : rules_of t s f ≡ Fits row
  pub breaks : M7 t s f → ⊥

-- Where the rules 6 to 15 let the message through, it keeps M7.
abbrev pub StepsOn : Table → List ℕ → Fields → Type 0
StepsOn t s f = (row : Row) → rules_of t s f ≡ Fits row → M7 t s f

-- The verdict of the profile on an item that has these fields: 23 "after 15 and before 16", else that of 6 to 16.
pub data ProfileVerdict (t : Table) (s : List ℕ) (f : Fields) (v : Verdict) : Type 0 where
  steps_back : StepsBack t s f → v ≡ Breaks Backstep → ProfileVerdict t s f v
  steps_on : StepsOn t s f → v ≡ judged_of t s f → ProfileVerdict t s f v

-- What judging under the profile asks: the store is well formed and keeps M7, and the fields are the item's.
pub record MayProfile (t : Table) (s : List ℕ) (f : Fields) : Type 0 where
  pub store : WellFormed t
  pub keeps : KeepsM7 t
  pub laid : layout_of s ≡ Ok f

-- What writing a message with its origin asks besides: the id is the item's, and the rules 6 to 16 give the row.
pub record MayWrite (t : Table) (s : List ℕ) (f : Fields) (id : List ℕ) (row : Row) : Type 0 where
  pub store : WellFormed t
  pub laid : layout_of s ≡ Ok f
  pub id_is : id ≡ id_of s
  pub given : judged_of t s f ≡ Fits row

-- What the admission promises of a store that is well kept and keeps M7: 23 for a message that would break it, and nothing changes; else
-- what an admission with origins promises, which writes the message and its origin where it is done.
pub data JudgedUnder (t : Table) (o : List ℕ) (g : ℕ) (s : List ℕ) (u : Table) (o' : List ℕ) (a : Admitted) : Type 0 where
  stepped_back : (f : Fields) → layout_of s ≡ Ok f → StepsBack t s f → a ≡ Refused Backstep → u ≡ t → o' ≡ o → JudgedUnder t o g s u o' a
  judged : ((f : Fields) → layout_of s ≡ Ok f → StepsOn t s f) → JudgedFrom t o g s u o' a → JudgedUnder t o g s u o' a

-- What the admission promises of any store and origins.
pub data AdmitsUnder (t : Table) (o : List ℕ) (g : ℕ) (s : List ℕ) (u : Table) (o' : List ℕ) (a : Admitted) : Type 0 where
  -- 1 STORE: "not well formed", and where the origins are fewer than the rows.
  damaged : (WellKept t o → ⊥) → a ≡ Refused Store → u ≡ t → o' ≡ o → AdmitsUnder t o g s u o' a
  -- 23 BACKSTEP: "for a store that breaks M7, straight after 1"
  unsteady : WellKept t o → (KeepsM7 t → ⊥) → a ≡ Refused Backstep → u ≡ t → o' ≡ o → AdmitsUnder t o g s u o' a
  steady : WellKept t o → KeepsM7 t → JudgedUnder t o g s u o' a → AdmitsUnder t o g s u o' a
