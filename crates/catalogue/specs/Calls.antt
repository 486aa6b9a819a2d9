-- The two calls on a store: document 02, §7, "a yes or no on a store .. and a call that names the lowest row that breaks the rule, with the
-- earlier row that it breaks it against (the latest such)"; "it and the check give 1 first."
-- Assumes nothing.
use Rattle.catalogue.specs.declared.deciding.Backstep.{Backstep}
use Rattle.answers.specs.declared.Refusal.{Refusal}
use Rattle.std.specs.Prelude.{ℕ, ◌≤◌, ◌<◌, ◌≡◌, Bool, List, length, get_or, Result, Ok, Err}
use Rattle.basics.specs.Decides.{Decides}
use Rattle.answers.specs.Number.{number_of}
use Rattle.answers.specs.declared.Refusal.TheVariants.{Store}
use Rattle.store.specs.Limits.{row_limit}
use Rattle.store.specs.Table.{Table, WellFormed}
use Rattle.catalogue.specs.Steady.{KeepUpTo, KeepsM7}
use Rattle.catalogue.specs.Nearest.{Orderly, Steps}

-- The number of the answer: 0, or the refusal's; with the row, and the earlier row, or 0.
abbrev pub backstep_number : Result Backstep Refusal → ℕ
backstep_number (Ok b) = 0
backstep_number (Err why) = number_of why

abbrev pub backstep_row : Result Backstep Refusal → ℕ
backstep_row (Ok b) = b.row
backstep_row (Err why) = 0

abbrev pub backstep_earlier : Result Backstep Refusal → ℕ
backstep_earlier (Ok b) = b.earlier
backstep_earlier (Err why) = 0

-- What looking through the first `n` rows asks: they are orderly, and there are no more than a store may hold.
pub record MaySearch (rows deps : List ℕ) (n : ℕ) : Type 0 where
  pub orderly : Orderly rows deps n
  pub limit : n ≤ row_limit

-- What asking for a message on row `x` that depends on the rows `ds` asks besides: these are rows of the store, which keeps M7.
pub record MayAsk (rows deps : List ℕ) (n x : ℕ) (ds : List ℕ) : Type 0 where
  pub search : MaySearch rows deps n
  pub low : x ≤ n
  pub named : (k : ℕ) → k < length ds → get_or ds k 0 ≤ n
  pub keep : KeepUpTo rows deps n

-- "a yes or no on a store": whether it keeps M7.
pub data TellsSteady (t : Table) (c : Result Bool Refusal) : Type 0 where
  -- 1 STORE: "not well formed"
  damaged_store : (WellFormed t → ⊥) → c ≡ Err Store → TellsSteady t c
  told : WellFormed t → (b : Bool) → Decides (KeepsM7 t) b → c ≡ Ok b → TellsSteady t c

-- "a call that names the lowest row that breaks the rule, with the earlier row that it breaks it against (the latest such). .. It answers 0
-- and 0 when no row does".
pub data NamesBackstep (t : Table) (a : Result Backstep Refusal) : Type 0 where
  -- 1 STORE: "not well formed"
  damaged_store : (WellFormed t → ⊥) → a ≡ Err Store → NamesBackstep t a
  named : WellFormed t → (r p : ℕ) → Steps t.rows t.deps t.counts.rows r p → a ≡ Ok (record { row = r; earlier = p }) → NamesBackstep t a
