-- The nearest earlier row that depends on an author: it alone decides M7 of a message whose log keeps it.
-- Assumes nothing.
use Rattle.std.specs.Prelude.{ℕ, ◌≤◌, ◌<◌, ◌≡◌, ◌≢◌, eqb, length, get_or}
use mathlib.Core.List.{List, [], ◌∷◌, Memᴰ}
use Rattle.basics.specs.Pick.{pick}
use Rattle.store.specs.Limits.{row_limit}
use Rattle.store.specs.Table.{row_at, deps_in}
use Rattle.packing.specs.Marks.{Falling, Starts}
use Rattle.catalogue.specs.Steady.{KeepsFrom, BreaksFrom, KeepUpTo, LowestBreak}

-- The dependency of author `a` among some rows, or 0.
unfoldable pub dep_by : List ℕ → ℕ → List ℕ → ℕ
dep_by rows a [] = 0
dep_by rows a (d ∷ ds) = pick (eqb (row_at rows d).author a) d (dep_by rows a ds)

-- Row `q` is the first from row `x` back that depends on author `a`; 0 where there is none.
pub data Nearest (rows deps : List ℕ) (a : ℕ) : ℕ → ℕ → Type 0 where
  none : Nearest rows deps a 0 0
  found : (x : ℕ) → 1 ≤ x → dep_by rows a (deps_in rows deps x) ≢ 0 → Nearest rows deps a x x
  further : (x q : ℕ) → 1 ≤ x → dep_by rows a (deps_in rows deps x) ≡ 0 → Nearest rows deps a (row_at rows x).prev q → Nearest rows deps a x q

-- Row `q` is the latest that the message breaks M7 against; 0 where it keeps M7.
pub record Latest (rows deps : List ℕ) (x : ℕ) (ds : List ℕ) (q : ℕ) : Type 0 where
  pub kept : q ≡ 0 → KeepsFrom rows deps x ds
  pub broken : 1 ≤ q → BreaksFrom rows deps x ds q
  pub latest : (p : ℕ) → BreaksFrom rows deps x ds p → p ≤ q

-- What the laws ask of the rows up to `n`: links and dependencies lead to earlier rows, and a row has one dependency of an author at most.
pub record Orderly (rows deps : List ℕ) (n : ℕ) : Type 0 where
  pub falling : Falling rows deps n
  pub some : (y d : ℕ) → y ≤ n → Memᴰ d (deps_in rows deps y) → 1 ≤ d
  pub single : (y c d : ℕ) → y ≤ n → Memᴰ c (deps_in rows deps y) → Memᴰ d (deps_in rows deps y)
      → (row_at rows c).author ≡ (row_at rows d).author → c ≡ d

-- What looking back from the rows up to `n` asks: they are orderly, and the table of starts is right.
pub record MayLook (rows deps starts : List ℕ) (n : ℕ) : Type 0 where
  pub orderly : Orderly rows deps n
  pub begins : Starts rows starts n
  pub limit : n ≤ row_limit

-- What the first `n` rows answer: 0 and 0 where they keep M7.
pub data Steps (rows deps : List ℕ) (n r p : ℕ) : Type 0 where
  steady : KeepUpTo rows deps n → r ≡ 0 → p ≡ 0 → Steps rows deps n r p
  stepped_back : LowestBreak rows deps n r p → Steps rows deps n r p

-- What judging a message on row `x` that depends on row `e` asks: the rows up to both may be looked at, and those up to `x` keep M7.
pub record MayJudge (rows deps starts : List ℕ) (x e : ℕ) : Type 0 where
  pub log : MayLook rows deps starts x
  pub named : MayLook rows deps starts e
  pub keep : KeepUpTo rows deps x

-- The same of a message that depends on the rows `ds`, none of which is above `n`.
pub record MayJudgeAll (rows deps starts : List ℕ) (n x : ℕ) (ds : List ℕ) : Type 0 where
  pub look : MayLook rows deps starts n
  pub low : x ≤ n
  pub named : (k : ℕ) → k < length ds → get_or ds k 0 ≤ n
  pub keep : KeepUpTo rows deps x
