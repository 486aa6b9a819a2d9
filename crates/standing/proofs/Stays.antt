-- What the two calls leave: room beyond the result stays, and a refusal changes nothing.
-- Assumes nothing.
use Rattle.std.specs.Prelude.{Ok, Err}
use Prim.Native.Nat.{ℕ, ◌≤◌}
use mathlib.Core.Path.{◌≡◌, ap, ◌∙◌}
use mathlib.Core.List.{List}
use native.Mathlib.Omega.{arith}
use lib.ListN.{length, take, drop}
use lib.Seq.{paste, length-paste, take_all}
use Rattle.basics.proofs.Prefixes.{at_paste, after_paste}
use Rattle.answers.specs.declared.Refusal.{Refusal}
use Rattle.store.specs.Table.{Table}
use Rattle.standing.specs.Bytes.{item_bytes}
use Rattle.standing.specs.Calls.{WritesStanding, frontier_read, ReadsStanding}

-- What stands in a list into which another was copied whole, at its start.
pub record Stands (text out out' : List ℕ) (n : ℕ) : Type 0 where
  pub result : take n out' ≡ text
  pub beyond : drop n out' ≡ drop n out
  pub as_long : length out' ≡ length out

copied : (text out out' : List ℕ) (n : ℕ) → n ≡ length text → n ≤ length out → out' ≡ paste out 0 text n → Stands text out out' n
copied text out out' n e h c =
    record {
      result = ap (take n) c ∙ at_paste out 0 text n (omega arith) (omega arith) ∙ take_all n text (omega arith);
      beyond = ap (drop n) c ∙ after_paste out 0 text n n (omega arith) (omega arith) (omega arith);
      as_long = ap length c ∙ length-paste out 0 text n (omega arith) (omega arith);
    }

-- Written: the item at the start, and "room beyond it stays".
pub sending_stays : (t : Table) (f out out' : List ℕ) (n : ℕ) (p : WritesStanding t f out out' (Ok n)) → Stands (item_bytes p.1.sent) out out' n
sending_stays t f out out' n p = copied (item_bytes p.1.sent) out out' n p.1.count p.1.fits p.1.content

-- Read: the frontier at the start, and room beyond it stays.
pub reading_stays : (u : Table) (s out out' : List ℕ) (k : ℕ) (p : ReadsStanding u s out out' (Ok k)) → Stands (frontier_read u s p.entries) out out' k
reading_stays u s out out' k p = copied (frontier_read u s p.entries) out out' k p.count p.fits p.content

-- A refusal changes nothing.
pub not_sent_stays : (t : Table) (f out out' : List ℕ) (why : Refusal) → WritesStanding t f out out' (Err why) → out' ≡ out
not_sent_stays t f out out' why p = p.1

pub not_read_stays : (u : Table) (s out out' : List ℕ) (why : Refusal) → ReadsStanding u s out out' (Err why) → out' ≡ out
not_read_stays u s out out' why p = p.1
