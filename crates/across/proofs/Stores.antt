-- Stores that agree on ids: the other way round, and a store with itself.
-- Assumes nothing.
use Prim.Native.Nat.{ℕ}
use mathlib.Core.Path.{◌≡◌, sym, ap}
use Rattle.basics.specs.Bytes.{Bytes}
use Rattle.store.specs.Table.{Table, WellFormed, author_of, id_at, key_at, index_of, prev_of}
use Rattle.store.specs.Paper.{Message}
use Rattle.store.proofs.Facts.{same_id_lem}
use Rattle.standing.specs.Standing.{id_of}
use Rattle.across.specs.Stores.{TwoStores}

-- Stores that agree on ids agree the other way round,
pub stores_back : (t u : Table) → TwoStores t u → TwoStores u t
stores_back t u s =
    record {
      first = s.second;
      second = s.first;
      first_ids = s.second_ids;
      second_ids = s.first_ids;
      agree =
          record {
            key = λ x y m n e. sym (s.agree.key y x n m (sym e));
            index = λ x y m n e. sym (s.agree.index y x n m (sym e));
            previous = λ x y m n e. sym (s.agree.previous y x n m (sym e));
          };
    }

-- and a store agrees with itself.
pub store_itself : (t : Table) → WellFormed t → Bytes t.ids → TwoStores t t
store_itself t w b =
    record {
      first = w;
      second = w;
      first_ids = b;
      second_ids = b;
      agree =
          record {
            key = λ x y m n e. ap (λ z. key_at t (author_of t z)) (one x y m n e);
            index = λ x y m n e. ap (index_of t) (one x y m n e);
            previous = λ x y m n e. ap (λ z. id_of t (prev_of t z)) (one x y m n e);
          };
    }
  where
    one : (x y : ℕ) → Message t x → Message t y → id_at t x ≡ id_at t y → x ≡ y
    one x y m n e = same_id_lem t w x y m.some m.held n.some n.held e
