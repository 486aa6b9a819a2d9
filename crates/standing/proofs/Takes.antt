-- Taking what was read as a frontier.
-- Assumes nothing.
use Rattle.std.specs.Prelude.{Result, Ok, Err}
use Rattle.answers.specs.declared.Refusal.{Refusal}
use Prim.Native.Nat.{ℕ, ◌+◌}
use mathlib.Core.Path.{◌≡◌, refl, ap, ◌∙◌, subst}
use mathlib.Core.List.{List, ◌++◌}
use native.Mathlib.Omega.{arith}
use lib.ListN.{length, take, drop}
use lib.Seq.{take_at, take-length}
use Rattle.store.specs.declared.lent.Counts.{Counts}
use Rattle.frontiers.specs.Found.{PutBehind}
use Rattle.kind3.specs.Entries.{ZerosKept, RisesIn}
use Rattle.standing.specs.Finding.{read_numbers, Keeps, NotKept, Takes, NotTaken}

-- What was put behind nothing stands at the start,
pub read_there : (d L out : List ℕ) (used : ℕ) → PutBehind d 0 L out used → take used out ≡ L
read_there d L out used p =
    let e : used ≡ length L = let g = p.grown in omega arith in
    let f : out ≡ take (length L) L ++ drop (0 + length L) d = p.content in
    ap (λ k. take k out) e ∙ ap (take (length L)) f ∙ ap (λ l. take (length L) (l ++ drop (0 + length L) d)) (take-length L)
    ∙ take_at L (drop (0 + length L) d) (length L) refl

-- as many numbers.
pub read_size : (L read : List ℕ) (used : ℕ) → used ≡ 0 + length L → read ≡ L → used ≡ length read
read_size L read used e f = let g = ap length f in omega arith

-- What keeping the numbers read answers, taking the item answers.
pub kept_takes : (keys ids rows : List ℕ) (counts : Counts) (s : List ℕ) (n : ℕ) (read out out' : List ℕ) (r : Result ℕ Refusal) → RisesIn s n → ZerosKept s n
    → read ≡ read_numbers keys ids counts s n → Keeps ids rows counts read out out' r → Takes keys ids rows counts s n out out' r
kept_takes keys ids rows counts s n read out out' r rise zeros e k = here r (subst (λ x. Keeps ids rows counts x out out' r) e k)
  where
    L : List ℕ
    L = read_numbers keys ids counts s n

    refusal : (m : ℕ) → NotKept ids rows counts L out m → NotTaken keys ids rows counts s n out m
    refusal m (NotKept.not_valid q v) = NotTaken.not_valid q (λ may. v may.valid)
    refusal m (NotKept.no_room q v h) = NotTaken.no_room q (record { rise = rise; zeros = zeros; valid = v }) h

    here : (r : Result ℕ Refusal) → Keeps ids rows counts L out out' r → Takes keys ids rows counts s n out out' r
    here (Ok m) p =
        record { may = record { rise = rise; zeros = zeros; valid = p.valid }; count = p.count; fits = p.fits; content = p.content }
    here (Err why) p = (refusal _ p.0, p.1)
