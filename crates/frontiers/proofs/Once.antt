-- The other calls on frontiers: two answers that keep a promise are equal, and leave the same list.
-- Assumes nothing.
use Rattle.std.specs.Prelude.{Bool, Result, Ok, Err}
use Rattle.answers.specs.declared.Refusal.{Refusal}
use Prim.Native.Nat.{ℕ}
use mathlib.Core.Path.{◌≡◌, sym, ap, ◌∙◌}
use mathlib.Core.List.{List}
use lib.ListN.{take}
use Rattle.basics.proofs.Decisions.{one_decision}
use Rattle.answers.specs.Number.{number_of}
use Rattle.answers.proofs.Distinct.{one_number}
use Rattle.basics.specs.Bytes.{Bytes}
use Rattle.store.specs.Table.{Table}
use Rattle.frontiers.specs.Calls.{NotChecked, ChecksFrontier, ComparesFrontiers}
use Rattle.frontiers.specs.Appending.{row_frontier, NotAppended, AppendsEntry}
use Rattle.frontiers.proofs.Appends.{append_pair}
use Rattle.frontiers.proofs.Answers.{not_compared_once, accepted_compared, written_once, short_not_written}

-- Whether a list is a valid frontier has one answer.
pub check_answers_once : (t : Table) (f : List ℕ) (r q : Result Bool Refusal) → ChecksFrontier t f r → ChecksFrontier t f q → r ≡ q
check_answers_once t f (Ok b) (Ok c) (w, d) (u, e) = ap Ok (one_decision b c d e)
check_answers_once t f (Ok b) (Err why) (w, d) (NotChecked.not_well_formed e n) = absurd (n w)
check_answers_once t f (Err why) (Ok c) (NotChecked.not_well_formed e n) (w, d) = absurd (n w)
check_answers_once t f (Err why) (Err how) (NotChecked.not_well_formed e n) (NotChecked.not_well_formed d m) = ap Err
    (one_number why how (e ∙ sym d))

-- Whether a frontier is at or below another has one answer.
pub compare_answers_once : (t : Table) (f g : List ℕ) (r q : Result Bool Refusal) → ComparesFrontiers t f g r → ComparesFrontiers t f g q → r ≡ q
compare_answers_once t f g (Ok b) (Ok c) (a, d) (x, e) = ap Ok (one_decision b c d e)
compare_answers_once t f g (Ok b) (Err why) (a, d) n = absurd (accepted_compared a n)
compare_answers_once t f g (Err why) (Ok c) n (a, d) = absurd (accepted_compared a n)
compare_answers_once t f g (Err why) (Err how) n m = ap Err (one_number why how (not_compared_once n m))

module _ (t : Table) (b : Bytes t.ids) (f : List ℕ) (used x : ℕ) where
  -- An append is refused with one number.
  not_appended_once : {n m : ℕ} → NotAppended t f used x n → NotAppended t f used x m → n ≡ m
  not_appended_once (NotAppended.not_well_formed e i) (NotAppended.not_well_formed d j) = e ∙ sym d
  not_appended_once (NotAppended.not_well_formed e i) (NotAppended.not_valid d w j) = absurd (i w)
  not_appended_once (NotAppended.not_well_formed e i) (NotAppended.not_a_row d w v j) = absurd (i w)
  not_appended_once (NotAppended.not_well_formed e i) (NotAppended.no_room d w v u j) = absurd (i w)
  not_appended_once (NotAppended.not_valid e w i) (NotAppended.not_well_formed d j) = absurd (j w)
  not_appended_once (NotAppended.not_valid e w i) (NotAppended.not_valid d v j) = e ∙ sym d
  not_appended_once (NotAppended.not_valid e w i) (NotAppended.not_a_row d u v j) = absurd (i v)
  not_appended_once (NotAppended.not_valid e w i) (NotAppended.no_room d p v u j) = absurd (i v)
  not_appended_once (NotAppended.not_a_row e w v i) (NotAppended.not_well_formed d j) = absurd (j w)
  not_appended_once (NotAppended.not_a_row e w v i) (NotAppended.not_valid d u j) = absurd (j v)
  not_appended_once (NotAppended.not_a_row e w v i) (NotAppended.not_a_row d u p j) = e ∙ sym d
  not_appended_once (NotAppended.not_a_row e w v i) (NotAppended.no_room d p q u j) = absurd (i u)
  not_appended_once (NotAppended.no_room e w v u i) (NotAppended.not_well_formed d j) = absurd (j w)
  not_appended_once (NotAppended.no_room e w v u i) (NotAppended.not_valid d p j) = absurd (j v)
  not_appended_once (NotAppended.no_room e w v u i) (NotAppended.not_a_row d p q j) = absurd (j u)
  not_appended_once (NotAppended.no_room e w v u i) (NotAppended.no_room d p q r j) = e ∙ sym d

  -- What is refused is not appended.
  appended_refused : (f' : List ℕ) (r : ℕ) (why : ℕ) → AppendsEntry t f used x f' (Ok r) → NotAppended t f used x why → ⊥
  appended_refused f' r why (a, p) (NotAppended.not_well_formed e i) = i a.well_formed
  appended_refused f' r why (a, p) (NotAppended.not_valid e w i) = i a.frontier
  appended_refused f' r why (a, p) (NotAppended.not_a_row e w v i) = i a.row
  appended_refused f' r why (a, p) (NotAppended.no_room e w v u i) = short_not_written t b (take used f) (row_frontier t.rows x) f f' r
      (append_pair t b a.well_formed f used x a) i p

  -- An append has one answer, and leaves one list.
  pub append_answers_once : (y z : List ℕ) (r q : Result ℕ Refusal) → AppendsEntry t f used x y r → AppendsEntry t f used x z q → (r ≡ q) × (y ≡ z)
  append_answers_once y z (Ok n) (Ok m) (a, p) (c, q) =
      let e = written_once t b (take used f) (row_frontier t.rows x) f y z n m (append_pair t b a.well_formed f used x a) p q in
      (ap Ok e.0, e.1)
  append_answers_once y z (Ok n) (Err why) p (c, q) = absurd (appended_refused y n (number_of why) p c)
  append_answers_once y z (Err why) (Ok m) (c, q) p = absurd (appended_refused z m (number_of why) p c)
  append_answers_once y z (Err why) (Err how) (a, p) (c, q) = (ap Err (one_number why how (not_appended_once a c)), p ∙ sym q)
