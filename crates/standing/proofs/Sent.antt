-- The entries that are sent for a valid frontier: there are some, and no two lists of them.
-- Assumes nothing.
use Prim.Native.Nat.{ℕ, suc, ◌≤◌}
use mathlib.Core.Path.{◌≡◌, refl, sym, ap, ◌∙◌, subst}
use mathlib.Core.Bool.{Bool, true, false}
use mathlib.Core.List.{List, [], ◌∷◌}
use mathlib.Core.Option.{none, some}
use mathlib.Core.Logic.{◌≢◌, ⊎_elim}
use native.Mathlib.Omega.{arith}
use lib.ListN.{length}
use Rattle.basics.specs.Pick.{pick}
use Rattle.basics.proofs.Tests.{true_or_false, not_both_ways}
use Rattle.chunks.specs.Bytes.{same_bytes, comes_before}
use Rattle.chunks.proofs.Pieces.{length_piece}
use Rattle.store.specs.Table.{Table, WellFormed, key_at}
use Rattle.review.proofs.Order.{before_then, one_before, not_before_self}
use Rattle.frontiers.specs.Entries.{Entry, RisingFrom, end, next, ValidEntries}
use Rattle.frontiers.proofs.Entries.{absent}
use Rattle.logs.specs.Held.{chain_of}
use Rattle.standing.specs.Standing.{Standing, by_ids, standing}
use Rattle.standing.specs.Sending.{Sent, sent_for, KeysRiseFrom, IsSent}
use Rattle.standing.proofs.Said.{EntriesOf, by_same, said, Within, valid_within, within_first, within_rest, says_entry}

-- What is said of the first key is what the first entry says,
pub sent_first : (w : Sent) (ws : List Sent) (k : List ℕ) → w.key ≡ k → sent_for (w ∷ ws) k ≡ some w.says
unfolding sent_for
sent_first w ws k e = by_same (λ b. pick b (some w.says) (sent_for ws k) ≡ some w.says) w.key k (λ p. refl) (λ d. absurd (d e))

-- and of another key what the rest says.
pub sent_later : (w : Sent) (ws : List Sent) (k : List ℕ) → w.key ≢ k → sent_for (w ∷ ws) k ≡ sent_for ws k
unfolding sent_for
sent_later w ws k d = by_same (λ b. pick b (some w.says) (sent_for ws k) ≡ sent_for ws k) w.key k (λ p. absurd (d p)) (λ p. refl)

-- What comes before comes not after.
not_after : (a b : List ℕ) → comes_before a b ≡ true → (comes_before b a ≡ true) → ⊥
not_after a b e f = not_both_ways (comes_before a a) (before_then a b a e f) (not_before_self a)

-- What comes before differs.
before_differs : (a b : List ℕ) → comes_before a b ≡ true → a ≢ b
before_differs a b e p = not_after a b e (subst (λ (c : List ℕ). comes_before b c ≡ true) (sym p) (subst (λ (c : List ℕ). comes_before c b ≡ true) p e))

-- Nothing is said of a key that does not come after where the keys rise from.
pub sent_absent : {b : List ℕ} {ws : List Sent} → KeysRiseFrom b ws → (k : List ℕ) → (comes_before b k ≡ true → ⊥) → sent_for ws k ≡ none
unfolding sent_for
sent_absent KeysRiseFrom.end k n = refl
sent_absent {b = b} {ws = w ∷ ws} (KeysRiseFrom.next p r) k n =
    sent_later w ws k (λ e. n (subst (λ (c : List ℕ). comes_before b c ≡ true) e p)) ∙ sent_absent r k (λ q. n (before_then b w.key k p q))

-- Something said is not nothing.
some_not_none : {s : Standing} → some s ≡ none → ⊥
some_not_none e = let z : ◌≡◌ {A = ℕ} 0 1 = cc in omega arith

-- Where the first entry has a key before all of another list, the two do not say the same.
earlier_first : (w : Sent) (ws : List Sent) (v : Sent) (vs : List Sent) → comes_before w.key v.key ≡ true → KeysRiseFrom v.key vs
    → ((k : List ℕ) → sent_for (w ∷ ws) k ≡ sent_for (v ∷ vs) k) → ⊥
earlier_first w ws v vs h r same =
    some_not_none (sym (sent_first w ws w.key refl) ∙ same w.key
    ∙ sent_absent (KeysRiseFrom.next {b = w.key} {w = v} h r) w.key (λ e. not_both_ways (comes_before w.key w.key) e (not_before_self w.key)))

-- Lists with one first key that say the same have the same first entry, and the same rest where that follows.
one_first : (w : Sent) (ws : List Sent) (v : Sent) (vs : List Sent) → w.key ≡ v.key → KeysRiseFrom w.key ws → KeysRiseFrom v.key vs
    → ((k : List ℕ) → sent_for (w ∷ ws) k ≡ sent_for (v ∷ vs) k) → (((k : List ℕ) → sent_for ws k ≡ sent_for vs k) → ws ≡ vs) → w ∷ ws ≡ v ∷ vs
one_first w ws v vs p r q same rest =
    let a : some w.says ≡ some v.says = sym (sent_first w ws v.key p) ∙ same v.key ∙ sent_first v vs v.key refl in
    let s : w.says ≡ v.says = cc in
    let e : w ≡ v = ap (λ (x : List ℕ). record { key = x; says = w.says }) p ∙ ap (λ (y : Standing). record { key = v.key; says = y }) s in
    let g : ws ≡ vs = rest (λ k. by_same (λ b. sent_for ws k ≡ sent_for vs k) w.key k
    (λ x. sent_absent r k (self k w.key x) ∙ sym (sent_absent q k (self k v.key (sym p ∙ x))))
    (λ x. sym (sent_later w ws k x) ∙ same k ∙ sent_later v vs k (λ y. x (p ∙ y)))) in
    cc
  where
    self : (k b : List ℕ) → b ≡ k → comes_before b k ≡ true → ⊥
    self k b e h = before_differs b k h e

-- Two rising lists that say the same of every key are one.
pub rise_unique : {b c : List ℕ} {ws vs : List Sent} → KeysRiseFrom b ws → KeysRiseFrom c vs → ((k : List ℕ) → sent_for ws k ≡ sent_for vs k) → ws ≡ vs
unfolding sent_for
rise_unique KeysRiseFrom.end KeysRiseFrom.end same = refl
rise_unique {vs = v ∷ vs} KeysRiseFrom.end (KeysRiseFrom.next q r) same = absurd (some_not_none (sym (sent_first v vs v.key refl) ∙ sym (same v.key)))
rise_unique {ws = w ∷ ws} (KeysRiseFrom.next p r) KeysRiseFrom.end same = absurd (some_not_none (sym (sent_first w ws w.key refl) ∙ same w.key))
rise_unique {ws = w ∷ ws} {vs = v ∷ vs} (KeysRiseFrom.next p r) (KeysRiseFrom.next q u) same =
    by_same (λ b. w ∷ ws ≡ v ∷ vs) w.key v.key
    (λ e. one_first w ws v vs e r u same (rise_unique r u))
    (λ d. absurd (⊎_elim (λ h. earlier_first w ws v vs h u same)
    (λ h. earlier_first v vs w ws (one_before w.key v.key d h) r (λ k. sym (same k))) (true_or_false (comes_before w.key v.key))))

-- The entries that are sent for a frontier are one list.
pub sent_unique : (t : Table) (es : List Entry) (ws vs : List Sent) → IsSent t es ws → IsSent t es vs → ws ≡ vs
sent_unique t es ws vs p q = rise_unique p.rise q.rise (λ k. p.each k ∙ sym (q.each k))

-- One entry more, where it belongs by its key.
unfoldable insert : Sent → List Sent → List Sent
insert w [] = w ∷ []
insert w (v ∷ vs) = pick (comes_before w.key v.key) (w ∷ v ∷ vs) (v ∷ insert w vs)

-- A key of which nothing is said yet: with it the keys rise,
insert_rises : {b : List ℕ} (w : Sent) (ws : List Sent) → KeysRiseFrom b ws → comes_before b w.key ≡ true → sent_for ws w.key ≡ none
    → KeysRiseFrom b (insert w ws)
unfolding insert
insert_rises w [] KeysRiseFrom.end h n = KeysRiseFrom.next {w = w} h KeysRiseFrom.end
insert_rises {b} w (v ∷ vs) (KeysRiseFrom.next p r) h n = here (comes_before w.key v.key) refl
    (insert_rises w vs r)
  where
    differ : v.key ≢ w.key
    differ e = some_not_none (sym (sent_first v vs w.key e) ∙ n)

    here : (t : Bool) → comes_before w.key v.key ≡ t
        → (comes_before v.key w.key ≡ true → sent_for vs w.key ≡ none → KeysRiseFrom v.key (insert w vs))
        → KeysRiseFrom b (pick t (w ∷ v ∷ vs) (v ∷ insert w vs))
    here true e f = KeysRiseFrom.next {w = w} h (KeysRiseFrom.next {w = v} e r)
    here false e f = KeysRiseFrom.next {w = v} p (f (one_before w.key v.key (λ d. differ (sym d)) e) (sym (sent_later v vs w.key differ) ∙ n))

-- and what is said is what was said, and what the entry says.
insert_says : (w : Sent) (ws : List Sent) → sent_for ws w.key ≡ none → (k : List ℕ) → sent_for (insert w ws) k ≡ sent_for (w ∷ ws) k
unfolding insert
insert_says w [] n k = refl
insert_says w (v ∷ vs) n k = here (comes_before w.key v.key) (insert_says w vs (sym (sent_later v vs w.key differ) ∙ n) k)
  where
    differ : v.key ≢ w.key
    differ e = some_not_none (sym (sent_first v vs w.key e) ∙ n)

    swapped : sent_for (insert w vs) k ≡ sent_for (w ∷ vs) k → sent_for (v ∷ insert w vs) k ≡ sent_for (w ∷ v ∷ vs) k
    swapped f =
        by_same (λ b. sent_for (v ∷ insert w vs) k ≡ sent_for (w ∷ v ∷ vs) k) v.key k
        (λ e. sent_first v (insert w vs) k e ∙ sym (sent_later w (v ∷ vs) k (λ d. differ (e ∙ sym d)) ∙ sent_first v vs k e))
        (λ e. sent_later v (insert w vs) k e ∙ f
        ∙ by_same (λ b. sent_for (w ∷ vs) k ≡ sent_for (w ∷ v ∷ vs) k) w.key k
        (λ d. sent_first w vs k d ∙ sym (sent_first w (v ∷ vs) k d))
        (λ d. sent_later w vs k d ∙ sym (sent_later w (v ∷ vs) k d ∙ sent_later v vs k e)))

    here : (t : Bool) → sent_for (insert w vs) k ≡ sent_for (w ∷ vs) k → sent_for (pick t (w ∷ v ∷ vs) (v ∷ insert w vs)) k ≡ sent_for (w ∷ v ∷ vs) k
    here true f = refl
    here false f = swapped f

-- It is one more.
insert_length : (w : Sent) (ws : List Sent) → length (insert w ws) ≡ suc (length ws)
unfolding insert
insert_length w [] = refl
insert_length w (v ∷ vs) = here (comes_before w.key v.key) (insert_length w vs)
  where
    here : (t : Bool) → length (insert w vs) ≡ suc (length vs) → length (pick t (w ∷ v ∷ vs) (v ∷ insert w vs)) ≡ suc (suc (length vs))
    here true f = refl
    here false f = ap suc f

-- What an entry is sent as.
abbrev sent : Table → Entry → Sent
sent t e = record { key = key_at t e.author; says = by_ids t e.state }

-- All entries, each where it belongs.
unfoldable sent_all : Table → List Entry → List Sent
sent_all t [] = []
sent_all t (e ∷ es) = insert (sent t e) (sent_all t es)

-- They are as many.
all_length : (t : Table) (es : List Entry) → length (sent_all t es) ≡ length es
unfolding sent_all
all_length t [] = refl
all_length t (e ∷ es) = insert_length (sent t e) (sent_all t es) ∙ ap suc (all_length t es)

-- No bytes come before some bytes.
some_bytes : (k : List ℕ) → 1 ≤ length k → comes_before [] k ≡ true
unfolding comes_before
some_bytes [] h = absurd (omega arith)
some_bytes (x ∷ k) h = refl

module _ (t : Table) (w : WellFormed t) where
  -- No bytes come before a key.
  pub after_none : (a : ℕ) → 1 ≤ a → a ≤ t.counts.authors → comes_before [] (key_at t a) ≡ true
  after_none a h l = let k = w.keys_held in let e = length_piece t.keys a h (omega arith) in some_bytes (key_at t a) (omega arith)

  -- They are what is sent.
  all_sent : {b : ℕ} (es : List Entry) → RisingFrom b es → Within t.counts.authors es → IsSent t es (sent_all t es)
  unfolding sent_all standing sent_for
  all_sent [] end h = record { rise = KeysRiseFrom.end; each = λ k. refl }
  all_sent (e ∷ es) (next p r) h =
      let n = t.counts.authors in
      let f = within_first n e es h in
      let g = within_rest n e es h in
      let i = all_sent es r g in
      let z : sent_for (sent_all t es) (key_at t e.author) ≡ none =
      i.each (key_at t e.author) ∙ says_entry t w es g e.author f.0 f.1 ∙ ap (said t) (absent r e.author (omega arith)) in
      record {
        rise = insert_rises (sent t e) (sent_all t es) i.rise (after_none e.author f.0 f.1) z;
        each = λ k. insert_says (sent t e) (sent_all t es) z k ∙ ap (pick (same_bytes (key_at t e.author) k) (some (by_ids t e.state))) (i.each k);
      }

-- Every valid frontier has entries to be sent.
pub sent_exists : (t : Table) → WellFormed t → (es : List Entry) → ValidEntries (chain_of t) t.counts.authors es → (ws : List Sent) × IsSent t es ws
sent_exists t w es v = (sent_all t es, all_sent t w es v.rising (valid_within t es v))

-- As many entries are sent as the frontier has.
pub sent_length : (t : Table) → WellFormed t → (es : List Entry) (ws : List Sent) → EntriesOf t es → IsSent t es ws → length ws ≡ length es
sent_length t w es ws v p = ap length (sent_unique t es ws (sent_all t es) p (all_sent t w es v.rising (valid_within t es v))) ∙ all_length t es
