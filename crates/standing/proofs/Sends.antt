-- What is found by going again and again to the least key above the last one: how long it is, and that it is what is sent.
-- Assumes nothing.
use Prim.Native.Nat.{ℕ, zero, suc, ◌+◌, ◌-◌, ◌*◌, ◌/◌, ◌≤◌, ◌<◌}
use mathlib.Core.Path.{◌≡◌, refl, sym, ap, ◌∙◌, subst}
use mathlib.Core.Bool.{Bool, true, false}
use mathlib.Core.Logic.{◌≢◌, ⊎_elim}
use mathlib.Core.List.{List, [], ◌∷◌}
use mathlib.Core.Option.{Option, none, some}
use native.Mathlib.Omega.{arith}
use lib.ListN.{length, length-append}
use Rattle.basics.specs.Pick.{pick}
use Rattle.basics.proofs.Tests.{by_test, by_eqb, true_or_false, not_both_ways}
use Rattle.chunks.specs.Bytes.{comes_before}
use Rattle.chunks.specs.Piece.{piece_at}
use Rattle.chunks.proofs.Pieces.{piece_none, length_piece}
use Rattle.review.proofs.Order.{before_then}
use Rattle.store.specs.Table.{Table}
use Rattle.chains.specs.Chain.{State, growing, forked}
use Rattle.frontiers.specs.Entries.{Entry}
use Rattle.frontiers.specs.Numbers.{author_at, state_at, entries_at, entries_of}
use Rattle.standing.specs.Standing.{Standing, by_ids, standing}
use Rattle.standing.specs.Sending.{Sent, sent_for, KeysRiseFrom, IsSent}
use Rattle.standing.specs.Bytes.{sent_bytes, entries_bytes}
use Rattle.standing.specs.Selecting.{keys_and_ids, key_of_entry, next_after, sent_of, send_after, send_all, count_above, MaySend}
use Rattle.standing.proofs.Said.{by_same}
use Rattle.standing.proofs.Sent.{sent_first, sent_later}
use Rattle.standing.proofs.Puts.{sent_length}
use Rattle.standing.proofs.Selected.{none_counted_lem, count_all, Next, next_is}
use Rattle.standing.proofs.Putting.{after_nothing}

module _ (keys ids f : List ℕ) (may : MaySend keys ids f) where
  abbrev many : ℕ
  many = length f / 5

  abbrev K : ℕ → List ℕ
  K i = key_of_entry keys f i

  -- So many entries,
  pub send_many : (k a : ℕ) → length (send_after keys ids f many k a) ≡ k
  unfolding send_after
  send_many zero a = refl
  send_many (suc k) a = let e = send_many k (author_at f (next_after keys f (piece_at keys a) many - 1)) in omega arith

  -- of 130 bytes each.
  pub send_length : (k a : ℕ) → count_above keys f (piece_at keys a) many ≡ k → length (entries_bytes (send_after keys ids f many k a)) ≡ 130 * k
  unfolding send_after entries_bytes
  send_length zero a e = refl
  send_length (suc k) a e =
      let m = next_after keys f (piece_at keys a) many in
      let n = next_is keys f many may.distinct (piece_at keys a) k e in
      let r = send_length k (author_at f (m - 1)) n.left in
      let w = n.within in
      let s = n.some in
      let l = sent_length keys ids (author_at f (m - 1)) (state_at f (m - 1)) (may.each (m - 1) (omega arith)) in
      let x = length-append (sent_bytes (sent_of keys ids f (m - 1))) (entries_bytes (send_after keys ids f many k (author_at f (m - 1)))) in
      omega (arith, r, l, x)

  -- At first every entry is to come.
  pub all_to_come : count_above keys f (piece_at keys 0) many ≡ many
  all_to_come = rw (piece_none keys) (count_all keys f [] many (after_nothing keys ids f keys may))

  abbrev t : Table
  t = keys_and_ids keys ids

  -- What is said of an entry's key is what the entry says,
  says_here : (k i j : ℕ) → i + k ≤ many → i ≤ j → j < i + k → standing t (entries_at f k i) (K j) ≡ some (by_ids t (state_at f j))
  unfolding standing entries_at
  says_here zero i j h l m = absurd (omega arith)
  says_here (suc k) i j h l m =
      by_same (λ b. pick b (some (by_ids t (state_at f i))) (standing t (entries_at f k (suc i)) (K j)) ≡ some (by_ids t (state_at f j))) (K i) (K j)
      (λ e. by_eqb (λ b. some (by_ids t (state_at f i)) ≡ some (by_ids t (state_at f j))) i j (λ q. rw q)
      (λ q. absurd (may.distinct i j (omega arith) (omega arith) q e)))
      (λ d. says_here k (suc i) j (omega arith) (by_eqb (λ b. suc i ≤ j) i j (λ q. absurd (d (ap K q))) (λ q. omega arith)) (omega arith))

  -- and nothing is said of any other.
  says_nothing : (k i : ℕ) (q : List ℕ) → ((j : ℕ) → i ≤ j → j < i + k → K j ≢ q) → standing t (entries_at f k i) q ≡ none
  unfolding standing entries_at
  says_nothing zero i q h = refl
  says_nothing (suc k) i q h =
      by_same (λ b. pick b (some (by_ids t (state_at f i))) (standing t (entries_at f k (suc i)) q) ≡ none) (K i) q
      (λ e. absurd (h i (omega arith) (omega arith) e)) (λ d. says_nothing k (suc i) q (λ j l m. h j (omega arith) (omega arith)))

  -- What the frontier says of a key.
  abbrev said : List ℕ → Option Standing
  said q = standing t (entries_at f many 0) q

  -- The entries found after a key rise from it, and say of the keys above it what the frontier says.
  record Sends (b : List ℕ) (ws : List Sent) : Type 0 where
    rise : KeysRiseFrom b ws
    each : (q : List ℕ) → sent_for ws q ≡ pick (comes_before b q) (said q) none

  -- Where no entry is above a key, nothing is said of a key above it.
  none_said : (b q : List ℕ) → ((j : ℕ) → j < many → comes_before b (K j) ≡ false) → comes_before b q ≡ true → said q ≡ none
  none_said b q h e = says_nothing many 0 q (λ j l m d. not_both_ways (comes_before b q) e (subst (λ x. comes_before b x ≡ false) d (h j (omega arith))))

  module _ (k a : ℕ) (e : count_above keys f (piece_at keys a) many ≡ suc k) where
    abbrev b : List ℕ
    b = piece_at keys a

    abbrev i : ℕ
    i = next_after keys f b many - 1

    n : Next keys f many may.distinct b k (next_after keys f b many)
    n = next_is keys f many may.distinct b k e

    inside : i < many
    inside = let w = n.within in let s = n.some in omega arith

    -- Of a key other than the next one, above the last and not above the next, nothing is said.
    between_none : (q : List ℕ) → K i ≢ q → comes_before (K i) q ≡ false → comes_before b q ≡ true → said q ≡ none
    between_none q d x y =
        says_nothing many 0 q (λ j l m z.
        ⊎_elim (λ u. d (ap K (sym u) ∙ z)) (λ u. not_both_ways (comes_before (K i) q) (subst (λ v. comes_before (K i) v ≡ true) z u) x)
        (n.between j (omega arith) (subst (λ v. comes_before b v ≡ true) (sym z) y)))

    -- Of a key other than the next one the rest says what the frontier says.
    others : (q : List ℕ) → K i ≢ q → pick (comes_before (K i) q) (said q) none ≡ pick (comes_before b q) (said q) none
    others q d = ⊎_elim above below (true_or_false (comes_before (K i) q))
      where
        above : comes_before (K i) q ≡ true → pick (comes_before (K i) q) (said q) none ≡ pick (comes_before b q) (said q) none
        above x = rw (x, before_then b (K i) q n.above x)

        not_above : comes_before (K i) q ≡ false → (r : Bool) → comes_before b q ≡ r → none ≡ pick r (said q) none
        not_above x true y = sym (between_none q d x y)
        not_above x false y = refl

        below : comes_before (K i) q ≡ false → pick (comes_before (K i) q) (said q) none ≡ pick (comes_before b q) (said q) none
        below x = rw x (not_above x (comes_before b q) refl)

    -- Of the next key the next entry says it.
    own : (q : List ℕ) → K i ≡ q → some (by_ids t (state_at f i)) ≡ pick (comes_before b q) (said q) none
    own q d =
        let y : comes_before b q ≡ true = subst (λ v. comes_before b v ≡ true) d n.above in
        let z : said q ≡ some (by_ids t (state_at f i)) = subst (λ v. said v ≡ some (by_ids t (state_at f i))) d (says_here many 0 i (omega arith) (omega arith)
        (let w = inside in omega arith)) in
        rw (y, z)

    next_sends : Sends (K i) (send_after keys ids f many k (author_at f i)) → Sends b (send_after keys ids f many (suc k) a)
    unfolding send_after
    next_sends r =
        let w = sent_of keys ids f i in
        let ws = send_after keys ids f many k (author_at f i) in
        record {
          rise = KeysRiseFrom.next {w = w} n.above r.rise;
          each = λ q. by_same (λ x. sent_for (w ∷ ws) q ≡ pick (comes_before b q) (said q) none) (K i) q
              (λ d. sent_first w ws q d ∙ own q d) (λ d. sent_later w ws q d ∙ r.each q ∙ others q d);
        }

  sends : (k a : ℕ) → count_above keys f (piece_at keys a) many ≡ k → Sends (piece_at keys a) (send_after keys ids f many k a)
  unfolding send_after sent_for
  sends zero a e =
      let h = none_counted_lem keys f (piece_at keys a) many e in
      record {
        rise = KeysRiseFrom.end;
        each = λ q. by_test (λ x. none ≡ pick x (said q) none) (comes_before (piece_at keys a) q) (λ x. sym (none_said (piece_at keys a) q h x)) (λ x. refl);
      }
  sends (suc k) a e =
      next_sends k a e
      (sends k (author_at f (next_after keys f (piece_at keys a) many - 1)) (next_is keys f many may.distinct (piece_at keys a) k e).left)

  -- All that is found is what is sent.
  pub all_sent : IsSent t (entries_of f) (send_all keys ids f)
  unfolding entries_of comes_before
  all_sent = record { rise = subst (λ x. KeysRiseFrom x (send_all keys ids f)) (piece_none keys) p.rise; each = λ q. p.each q ∙ whole q }
    where
      p : Sends (piece_at keys 0) (send_all keys ids f)
      p = sends many 0 all_to_come

      nonempty : (j : ℕ) → j < many → K j ≢ []
      nonempty j h d =
          let s = may.each j h in
          let l = length_piece keys (author_at f j) s.author s.key in
          let z : length (K j) ≡ 0 = ap length d in
          omega (arith, l, z)

      whole : (q : List ℕ) → pick (comes_before (piece_at keys 0) q) (said q) none ≡ said q
      whole [] = rw (piece_none keys) (sym (says_nothing many 0 [] (λ j l m. nonempty j (omega arith))))
      whole (x ∷ q) = rw (piece_none keys)

-- What entries say depends on the keys and ids alone.
same_ids : (t : Table) (l : State) → by_ids (keys_and_ids t.keys t.ids) l ≡ by_ids t l
same_ids t (growing l) = refl
same_ids t (forked l lo hi) = refl

pub same_said : (t : Table) (es : List Entry) (q : List ℕ) → standing (keys_and_ids t.keys t.ids) es q ≡ standing t es q
unfolding standing
same_said t [] q = refl
same_said t (e ∷ es) q = rw (same_ids t e.state, same_said t es q)
