-- Putting the entries by rising key: what is put, and what is left.
-- Assumes nothing.
use Prim.Native.Nat.{ℕ, suc, ◌+◌, ◌-◌, ◌*◌, ◌/◌, ◌≤◌, ◌<◌}
use mathlib.Core.Path.{◌≡◌, refl, sym, ap, ◌∙◌}
use mathlib.Core.Bool.{true}
use mathlib.Core.List.{List, [], ◌∷◌, ◌++◌, append_assoc, append-nil}
use native.Mathlib.Omega.{arith}
use lib.ListN.{length, length-append}
use lib.Seq.{paste-zero}
use Rattle.chunks.specs.Bytes.{comes_before}
use Rattle.chunks.specs.Piece.{piece_at}
use Rattle.chunks.proofs.Pieces.{piece_none, length_piece}
use Rattle.logs.specs.States.{state_of}
use Rattle.logs.specs.declared.LogState.{LogState}
use Rattle.frontiers.specs.Numbers.{author_at, state_at}
use Rattle.frontiers.specs.Found.{Read}
use Rattle.writing.specs.Laying.{laid_at}
use Rattle.writing.proofs.Behind.{laid_two}
use Rattle.standing.specs.Sending.{Sent}
use Rattle.standing.specs.Bytes.{sent_bytes, entries_bytes}
use Rattle.standing.specs.Selecting.{key_of_entry, next_after, sent_of, send_after, send_all, count_above, Sendable, MaySend, state_sent}
use Rattle.standing.proofs.Puts.{sent_length}
use Rattle.standing.proofs.Selected.{count_all, Next, next_is}

-- Of what is sent of `n` entries the bytes of the first `k`, the last of them author `a`'s, stand in `out`, which was `d`.
pub record Putting (keys ids f : List ℕ) (n : ℕ) (d : List ℕ) (k a : ℕ) (out : List ℕ) : Type 0 where
  pub reach : k ≤ n
  pub left : count_above keys f (piece_at keys a) n ≡ n - k
  pub done : List ℕ
  pub whole : entries_bytes (send_after keys ids f n n 0) ≡ done ++ entries_bytes (send_after keys ids f n (n - k) a)
  pub size : length done ≡ 130 * k
  pub laid : out ≡ laid_at d 8 done

-- No bytes come before some.
pub some_bytes : (k : List ℕ) → 1 ≤ length k → comes_before [] k ≡ true
unfolding comes_before
some_bytes [] h = absurd (omega arith)
some_bytes (x ∷ k) h = refl

module _ (keys ids f d : List ℕ) (may : MaySend keys ids f) where
  abbrev many : ℕ
  many = length f / 5

  -- Every key comes after no bytes.
  pub after_nothing : (j : ℕ) → j < many → comes_before [] (key_of_entry keys f j) ≡ true
  after_nothing j h =
      let s = may.each j h in
      some_bytes (key_of_entry keys f j) (let e = length_piece keys (author_at f j) s.author s.key in omega arith)

  -- At first nothing is put.
  pub putting_start : Putting keys ids f many d 0 0 d
  putting_start =
      let z : many - 0 ≡ many = omega arith in
      record {
        reach = omega arith;
        left = rw (z, piece_none keys) (count_all keys f [] many after_nothing);
        done = [];
        whole = rw z;
        size = refl;
        laid = paste-zero d 8 [];
      }

  module _ (k a : ℕ) (out : List ℕ) (p : Putting keys ids f many d k a out) where
    -- All is put once every entry is.
    pub putting_end : many ≤ k → out ≡ laid_at d 8 (entries_bytes (send_all keys ids f))
    unfolding send_after entries_bytes
    putting_end h =
        let z : many - k ≡ 0 = omega arith in
        let w : entries_bytes (send_all keys ids f) ≡ p.done ++ [] = rw z at p.whole in
        p.laid ∙ ap (laid_at d 8) (sym (w ∙ append-nil p.done))

    module _ (r : ℕ) (h : k < many) (e : r ≡ next_after keys f (piece_at keys a) many) where
      turn : many - k ≡ suc (many - (k + 1))
      turn = omega arith

      next : Next keys f many may.distinct (piece_at keys a) (many - (k + 1)) (next_after keys f (piece_at keys a) many)
      next = next_is keys f many may.distinct (piece_at keys a) (many - (k + 1)) (p.left ∙ turn)

      -- There is a next entry.
      pub next_some : 1 ≤ r
      next_some = rw e next.some

      place : r - 1 < many
      place = let w = next.within in let s = next_some in omega arith

      -- It may be sent,
      pub next_sendable : (l : LogState) → Read f (r - 1) l → Sendable keys ids l.author (state_of l)
      next_sendable l q = rw (q.author, q.state) (may.each (r - 1) place)

      -- and with it one entry more is put.
      pub putting_more : (l : LogState) (out' : List ℕ) → 8 + 130 * many ≤ length d → Read f (r - 1) l
          → out' ≡ laid_at out (8 + 130 * k) (sent_bytes (state_sent keys ids l)) → Putting keys ids f many d (k + 1) l.author out'
      unfolding send_after entries_bytes
      putting_more l out' room q g =
          let i = r - 1 in
          let s = may.each i place in
          let w : state_sent keys ids l ≡ sent_of keys ids f i = rw (q.author, q.state) in
          let c : entries_bytes (send_after keys ids f many (many - k) a) ≡ sent_bytes (sent_of keys ids f i)
          ++ entries_bytes (send_after keys ids f many (many - (k + 1)) (author_at f i)) = rw (turn, ← e) in
          record {
            reach = omega arith;
            left = rw q.author (rw (← e) at next.left);
            done = p.done ++ sent_bytes (sent_of keys ids f i);
            whole =
                rw q.author
                (p.whole ∙ ap (λ x. p.done ++ x) c
                ∙ sym (append_assoc p.done (sent_bytes (sent_of keys ids f i)) (entries_bytes (send_after keys ids f many (many - (k + 1)) (author_at f i)))));
            size =
                let x = length-append p.done (sent_bytes (sent_of keys ids f i)) in
                let y = sent_length keys ids (author_at f i) (state_at f i) s in
                let z = p.size in
                omega arith;
            laid =
                laid_two d 8 p.done (8 + 130 * k) (sent_bytes (sent_of keys ids f i)) out out' p.laid
                (g ∙ ap (λ (x : Sent). laid_at out (8 + 130 * k) (sent_bytes x)) w) (let z = p.size in omega arith)
                (omega arith);
          }
