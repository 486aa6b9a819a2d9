-- Chains of pieces, what a search of one says, and the tables that file each piece in its bucket.
-- Assumes nothing.
use Prim.Native.Nat.{ℕ, zero, suc, ◌+◌, ◌≤◌, ◌<◌}
use mathlib.Core.Path.{◌≡◌, refl, sym, ap, ◌∙◌}
use mathlib.Core.Bool.{true, false}
use mathlib.Core.List.{List}
use mathlib.Core.Logic.{◌≢◌, ⊎_elim}
use native.Mathlib.Nat.{eq-or-lt_of_le}
use native.Mathlib.Numerals.{add-one}
use native.Mathlib.Omega.{arith}
use lib.ListN.{length, get_or, set, replicate, length-replicate, length-set}
use lib.Seq.{get_or-set_same, get_or-set_other}
use Rattle.basics.proofs.Tests.{by_eqb}
use Rattle.chunks.specs.Bytes.{same_bytes}
use Rattle.chunks.specs.Piece.{piece_at}
use Rattle.chunks.specs.Lookup.{Distinct}
use Rattle.chunks.specs.Buckets.{bucket_of, Falls, On, Filed, linked, Searches, SearchesTwice}
use Rattle.chunks.specs.declared.buckets.Searched.{Searched}
use Rattle.chunks.specs.declared.buckets.Searched.TheVariants.{Absent, Present, TooLong}
use Rattle.chunks.proofs.Sameness.{same_equal, same_differs}

-- A chain with a piece on it starts at some piece.
on_some : {next : List ℕ} {i h : ℕ} → On next i h → 1 ≤ h
on_some (On.here h k e) = k
on_some (On.further h k o) = k

-- A piece on a chain that is not its first is on the chain from the next.
on_next : {next : List ℕ} {i h : ℕ} → On next i h → h ≢ i → On next i (get_or next h 0)
on_next (On.here h k e) n = absurd (n e)
on_next (On.further h k o) n = o

-- One link more leads to the next.
pub linked_more : (next : List ℕ) (k h r : ℕ) → r ≡ linked next k h → get_or next r 0 ≡ linked next (k + 1) h
unfolding linked
linked_more next k h r e = rw (add-one, e)

module _ (s next : List ℕ) (head : ℕ) (x : List ℕ) where
  -- Each piece on the chain that is the one looked for is still to come, from `h` on.
  abbrev pub ToCome : ℕ → Type 0
  ToCome h = (i : ℕ) → On next i head → piece_at s i ≡ x → On next i h

  -- A piece that is not the one looked for leaves it to the next.
  pub to_come_next : (h : ℕ) → ToCome h → same_bytes (piece_at s h) x ≡ false → ToCome (get_or next h 0)
  to_come_next h t e i o p = on_next (t i o p) (λ q. same_differs (piece_at s h) x e (ap (piece_at s) q ∙ p))

  -- Where the chain ends no piece on it is the one looked for.
  pub none_to_come : (h : ℕ) → h ≡ 0 → ToCome h → Searches s next head x Absent
  none_to_come h z t i o e = let k = on_some (t i o e) in omega arith

  -- A piece of the chain that is the one looked for.
  pub one_found : (h : ℕ) → 1 ≤ h → h ≤ head → same_bytes (piece_at s h) x ≡ true → Searches s next head x Present
  one_found h k l e p = p h l k (same_equal (piece_at s h) x e)

module _ (s next : List ℕ) (head : ℕ) where
  -- Each piece on the chain that is found again further on is still to come, from `h` on.
  abbrev pub TwiceToCome : ℕ → Type 0
  TwiceToCome h = (j : ℕ) → On next j head → (i : ℕ) → On next i (get_or next j 0) → piece_at s i ≡ piece_at s j → On next j h

  -- A piece that is not found again leaves it to the next.
  pub twice_next : (h : ℕ) (x : List ℕ) (r : Searched) → TwiceToCome h → x ≡ piece_at s h → Searches s next (get_or next h 0) x r → r ≡ Absent
      → TwiceToCome (get_or next h 0)
  twice_next h x r t e w a j o i q p =
      let v : Searches s next (get_or next h 0) x Absent = rw a at w in
      on_next (t j o i q p) (λ z. v i (rw z q) (p ∙ ap (piece_at s) (sym z) ∙ sym e))

  -- Where the chain ends no piece on it is found again.
  pub none_twice : (h : ℕ) → h ≡ 0 → TwiceToCome h → SearchesTwice s next head Absent
  none_twice h z t j o i q e = let k = on_some (t j o i q e) in omega arith

  -- A piece that is found again is not distinct from those before it.
  pub one_twice : (h : ℕ) (x : List ℕ) (r : Searched) → Falls next → 1 ≤ h → h ≤ head → x ≡ piece_at s h → Searches s next (get_or next h 0) x r
      → r ≡ Present → SearchesTwice s next head Present
  one_twice h x r f k l e w a d =
      let v : Searches s next (get_or next h 0) x Present = rw a at w in
      v (rw e (λ i m. d h l i (omega (arith, f h k))))

  -- A chain that is too long.
  pub long_there : (h : ℕ) (x : List ℕ) (r : Searched) → Searches s next h x r → r ≡ TooLong → SearchesTwice s next head TooLong
  long_there h x r w a = record { from = h; goes_on = rw a at w }

-- Zeros have a zero at every place.
zeros_at : (n i : ℕ) → get_or (replicate {A = ℕ} n 0) i 0 ≡ 0
zeros_at zero i = refl
zeros_at (suc n) zero = refl
zeros_at (suc n) (suc i) = zeros_at n i

-- Tables of zeros file no piece.
pub filed_none : (s : List ℕ) (m n : ℕ) → m ≡ 256 → n ≡ 1025 → Filed s (replicate m 0) (replicate n 0) 0
filed_none s m n e g =
    record {
      buckets = length-replicate m 0 ∙ e;
      places = length-replicate n 0 ∙ g;
      falls = λ h k. omega (arith, zeros_at n h);
      low = λ b. omega (arith, zeros_at m b);
      some = λ i l k. absurd (omega arith);
      filed = λ i l k. absurd (omega arith);
    }

-- A chain of pieces that are filed stays, where a later piece gets its next.
on_kept : {next : List ℕ} (k v : ℕ) {i h : ℕ} → Falls next → h ≤ k → On next i h → On (set next (k + 1) v) i h
on_kept k v f l (On.here h m e) = On.here h m e
on_kept {next} k v f l (On.further h m o) =
    let e : get_or (set next (k + 1) v) h 0 ≡ get_or next h 0 = get_or-set_other next (k + 1) h v 0 (λ z. omega arith) in
    On.further h m (rw e (on_kept k v f (omega (arith, f h m)) o))

module _ (s heads next : List ℕ) (k : ℕ) (f : Filed s heads next k) (b : ℕ) (m : b < length heads) (l : k + 1 < length next) where
  -- A piece that is filed is so in the tables that file one piece more.
  on_more : (q i : ℕ) → On next i (get_or heads q 0) → On (set next (k + 1) (get_or heads b 0)) i (get_or (set heads b (k + 1)) q 0)
  on_more q i o =
      by_eqb (λ _. On (set next (k + 1) (get_or heads b 0)) i (get_or (set heads b (k + 1)) q 0)) q b
      (λ z.
      let e : get_or (set heads b (k + 1)) q 0 ≡ k + 1 = rw z (get_or-set_same heads b (k + 1) 0 m) in
      let g : get_or (set next (k + 1) (get_or heads b 0)) (k + 1) 0 ≡ get_or heads b 0 = get_or-set_same next (k + 1) (get_or heads b 0) 0 l in
      rw e (On.further (k + 1) (omega arith) (rw g (on_kept k (get_or heads b 0) f.falls (f.low b) (rw z at o)))))
      (λ z. rw (get_or-set_other heads b q (k + 1) 0 z) (on_kept k (get_or heads b 0) f.falls (f.low q) o))

  -- The next piece, filed first on the chain of its bucket.
  pub filed_more : b ≡ bucket_of (piece_at s (k + 1)) → Filed s (set heads b (k + 1)) (set next (k + 1) (get_or heads b 0)) (k + 1)
  filed_more e =
      record {
        buckets = length-set heads b (k + 1) ∙ f.buckets;
        places = length-set next (k + 1) (get_or heads b 0) ∙ f.places;
        falls = λ h j.
            by_eqb (λ _. get_or (set next (k + 1) (get_or heads b 0)) h 0 < h) h (k + 1)
            (λ z. omega (arith, ap (λ i. get_or (set next (k + 1) (get_or heads b 0)) i 0) z, get_or-set_same next (k + 1) (get_or heads b 0) 0 l, f.low b))
            (λ z. omega (arith, get_or-set_other next (k + 1) h (get_or heads b 0) 0 z, f.falls h j));
        low = λ c.
            by_eqb (λ _. get_or (set heads b (k + 1)) c 0 ≤ k + 1) c b
            (λ z. omega (arith, ap (λ j. get_or (set heads b (k + 1)) j 0) z, get_or-set_same heads b (k + 1) 0 m))
            (λ z. omega (arith, get_or-set_other heads b c (k + 1) 0 z, f.low c));
        some = λ i h j.
            ⊎_elim (λ z. omega (arith, ap (λ q. bucket_of (piece_at s q)) z, f.buckets)) (λ z. f.some i (omega arith) j) (eq-or-lt_of_le h);
        filed = λ i h j.
            ⊎_elim
            (λ z.
            let o : bucket_of (piece_at s i) ≡ b = ap (λ q. bucket_of (piece_at s q)) z ∙ sym e in
            let g : get_or (set heads b (k + 1)) (bucket_of (piece_at s i)) 0 ≡ k + 1 = rw o (get_or-set_same heads b (k + 1) 0 m) in
            On.here (get_or (set heads b (k + 1)) (bucket_of (piece_at s i)) 0) (omega arith) (g ∙ sym z))
            (λ z. on_more (bucket_of (piece_at s i)) i (f.filed i (omega arith) j))
            (eq-or-lt_of_le h);
      }

-- A piece on a chain is none after its first.
on_within : {next : List ℕ} {i h : ℕ} → Falls next → On next i h → i ≤ h
on_within f (On.here h k e) = omega arith
on_within f (On.further h k o) = omega (arith, on_within f o, f h k)

-- Of two pieces on a chain, the earlier one comes after the later one.
on_after : {next : List ℕ} {i j h : ℕ} → Falls next → i < j → On next j h → On next i h → On next i (get_or next j 0)
on_after f l (On.here h k e) o = rw (← e) (on_next o (λ z. omega arith))
on_after f l (On.further h k p) o = on_after f l p (on_next o (λ z. omega (arith, on_within f p, f h k)))

-- In the first `b` buckets no piece is on a chain twice.
abbrev pub OnceBelow : List ℕ → List ℕ → List ℕ → ℕ → Type 0
OnceBelow s heads next b = (c : ℕ) → c < b → SearchesTwice s next (get_or heads c 0) Absent

module _ (s heads next : List ℕ) (b : ℕ) (r : Searched) (w : SearchesTwice s next (get_or heads b 0) r) where
  -- One bucket more.
  pub once_more : OnceBelow s heads next b → r ≡ Absent → OnceBelow s heads next (b + 1)
  once_more o a c h =
      let v : SearchesTwice s next (get_or heads b 0) Absent = rw a at w in
      let g : c ≤ b = omega arith in
      ⊎_elim (λ z. rw z v) (λ z. o c z) (eq-or-lt_of_le g)

  -- Where a bucket has a piece twice, the pieces are not distinct.
  pub twice_broken : (n : ℕ) → Filed s heads next n → r ≡ Present → Distinct s n → ⊥
  twice_broken n f a d =
      let v : SearchesTwice s next (get_or heads b 0) Present = rw a at w in
      v (λ j h. d j (omega (arith, f.low b)))

-- Where no bucket has a piece twice, they are.
pub once_distinct : (s heads next : List ℕ) (n : ℕ) → Filed s heads next n → OnceBelow s heads next 256 → Distinct s n
once_distinct s heads next n f o j h i l k e =
    let p : On next j (get_or heads (bucket_of (piece_at s j)) 0) = f.filed j h (omega arith) in
    let q : On next i (get_or heads (bucket_of (piece_at s j)) 0) = rw (← e) (f.filed i (omega arith) k) in
    o (bucket_of (piece_at s j)) (f.some j h (omega arith)) j p i (on_after f.falls l p q) e
