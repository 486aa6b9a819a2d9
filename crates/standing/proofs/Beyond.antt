-- "Entries beyond the counts are never read": over two tables that agree within the counts writing and reading keep their promises with the
-- same answers and outputs, so these are the same. The ids are bytes, as a lent part's are.
-- Assumes nothing.
use Rattle.std.specs.Prelude.{Result, Ok, Err}
use Rattle.answers.specs.declared.Refusal.{Refusal}
use Prim.Native.Nat.{ℕ, zero, suc, ◌+◌, ◌≤◌, ◌<◌}
use mathlib.Core.Path.{◌≡◌, refl, sym, ap, ◌∙◌, subst}
use mathlib.Core.List.{List, [], ◌∷◌}
use mathlib.Core.Logic.{◌↔◌, inl, inr}
use mathlib.Core.Option.{Option, none, some}
use native.Mathlib.Omega.{arith}
use lib.Dec.{eqb}
use lib.ListN.{length}
use lib.Seq.{paste}
use Rattle.answers.specs.Number.{number_of}
use Rattle.basics.specs.Bytes.{Bytes}
use Rattle.basics.specs.Pick.{pick}
use Rattle.chunks.specs.Lookup.{place_of}
use Rattle.chunks.proofs.Finding.{place_agree}
use Rattle.store.specs.declared.lent.Counts.{Counts}
use Rattle.store.specs.Table.{Table, WellFormed, key_at}
use Rattle.store.specs.Agree.{Agree}
use Rattle.store.proofs.Agreeing.{agree_ids, agree_keys, well_formed_together, agree_back}
use Rattle.chains.specs.Chain.{Node, State, growing, forked, ValidState, growing_valid, forked_valid}
use Rattle.logs.specs.Held.{chain_of}
use Rattle.frontiers.specs.Entries.{Entry, entry_of, flat, collect, ValidAt}
use Rattle.frontiers.specs.Numbers.{entries_of}
use Rattle.frontiers.specs.Calls.{FrontierOf}
use Rattle.frontiers.proofs.Numbers.{valid_entries}
use Rattle.frontiers.proofs.Beyond.{frontier_there}
use Rattle.standing.specs.Standing.{Standing, growing_at, forked_at, id_of, by_ids, SameStanding}
use Rattle.standing.specs.Sending.{Sent, sent_for, IsSent}
use Rattle.standing.specs.Reading.{author_with, row_with, last_with, rows_at, KnownLast, KnownIds, Known, read_entries}
use Rattle.standing.specs.Decoding.{sents_of}
use Rattle.standing.specs.Calls.{MayWrite, NotSent, WritesStanding, frontier_read, Legible, Readable, MayReadItem, NotRead, ReadsStanding}
use Rattle.standing.proofs.Said.{EntriesOf, said, says}
use Rattle.standing.proofs.Once.{writes_once, reads_once}

-- What is collected of the same entries is the same.
collect_same : (o p : ℕ → Option State) (k b : ℕ) → ((a : ℕ) → b < a → a ≤ b + k → o a ≡ p a) → collect o k b ≡ collect p k b
unfolding collect
collect_same o p zero b e = refl
collect_same o p (suc k) b e =
    rw (e (suc b) (omega arith) (omega arith), collect_same o p k (suc b) (λ a h l. e a (omega arith) (omega arith)))

module _ (t u : Table) (g : Agree t u) (w : WellFormed t) where
  -- A key is looked up with the same author, and an id with the same row.
  author_there : (k : List ℕ) → author_with t k ≡ author_with u k
  author_there k =
      place_agree t.keys u.keys k t.counts.authors (λ i h l. agree_keys t u w g.within i h)
      ∙ ap (λ (c : Counts). place_of u.keys c.authors k) g.same_counts

  row_there : (x : List ℕ) → row_with t x ≡ row_with u x
  row_there x =
      place_agree t.ids u.ids x t.counts.rows (λ i h l. agree_ids t u w g.within i h)
      ∙ ap (λ (c : Counts). place_of u.ids c.rows x) g.same_counts

  last_there : (l : Option (List ℕ)) → last_with t l ≡ last_with u l
  last_there none = refl
  last_there (some x) = row_there x

  -- What is read of a standing is the same,
  rows_there : (s : Option Standing) → rows_at t s ≡ rows_at u s
  rows_there none = refl
  rows_there (some (growing_at l)) = rw (last_there l)
  rows_there (some (forked_at l lo hi)) = rw (last_there l, row_there lo, row_there hi)

  pub read_same : (ws : List Sent) → read_entries t ws ≡ read_entries u ws
  unfolding read_entries
  read_same ws =
      collect_same (λ b. rows_at t (sent_for ws (key_at t b))) (λ b. rows_at u (sent_for ws (key_at u b))) t.counts.authors 0
      (λ a h l. rows_there (sent_for ws (key_at t a)) ∙ ap (λ (k : List ℕ). rows_at u (sent_for ws k)) (agree_keys t u w g.within a (omega arith)))
      ∙ ap (λ (c : Counts). collect (λ b. rows_at u (sent_for ws (key_at u b))) c.authors 0) g.same_counts

  -- and what is known.
  last_known : (l : Option (List ℕ)) → KnownLast t l → KnownLast u l
  last_known none h = h
  last_known (some x) h = let e = row_there x in omega arith

  ids_known : (s : Standing) → KnownIds t s → KnownIds u s
  ids_known (growing_at l) h = last_known l h
  ids_known (forked_at l lo hi) h = (last_known l h.0, (last_known (some lo) h.1.0, last_known (some hi) h.1.1))

  known_there : (ws : List Sent) → Known t ws → Known u ws
  known_there [] h = h
  known_there (v ∷ ws) h = ((let e = author_there v.key in let k = h.0.0 in omega arith, ids_known v.says h.0.1), known_there ws h.1)

  -- A valid state says the same.
  id_there : (A l : ℕ) → Node (chain_of t) A l → id_of t l ≡ id_of u l
  id_there A l n = ap (λ (x : List ℕ). pick (eqb l 0) none (some x)) (agree_ids t u w g.within l (held n))
    where
      held : Node (chain_of t) A l → l ≤ t.counts.rows
      held (inl e) = omega arith
      held (inr r) = r.held

  state_there : (A : ℕ) (L : State) → ValidState (chain_of t) A L → by_ids t L ≡ by_ids u L
  state_there A (growing l) (growing_valid n) = ap growing_at (id_there A l n)
  state_there A (forked l lo hi) (forked_valid n e) =
      rw (id_there A l n, agree_ids t u w g.within lo e.low.held, agree_ids t u w g.within hi e.high.held)

  said_there : (A : ℕ) (x : Option State) → ValidAt (chain_of t) t.counts.authors A x → said t x ≡ said u x
  said_there A none v = refl
  said_there A (some l) v = ap some (state_there A l v.1.1)

  -- So does a valid frontier,
  standing_there : (es : List Entry) → EntriesOf t es → EntriesOf u es → SameStanding t es u es
  standing_there es v z k =
      says t w es v k ∙ said_there (author_with t k) (entry_of es (author_with t k)) (v.each (author_with t k))
      ∙ ap (λ (a : ℕ). said u (entry_of es a)) (author_there k) ∙ sym (says u (well_formed_together t u g w) es z k)

  -- and the same is sent of it.
  sent_there : (f : List ℕ) → FrontierOf t f → FrontierOf u f → (ws : List Sent) → IsSent t (entries_of f) ws → IsSent u (entries_of f) ws
  sent_there f v z ws p =
      record {
        rise = p.rise;
        each = λ k.
            p.each k
            ∙ standing_there (entries_of f) (valid_entries (chain_of t) t.counts.authors f v) (valid_entries (chain_of u) u.counts.authors f z) k;
      }

-- What a call promises over a table, it promises over the other.
module _ (t u : Table) (g : Agree t u) (y : Bytes t.ids) (z : Bytes u.ids) where
  there : WellFormed t → (f : List ℕ) → FrontierOf t f → FrontierOf u f
  there w f v = frontier_there t u g y z w f v

  back : WellFormed t → (f : List ℕ) → FrontierOf u f → FrontierOf t f
  back w f v = frontier_there u t (agree_back t u g) z y (well_formed_together t u g w) f v

  unformed : (WellFormed t → ⊥) → WellFormed u → ⊥
  unformed n w = n (well_formed_together u t (agree_back t u g) w)

  may_there : (f : List ℕ) → MayWrite t f → MayWrite u f
  may_there f m = record { well_formed = well_formed_together t u g m.well_formed; frontier = there m.well_formed f m.frontier }

  sending_there : (f : List ℕ) → MayWrite t f → (ws : List Sent) → IsSent t (entries_of f) ws → IsSent u (entries_of f) ws
  sending_there f m = sent_there t u g m.well_formed f m.frontier (there m.well_formed f m.frontier)

  writes_there : (f out out' : List ℕ) (r : Result ℕ Refusal) → WritesStanding t f out out' r → WritesStanding u f out out' r
  writes_there f out out' (Ok n) (m, p) = (
    may_there f m,
    record { sent = p.sent; is_sent = sending_there f m p.sent p.is_sent; count = p.count; fits = p.fits; content = p.content },
  )
  writes_there f out out' (Err why) (NotSent.not_well_formed e x, d) = (NotSent.not_well_formed e (unformed x), d)
  writes_there f out out' (Err why) (NotSent.not_valid e w x, d) = (NotSent.not_valid e (well_formed_together t u g w) (λ v. x (back w f v)), d)
  writes_there f out out' (Err why) (NotSent.no_room e m x, d) = (
    NotSent.no_room e (may_there f m) (record { sent = x.sent; is_sent = sending_there f m x.sent x.is_sent; short = x.short }),
    d,
  )

  -- What is read is the same.
  numbers_there : WellFormed t → (s : List ℕ) (n : ℕ) → frontier_read t s n ≡ frontier_read u s n
  numbers_there w s n = ap flat (read_same t u g w (sents_of s n))

  legible_there : (s : List ℕ) (n : ℕ) → Legible t s n → Legible u s n
  legible_there s n l = record { well_formed = well_formed_together t u g l.well_formed; item = l.item; flags = l.flags }

  readable_there : WellFormed t → (s : List ℕ) (n : ℕ) → Readable t s n → Readable u s n
  readable_there w s n r =
      record {
        rise = r.rise;
        zeros = r.zeros;
        valid = subst (FrontierOf u) (numbers_there w s n) (there w (frontier_read t s n) r.valid);
      }

  readable_back : WellFormed t → (s : List ℕ) (n : ℕ) → Readable u s n → Readable t s n
  readable_back w s n r =
      record {
        rise = r.rise;
        zeros = r.zeros;
        valid = back w (frontier_read t s n) (subst (FrontierOf u) (sym (numbers_there w s n)) r.valid);
      }

  known_back : WellFormed t → (ws : List Sent) → Known u ws → Known t ws
  known_back w = known_there u t (agree_back t u g) (well_formed_together t u g w)

  may_read : (s : List ℕ) (n : ℕ) → MayReadItem t s n → MayReadItem u s n
  may_read s n m =
      let w = m.legible.well_formed in
      record { legible = legible_there s n m.legible; known = known_there t u g w (sents_of s n) m.known; readable = readable_there w s n m.readable }

  not_read : (s out : List ℕ) (k : ℕ) → NotRead t s out k → NotRead u s out k
  not_read s out k (NotRead.not_well_formed e x) = NotRead.not_well_formed e (unformed x)
  not_read s out k (NotRead.not_laid why e w x) = NotRead.not_laid why e (well_formed_together t u g w) x
  not_read s out k (NotRead.not_flags n e w i x) = NotRead.not_flags n e (well_formed_together t u g w) i x
  not_read s out k (NotRead.not_known n e l x) = NotRead.not_known n e (legible_there s n l) (λ h. x (known_back l.well_formed (sents_of s n) h))
  not_read s out k (NotRead.not_valid n e l h x) =
      let w = l.well_formed in
      NotRead.not_valid n e (legible_there s n l) (known_there t u g w (sents_of s n) h) (λ r. x (readable_back w s n r))
  not_read s out k (NotRead.no_room n e m x) =
      NotRead.no_room n e (may_read s n m) (subst (λ (f : List ℕ). length out < length f) (numbers_there m.legible.well_formed s n) x)

  reads_there : (s out out' : List ℕ) (r : Result ℕ Refusal) → ReadsStanding t s out out' r → ReadsStanding u s out out' r
  reads_there s out out' (Ok k) r =
      let e = numbers_there r.may.legible.well_formed s r.entries in
      record {
        entries = r.entries;
        may = may_read s r.entries r.may;
        count = r.count ∙ ap length e;
        fits = r.fits;
        content = r.content ∙ ap (λ (f : List ℕ). paste out 0 f k) e;
      }
  reads_there s out out' (Err why) (c, d) = (not_read s out (number_of why) c, d)

-- Over tables that agree within the counts each call promises the same, and so answers and leaves the same.
module _ (t u : Table) (g : Agree t u) (y : Bytes t.ids) (z : Bytes u.ids) where
  pub writing_beyond : (f out out' : List ℕ) (r : Result ℕ Refusal) → WritesStanding t f out out' r ↔ WritesStanding u f out out' r
  writing_beyond f out out' r = (writes_there t u g y z f out out' r, writes_there u t (agree_back t u g) z y f out out' r)

  pub reading_beyond : (s out out' : List ℕ) (r : Result ℕ Refusal) → ReadsStanding t s out out' r ↔ ReadsStanding u s out out' r
  reading_beyond s out out' r = (reads_there t u g y z s out out' r, reads_there u t (agree_back t u g) z y s out out' r)

  pub same_writing : (f out i j : List ℕ) (r q : Result ℕ Refusal) → WritesStanding t f out i r → WritesStanding u f out j q → (r ≡ q) × (i ≡ j)
  same_writing f out i j r q p = writes_once u f out i j r q ((writing_beyond f out i r).0 p)

  pub same_reading : (s out i j : List ℕ) (r q : Result ℕ Refusal) → ReadsStanding t s out i r → ReadsStanding u s out j q → (r ≡ q) × (i ≡ j)
  same_reading s out i j r q p = reads_once u s out i j r q ((reading_beyond s out i r).0 p)
