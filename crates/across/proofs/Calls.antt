-- The two calls: what writing wrote over one store, reading reads over another as a frontier with the same ids; over the same store as the
-- frontier that was written; and merging before or after comes to the same numbers.
-- Assumes nothing.
use Rattle.std.specs.Prelude.{Result, Ok, Err}
use Rattle.answers.specs.declared.Refusal.{Refusal}
use Prim.Native.Nat.{ℕ, ◌*◌, ◌≤◌, ◌<◌}
use mathlib.Core.Path.{◌≡◌, sym, ap, ◌∙◌, subst}
use mathlib.Core.List.{List}
use mathlib.Core.Logic.{◌⊎◌, inl, inr, ⊎_elim}
use native.Mathlib.Omega.{arith}
use lib.ListN.{length, take}
use lib.Seq.{take_all}
use Rattle.answers.specs.Number.{number_of}
use Rattle.basics.specs.Bytes.{Bytes}
use Rattle.basics.proofs.Prefixes.{at_paste}
use Rattle.store.specs.Table.{Table}
use Rattle.logs.specs.Held.{chain_of}
use Rattle.frontiers.specs.Entries.{flat}
use Rattle.frontiers.specs.Numbers.{entries_of}
use Rattle.frontiers.specs.Calls.{FrontierOf, MergesInto}
use Rattle.frontiers.proofs.Numbers.{length_flat, valid_flat}
use Rattle.kind3.specs.Entries.{FlagsKept, ZerosKept}
use Rattle.kind3.specs.Laid.{IsStandingItem}
use Rattle.kind3.proofs.Exact.{one_reading, refused_never}
use Rattle.standing.specs.Sending.{Sent, KeysRise, IsSent}
use Rattle.standing.specs.Reading.{Known, read_entries}
use Rattle.standing.specs.Bytes.{item_bytes}
use Rattle.standing.specs.Decoding.{sents_of}
use Rattle.standing.specs.Calls.{WritesStanding, ReadsStanding, ReadInto, NotRead, frontier_read}
use Rattle.standing.proofs.Said.{valid_within}
use Rattle.standing.proofs.Sent.{sent_unique}
use Rattle.standing.proofs.Again.{ReadsBack}
use Rattle.standing.proofs.Full.{rising_few, sent_back}
use Rattle.across.specs.Stores.{TwoStores}
use Rattle.across.specs.Sending.{HoldsNamed, SameByIds}
use Rattle.across.specs.Calls.{Arrives, NotKnown}
use Rattle.across.proofs.Theorems.{entries, read_there, read_back, merge_sent}

-- What writing wrote: the bytes of what is sent, which are read back.
record Item (t : Table) (f s : List ℕ) : Type 0 where
  sent : List Sent
  valid : FrontierOf t f
  is_sent : IsSent t (entries_of f) sent
  bytes : s ≡ item_bytes sent
  back : ReadsBack (item_bytes sent) sent

wrote_item : (t : Table) (f out out' : List ℕ) (n : ℕ) → WritesStanding t f out out' (Ok n) → Item t f (take n out')
wrote_item t f out out' n (m, p) =
    let e = p.count in
    record {
      sent = p.sent;
      valid = m.frontier;
      is_sent = p.is_sent;
      bytes = ap (take n) p.content ∙ at_paste out 0 (item_bytes p.sent) n (omega arith) (omega arith) ∙ take_all n (item_bytes p.sent) (omega arith);
      back = sent_back t m.well_formed (entries_of f) p.sent (entries t f m.frontier) p.is_sent;
    }

module _ (u : Table) (ws : List Sent) (b : ReadsBack (item_bytes ws) ws) where
  -- The number of entries of the item is that of what was sent, so what is read of it is what was sent.
  says_sent : (n : ℕ) → IsStandingItem (item_bytes ws) n → sents_of (item_bytes ws) n ≡ ws
  says_sent n i = ap (sents_of (item_bytes ws)) (one_reading (item_bytes ws) n (length ws) i b.item) ∙ b.sents

  -- What reading wrote of it: the store knows what was sent, and the frontier read stands at the start.
  read_item : (l l' : List ℕ) (k : ℕ) → ReadInto u (item_bytes ws) l l' k → Known u ws × (take k l' ≡ flat (read_entries u ws))
  read_item l l' k r =
      let e = says_sent r.entries r.may.legible.item in
      let c = r.count in
      let f = frontier_read u (item_bytes ws) r.entries in (
        subst (Known u) e r.may.known,
        ap (take k) r.content ∙ at_paste l 0 f k (omega arith) (omega arith) ∙ take_all k f (omega arith) ∙ ap (λ (x : List Sent). flat (read_entries u x)) e,
      )

-- What is read over a store is at most five numbers an author.
read_few : (u : Table) (g : List ℕ) → FrontierOf u g → length g ≤ u.counts.authors * 5
read_few u g v =
    let es = entries_of g in
    let a = ap length (valid_flat (chain_of u) u.counts.authors g v) in
    let b = length_flat es in
    let c = rising_few u.counts.authors 0 es (omega arith) (entries u g v).rising (valid_within u es (entries u g v)) in
    omega arith

module _ (t u : Table) (s : TwoStores t u) (f : List ℕ) (ws : List Sent) (v : FrontierOf t f) (p : IsSent t (entries_of f) ws)
    (b : ReadsBack (item_bytes ws) ws) where
  -- The lines of a refusal of what was written: none but 22 where the store lacks something, and 21.
  refused : (l : List ℕ) (k : ℕ) → NotRead u (item_bytes ws) l k
      → ((k ≡ 22) × (Known u ws → ⊥)) ⊎ ((k ≡ 21) × (Known u ws × (length l < length (flat (read_entries u ws)))))
  refused l k (NotRead.not_well_formed e n) = absurd (n s.second)
  refused l k (NotRead.not_laid why e w lay) = absurd (refused_never (item_bytes ws) why (length ws) lay b.item)
  refused l k (NotRead.not_flags n e w i not) =
      absurd (not (subst (FlagsKept (item_bytes ws)) (one_reading (item_bytes ws) (length ws) n b.item i) b.flags))
  refused l k (NotRead.not_known n e g not) = inl (e, λ h. not (subst (Known u) (sym (says_sent u ws b n g.item)) h))
  refused l k (NotRead.not_valid n e g h not) =
      let q = says_sent u ws b n g.item in
      let o = one_reading (item_bytes ws) (length ws) n b.item g.item in
      let r = read_there t u s f ws v p (subst (Known u) q h) in
      absurd (not (record {
        rise = subst KeysRise (sym q) p.rise;
        zeros = subst (ZerosKept (item_bytes ws)) o b.zeros;
        valid = subst (λ (x : List Sent). FrontierOf u (flat (read_entries u x))) (sym q) r.valid;
      }))
  refused l k (NotRead.no_room n e m h) =
      let q = says_sent u ws b n m.legible.item in
      inr (e, (subst (Known u) q m.known, subst (λ (x : List Sent). length l < length (flat (read_entries u x))) q h))

  -- Where the store knows what was sent, it is read as a frontier with the same ids, or there is no room.
  arrives : Known u ws → (l l' : List ℕ) (r : Result ℕ Refusal) → ReadsStanding u (item_bytes ws) l l' r → Arrives t f u l l' r
  arrives h l l' (Ok k) r = subst (SameByIds t f u) (sym (read_item u ws b l l' k r).1) (read_there t u s f ws v p h)
  arrives h l l' (Err why) r = ⊎_elim (λ q. absurd (q.1 h)) short (refused l (number_of why) r.0)
    where
      short : (number_of why ≡ 21) × (Known u ws × (length l < length (flat (read_entries u ws)))) → (number_of why ≡ 21) × (length l < u.counts.authors * 5)
      short q = (q.0, let few = read_few u (flat (read_entries u ws)) (read_there t u s f ws v p h).valid in let less = q.1.1 in omega arith)

  -- Where it does not, reading gives 22.
  refuses : (Known u ws → ⊥) → (l l' : List ℕ) (r : Result ℕ Refusal) → ReadsStanding u (item_bytes ws) l l' r → NotKnown l l' r
  refuses n l l' (Ok k) r = n (read_item u ws b l l' k r).0
  refuses n l l' (Err why) r = (⊎_elim (λ q. q.0) (λ q. absurd (n q.1.0)) (refused l (number_of why) r.0), r.1)

module _ (t u : Table) (s : TwoStores t u) (f out out' : List ℕ) (n : ℕ) (x : WritesStanding t f out out' (Ok n)) where
  -- "Where both stores hold all keys and rows named .., the frontier read back stands on the same ids".
  pub written_read : HoldsNamed t f u → (l l' : List ℕ) (r : Result ℕ Refusal) → ReadsStanding u (take n out') l l' r → Arrives t f u l l' r
  written_read h l l' r q =
      let i = wrote_item t f out out' n x in
      arrives t u s f i.sent i.valid i.is_sent i.back (h i.sent i.is_sent) l l' r
      (subst (λ (z : List ℕ). ReadsStanding u z l l' r) i.bytes q)

  -- "22 UNKNOWN for a key or applying id that the store lacks": where it lacks one, and nowhere else.
  pub written_lacking : (HoldsNamed t f u → ⊥) → (l l' : List ℕ) (r : Result ℕ Refusal) → ReadsStanding u (take n out') l l' r → NotKnown l l' r
  written_lacking h l l' r q =
      let i = wrote_item t f out out' n x in
      refuses t u s f i.sent i.valid i.is_sent i.back
      (λ k. h (λ ws p. subst (Known u) (sent_unique t (entries_of f) i.sent ws i.is_sent p) k)) l l' r
      (subst (λ (z : List ℕ). ReadsStanding u z l l' r) i.bytes q)

-- Over the same store what was written is read back as it was.
pub written_back : (t : Table) → Bytes t.ids → (f out out' : List ℕ) (n : ℕ) → WritesStanding t f out out' (Ok n)
    → (l l' : List ℕ) (m : ℕ) → ReadsStanding t (take n out') l l' (Ok m) → take m l' ≡ f
written_back t b f out out' n x l l' m q =
    let i = wrote_item t f out out' n x in
    let r = read_item t i.sent i.back l l' m (subst (λ (z : List ℕ). ReadInto t z l l' m) i.bytes q) in
    r.1 ∙ (read_back t x.0.well_formed b f i.sent i.valid i.is_sent).same

-- "merging before sending or after gives the same ids": `f` and `g` merged over `t`, and the merge written and read over `u`; or both
-- written and read, and what was read merged over `u`. The numbers are the same.
pub written_merged : (t u : Table) → TwoStores t u → (f g out out' : List ℕ) (n : ℕ) → MergesInto t f g out out' (Ok n)
    → (a a' : List ℕ) (i : ℕ) → WritesStanding t f a a' (Ok i) → (b b' : List ℕ) (j : ℕ) → WritesStanding t g b b' (Ok j)
    → (c c' : List ℕ) (k : ℕ) → WritesStanding t (take n out') c c' (Ok k)
    → (d d' : List ℕ) (p : ℕ) → ReadsStanding u (take i a') d d' (Ok p) → (e e' : List ℕ) (q : ℕ) → ReadsStanding u (take j b') e e' (Ok q)
    → (o o' : List ℕ) (m : ℕ) → MergesInto u (take p d') (take q e') o o' (Ok m)
    → (h h' : List ℕ) (r : ℕ) → ReadsStanding u (take k c') h h' (Ok r) → take r h' ≡ take m o'
written_merged t u s f g out out' n x a a' i wa b b' j wb c c' k wc d d' p ra e e' q rb o o' m y h h' r rc =
    let ia = wrote_item t f a a' i wa in
    let ib = wrote_item t g b b' j wb in
    let ic = wrote_item t (take n out') c c' k wc in
    let da = read_item u ia.sent ia.back d d' p (subst (λ (z : List ℕ). ReadInto u z d d' p) ia.bytes ra) in
    let db = read_item u ib.sent ib.back e e' q (subst (λ (z : List ℕ). ReadInto u z e e' q) ib.bytes rb) in
    let dc = read_item u ic.sent ic.back h h' r (subst (λ (z : List ℕ). ReadInto u z h h' r) ic.bytes rc) in
    let z = subst (λ (l : List ℕ). MergesInto u l (flat (read_entries u ib.sent)) o o' (Ok m)) da.1
    (subst (λ (l : List ℕ). MergesInto u (take p d') l o o' (Ok m)) db.1 y) in
    dc.1 ∙ (merge_sent t u s f g out out' o o' n m ia.sent ib.sent ic.sent x ia.is_sent ib.is_sent ic.is_sent da.0 db.0 z).same
