-- Writing and reading have one answer each, and leave one output.
-- Assumes nothing.
use Rattle.std.specs.Prelude.{Result, Ok, Err}
use Prim.Native.Nat.{ℕ}
use mathlib.Core.Path.{◌≡◌, sym, ap, ◌∙◌, subst}
use mathlib.Core.List.{List}
use native.Mathlib.Omega.{arith}
use lib.ListN.{length}
use lib.Seq.{paste}
use Rattle.answers.specs.Number.{number_of}
use Rattle.answers.proofs.Distinct.{one_number}
use Rattle.answers.specs.declared.Refusal.{Refusal}
use Rattle.store.specs.Table.{Table}
use Rattle.frontiers.specs.Numbers.{entries_of}
use Rattle.kind3.specs.Layout.{layout_of}
use Rattle.kind3.specs.Entries.{FlagsKept}
use Rattle.kind3.specs.Laid.{IsStandingItem}
use Rattle.kind3.proofs.Exact.{one_reading, refused_never}
use Rattle.standing.specs.Sending.{Sent}
use Rattle.standing.specs.Reading.{Known}
use Rattle.standing.specs.Bytes.{item_bytes}
use Rattle.standing.specs.Decoding.{sents_of}
use Rattle.standing.specs.Calls.{SentInto, NotSent, WritesStanding, frontier_read, Readable, ReadInto, NotRead, ReadsStanding}
use Rattle.standing.proofs.Sent.{sent_unique}

module _ (t : Table) (f out : List ℕ) where
  -- Writing is refused with one number.
  not_sent_once : {n m : ℕ} → NotSent t f out n → NotSent t f out m → n ≡ m
  not_sent_once (NotSent.not_well_formed e x) (NotSent.not_well_formed d y) = e ∙ sym d
  not_sent_once (NotSent.not_well_formed e x) (NotSent.not_valid d v y) = absurd (x v)
  not_sent_once (NotSent.not_well_formed e x) (NotSent.no_room d p y) = absurd (x p.well_formed)
  not_sent_once (NotSent.not_valid e w x) (NotSent.not_well_formed d y) = absurd (y w)
  not_sent_once (NotSent.not_valid e w x) (NotSent.not_valid d v y) = e ∙ sym d
  not_sent_once (NotSent.not_valid e w x) (NotSent.no_room d p y) = absurd (x p.frontier)
  not_sent_once (NotSent.no_room e m x) (NotSent.not_well_formed d y) = absurd (y m.well_formed)
  not_sent_once (NotSent.no_room e m x) (NotSent.not_valid d v y) = absurd (y m.frontier)
  not_sent_once (NotSent.no_room e m x) (NotSent.no_room d p y) = e ∙ sym d

  -- What is refused is not written.
  sent_refused : (y : List ℕ) (n k : ℕ) → WritesStanding t f out y (Ok n) → NotSent t f out k → ⊥
  sent_refused y n k (m, p) (NotSent.not_well_formed e x) = x m.well_formed
  sent_refused y n k (m, p) (NotSent.not_valid e w x) = x m.frontier
  sent_refused y n k (m, p) (NotSent.no_room e q x) =
      let a = ap (λ (z : List Sent). length (item_bytes z)) (sent_unique t (entries_of f) p.sent x.sent p.is_sent x.is_sent) in
      let c = p.count in
      let h = p.fits in
      let l = x.short in
      omega arith

  -- What is written is one list of bytes.
  sent_once : (y z : List ℕ) (n m : ℕ) → SentInto t f out y n → SentInto t f out z m → (n ≡ m) × (y ≡ z)
  sent_once y z n m p q =
      let e = sent_unique t (entries_of f) p.sent q.sent p.is_sent q.is_sent in
      let c : n ≡ m = p.count ∙ ap (λ (s : List Sent). length (item_bytes s)) e ∙ sym q.count in
      (c, p.content ∙ ap (λ (s : List Sent). paste out 0 (item_bytes s) n) e ∙ ap (paste out 0 (item_bytes q.sent)) c ∙ sym q.content)

  -- Writing has one answer, and leaves one output.
  pub writes_once : (y z : List ℕ) (r q : Result ℕ Refusal) → WritesStanding t f out y r → WritesStanding t f out z q → (r ≡ q) × (y ≡ z)
  writes_once y z (Ok n) (Ok m) (a, p) (c, q) = let e = sent_once y z n m p q in (ap Ok e.0, e.1)
  writes_once y z (Ok n) (Err why) p (c, q) = absurd (sent_refused y n (number_of why) p c)
  writes_once y z (Err why) (Ok m) (c, q) p = absurd (sent_refused z m (number_of why) p c)
  writes_once y z (Err why) (Err how) (a, p) (c, q) = (ap Err (one_number why how (not_sent_once a c)), p ∙ sym q)

-- A layout is refused with one refusal.
one_refusal : (s : List ℕ) {why how : Refusal} → layout_of s ≡ Err why → layout_of s ≡ Err how → why ≡ how
one_refusal s {why} {how} x y = let e : ◌≡◌ {A = Result ℕ Refusal} (Err why) (Err how) = sym x ∙ y in cc

module _ (u : Table) (s out : List ℕ) where
  -- An item has one number of entries, so what holds by one holds by the other.
  flags_at : (n k : ℕ) → IsStandingItem s n → IsStandingItem s k → FlagsKept s n → FlagsKept s k
  flags_at n k i j = subst (FlagsKept s) (one_reading s n k i j)

  known_at : (n k : ℕ) → IsStandingItem s n → IsStandingItem s k → Known u (sents_of s n) → Known u (sents_of s k)
  known_at n k i j = subst (λ (z : ℕ). Known u (sents_of s z)) (one_reading s n k i j)

  readable_at : (n k : ℕ) → IsStandingItem s n → IsStandingItem s k → Readable u s n → Readable u s k
  readable_at n k i j = subst (Readable u s) (one_reading s n k i j)

  length_at : (n k : ℕ) → IsStandingItem s n → IsStandingItem s k → length (frontier_read u s n) ≡ length (frontier_read u s k)
  length_at n k i j = ap (λ (z : ℕ). length (frontier_read u s z)) (one_reading s n k i j)

  -- Reading is refused with one number: each line says that no earlier one held.
  not_read_once : {a b : ℕ} → NotRead u s out a → NotRead u s out b → a ≡ b
  not_read_once (NotRead.not_well_formed e x) (NotRead.not_well_formed d y) = e ∙ sym d
  not_read_once (NotRead.not_well_formed e x) (NotRead.not_laid how d v y) = absurd (x v)
  not_read_once (NotRead.not_well_formed e x) (NotRead.not_flags k d v j y) = absurd (x v)
  not_read_once (NotRead.not_well_formed e x) (NotRead.not_known k d q y) = absurd (x q.well_formed)
  not_read_once (NotRead.not_well_formed e x) (NotRead.not_valid k d q o y) = absurd (x q.well_formed)
  not_read_once (NotRead.not_well_formed e x) (NotRead.no_room k d p y) = absurd (x p.legible.well_formed)
  not_read_once (NotRead.not_laid why e w x) (NotRead.not_well_formed d y) = absurd (y w)
  not_read_once (NotRead.not_laid why e w x) (NotRead.not_laid how d v y) = e ∙ ap number_of (one_refusal s x y) ∙ sym d
  not_read_once (NotRead.not_laid why e w x) (NotRead.not_flags k d v j y) = absurd (refused_never s why k x j)
  not_read_once (NotRead.not_laid why e w x) (NotRead.not_known k d q y) = absurd (refused_never s why k x q.item)
  not_read_once (NotRead.not_laid why e w x) (NotRead.not_valid k d q o y) = absurd (refused_never s why k x q.item)
  not_read_once (NotRead.not_laid why e w x) (NotRead.no_room k d p y) = absurd (refused_never s why k x p.legible.item)
  not_read_once (NotRead.not_flags n e w i x) (NotRead.not_well_formed d y) = absurd (y w)
  not_read_once (NotRead.not_flags n e w i x) (NotRead.not_laid how d v y) = absurd (refused_never s how n y i)
  not_read_once (NotRead.not_flags n e w i x) (NotRead.not_flags k d v j y) = e ∙ sym d
  not_read_once (NotRead.not_flags n e w i x) (NotRead.not_known k d q y) = absurd (x (flags_at k n q.item i q.flags))
  not_read_once (NotRead.not_flags n e w i x) (NotRead.not_valid k d q o y) = absurd (x (flags_at k n q.item i q.flags))
  not_read_once (NotRead.not_flags n e w i x) (NotRead.no_room k d p y) = absurd (x (flags_at k n p.legible.item i p.legible.flags))
  not_read_once (NotRead.not_known n e g x) (NotRead.not_well_formed d y) = absurd (y g.well_formed)
  not_read_once (NotRead.not_known n e g x) (NotRead.not_laid how d v y) = absurd (refused_never s how n y g.item)
  not_read_once (NotRead.not_known n e g x) (NotRead.not_flags k d v j y) = absurd (y (flags_at n k g.item j g.flags))
  not_read_once (NotRead.not_known n e g x) (NotRead.not_known k d q y) = e ∙ sym d
  not_read_once (NotRead.not_known n e g x) (NotRead.not_valid k d q o y) = absurd (x (known_at k n q.item g.item o))
  not_read_once (NotRead.not_known n e g x) (NotRead.no_room k d p y) = absurd (x (known_at k n p.legible.item g.item p.known))
  not_read_once (NotRead.not_valid n e g h x) (NotRead.not_well_formed d y) = absurd (y g.well_formed)
  not_read_once (NotRead.not_valid n e g h x) (NotRead.not_laid how d v y) = absurd (refused_never s how n y g.item)
  not_read_once (NotRead.not_valid n e g h x) (NotRead.not_flags k d v j y) = absurd (y (flags_at n k g.item j g.flags))
  not_read_once (NotRead.not_valid n e g h x) (NotRead.not_known k d q y) = absurd (y (known_at n k g.item q.item h))
  not_read_once (NotRead.not_valid n e g h x) (NotRead.not_valid k d q o y) = e ∙ sym d
  not_read_once (NotRead.not_valid n e g h x) (NotRead.no_room k d p y) = absurd (x (readable_at k n p.legible.item g.item p.readable))
  not_read_once (NotRead.no_room n e m x) (NotRead.not_well_formed d y) = absurd (y m.legible.well_formed)
  not_read_once (NotRead.no_room n e m x) (NotRead.not_laid how d v y) = absurd (refused_never s how n y m.legible.item)
  not_read_once (NotRead.no_room n e m x) (NotRead.not_flags k d v j y) = absurd (y (flags_at n k m.legible.item j m.legible.flags))
  not_read_once (NotRead.no_room n e m x) (NotRead.not_known k d q y) = absurd (y (known_at n k m.legible.item q.item m.known))
  not_read_once (NotRead.no_room n e m x) (NotRead.not_valid k d q o y) = absurd (y (readable_at n k m.legible.item q.item m.readable))
  not_read_once (NotRead.no_room n e m x) (NotRead.no_room k d p y) = e ∙ sym d

  -- What is refused is not read.
  read_refused : {y : List ℕ} {a b : ℕ} → ReadInto u s out y a → NotRead u s out b → ⊥
  read_refused m (NotRead.not_well_formed e x) = x m.may.legible.well_formed
  read_refused m (NotRead.not_laid why e w x) = refused_never s why m.entries x m.may.legible.item
  read_refused m (NotRead.not_flags n e w i x) = x (flags_at m.entries n m.may.legible.item i m.may.legible.flags)
  read_refused m (NotRead.not_known n e g x) = x (known_at m.entries n m.may.legible.item g.item m.may.known)
  read_refused m (NotRead.not_valid n e g h x) = x (readable_at m.entries n m.may.legible.item g.item m.may.readable)
  read_refused m (NotRead.no_room n e p x) = let a = length_at m.entries n m.may.legible.item p.legible.item in
      let c = m.count in
      let f = m.fits in
      omega arith

  -- What is read is one list of numbers.
  read_once : (y z : List ℕ) (a b : ℕ) → ReadInto u s out y a → ReadInto u s out z b → (a ≡ b) × (y ≡ z)
  read_once y z a b p q =
      let e = one_reading s p.entries q.entries p.may.legible.item q.may.legible.item in
      let c : a ≡ b = p.count ∙ ap (λ (n : ℕ). length (frontier_read u s n)) e ∙ sym q.count in (
        c,
        p.content ∙ ap (λ (n : ℕ). paste out 0 (frontier_read u s n) a) e ∙ ap (paste out 0 (frontier_read u s q.entries)) c ∙ sym q.content,
      )

  -- Reading has one answer, and leaves one output.
  pub reads_once : (y z : List ℕ) (r q : Result ℕ Refusal) → ReadsStanding u s out y r → ReadsStanding u s out z q → (r ≡ q) × (y ≡ z)
  reads_once y z (Ok a) (Ok b) p q = let e = read_once y z a b p q in (ap Ok e.0, e.1)
  reads_once y z (Ok a) (Err why) p (c, q) = absurd (read_refused p c)
  reads_once y z (Err why) (Ok b) (c, q) p = absurd (read_refused p c)
  reads_once y z (Err why) (Err how) (a, p) (c, q) = (ap Err (one_number why how (not_read_once a c)), p ∙ sym q)
