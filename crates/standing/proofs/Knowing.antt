-- A store knows what is sent of a frontier where some frontier over it says the same.
-- Assumes nothing.
use Prim.Native.Nat.{ℕ, ◌≤◌}
use mathlib.Core.Path.{◌≡◌, refl, sym, ◌∙◌, subst}
use mathlib.Core.Logic.{inl, inr}
use mathlib.Core.Bool.{true}
use mathlib.Core.List.{List, ◌∷◌}
use mathlib.Core.Option.{Option, none, some}
use native.Mathlib.Omega.{arith}
use Rattle.basics.proofs.Tests.{not_both_ways}
use Rattle.chunks.specs.Bytes.{comes_before}
use Rattle.store.specs.Table.{Table, WellFormed, id_at}
use Rattle.store.specs.Paper.{Message}
use Rattle.chains.specs.Chain.{State, growing, forked, ValidState, growing_valid, forked_valid}
use Rattle.logs.specs.Held.{chain_of}
use Rattle.review.proofs.Order.{not_before_self}
use Rattle.frontiers.specs.Entries.{Entry, entry_of, ValidAt}
use Rattle.standing.specs.Standing.{id_of, by_ids, standing, SameStanding}
use Rattle.standing.specs.Sending.{Sent, sent_for, KeysRiseFrom, IsSent}
use Rattle.standing.specs.Reading.{author_with, row_with, KnownLast, KnownIds, Known}
use Rattle.standing.proofs.Said.{EntriesOf, said, by_same, says}
use Rattle.standing.proofs.Sent.{sent_first, sent_later, sent_absent}
use Rattle.standing.proofs.Read.{KnownFor}
use Rattle.standing.proofs.Rows.{Place, row_message, node_place, id_none, id_some, row_own}

-- The ids at which a valid state stands are held.
row_known : (t : Table) → WellFormed t → (x : ℕ) → Message t x → 1 ≤ row_with t (id_at t x)
row_known t w x m = let e = row_own t w x m in let h = m.some in omega arith

last_known : (t : Table) → WellFormed t → (x : ℕ) → Place t x → KnownLast t (id_of t x)
last_known t w x (inl e) = rw (id_none t x e) tt
last_known t w x (inr m) = rw (id_some t x m.some) (row_known t w x m)

own_known : (t : Table) → WellFormed t → (A : ℕ) (L : State) → ValidState (chain_of t) A L → KnownIds t (by_ids t L)
own_known t w A (growing l) (growing_valid n) = last_known t w l (node_place t A l n)
own_known t w A (forked l lo hi) (forked_valid n e) = (
  last_known t w l (node_place t A l n),
  (row_known t w lo (row_message t A lo e.low), row_known t w hi (row_message t A hi e.high)),
)

-- A store knows what is said by a frontier over it.
pub said_known : (u : Table) → WellFormed u → (es : List Entry) → EntriesOf u es → (k : List ℕ) → KnownFor u k (standing u es k)
said_known u w es v k = subst (KnownFor u k) (sym (says u w es v k)) (here (entry_of es (author_with u k)) (v.each (author_with u k)))
  where
    here : (x : Option State) → ValidAt (chain_of u) u.counts.authors (author_with u k) x → KnownFor u k (said u x)
    here none p = tt
    here (some l) p = (p.0, own_known u w (author_with u k) l p.1.1)

-- Entries that rise are known where all that they say is.
known_of : (u : Table) {b : List ℕ} {ws : List Sent} → KeysRiseFrom b ws → ((k : List ℕ) → KnownFor u k (sent_for ws k)) → Known u ws
known_of u KeysRiseFrom.end h = tt
known_of u {ws = w ∷ ws} (KeysRiseFrom.next p r) h = (
  subst (KnownFor u w.key) (sent_first w ws w.key refl) (h w.key),
  known_of u r (λ k. by_same (λ b. KnownFor u k (sent_for ws k)) w.key k
      (λ e. subst (KnownFor u k) (sym (sent_absent r k (λ q. not_self w.key k e q))) tt)
      (λ d. subst (KnownFor u k) (sent_later w ws k d) (h k))),
)
  where
    not_self : (a k : List ℕ) → a ≡ k → comes_before a k ≡ true → ⊥
    not_self a k e q = not_both_ways (comes_before k k) (subst (λ (x : List ℕ). comes_before x k ≡ true) e q) (not_before_self k)

-- What is sent of a frontier is known to every store over which some frontier says the same.
pub sent_known : (t u : Table) → WellFormed u → (es fs : List Entry) (ws : List Sent) → EntriesOf u fs → SameStanding t es u fs → IsSent t es ws → Known u ws
sent_known t u w es fs ws v e p = known_of u p.rise (λ k. subst (KnownFor u k) (sym (p.each k ∙ e k)) (said_known u w fs v k))
