-- Document 02, §3, of what is sent and read: in one store it is read back as it was; "the frontier read back stands on the same ids, and
-- merging before sending or after gives the same ids."
--
-- The document also asks that both stores hold "these rows' log histories". This needs no hypothesis of its own: a store that holds a row
-- holds its previous row, since it is well formed, and by AgreeOnIds that one has the previous id that the other store names; so step by
-- step the whole log history of a row that both hold is held by both.
-- Assumes nothing.
use Rattle.std.specs.Prelude.{Ok}
use Prim.Native.Nat.{ℕ}
use mathlib.Core.Path.{◌≡◌, refl, sym, ap, ◌∙◌}
use mathlib.Core.List.{List}
use lib.ListN.{take}
use Rattle.basics.specs.Bytes.{Bytes}
use Rattle.store.specs.Table.{Table, WellFormed}
use Rattle.logs.specs.Held.{chain_of}
use Rattle.frontiers.specs.Entries.{flat}
use Rattle.frontiers.specs.Numbers.{entries_of}
use Rattle.frontiers.specs.Calls.{FrontierOf, MergesInto}
use Rattle.frontiers.proofs.Numbers.{valid_entries, valid_flat, entries_flat, flat_valid}
use Rattle.frontiers.proofs.Wrote.{wrote_merged, wrote_valid}
use Rattle.standing.specs.Standing.{SameStanding}
use Rattle.standing.specs.Sending.{Sent, IsSent}
use Rattle.standing.specs.Reading.{Known, read_entries}
use Rattle.standing.proofs.Sent.{rise_unique}
use Rattle.standing.proofs.One.{one_frontier}
use Rattle.standing.proofs.Knowing.{sent_known}
use Rattle.standing.proofs.Said.{EntriesOf}
use Rattle.across.specs.Stores.{TwoStores}
use Rattle.across.specs.Sending.{SameByIds, ReadAs}
use Rattle.across.proofs.Stores.{store_itself}
use Rattle.across.proofs.Coming.{comes_valid, comes_same}
use Rattle.across.proofs.Merging.{same_ids, merged_same}

-- The entries of a valid frontier are valid.
pub entries : (t : Table) (f : List ℕ) → FrontierOf t f → EntriesOf t (entries_of f)
entries t f v = valid_entries (chain_of t) t.counts.authors f v

-- A valid frontier is told by what it says.
pub frontier_unique : (t : Table) → WellFormed t → (f g : List ℕ) → FrontierOf t f → FrontierOf t g → SameStanding t (entries_of f) t (entries_of g) → f ≡ g
frontier_unique t w f g v u e =
    sym (valid_flat (chain_of t) t.counts.authors f v)
    ∙ ap flat (one_frontier t w (entries_of f) (entries_of g) (entries t f v) (entries t g u) e)
    ∙ valid_flat (chain_of t) t.counts.authors g u

module _ (t u : Table) (s : TwoStores t u) where
  -- "the frontier read back stands on the same ids": where the store holds what is named, what is read is a valid frontier that says the
  -- same of every author and stands on the same ids.
  pub read_there : (f : List ℕ) (ws : List Sent) → FrontierOf t f → IsSent t (entries_of f) ws → Known u ws → SameByIds t f u (flat (read_entries u ws))
  read_there f ws v p h =
      let es = read_entries u ws in
      let q = comes_valid t u s (entries_of f) ws (entries t f v) p h in
      let e = comes_same t u s (entries_of f) ws (entries t f v) p h in
      let i = entries_flat es in
      record {
        valid = flat_valid (chain_of u) u.counts.authors es q;
        standing = rw i e;
        ids = rw i (same_ids t u s (entries_of f) es (entries t f v) q e);
      }

  -- Where a frontier over the other store says the same, the store holds what is named, and that frontier is read.
  pub read_as : (f g : List ℕ) (ws : List Sent) → FrontierOf t f → FrontierOf u g → SameStanding t (entries_of f) u (entries_of g) → IsSent t (entries_of f) ws
      → ReadAs u ws g
  read_as f g ws v o e p =
      let h = sent_known t u s.second (entries_of f) (entries_of g) ws (entries u g o) e p in
      let r = read_there f ws v p h in
      record {
        known = h;
        valid = o;
        same = frontier_unique u s.second (flat (read_entries u ws)) g r.valid o (λ k. sym (r.standing k) ∙ e k);
      }

  -- What is sent on of the frontier read is what was sent.
  pub sent_on : (f : List ℕ) (ws vs : List Sent) → FrontierOf t f → IsSent t (entries_of f) ws → Known u ws
      → IsSent u (entries_of (flat (read_entries u ws))) vs → vs ≡ ws
  sent_on f ws vs v p h q = rise_unique q.rise p.rise (λ k. q.each k ∙ sym ((read_there f ws v p h).standing k) ∙ sym (p.each k))

  -- "merging before sending or after gives the same ids": `f` and `g` are merged over `t` and the merge is sent as `xs`; or they are sent as
  -- `ws` and `vs` and what is read is merged over `u`. The store holds what `xs` names, and what is read of it is the merge there.
  pub merge_sent : (f g out out' over over' : List ℕ) (n m : ℕ) (ws vs xs : List Sent)
      → MergesInto t f g out out' (Ok n) → IsSent t (entries_of f) ws → IsSent t (entries_of g) vs → IsSent t (entries_of (take n out')) xs
      → Known u ws → Known u vs → MergesInto u (flat (read_entries u ws)) (flat (read_entries u vs)) over over' (Ok m) → ReadAs u xs (take m over')
  merge_sent f g out out' over over' n m ws vs xs i p q r h j k =
      let a = i.0.first in
      let b = i.0.second in
      let c = wrote_valid t f g out out' n i s.first_ids in
      let d = wrote_valid u (flat (read_entries u ws)) (flat (read_entries u vs)) over over' m k s.second_ids in
      let x = read_there f ws a p h in
      let y = read_there g vs b q j in
      read_as (take n out') (take m over') xs c d
      (merged_same t u s (entries_of f) (entries_of g) (entries_of (take n out')) (entries_of (flat (read_entries u ws))) (entries_of (flat (read_entries u vs)))
      (entries_of (take m over')) (entries t f a) (entries t g b) (entries t (take n out') c) (entries u (flat (read_entries u ws)) x.valid)
      (entries u (flat (read_entries u vs)) y.valid) (entries u (take m over') d) x.standing y.standing (wrote_merged t f g out out' n i)
      (wrote_merged u (flat (read_entries u ws)) (flat (read_entries u vs)) over over' m k)) r

-- In one store what was written is read back as the same frontier.
pub read_back : (t : Table) → WellFormed t → Bytes t.ids → (f : List ℕ) (ws : List Sent) → FrontierOf t f → IsSent t (entries_of f) ws → ReadAs t ws f
read_back t w b f ws v p = read_as t t (store_itself t w b) f f ws v v (λ k. refl) p
