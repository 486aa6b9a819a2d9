-- What the two calls promise, from what their inner functions do.
-- Assumes nothing.
use Rattle.std.specs.Prelude.{Result, Ok, Err}
use Rattle.answers.specs.declared.Refusal.{Refusal}
use Prim.Native.Nat.{ℕ, ◌+◌, ◌*◌, ◌/◌, ◌≤◌, ◌<◌}
use mathlib.Core.Path.{◌≡◌, sym, ap, ◌∙◌, subst}
use mathlib.Core.List.{List}
use native.Mathlib.Omega.{arith}
use lib.ListN.{length}
use lib.Seq.{paste}
use Rattle.basics.specs.Bytes.{Bytes}
use Rattle.store.specs.Table.{Table, WellFormed}
use Rattle.logs.proofs.Tables.{table_sound}
use Rattle.frontiers.specs.Numbers.{entries_of}
use Rattle.frontiers.specs.Calls.{FrontierOf}
use Rattle.writing.specs.Laying.{laid_at}
use Rattle.kind3.specs.Layout.{layout_of}
use Rattle.kind3.specs.Laid.{IsStandingItem}
use Rattle.kind3.specs.Entries.{HasEntries}
use Rattle.kind3.proofs.Exact.{sound_exactly, item_length}
use Rattle.standing.specs.Sending.{IsSent}
use Rattle.standing.specs.Reading.{Known}
use Rattle.standing.specs.Bytes.{item_bytes}
use Rattle.standing.specs.Decoding.{sents_of}
use Rattle.standing.specs.Selecting.{send_all, MaySend}
use Rattle.standing.specs.Finding.{read_numbers, MayTake, MayRead, NotTaken, Takes}
use Rattle.standing.specs.Calls.{MayWrite, SentInto, NoRoomToSend, frontier_read, Legible, Readable, NotRead, ReadsStanding}
use Rattle.standing.proofs.Items.{standing_length}
use Rattle.standing.proofs.MaySend.{may_send, frontier_sent}
use Rattle.standing.proofs.Decoded.{numbers_same, rise_list, list_rise}

module _ (t : Table) (b : Bytes t.ids) (f : List ℕ) (m : MayWrite t f) where
  -- What may be written may be sent.
  pub sendable : MaySend t.keys t.ids f
  sendable = may_send t m.well_formed b f m.frontier

  size : length (item_bytes (send_all t.keys t.ids f)) ≡ 8 + 130 * (length f / 5)
  size = standing_length t.keys t.ids f sendable

  sent : IsSent t (entries_of f) (send_all t.keys t.ids f)
  sent = frontier_sent t m.well_formed b f m.frontier

  -- A buffer shorter than the item has no room,
  pub send_short : (out : List ℕ) → length out < 8 + 130 * (length f / 5) → NoRoomToSend t f out
  send_short out h = record { sent = send_all t.keys t.ids f; is_sent = sent; short = let e = size in omega arith }

  -- and in another the item is put.
  pub send_done : (out out' : List ℕ) → 8 + 130 * (length f / 5) ≤ length out → out' ≡ laid_at out 0 (item_bytes (send_all t.keys t.ids f))
      → SentInto t f out out' (8 + 130 * (length f / 5))
  send_done out out' h e =
      record {
        sent = send_all t.keys t.ids f;
        is_sent = sent;
        count = sym size;
        fits = h;
        content = e ∙ ap (paste out 0 (item_bytes (send_all t.keys t.ids f))) size;
      }

module _ (u : Table) (s : List ℕ) (n : ℕ) where
  -- A sound item is one, and has its entries inside.
  pub item_is : layout_of s ≡ Ok n → IsStandingItem s n
  item_is e = (sound_exactly s n).0 e

  pub item_has : layout_of s ≡ Ok n → HasEntries s n
  item_has e = let l = item_length (item_is e) in omega arith

  -- What reading its entries asks.
  pub may_read : WellFormed u → Bytes u.ids → layout_of s ≡ Ok n → MayRead u.ids u.rows u.counts s n
  may_read w b e = record { sound = table_sound u w b; rows_limit = w.rows_limit; authors_limit = w.authors_limit; entries = item_has e }

  same : frontier_read u s n ≡ read_numbers u.keys u.ids u.counts s n
  same = numbers_same u s n

  -- What may be taken is readable, and the other way.
  readable : HasEntries s n → MayTake u.keys u.ids u.rows u.counts s n → Readable u s n
  readable h m = record { rise = rise_list s n h m.rise; zeros = m.zeros; valid = subst (FrontierOf u) (sym same) m.valid }

  takable : Readable u s n → MayTake u.keys u.ids u.rows u.counts s n
  takable r = record { rise = list_rise s n r.rise; zeros = r.zeros; valid = subst (FrontierOf u) same r.valid }

  module _ (l : Legible u s n) (k : Known u (sents_of s n)) (h : HasEntries s n) (out out' : List ℕ) where
    refusal : (m : ℕ) → NotTaken u.keys u.ids u.rows u.counts s n out m → NotRead u s out m
    refusal m (NotTaken.not_valid e v) = NotRead.not_valid n e l k (λ r. v (takable r))
    refusal m (NotTaken.no_room e v q) =
        NotRead.no_room n e (record { legible = l; known = k; readable = readable h v }) (subst (λ x. length out < length x) (sym same) q)

    -- What taking a known item answers, the call answers.
    pub takes_reads : (r : Result ℕ Refusal) → Takes u.keys u.ids u.rows u.counts s n out out' r → ReadsStanding u s out out' r
    takes_reads (Ok m) p =
        record {
          entries = n;
          may = record { legible = l; known = k; readable = readable h p.may };
          count = p.count ∙ ap length (sym same);
          fits = p.fits;
          content = p.content ∙ ap (λ x. paste out 0 x m) (sym same);
        }
    takes_reads (Err why) p = (refusal _ p.0, p.1)
