-- What follows from the promise of `write_item`: both round trips, what stays, and that it has one answer.
-- Assumes nothing.
use Rattle.std.specs.Prelude.{Result, Ok, Err}
use Prim.Native.Nat.{ℕ, ◌≤◌, ◌<◌}
use native.Mathlib.Omega.{arith}
use mathlib.Core.Path.{◌≡◌, sym, ap, ◌∙◌}
use mathlib.Core.Logic.{◌↔◌}
use mathlib.Core.List.{List, ◌++◌}
use lib.ListN.{length, take, drop, length-append, length-drop}
use lib.Seq.{take_at, drop_at}
use Rattle.basics.specs.Bytes.{Bytes}
use Rattle.answers.specs.declared.Refusal.{Refusal}
use Rattle.item.specs.declared.Fields.{Fields}
use Rattle.item.specs.Layout.{layout_of}
use Rattle.writing.specs.Message.{Message, item_bytes}
use Rattle.writing.specs.Writing.{buffer_after, WritesItem}
use Rattle.writing.specs.Lines.{Layable, Line}
use Rattle.writing.specs.Reading.{message_in, ReadsBack}
use Rattle.writing.proofs.Verdicts.{Wrote, done_wrote, wrote_done, refused_line}
use Rattle.writing.proofs.Reading.{reads_back}
use Rattle.writing.proofs.Again.{written_again, read_layable}

-- One answer, and one content of the buffer.
pub one_writing : (m : Message) (out out' out'' : List ℕ) (r q : Result ℕ Refusal) → WritesItem m out out' r → WritesItem m out out'' q
    → (r ≡ q) × (out' ≡ out'')
one_writing m out out' out'' r q w v =
    let e : r ≡ q = w.answer ∙ sym v.answer in
    (e, w.buffer ∙ ap (λ (x : Result ℕ Refusal). buffer_after x m out) e ∙ sym v.buffer)

-- A refusal is given only where its line holds, and changes nothing.
pub refusal_keeps : (m : Message) (out out' : List ℕ) (r : Refusal) → WritesItem m out out' (Err r) → Line m (length out) r × (out' ≡ out)
unfolding buffer_after
refusal_keeps m out out' r w = (refused_line m (length out) r (sym w.answer), w.buffer)

-- Done exactly when the fields are full and within the limits, the mark is 0 or 1, and there is room for the item.
pub done_exactly : (m : Message) (out out' : List ℕ) (r : Result ℕ Refusal) → WritesItem m out out' r
    → (r ≡ Ok (length (item_bytes m))) ↔ (Layable m × (length (item_bytes m) ≤ length out))
done_exactly m out out' r w = (
  (λ e. let x = done_wrote m (length out) (length (item_bytes m)) (sym w.answer ∙ e) in (x.layable, x.fits)),
  (λ l. w.answer ∙ wrote_done m (length out) l.0 l.1),
)

module _ (m : Message) (out out' : List ℕ) (n : ℕ) (w : WritesItem m out out' (Ok n)) where
  -- What the answer says.
  told : Wrote m (length out) n
  told = done_wrote m (length out) n (sym w.answer)

  -- What the buffer holds.
  held : out' ≡ item_bytes m ++ drop n out
  unfolding buffer_after
  held = w.buffer

  -- The bytes written are the item of the message.
  pub item_stands : take n out' ≡ item_bytes m
  item_stands = ap (take n) held ∙ take_at (item_bytes m) (drop n out) n (sym told.size)

  -- "bytes after the item stay"
  pub rest_stays : drop n out' ≡ drop n out
  rest_stays = ap (drop n) held ∙ drop_at (item_bytes m) (drop n out) n (sym told.size)

  -- The buffer keeps its length.
  pub length_stays : length out' ≡ length out
  length_stays =
      ap length held ∙ length-append (item_bytes m) (drop n out) ∙ omega (arith, length-drop n out, told.size, told.fits)

  -- "Reading what was written gives the same fields".
  pub read_back : m.index < 4294967296 → ReadsBack m (take n out')
  read_back h = rw item_stands (reads_back m told.layable h)

-- "writing what was read, where its mark is 0 or 1, gives the same bytes": it is done where there is room, and the buffer then
-- begins with the bytes that were read.
pub write_back : (s : List ℕ) (f : Fields) (out out' : List ℕ) (r : Result ℕ Refusal) → Bytes s → layout_of s ≡ Ok f → f.mark ≤ 1
    → length s ≤ length out → WritesItem (message_in f s) out out' r → (r ≡ Ok (length s)) × (out' ≡ s ++ drop (length s) out)
unfolding buffer_after
write_back s f out out' r b e k h w =
    let same = written_again s f e b in
    let long : length (item_bytes (message_in f s)) ≡ length s = ap length same in
    let d : r ≡ Ok (length s) =
    w.answer ∙ wrote_done (message_in f s) (length out) (read_layable s f e k) (omega (arith, long)) ∙ ap Ok long in
    (d, w.buffer ∙ ap (λ (x : Result ℕ Refusal). buffer_after x (message_in f s) out) d ∙ ap (λ (l : List ℕ). l ++ drop (length s) out) same)
