-- Reading what was written: what the bytes of an item say is the entries that were sent.
-- Assumes nothing.
use Prim.Native.Nat.{ℕ, suc, ◌+◌, ◌*◌, ◌≤◌, ◌<◌}
use mathlib.Core.Path.{◌≡◌, refl, sym, ap, ◌∙◌, subst}
use mathlib.Core.List.{List, [], ◌∷◌, ◌++◌, append_assoc}
use native.Mathlib.Omega.{arith}
use lib.ListN.{length, take, drop, get_or, length-append}
use lib.Seq.{take_at, drop_at, get_or-append-add, drop-append-add, get_or-drop, drop-drop}
use Rattle.basics.proofs.Tests.{by_eqb}
use Rattle.writing.specs.Bytes.{bytes16, bytes32}
use Rattle.writing.proofs.Behind.{length_16, length_32}
use Rattle.writing.proofs.Numbers.{said_16, said_32}
use Rattle.kind3.specs.Offsets.{entry_place}
use Rattle.kind3.specs.Entries.{byte_in, chunk_in, key_in, phase_in, presence_in, last_id_in, low_id_in, high_id_in, FlagsAt, FlagsKept, ZerosAt, ZerosKept}
use Rattle.kind3.specs.Laid.{IsStandingItem}
use Rattle.kind3.proofs.Exact.{at_entries_lem}
use Rattle.standing.specs.Standing.{Standing}
use Rattle.standing.specs.Sending.{Sent}
use Rattle.standing.specs.Bytes.{says_bytes, sent_bytes, entries_bytes, following_bytes, item_bytes}
use Rattle.standing.specs.Decoding.{sent_in, sents_at, sents_of}
use Rattle.standing.proofs.Parts.{phase_part, last_of, presence_part, last_part, low_part, high_part, parts_laid, says_again, phase_small, presence_small}
use Rattle.standing.proofs.Parts.{evidence_zero, last_zero, FullSent, AllFull, entry_length, entries_length}

-- An entry in an item: what stands from its place on begins with its bytes.
module _ (s rest : List ℕ) (i : ℕ) (w : Sent) (f : FullSent w) (e : drop (entry_place i) s ≡ sent_bytes w ++ rest) where
  -- The bytes behind the key.
  abbrev behind : List ℕ
  behind = last_part (last_of w.says) ++ (low_part w.says ++ (high_part w.says ++ rest))

  from_entry : drop (entry_place i) s ≡ w.key ++ (phase_part w.says ∷ presence_part (last_of w.says) ∷ behind)
  from_entry =
      let l = last_part (last_of w.says) in
      let lo = low_part w.says in
      let hi = high_part w.says in
      let p = phase_part w.says in
      let q = presence_part (last_of w.says) in
      e ∙ append_assoc w.key (says_bytes w.says) rest
      ∙ ap (λ (x : List ℕ). w.key ++ (x ++ rest)) (parts_laid w.says)
      ∙ ap (λ (x : List ℕ). w.key ++ (p ∷ q ∷ x)) (append_assoc l (lo ++ hi) rest ∙ ap (λ (x : List ℕ). l ++ x) (append_assoc lo hi rest))

  -- A byte behind the key, and 32 bytes behind it.
  byte_behind : (to n : ℕ) → to ≡ 32 + n → byte_in s i to ≡ get_or (phase_part w.says ∷ presence_part (last_of w.says) ∷ behind) n 0
  byte_behind to n h =
      sym (get_or-drop (entry_place i) s to 0) ∙ ap (λ (x : List ℕ). get_or x to 0) from_entry
      ∙ ap (λ (k : ℕ). get_or (w.key ++ (phase_part w.says ∷ presence_part (last_of w.says) ∷ behind)) k 0) (omega (arith, f.key))
      ∙ get_or-append-add w.key (phase_part w.says ∷ presence_part (last_of w.says) ∷ behind) n 0

  chunk_behind : (to n : ℕ) → to ≡ 34 + n → chunk_in s i to ≡ take 32 (drop n behind)
  chunk_behind to n h =
      let t = phase_part w.says ∷ presence_part (last_of w.says) ∷ behind in
      let k : to ≡ length w.key + suc (suc n) = omega (arith, f.key) in
      ap (take 32) (sym (drop-drop to (entry_place i) s) ∙ ap (drop to) from_entry ∙ ap (λ (m : ℕ). drop m (w.key ++ t)) k
      ∙ drop-append-add w.key t (suc (suc n)))

  -- The parts of the entry.
  key_in_lem : key_in s i ≡ w.key
  key_in_lem =
      let z : entry_place i + 0 ≡ entry_place i = omega arith in
      ap (take 32) (ap (λ (n : ℕ). drop n s) z ∙ from_entry)
      ∙ take_at w.key (phase_part w.says ∷ presence_part (last_of w.says) ∷ behind) 32 f.key

  pub phase_in_lem : phase_in s i ≡ phase_part w.says
  phase_in_lem = byte_behind 32 0 (omega arith)

  pub presence_in_lem : presence_in s i ≡ presence_part (last_of w.says)
  presence_in_lem = byte_behind 33 1 (omega arith)

  last_in_lem : last_id_in s i ≡ last_part (last_of w.says)
  last_in_lem = chunk_behind 34 0 (omega arith) ∙ take_at (last_part (last_of w.says)) _ 32 f.last

  low_in : low_id_in s i ≡ low_part w.says
  low_in =
      chunk_behind 66 32 (omega arith) ∙ ap (take 32) (drop_at (last_part (last_of w.says)) _ 32 f.last) ∙ take_at (low_part w.says) _ 32 f.low

  high_in : high_id_in s i ≡ high_part w.says
  high_in =
      chunk_behind 98 64 (omega arith)
      ∙ ap (take 32) (sym (drop-drop 32 32 behind) ∙ ap (drop 32) (drop_at (last_part (last_of w.says)) _ 32 f.last)
      ∙ drop_at (low_part w.says) _ 32 f.low)
      ∙ take_at (high_part w.says) rest 32 f.high

  -- What the entry says.
  entry_in : sent_in s i ≡ w
  entry_in = rw (key_in_lem, phase_in_lem, presence_in_lem, last_in_lem, low_in, high_in) (ap (λ (x : Standing). record { key = w.key; says = x }) (says_again w.says))

  -- Its phase and presence are 0 or 1,
  flags_in : FlagsAt s i
  flags_in = rw (phase_in_lem, presence_in_lem) (phase_small w.says, presence_small (last_of w.says))

  -- and bytes are zero where they don't apply.
  zeros_in : ZerosAt s i
  zeros_in = rw (phase_in_lem, presence_in_lem, last_in_lem, low_in, high_in) (evidence_zero w.says, last_zero (last_of w.says))

-- What is said of all entries from entry `i` on.
record ReadFrom (s : List ℕ) (ws : List Sent) (i : ℕ) : Type 0 where
  sents : sents_at s (length ws) i ≡ ws
  flags : (j : ℕ) → i ≤ j → j < i + length ws → FlagsAt s j
  zeros : (j : ℕ) → i ≤ j → j < i + length ws → ZerosAt s j

-- They are read one after the other.
read_from : (s : List ℕ) (ws : List Sent) (i : ℕ) → AllFull ws → drop (entry_place i) s ≡ entries_bytes ws → ReadFrom s ws i
unfolding sents_at entries_bytes
read_from s [] i f e = record { sents = refl; flags = λ j h k. absurd (omega arith); zeros = λ j h k. absurd (omega arith) }
read_from s (w ∷ ws) i f e =
    let n : entry_place (suc i) ≡ entry_place i + 130 = omega arith in
    let d : drop (entry_place (suc i)) s ≡ entries_bytes ws =
    ap (λ (k : ℕ). drop k s) n ∙ sym (drop-drop 130 (entry_place i) s) ∙ ap (drop 130) e
    ∙ drop_at (sent_bytes w) (entries_bytes ws) 130 (entry_length w f.0) in
    let r = read_from s ws (suc i) f.1 d in
    let x = entry_in s (entries_bytes ws) i w f.0 e in
    record {
      sents = rw (x, r.sents);
      flags = λ j h k.
          by_eqb (λ b. FlagsAt s j) i j (λ q. subst (FlagsAt s) q (flags_in s (entries_bytes ws) i w f.0 e)) (λ q. r.flags j (omega arith) (omega arith));
      zeros = λ j h k.
          by_eqb (λ b. ZerosAt s j) i j (λ q. subst (ZerosAt s) q (zeros_in s (entries_bytes ws) i w f.0 e)) (λ q. r.zeros j (omega arith) (omega arith));
    }

-- The bytes are an item of kind 3.
pub written_item : (ws : List Sent) → AllFull ws → length ws ≤ 64 → IsStandingItem (item_bytes ws) (length ws)
unfolding item_bytes following_bytes
written_item ws f h =
    record {
      len = bytes32 (length (following_bytes ws));
      kind = bytes16 3;
      count = bytes16 (length ws);
      entries = entries_bytes ws;
      laid = refl;
      len_4 = length_32 (length (following_bytes ws));
      kind_2 = length_16 3;
      count_2 = length_16 (length ws);
      entries_130_each = entries_length ws f;
      len_says = long ∙ ap (λ (n : ℕ). 4 + n) (sym (said_32 (length (following_bytes ws)) (omega (arith, follows))));
      kind_says = said_16 3 (omega arith);
      count_says = said_16 (length ws) (omega arith);
      count_limit_lem = h;
    }
  where
    follows : length (following_bytes ws) ≡ 4 + 130 * length ws
    follows =
        let a = length-append (bytes16 3) (bytes16 (length ws) ++ entries_bytes ws) in
        let b = length-append (bytes16 (length ws)) (entries_bytes ws) in
        omega (arith, length_16 3, length_16 (length ws), entries_length ws f)

    long : length (item_bytes ws) ≡ 4 + length (following_bytes ws)
    long =
        length-append (bytes32 (length (following_bytes ws))) (following_bytes ws)
        ∙ ap (λ (n : ℕ). n + length (following_bytes ws)) (length_32 (length (following_bytes ws)))

-- READING WHAT WAS WRITTEN: the bytes are an item, its flags and zero bytes are kept, and it says the entries.
pub record ReadsBack (s : List ℕ) (ws : List Sent) : Type 0 where
  pub item : IsStandingItem s (length ws)
  pub flags : FlagsKept s (length ws)
  pub zeros : ZerosKept s (length ws)
  pub sents : sents_of s (length ws) ≡ ws

pub reads_back : (ws : List Sent) → AllFull ws → length ws ≤ 64 → ReadsBack (item_bytes ws) ws
unfolding written_item
reads_back ws f h =
    let i = written_item ws f h in
    let r = read_from (item_bytes ws) ws 0 f (at_entries_lem i) in
    record {
      item = i;
      flags = λ j k. r.flags j (omega arith) (omega arith);
      zeros = λ j k. r.zeros j (omega arith) (omega arith);
      sents = r.sents;
    }
