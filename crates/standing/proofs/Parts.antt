-- The bytes of what is sent, part by part; entries of full lengths have 130 bytes each.
-- Assumes nothing.
use Prim.Native.Nat.{ℕ, ◌*◌, ◌≤◌}
use mathlib.Core.Path.{◌≡◌, refl, ap}
use mathlib.Core.Bool.{true}
use mathlib.Core.List.{List, [], ◌∷◌, ◌++◌}
use mathlib.Core.Option.{Option, none, some}
use native.Mathlib.Omega.{arith}
use lib.ListN.{length, length-append, length-replicate}
use lib.Dec.{eqb}
use Rattle.basics.specs.Pick.{pick}
use Rattle.chunks.specs.Bytes.{all_zero}
use Rattle.standing.specs.Standing.{Standing, growing_at, forked_at}
use Rattle.standing.specs.Sending.{Sent}
use Rattle.standing.specs.Bytes.{no_id, says_bytes, sent_bytes, entries_bytes}

-- Zero bytes in the place of an id are 32.
pub length_no_id : length no_id ≡ 32
length_no_id = length-replicate {A = ℕ} 32 0

-- The parts of a standing's bytes: phase, presence,
abbrev pub phase_part : Standing → ℕ
phase_part (growing_at l) = 0
phase_part (forked_at l lo hi) = 1

abbrev pub last_of : Standing → Option (List ℕ)
last_of (growing_at l) = l
last_of (forked_at l lo hi) = l

abbrev pub presence_part : Option (List ℕ) → ℕ
presence_part none = 0
presence_part (some x) = 1

-- and the three ids.
abbrev pub last_part : Option (List ℕ) → List ℕ
last_part none = no_id
last_part (some x) = x

abbrev pub low_part : Standing → List ℕ
low_part (growing_at l) = no_id
low_part (forked_at l lo hi) = lo

abbrev pub high_part : Standing → List ℕ
high_part (growing_at l) = no_id
high_part (forked_at l lo hi) = hi

-- So they are laid.
pub parts_laid : (s : Standing) → says_bytes s ≡ phase_part s ∷ presence_part (last_of s) ∷ (last_part (last_of s) ++ (low_part s ++ high_part s))
parts_laid (growing_at none) = refl
parts_laid (growing_at (some x)) = refl
parts_laid (forked_at none lo hi) = refl
parts_laid (forked_at (some x) lo hi) = refl

-- The parts say the standing again.
pub says_again : (s : Standing) → pick (eqb (phase_part s) 0)
    (growing_at (pick (eqb (presence_part (last_of s)) 0) none (some (last_part (last_of s)))))
    (forked_at (pick (eqb (presence_part (last_of s)) 0) none (some (last_part (last_of s)))) (low_part s) (high_part s)) ≡ s
says_again (growing_at none) = refl
says_again (growing_at (some x)) = refl
says_again (forked_at none lo hi) = refl
says_again (forked_at (some x) lo hi) = refl

-- Phase and presence are 0 or 1.
pub phase_small : (s : Standing) → phase_part s ≤ 1
phase_small (growing_at l) = omega arith
phase_small (forked_at l lo hi) = omega arith

pub presence_small : (l : Option (List ℕ)) → presence_part l ≤ 1
presence_small none = omega arith
presence_small (some x) = omega arith

-- "ids that don't apply are zero bytes": those of the evidence, and of last.
zero_id : all_zero no_id ≡ true
unfolding all_zero
zero_id = refl

pub evidence_zero : (s : Standing) → phase_part s ≡ 0 → (all_zero (low_part s) ≡ true) × (all_zero (high_part s) ≡ true)
evidence_zero (growing_at l) e = (zero_id, zero_id)
evidence_zero (forked_at l lo hi) e = absurd (omega arith)

pub last_zero : (l : Option (List ℕ)) → presence_part l ≡ 0 → all_zero (last_part l) ≡ true
last_zero none e = zero_id
last_zero (some x) e = absurd (omega arith)

-- An entry whose key and ids have their 32 bytes.
pub record FullSent (w : Sent) : Type 0 where
  pub key : length w.key ≡ 32
  pub last : length (last_part (last_of w.says)) ≡ 32
  pub low : length (low_part w.says) ≡ 32
  pub high : length (high_part w.says) ≡ 32

-- All entries are.
abbrev pub AllFull : List Sent → Type 0
AllFull [] = Unit {0}
AllFull (w ∷ ws) = FullSent w × AllFull ws

-- An entry has 130 bytes,
pub entry_length : (w : Sent) → FullSent w → length (sent_bytes w) ≡ 130
entry_length w f =
    let l = last_part (last_of w.says) in
    let a = length-append w.key (says_bytes w.says) in
    let b = ap length (parts_laid w.says) in
    let c = length-append l (low_part w.says ++ high_part w.says) in
    let d = length-append (low_part w.says) (high_part w.says) in
    omega (arith, f.key, f.last, f.low, f.high)

-- so that many.
pub entries_length : (ws : List Sent) → AllFull ws → length (entries_bytes ws) ≡ 130 * length ws
unfolding entries_bytes
entries_length [] f = refl
entries_length (w ∷ ws) f =
    let a = length-append (sent_bytes w) (entries_bytes ws) in
    let b = entry_length w f.0 in
    let c = entries_length ws f.1 in
    omega arith
