-- `padding::byte_at` meets its contract: a law for each part of the padded message, by the tests that lead there.
-- Assumes nothing.
use Rattle.std.proofs.Common.{◌≡◌, ℕ, ◌+◌, ◌-◌, ◌*◌, ◌/◌, ◌<◌, ◌≤◌, length, sym, ◌∙◌, arith}
use Rattle.sha256.proofs.Bytes.{padded_front, padded_one, padded_zeros, padded_length, padded_past}
use Rattle.sha256.proofs.padding.byte_at.Goals as goal

pub returns-then-i-n : goal.returns-then-i-n
returns-then-i-n c = let a = c.args in sym (padded_front a.s.now a.i c.if-i-n.true)

pub returns-then-i-n-2 : goal.returns-then-i-n-2
returns-then-i-n-2 c = let a = c.args in sym (padded_one a.s.now a.i c.if-i-n-2.true)

pub returns-then-i-place : goal.returns-then-i-place
returns-then-i-place c =
    let a = c.args in
    let h : length a.s.now < a.i = omega arith in
    sym (padded_zeros a.s.now a.i h c.if-i-place.true)

pub returns-then-j-lt8 : goal.returns-then-j-lt8
returns-then-j-lt8 c =
    let a = c.args in
    let n : ℕ = (length a.s.now + 8) / 64 * 64 + 56 in
    let e : a.i ≡ n + (a.i - n) = omega arith in
    c.length_byte.ensures ∙ sym (padded_length a.s.now a.i (a.i - n) e c.if-j-lt8.true)

pub returns : goal.returns
returns c =
    let a = c.args in
    let h : ((length a.s.now + 8) / 64 + 1) * 64 ≤ a.i = omega arith in
    sym (padded_past a.s.now a.i h)
