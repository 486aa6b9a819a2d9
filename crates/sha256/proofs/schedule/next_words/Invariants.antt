-- `schedule::next_words` meets its contract. The loop's invariant: the words are the sixteen at the place that was counted to.
-- Assumes nothing.
use Rattle.std.proofs.Common.{◌≡◌, drop}
use Rattle.sha256.specs.Sha256.{W}
use Rattle.sha256.proofs.schedule.next_words.Given as goal

abbrev pub invariant-loop : goal.invariant-loop
invariant-loop l = l.w ≡ drop l.counter (W l.initial.w l.counter)
