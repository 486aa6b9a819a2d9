-- `frontiers::counting::joined_length` meets its contract.
-- Assumes nothing.
use mathlib.Core.Path.{sym, ◌∙◌}
use Rattle.frontiers.proofs.Lengths.{first_length, second_length, no_length}
use Rattle.frontiers.proofs.counting.joined_length.Goals as goal
use Rattle.frontiers.proofs.counting.joined_length.Goals.{then-has_entry, else-has_entry}

pub returns-then-has_entry-2 : goal.returns-then-has_entry-2
returns-then-has_entry-2 c =
    let a = c.args in
    elim c.if-has_entry.branch [
      | then-has_entry w ↦ first_length a.f.now a.g.now a.a (sym c.has_entry.ensures ∙ w.if-has_entry.true)
      | else-has_entry w ↦ second_length a.f.now a.g.now a.a (sym c.has_entry.ensures ∙ w.if-has_entry.false)
          (sym w.has_entry-else-has_entry.ensures ∙ sym w.value-is ∙ c.if-has_entry-2.true)
    ]

pub returns-else-has_entry-2 : goal.returns-else-has_entry-2
returns-else-has_entry-2 c =
    let a = c.args in
    elim c.if-has_entry.branch [
      | then-has_entry w ↦ absurd (cc)
      | else-has_entry w ↦ no_length a.f.now a.g.now a.a (sym c.has_entry.ensures ∙ w.if-has_entry.false)
          (sym w.has_entry-else-has_entry.ensures ∙ sym w.value-is ∙ c.if-has_entry-2.false)
    ]
