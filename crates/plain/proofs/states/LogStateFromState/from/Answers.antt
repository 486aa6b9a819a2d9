-- `LogState::from` meets its contract: by the phase and the evidence rows.
-- Assumes nothing.
use Rattle.plain.proofs.Reading.{log_forked, log_no_phase, log_low, log_high, log_growing}
use Rattle.plain.proofs.states.LogStateFromState.from.Goals as goal

pub returns-in-1-default-default : goal.returns-in-1-default-default
returns-in-1-default-default c = log_forked _ c.in-1-default-default.is-0

pub returns-in-0-eq0-eq0 : goal.returns-in-0-eq0-eq0
returns-in-0-eq0-eq0 c = log_growing _ c.in-0-eq0-eq0.is-0 c.in-0-eq0-eq0.is-1 c.in-0-eq0-eq0.is-2

pub returns-in_default : goal.returns-in_default
returns-in_default c = log_high _ c.in_default.is-0 c.in_default.is-1 c.in_default.is-2.1

pub returns-in_default-2 : goal.returns-in_default-2
returns-in_default-2 c = log_low _ c.in_default.is-0 c.in_default.is-1.1

pub returns-in_default-3 : goal.returns-in_default-3
returns-in_default-3 c = log_no_phase _ c.in_default.is-0.0.1 c.in_default.is-0.1
