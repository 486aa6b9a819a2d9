-- `desk::payload::is_release` meets its contract.
-- Assumes nothing.
use Rattle.desk.proofs.Steps.{other_length, third_decides}
use Rattle.desk.proofs.payload.is_release.Goals as goal

pub returns-then-payload-eq-PAYLOAD_BYTES : goal.returns-then-payload-eq-PAYLOAD_BYTES
returns-then-payload-eq-PAYLOAD_BYTES c = third_decides c.args.payload.now c.if-payload-eq-PAYLOAD_BYTES.true

pub returns-else-payload-eq-PAYLOAD_BYTES : goal.returns-else-payload-eq-PAYLOAD_BYTES
returns-else-payload-eq-PAYLOAD_BYTES c = other_length c.args.payload.now c.if-payload-eq-PAYLOAD_BYTES.false
