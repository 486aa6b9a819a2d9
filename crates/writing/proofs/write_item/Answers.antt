-- `writing::write_item` meets its contract: each answer is given where the tests before it were passed.
-- Assumes nothing.
use mathlib.Core.Path.{refl, sym, ◌∙◌}
use Rattle.writing.specs.Message.{message_of}
use Rattle.writing.proofs.Answers.{refused_short, refused_payload, refused_count, refused_mark, refused_room, may_lay, written_done}
use Rattle.writing.proofs.write_item.Goals as goal

pub returns-then-not-full_lengths : goal.returns-then-not-full_lengths
returns-then-not-full_lengths c =
    let a = c.args in
    let m = message_of a.mark a.key.now a.previous.now a.index a.payload.now a.dependencies.now a.signature.now in
    let full = sym c.full_lengths.ensures ∙ c.if-not-full_lengths.true in
    refused_short m a.out.now full

pub returns-then-payload-gt-PAYLOAD_LIMIT : goal.returns-then-payload-gt-PAYLOAD_LIMIT
returns-then-payload-gt-PAYLOAD_LIMIT c =
    let a = c.args in
    let m = message_of a.mark a.key.now a.previous.now a.index a.payload.now a.dependencies.now a.signature.now in
    let full = sym c.full_lengths.ensures ∙ c.if-not-full_lengths.false in
    refused_payload m a.out.now full c.if-payload-gt-PAYLOAD_LIMIT.true

pub returns-then-dependencies-gt-COUNT_LIMIT : goal.returns-then-dependencies-gt-COUNT_LIMIT
returns-then-dependencies-gt-COUNT_LIMIT c =
    let a = c.args in
    let m = message_of a.mark a.key.now a.previous.now a.index a.payload.now a.dependencies.now a.signature.now in
    let full = sym c.full_lengths.ensures ∙ c.if-not-full_lengths.false in
    refused_count m a.out.now full c.if-payload-gt-PAYLOAD_LIMIT.false c.if-dependencies-gt-COUNT_LIMIT.true

pub returns-then-mark-gt1 : goal.returns-then-mark-gt1
returns-then-mark-gt1 c =
    let a = c.args in
    let m = message_of a.mark a.key.now a.previous.now a.index a.payload.now a.dependencies.now a.signature.now in
    let full = sym c.full_lengths.ensures ∙ c.if-not-full_lengths.false in
    refused_mark m a.out.now full c.if-payload-gt-PAYLOAD_LIMIT.false c.if-dependencies-gt-COUNT_LIMIT.false c.if-mark-gt1.true

pub returns-then-out-size : goal.returns-then-out-size
returns-then-out-size c =
    let a = c.args in
    let m = message_of a.mark a.key.now a.previous.now a.index a.payload.now a.dependencies.now a.signature.now in
    let full = sym c.full_lengths.ensures ∙ c.if-not-full_lengths.false in
    refused_room m a.out.now full c.if-payload-gt-PAYLOAD_LIMIT.false c.if-dependencies-gt-COUNT_LIMIT.false c.if-mark-gt1.false c.if-out-size.true

pub put_item-requires : goal.put_item-requires
put_item-requires c =
    let a = c.args in
    let m = message_of a.mark a.key.now a.previous.now a.index a.payload.now a.dependencies.now a.signature.now in
    let full = sym c.full_lengths.ensures ∙ c.if-not-full_lengths.false in
    may_lay m a.out.now full c.if-payload-gt-PAYLOAD_LIMIT.false c.if-dependencies-gt-COUNT_LIMIT.false c.if-mark-gt1.false c.if-out-size.false

pub returns : goal.returns
returns c =
    let a = c.args in
    let m = message_of a.mark a.key.now a.previous.now a.index a.payload.now a.dependencies.now a.signature.now in
    let full = sym c.full_lengths.ensures ∙ c.if-not-full_lengths.false in
    written_done m a.out.now full c.if-payload-gt-PAYLOAD_LIMIT.false c.if-dependencies-gt-COUNT_LIMIT.false c.if-mark-gt1.false _ _ refl
    c.if-out-size.false c.put_item.ensures
