-- `answers::number` meets its contract: in each arm of the match the refusal is the arm's own, and the definition at it computes.
-- Assumes nothing.
use Rattle.answers.proofs.number.Goals as goal

pub returns-in-Store : goal.returns-in-Store
returns-in-Store c = simp c.in-Store.is

pub returns-in-Short : goal.returns-in-Short
returns-in-Short c = simp c.in-Short.is

pub returns-in-Size : goal.returns-in-Size
returns-in-Size c = simp c.in-Size.is

pub returns-in-Long : goal.returns-in-Long
returns-in-Long c = simp c.in-Long.is

pub returns-in-Kind : goal.returns-in-Kind
returns-in-Kind c = simp c.in-Kind.is

pub returns-in-Flag : goal.returns-in-Flag
returns-in-Flag c = simp c.in-Flag.is

pub returns-in-Sign : goal.returns-in-Sign
returns-in-Sign c = simp c.in-Sign.is

pub returns-in-Index : goal.returns-in-Index
returns-in-Index c = simp c.in-Index.is

pub returns-in-Prev : goal.returns-in-Prev
returns-in-Prev c = simp c.in-Prev.is

pub returns-in-Owner : goal.returns-in-Owner
returns-in-Owner c = simp c.in-Owner.is

pub returns-in-Step : goal.returns-in-Step
returns-in-Step c = simp c.in-Step.is

pub returns-in-Dep : goal.returns-in-Dep
returns-in-Dep c = simp c.in-Dep.is

pub returns-in-DepOwner : goal.returns-in-DepOwner
returns-in-DepOwner c = simp c.in-DepOwner.is

pub returns-in-Full : goal.returns-in-Full
returns-in-Full c = simp c.in-Full.is

pub returns-in-State : goal.returns-in-State
returns-in-State c = simp c.in-State.is

pub returns-in-Pair : goal.returns-in-Pair
returns-in-Pair c = simp c.in-Pair.is

pub returns-in-Row : goal.returns-in-Row
returns-in-Row c = simp c.in-Row.is

pub returns-in-Frontier : goal.returns-in-Frontier
returns-in-Frontier c = simp c.in-Frontier.is

pub returns-in-Room : goal.returns-in-Room
returns-in-Room c = simp c.in-Room.is

pub returns-in-Unknown : goal.returns-in-Unknown
returns-in-Unknown c = simp c.in-Unknown.is

pub returns-in-Backstep : goal.returns-in-Backstep
returns-in-Backstep c = simp c.in-Backstep.is

pub returns-in-Whole : goal.returns-in-Whole
returns-in-Whole c = simp c.in-Whole.is

pub returns-in-Payload : goal.returns-in-Payload
returns-in-Payload c = simp c.in-Payload.is

pub returns-in-Ownerless : goal.returns-in-Ownerless
returns-in-Ownerless c = simp c.in-Ownerless.is

pub returns-in-Component : goal.returns-in-Component
returns-in-Component c = simp c.in-Component.is
