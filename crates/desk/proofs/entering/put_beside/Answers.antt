-- `desk::entering::put_beside` meets its contract: a new row has its place in all three, and any other answer leaves them.
-- Assumes nothing.
use Prim.Native.Nat.{◌≤◌}
use mathlib.Core.Path.{◌≡◌, ap}
use mathlib.Core.Bool.{true}
use native.Mathlib.Omega.{arith}
use lib.ListN.{length}
use Rattle.item.specs.Layout.{payload_of}
use Rattle.desk.specs.Payload.{is_release}
use Rattle.desk.specs.Desk.{desk_of, places_in}
use Rattle.desk.proofs.Steps.{release_length, placed_row, put_done, put_held, put_refused}
use Rattle.desk.proofs.entering.put_beside.Goals as goal
use Rattle.desk.proofs.entering.put_beside.Goals.{After-wide-at}

-- The new row has a place, and the payload is a release's.
placed : (c : After-wide-at) → let a = c.args in let row = c.in-Done.row in (1 ≤ row) × ((row ≤ places_in (desk_of a.origins.now a.components.now a.expanded.now)) × (is_release (payload_of a.item.now) ≡ true))
placed c =
    let a = c.args in
    placed_row (places_in (desk_of a.origins.now a.components.now a.expanded.now)) a.item.now a.answer c.in-Done.row
    c.in-Done.is c.requires

pub overflow_sub-at : goal.overflow_sub-at
overflow_sub-at c = let p = placed c in omega (arith, c.wide-at.ensures, p.0)

pub bounds-origins-at : goal.bounds-origins-at
bounds-origins-at c = let p = placed ((goal.at.bounds-origins-at c).After-wide-at) in omega (arith, c.wide-at.ensures, p.0, p.1.0)

pub component_in-requires : goal.component_in-requires
component_in-requires c =
    let p = placed ((goal.at.component_in-requires c).After-wide-at) in
    omega (arith, ap length c.payload_of-payload.ensures, release_length (payload_of c.args.item.now) p.1.1)

pub bounds-components-at : goal.bounds-components-at
bounds-components-at c = let p = placed ((goal.at.bounds-components-at c).After-wide-at) in omega (arith, c.wide-at.ensures, p.0, p.1.0)

pub bounds-payload-2 : goal.bounds-payload-2
bounds-payload-2 c =
    let p = placed (((goal.at.bounds-payload-2 c).After-wide-at)) in
    omega (arith, ap length c.payload_of-payload.ensures, release_length (payload_of c.args.item.now) p.1.1)

pub bounds-expanded-at : goal.bounds-expanded-at
bounds-expanded-at c = let p = placed ((goal.at.bounds-expanded-at c).After-wide-at) in omega (arith, c.wide-at.ensures, p.0, p.1.0)

pub returns-in-Done : goal.returns-in-Done
returns-in-Done c =
    let a = c.args in
    put_done a.origins.now a.components.now a.expanded.now a.origin a.item.now a.answer c.in-Done.row _ _ _
    c.in-Done.is c.wide-at.ensures c.payload_of-payload.ensures c.component_in.ensures

pub returns-in-Held : goal.returns-in-Held
returns-in-Held c =
    let a = c.args in
    put_held (desk_of a.origins.now a.components.now a.expanded.now) a.origin a.item.now a.answer c.in-Held.field-0
    c.in-Held.is

pub returns-in-Refused : goal.returns-in-Refused
returns-in-Refused c =
    let a = c.args in
    put_refused (desk_of a.origins.now a.components.now a.expanded.now) a.origin a.item.now a.answer c.in-Refused.field-0
    c.in-Refused.is
