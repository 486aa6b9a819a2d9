-- `standing::receiving::entry_held` meets its contract: the key, the last id, then the evidence ids.
-- Assumes nothing.
use native.Mathlib.Omega.{arith}
use Rattle.basics.proofs.Decisions.{decided_no}
use Rattle.standing.proofs.Held.{place_missing, place_there}
use Rattle.standing.proofs.receiving.entry_held.Goals as goal

pub returns-in_default : goal.returns-in_default
returns-in_default c =
    let a = c.args in
    let z = place_missing a.store.now.keys.now _ _ a.store.now.counts.authors _ c.find_key-found.ensures c.chunk_in.ensures
    c.in_default.is in
    decided_no (λ h. let k = h.0 in omega (arith, z, k))

pub returns-then-not-last_held : goal.returns-then-not-last_held
returns-then-not-last_held c = decided_no (λ h. c.last_held.ensures.no c.if-not-last_held.true h.1.0)

pub returns : goal.returns
returns c =
    let a = c.args in
    let k = place_there a.store.now.keys.now _ _ a.store.now.counts.authors _ c.find_key-found.ensures
    c.chunk_in.ensures _ c.in-Some.is in
    let l = c.last_held.ensures.yes c.if-not-last_held.false in
    record { yes = λ e. (k, (l, c.evidence_held.ensures.yes e)); no = λ e h. c.evidence_held.ensures.no e h.1.1 }
