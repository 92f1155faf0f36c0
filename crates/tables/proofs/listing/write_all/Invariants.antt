use Rattle.std.proofs.Common.{◌≡◌, ◌-◌, ◌≤◌, length}
use Rattle.tables.specs.Tables.{listed}
use Rattle.tables.proofs.Placing.{placed_behind}
use Rattle.tables.proofs.listing.write_all.Given as goal

-- what is left to write, behind what is written, is the whole list
abbrev pub invariant-loop-plane : goal.invariant-loop-plane
invariant-loop-plane g l =
    let m = g.L.Listing in
    (l.used ≤ length l.table) × (m.ready l.listing → (l.plane ≤ l.planes) × (placed_behind l.used (listed (m.part l.listing) (l.planes - l.plane) l.plane) l.table ≡ placed_behind 0 (listed (m.part l.listing) l.planes 0) l.initial.table))

abbrev pub decreases-loop-plane : goal.decreases-loop-plane
decreases-loop-plane g l = l.planes - l.plane
