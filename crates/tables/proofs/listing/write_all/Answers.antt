use Rattle.std.proofs.Common.{◌≡◌, suc, ◌+◌, ◌-◌, ◌<◌, ◌≤◌, sym, refl, ap, ◌∙◌, arith}
use borrow.Rule.Slice.PartMut.{put_mid, same_len_mid}
use Rattle.std.specs.Prelude.{length}
use Rattle.tables.specs.Tables.{listed, placed}
use Rattle.tables.proofs.Listed.{listed_none, listed_jump}
use Rattle.tables.proofs.Placing.{both, placed_behind, behind_none, behind_zero, rest_length, stopped, went_on}
use Rattle.tables.proofs.listing.write_all.Goals as goal

pub returns-in_err-write_plane : goal.returns-in_err-write_plane
returns-in_err-write_plane g c ready =
    let f = g.L.Listing.part c.args.listing.now in
    let n = c.planes-planes.result in
    let i = c.loop-plane.plane in
    let inv = c.loop-plane.invariant in
    let parts = listed_jump f n i (suc i) (omega arith) (omega arith) (λ m a b. absurd (omega arith)) in
    both c.from_residual.ensures refl
    ∙ stopped c.loop-plane.used (f i) (listed f (n - suc i) (suc i)) c.loop-plane.table _ _ inv.0 (c.write_plane.ensures ready) c.in_err-write_plane.was
    ∙ ap (λ l. placed_behind c.loop-plane.used l c.loop-plane.table) (sym parts)
    ∙ (inv.1 ready).1
    ∙ behind_zero _ _
    ∙ ap (λ k. placed (listed f k 0) c.args.table.now) c.planes-planes.ensures

pub loop-plane-preserved : goal.loop-plane-preserved
loop-plane-preserved g c =
    let f = g.L.Listing.part c.args.listing.now in
    let n = c.planes-planes.result in
    let used = c.loop-plane.used in
    let table = c.loop-plane.table in
    let i = c.loop-plane.plane in
    let j = c.after.result in
    let inv = c.loop-plane.invariant in
    let after = put_mid used (length table - used) table c.write_plane.new.table in
    let room = rest_length used table in
    let long : length after ≡ length table = same_len_mid used (length table - used) table c.write_plane.new.table c.write_plane.auto.table in (
      omega (arith, c.min.ensures, room, long, inv.0),
      λ ready.
          let below : i < g.L.Listing.parts c.args.listing.now = omega (arith, c.planes-planes.ensures) in
          let within = c.after.ensures.bounds ready below in
          let same : c.max-plane.result ≡ j = omega (arith, c.max-plane.ensures, within.0) in
          let j≤n : j ≤ n = omega (arith, within.1, c.planes-planes.ensures) in
          let on = went_on used _ (f i) (listed f (n - j) j) table _ _ inv.0 (c.write_plane.ensures ready) c.in_ok-write_plane.was in
          let all : c.min.result ≡ c.in_ok-write_plane.field-0 = omega (arith, c.min.ensures, room, on.0, inv.0) in
          let parts = listed_jump f n i j within.0 j≤n (c.after.ensures.between ready) in
          (omega (arith, same, j≤n), ap (λ k. placed_behind (used + c.min.result) (listed f (n - k) k) after) same ∙ ap (λ k. placed_behind (used + k) (listed f (n - j) j) after) all ∙ on.2 ∙ ap (λ l. placed_behind used l table) (sym parts) ∙ (inv.1 ready).1),
    )

pub returns : goal.returns
returns g c ready =
    let f = g.L.Listing.part c.args.listing.now in
    let i = c.loop-plane.plane in
    let inv = c.loop-plane.invariant in
    let rest = inv.1 ready in
    sym (behind_none _ _ inv.0) ∙ ap (λ l. placed_behind c.loop-plane.used l c.loop-plane.table) (sym (ap (λ k. listed f k i) (omega (arith, rest.0)) ∙ listed_none f i)) ∙ rest.1 ∙ behind_zero _ _ ∙ ap (λ k. placed (listed f k 0) c.args.table.now) c.planes-planes.ensures
