use Rattle.std.proofs.Common.{◌≡◌, ℕ, ◌+◌, ◌-◌, ◌*◌, ◌%◌, ◌^◌, ◌<◌, eqb, get_or, ap, ◌∙◌, arith}
use lib.Bits.{bit_or, bit_xor}
use Rattle.body.specs.Grids.{bit}
use Rattle.body.proofs.Bits.{top_is, top_small}
use Rattle.body.proofs.GridRows.{changes_at}
use Rattle.body.proofs.grid.Row.changes.Goals as goal
use Rattle.body.proofs.grid.Row.changes.Goals.{then-w-eq0, else-w-eq0}

pub returns : goal.returns
returns c b h pos =
    let words = c.args.self.words.now in
    let base = c.args.self.base in
    let w = c.args.w in
    let before = c.if-w-eq0.before in
    let carried : (before < 2) × (0 < w → (k : ℕ) → k ≡ 63 → eqb before 1 ≡ bit (get_or words (base + (w - 1)) 0) k) =
    elim c.if-w-eq0.branch [
      | then-w-eq0 v ↦ (omega arith, λ positive. absurd (omega arith))
      | else-w-eq0 v ↦ (
        omega (arith, top_small _ v.word.type_inv),
        λ _ k e.
            ap (λ (n : ℕ). eqb n 1) v.before-is ∙ top_is v.word.result k v.word.type_inv e
            ∙ ap (λ (n : ℕ). bit n k) (v.word.ensures ∙ ap (λ (n : ℕ). get_or words n 0) (omega arith)),
      )
    ]
    in
    ap (λ (r : ℕ). bit (bit_xor r (bit_or ((r * 2) % 2 ^ 64) before)) b) c.word-word.ensures ∙ changes_at words base w before b h pos carried.0 carried.1
