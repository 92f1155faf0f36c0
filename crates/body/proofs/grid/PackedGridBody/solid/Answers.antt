use Rattle.std.proofs.Common.{◌≡◌, ℕ, ◌+◌, ◌*◌, ◌/◌, ◌%◌, get_or, sym, ap, ◌∙◌, ap₂, arith}
use Rattle.std.proofs.lemmas.Nat.{mul-le}
use Rattle.geometry.specs.Frames.{sides}
use Rattle.geometry.specs.declared.axis.Axis.TheVariants.{Y, Z}
use Rattle.body.specs.Grids.{bit, row_words, word_index}
use Rattle.body.proofs.Bits.{bit_test}
use Rattle.body.proofs.GridMeaning.{packed_outside, packed_within}
use Rattle.body.proofs.grid.PackedGridBody.solid.Goals as goal

pub returns-then-not-holds : goal.returns-then-not-holds
returns-then-not-holds c = sym (packed_outside _ _ _ _ _ (sym c.if-not-holds.ensures))

pub row-requires : goal.row-requires
row-requires c =
    let place = mul-le c.from.result c.from-2.result 65535 1024 (omega (arith, c.from.ensures)) (omega (arith, c.from-2.ensures, c.side.ensures)) in
    omega (arith, place, c.from-3.ensures)

pub returns : goal.returns
returns c =
    let x = c.args.cell.x in
    let y = c.args.cell.y in
    let z = c.args.cell.z in
    let words = c.args.self.now.words.now in
    let s = sides c.args.self.now.frame in
    let row : c.from.result * c.from-2.result + c.from-3.result ≡ x * s Y + y = ap₂ ◌+◌ (ap₂ ◌*◌ c.from.ensures (c.from-2.ensures ∙ c.side.ensures)) c.from-3.ensures in
    let place : c.row.result.base + z / 64 ≡ word_index s x y z = ap (λ n. n + z / 64) (c.row.ensures.1 ∙ ap (λ n. n * row_words (s Z)) row) in
    let word : c.word-word.result ≡ get_or words (word_index s x y z) 0 = c.word-word.ensures ∙ ap₂ (λ l n. get_or l n 0) c.row.ensures.0 place in
    bit_test c.word-word.result (z % 64) ∙ ap (λ (w : ℕ). bit w (z % 64)) word ∙ sym (packed_within _ _ x y z (sym c.if-not-holds.ensures))
