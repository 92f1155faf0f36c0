use Rattle.std.proofs.Common.{◌≡◌, ◌*◌, ◌<◌, ◌≤◌, refl, ap₂, rules, arith}
use Rattle.std.proofs.lemmas.Result.{IfOk-weaker}
use Rattle.std.proofs.lemmas.Iterator.{YieldsList-from_map, YieldsList-from_range, items_from_collect, serves_from_Range}
use Rattle.geometry.proofs.Bounds.{sides_bound}
use Rattle.geometry.specs.Frames.{sides}
use Rattle.geometry.specs.declared.axis.Axis.TheVariants.{X, Y, Z}
use Rattle.body.specs.Grids.{words_needed}
use Rattle.text.specs.Scans.{packed_word}
use Rattle.text.proofs.Packing.{packed_map, words_few}
use Rattle.text.proofs.scan.pack.Goals as goal

pub collect-requires-clause-can : goal.collect-requires-clause-can
collect-requires-clause-can c =
    let f = c.args.frame in
    let count : c.rows.result * c.row_words.result ≡ words_needed (sides f) = ap₂ ◌*◌ c.rows.ensures.value c.row_words.ensures.value in
    let few : words_needed (sides f) ≤ 16777216 = words_few (sides f) (sides_bound f X).1 (sides_bound f Y).1 (sides_bound f Z).1 in (
      tt,
      serves_from_Range (λ x q k. search rules) (λ x l h.
          let ends : c.map.result.iter.end ≡ c.rows.result * c.row_words.result = search rules in
          let place : x < 16777216 = omega (arith, count, few) in search rules),
    )

pub returns-clause-meaning : goal.returns-clause-meaning
returns-clause-meaning c =
    let s = sides c.args.frame in
    let count : c.rows.result * c.row_words.result ≡ words_needed s = ap₂ ◌*◌ c.rows.ensures.value c.row_words.ensures.value in
    let places = c.rows.result * c.row_words.result in
    let each = items_from_collect _ c.collect.ensures.ran (YieldsList-from_map _ (λ n. packed_word (s Z) c.args.cells.now n) (YieldsList-from_range 0 places places c.map.ensures.source (omega arith)) c.map.ensures.closure (λ x r q k. (search rules, search rules))) in
    IfOk-weaker c.collect.result _ _ (λ v is. packed_map s _ _ _ _ refl count is) each
