use Rattle.std.proofs.Common.{◌≡◌, ◌∙◌, ◌+◌, ap, sym, refl, rules, drop, position, option_map}
use Rattle.std.proofs.lemmas.Iterator.{YieldsList-from_slice}
use Rattle.std.proofs.lemmas.Iterator.Adapters.{YieldsList-from_skip}
use Rattle.std.proofs.lemmas.Iterator.Search.{position_from_yields_List}
use Rattle.cut.proofs.Asking.{found_position}
use Rattle.cut.proofs.asks.first_above.Goals as goal

pub returns : goal.returns
returns g c = λ q computes.
    let chain = YieldsList-from_skip c.args.above (YieldsList-from_slice c.args.records.now (cc)) (cc) in
    let at : c.position.result ≡ position q (drop c.args.above c.args.records.now) =
    position_from_yields_List q _ _ c.position.result c.position.ensures.ran chain
    (λ x b k h. (g.met.F.Fn.1.step_stays _ _ _ _ h, computes x.now b (record { shown = x; shows = refl; says = record { met = (g.met.F.FnMut.1.post_iff _ _ _).1 (k, h) } }))) in
    let mapped : c.map.result ≡ option_map (λ i. c.args.above + i + 1) c.position.result = search rules in
    mapped ∙ ap (option_map (λ i. c.args.above + i + 1)) at ∙ sym (found_position q c.args.above c.args.records.now)
