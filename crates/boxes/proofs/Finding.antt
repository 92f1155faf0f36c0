-- A search finds a record exactly when some record passes.
use Rattle.std.proofs.Common.{◌≡◌, ℕ, ◌+◌, Bool, true, false, cond, not, eqb, List, [], ◌∷◌, is_some, Some, count_by, sym, refl, ap, ◌∙◌, zero-add, arith}
use Rattle.std.proofs.lemmas.List.Sums.{sum_by-cons}
use Rattle.std.proofs.lemmas.Bool.{ne_eqb}
use Rattle.geometry.specs.declared.axis.AxisOrder.{AxisOrder}
use Rattle.body.specs.Solids.{Solid}
use Rattle.boxes.specs.Measures.{found, holding, least_from}
use Rattle.boxes.specs.Laws.{Finds, SameSolid}
use Rattle.boxes.specs.Records.{cut_list}
use Rattle.boxes.specs.declared.record.BoxRecord.{BoxRecord}

least_some : (q : BoxRecord → Bool) (n : ℕ) (l : List BoxRecord) → is_some (least_from q n l) ≡ not (eqb (count_by q l) 0)
least_some q n [] = refl
least_some q n (r ∷ l) = go (q r) (least_some q (n + 1) l) ∙ ap (λ k. not (eqb k 0)) (sym (sum_by-cons (λ x. cond (q x) 1 0) r l))
  where
    go : (b : Bool) → is_some (least_from q (n + 1) l) ≡ not (eqb (count_by q l) 0) → is_some (cond b (Some n) (least_from q (n + 1) l)) ≡ not (eqb (cond b 1 0 + count_by q l) 0)
    go true rest = sym (ap not (ne_eqb (1 + count_by q l) 0 (λ e. omega arith)))
    go false rest = rest ∙ ap (λ k. not (eqb k 0)) (sym (zero-add (count_by q l)))

pub cut_finds : (m : Solid) (o : AxisOrder) → SameSolid m o → Finds m o
unfolding found
cut_finds m o same x = least_some (holding x) 1 (cut_list m o) ∙ ap (λ s. s.holds x.x x.y x.z) same
