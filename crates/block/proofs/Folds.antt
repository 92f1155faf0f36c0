-- Loops over a list: parities and least planes, by what is left of the list.
use Rattle.std.proofs.Common.{◌≡◌, ℕ, ◌+◌, ◌%◌, ◌<◌, ◌≤◌, min, Bool, true, false, cond, ltb, nat_eq, List, [], ◌∷◌, map, length, get_or, drop, sym, refl, ap, ◌∙◌, not, arith}
use Rattle.std.proofs.lemmas.List.{at_drop_more, at_drop_all}
use Rattle.std.proofs.lemmas.List.Sums.{sum_by-cons}
use Rattle.std.specs.Bool.{beq}
use Rattle.std.specs.List.{count_by, filter, fold}
use Rattle.geometry.specs.declared.axis.Axis.{Axis}
use Rattle.geometry.specs.declared.frame.Point.{Point}
use Rattle.body.specs.Solids.{differ}
use Rattle.body.specs.Corners.{parity}
use Rattle.body.proofs.Parity.{differ_assoc, differ_false}
use Rattle.block.specs.Skips.{along, next_plane}

-- the code's exclusive or
pub xor_differ : (a b : Bool) → not (beq a b) ≡ differ a b
xor_differ true true = refl
xor_differ true false = refl
xor_differ false true = refl
xor_differ false false = refl

module _ {A : Type 0} (Q : A → Bool) (l : List A) (i : ℕ) where
  pub parity_on : (d : A) (so_far next whole : Bool) → i < length l → differ so_far (parity Q (drop i l)) ≡ whole → next ≡ differ so_far (Q (get_or l i d)) → differ next (parity Q (drop (i + 1) l)) ≡ whole
  parity_on d so_far next whole below inv is =
      ap (λ b. differ b (parity Q (drop (i + 1) l))) is
      ∙ differ_assoc so_far (Q (get_or l i d)) (parity Q (drop (i + 1) l))
      ∙ ap (differ so_far) (sym (at_drop_more (parity Q) l i d below))
      ∙ inv

  pub parity_end : (so_far whole : Bool) → length l ≤ i → differ so_far (parity Q (drop i l)) ≡ whole → so_far ≡ whole
  parity_end so_far whole past inv = sym (differ_false so_far) ∙ ap (differ so_far) (sym (at_drop_all (parity Q) l i past)) ∙ inv

-- a parity is that of the number of entries that pass
odd_more : (b : Bool) (n : ℕ) → nat_eq ((cond b 1 0 + n) % 2) 1 ≡ differ b (nat_eq (n % 2) 1)
odd_more true n = grind arith
odd_more false n = grind arith

pub odd_parity : {A : Type 0} (Q : A → Bool) (l : List A) → nat_eq (count_by Q l % 2) 1 ≡ parity Q l
odd_parity Q [] = refl
odd_parity Q (p ∷ l) =
    ap (λ (n : ℕ). nat_eq (n % 2) 1) (sum_by-cons (λ x. cond (Q x) 1 0) p l) ∙ odd_more (Q p) (count_by Q l) ∙ ap (differ (Q p)) (odd_parity Q l)

-- the next plane is the least of those past p, and the side
pub next_fold : (a : Axis) (p : ℕ) (l : List Point) (side : ℕ) → fold min side (filter (λ n. ltb p n) (map (along a) l)) ≡ next_plane a p l side
next_fold a p [] side = refl
next_fold a p (q ∷ l) side = let e = next_fold a p l side in let f = next_fold a p l (min side (along a q)) in grind arith
