-- What a packed grid means: its sides, its cells and its changes by rows.
use Rattle.std.proofs.Common.{◌≡◌, ℕ, ◌+◌, ◌-◌, ◌*◌, ◌<◌, ◌≤◌, true, false, ◌&&◌, ◌⊎◌, List, sym, refl, ap, ◌∙◌, ap₂, inl, inr, arith}
use Rattle.std.proofs.lemmas.Bool.{lt-ltb, and_from, and_left}
use Rattle.geometry.specs.Frames.{in_frame}
use Rattle.geometry.specs.declared.axis.Axis.{Axis}
use Rattle.geometry.specs.declared.axis.Axis.TheVariants.{X, Y, Z}
use Rattle.body.specs.Solids.{Inside, differ}
use Rattle.body.specs.Grids.{packed, row_bit, row_words, row_changes, row_differs, rows_differ, first, grid_skip}
use Rattle.body.proofs.GridSearch.{first_same, some_same, some_grid}
use Rattle.body.proofs.GridSkips.{skip_past, skip_x, skip_y, skip_z}

module _ (s : Axis → ℕ) (words : List ℕ) where
  pub packed_side : (packed s words).side ≡ s
  unfolding packed
  packed_side = refl

  pub packed_holds : (i j k : ℕ) → (packed s words).holds i j k ≡ (in_frame s i j k && row_bit words ((i * s Y + j) * row_words (s Z)) k)
  unfolding packed
  packed_holds i j k = refl

  pub packed_outside : (i j k : ℕ) → in_frame s i j k ≡ false → (packed s words).holds i j k ≡ false
  packed_outside i j k h = packed_holds i j k ∙ and_left _ _ h

  pub packed_within : (i j k : ℕ) → in_frame s i j k ≡ true → (packed s words).holds i j k ≡ row_bit words ((i * s Y + j) * row_words (s Z)) k
  packed_within i j k h = packed_holds i j k ∙ ap (λ b. b && row_bit words ((i * s Y + j) * row_words (s Z)) k) h

  pub packed_inside : Inside (packed s words)
  packed_inside i j k h = packed_outside i j k (sym (ap (λ t. in_frame t i j k) packed_side) ∙ h)

  pub in_frame_from : (i j k : ℕ) → i < s X → j < s Y → k < s Z → in_frame s i j k ≡ true
  in_frame_from i j k a b c = and_from _ _ (lt-ltb i (s X) a) (and_from _ _ (lt-ltb j (s Y) b) (lt-ltb k (s Z) c))

  -- the changes of the solid are those of its rows
  pub changes_by_rows : (n : ℕ) → n < s Z → rows_differ words (row_words (s Z)) (s X * s Y) n ≡ row_changes (packed s words) n
  unfolding packed
  changes_by_rows n h =
      some_grid (λ row. row_differs words (row * row_words (s Z)) n) (s X) (s Y)
      ∙ some_same _ _ (s X) (λ i a. some_same _ _ (s Y) (λ j b.
      ap₂ differ (sym (packed_within i j n (in_frame_from i j n a b h))) (sym (packed_within i j (n - 1) (in_frame_from i j (n - 1) a b (omega arith))))))

  -- the skips, from past the side, along x and y, and along z
  pub packed_skip_past : (a : Axis) (p r : ℕ) → r ≡ s a → r ≤ p → r ≡ grid_skip (packed s words) a p
  unfolding packed
  packed_skip_past a p r is h = is ∙ sym (skip_past (packed s words) a p (omega arith))

  pub packed_skip_next : (a : Axis) (p side : ℕ) → (a ≡ X) ⊎ (a ≡ Y) → side ≡ s a → p < side → p + 1 ≡ grid_skip (packed s words) a p
  unfolding packed
  packed_skip_next a p side (inl e) is h = sym (skip_x (packed s words) p (omega (arith, is ∙ ap s e))) ∙ ap (λ b. grid_skip (packed s words) b p) (sym e)
  packed_skip_next a p side (inr e) is h = sym (skip_y (packed s words) p (omega (arith, is ∙ ap s e))) ∙ ap (λ b. grid_skip (packed s words) b p) (sym e)

  pub packed_skip_rows : (a : Axis) (p side width rows r : ℕ) → a ≡ Z → side ≡ s a → width ≡ row_words (s Z) → rows ≡ s X * s Y → p < side
      → r ≡ first (rows_differ words width rows) (side - (p + 1)) (p + 1) → r ≡ grid_skip (packed s words) a p
  unfolding packed
  packed_skip_rows a p side width rows r e is width_is rows_is h found =
      let below : p < s Z = omega (arith, is ∙ ap s e) in
      found
      ∙ ap (λ (n : ℕ). first (rows_differ words width rows) (n - (p + 1)) (p + 1)) (is ∙ ap s e)
      ∙ ap₂ (λ (w n : ℕ). first (rows_differ words w n) (s Z - (p + 1)) (p + 1)) width_is rows_is
      ∙ first_same _ (row_changes (packed s words)) (p + 1) (s Z) (omega arith) (λ n a b. changes_by_rows n b)
      ∙ sym (skip_z (packed s words) p below)
      ∙ ap (λ b. grid_skip (packed s words) b p) (sym e)
