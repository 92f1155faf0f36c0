-- Lists placed in a table: at its front, behind what stands there, and one after another.
use Rattle.std.proofs.Common.{◌≡◌, ℕ, zero, suc, ◌+◌, ◌-◌, ◌<◌, ◌≤◌, Bool, true, false, cond, leb, List, [], ◌∷◌, ◌++◌, length, take, drop, Some, None, Ok, Err, Option, sym, refl, ap, ◌∙◌, append_assoc, add-zero, zero-add, arith, length-append, take-append-drop, length-take, set, rules}
use Rattle.std.proofs.Math.Seq.{take-append_seam, drop-append_seam}
use Rattle.std.proofs.lemmas.List.{length-take-le, length-drop, take_all, drop_all, append-nil}
use Rattle.std.proofs.lemmas.Bool.{le-leb, lt-leb, leb-true, leb-false, cond-true, cond-false}
use borrow.Rule.Slice.PartMut.{put_mid, same_len_mid}
use Rattle.std.specs.Option.{ok_or}
use Rattle.tables.specs.Tables.{Written, placed, overlay, capacity, filled}

-- a list placed behind the n entries in front
abbrev pub placed_behind : {A : Type 0} → ℕ → List A → List A → Written A
placed_behind n l table = record { count = cond (leb (n + length l) (length table)) (Some (n + length l)) None; table = take n table ++ overlay l (drop n table) }

module _ {A : Type 0} where
  pub both : {r s : Option ℕ} {t u : List A} → r ≡ s → t ≡ u → ◌≡◌ {A = Written A} (record { count = r; table = t }) (record { count = s; table = u })
  both {r} {s} {t} {u} p q = ap (λ x. record { count = x; table = t }) p ∙ ap (λ x. record { count = s; table = x }) q

  pub overlay_length : (l table : List A) → length (overlay l table) ≡ length table
  unfolding overlay
  overlay_length [] table = refl
  overlay_length (x ∷ l) [] = refl
  overlay_length (x ∷ l) (y ∷ table) = ap suc (overlay_length l table)

  -- a list that fits is all there, and the rest of the table behind it
  pub overlay_fits : (l m table : List A) → length l ≤ length table → overlay (l ++ m) table ≡ l ++ overlay m (drop (length l) table)
  unfolding overlay
  overlay_fits [] m table h = refl
  overlay_fits (x ∷ l) m [] h = absurd (omega arith)
  overlay_fits (x ∷ l) m (y ∷ table) h = ap (λ t. x ∷ t) (overlay_fits l m table (omega arith))

  pub overlay_whole : (l table : List A) → length l ≤ length table → overlay l table ≡ l ++ drop (length l) table
  unfolding overlay
  overlay_whole [] table h = refl
  overlay_whole (x ∷ l) [] h = absurd (omega arith)
  overlay_whole (x ∷ l) (y ∷ table) h = ap (λ t. x ∷ t) (overlay_whole l table (omega arith))

  -- behind a list that doesn't fit nothing more is seen
  pub overlay_full : (l m table : List A) → length table ≤ length l → overlay (l ++ m) table ≡ overlay l table
  unfolding overlay
  overlay_full [] m [] h = overlay_none m
    where
      overlay_none : (m : List A) → overlay m [] ≡ []
      overlay_none [] = refl
      overlay_none (x ∷ m) = refl
  overlay_full [] m (y ∷ table) h = absurd (omega arith)
  overlay_full (x ∷ l) m [] h = refl
  overlay_full (x ∷ l) m (y ∷ table) h = ap (λ t. x ∷ t) (overlay_full l m table (omega arith))

  -- a list laid over a part of a table
  pub overlay_part : (n : ℕ) (l table : List A) → overlay l (take n table) ++ drop n table ≡ overlay (take n l) table
  unfolding overlay
  overlay_part zero [] table = refl
  overlay_part zero (x ∷ l) table = refl
  overlay_part (suc n) [] table = take-append-drop (suc n) table
  overlay_part (suc n) (x ∷ l) [] = refl
  overlay_part (suc n) (x ∷ l) (y ∷ table) = ap (λ t. x ∷ t) (overlay_part n l table)

  -- the front of a table that a list was laid over
  pub take_overlay : (l table : List A) → length l ≤ length table → take (length l) (overlay l table) ≡ l
  unfolding overlay
  take_overlay [] table h = refl
  take_overlay (x ∷ l) [] h = absurd (omega arith)
  take_overlay (x ∷ l) (y ∷ table) h = ap (λ t. x ∷ t) (take_overlay l table (omega arith))

  pub placed_none : (table : List A) → placed [] table ≡ record { count = Some 0; table = table }
  unfolding overlay
  placed_none table = both (cond-true _ _ _ (le-leb 0 (length table) (omega arith))) refl

  pub placed_one : (x : A) (table : List A) → 0 < length table → placed (x ∷ []) table ≡ record { count = Some 1; table = set table 0 x }
  unfolding overlay
  placed_one x [] h = absurd (omega arith)
  placed_one x (y ∷ table) h = both (cond-true _ _ _ (le-leb 1 (suc (length table)) (omega arith))) refl

  pub placed_one_full : (x : A) (table : List A) → length table ≤ 0 → placed (x ∷ []) table ≡ record { count = None; table = table }
  unfolding overlay
  placed_one_full x [] h = refl
  placed_one_full x (y ∷ table) h = absurd (omega arith)

  pub behind_zero : (l table : List A) → placed_behind 0 l table ≡ placed l table
  behind_zero l table = ap (λ n. record { count = cond (leb n (length table)) (Some n) None; table = overlay l table }) (zero-add (length l))

  pub behind_none : (n : ℕ) (table : List A) → n ≤ length table → placed_behind n [] table ≡ record { count = Some n; table = table }
  unfolding overlay
  behind_none n table h =
      ap (λ k. record { count = cond (leb k (length table)) (Some k) None; table = take n table ++ drop n table }) (add-zero n)
      ∙ ap (λ b. record { count = cond b (Some n) None; table = take n table ++ drop n table }) (le-leb n (length table) h)
      ∙ ap (λ t. record { count = Some n; table = t }) (take-append-drop n table)

  -- how many entries a write that went on wrote, and that it fits
  pub placed_count : (l table after : List A) (r : Option ℕ) (k : ℕ) → ◌≡◌ {A = Written A} (record { count = r; table = after }) (placed l table) → r ≡ Some k → (k ≡ length l) × (length l ≤ length table)
  placed_count l table after r k e is = go (leb (length l) (length table)) refl (sym is ∙ ap (λ w. w.count) e)
    where
      go : (b : Bool) → leb (length l) (length table) ≡ b → Some k ≡ cond b (Some (length l)) None → (k ≡ length l) × (length l ≤ length table)
      go true fits is = (search rules, leb-true _ _ fits)
      go false full is = absurd (search rules)

  pub placed_full : (l table after : List A) (r : Option ℕ) → ◌≡◌ {A = Written A} (record { count = r; table = after }) (placed l table) → r ≡ None → length table < length l
  placed_full l table after r e is = go (leb (length l) (length table)) refl (sym is ∙ ap (λ w. w.count) e)
    where
      go : (b : Bool) → leb (length l) (length table) ≡ b → None ≡ cond b (Some (length l)) None → length table < length l
      go true fits is = absurd (search rules)
      go false full is = leb-false _ _ full

  -- behind entries in front
  pub behind_front : (front rest m : List A) → placed_behind (length front) m (front ++ rest) ≡ record { count = cond (leb (length front + length m) (length (front ++ rest))) (Some (length front + length m)) None; table = front ++ overlay m rest }
  behind_front front rest m = both refl (ap (λ t. t ++ overlay m (drop (length front) (front ++ rest))) (take-append_seam front rest) ∙ ap (λ t. front ++ overlay m t) (drop-append_seam front rest))

  -- a list placed behind n entries, which went on or stopped, and the list that it began
  went_on' : (n k : ℕ) (l m table after : List A) (r : Option ℕ) → n ≤ length table → ◌≡◌ {A = Written A} (record { count = r; table = after }) (placed l (drop n table)) → r ≡ Some k → (n + k ≤ length table) × (placed_behind (n + k) m (take n table ++ after) ≡ placed_behind n (l ++ m) table)
  went_on' n k l m table after r within e is =
      let front = take n table in
      let back = drop n table in
      let rest = drop (length l) back in
      let p = placed_count l back after r k e is in
      let lengths : length (front ++ l) ≡ n + k = length-append front l ∙ omega (arith, length-take-le n table within, p.0) in
      let there : front ++ after ≡ (front ++ l) ++ rest = ap (λ t. front ++ t) (ap (λ w. w.table) e ∙ overlay_whole l back p.1) ∙ sym (append_assoc front l rest) in
      let counted : length (front ++ l) + length m ≡ n + length (l ++ m) = omega (arith, lengths, length-append l m, p.0) in
      let long : length ((front ++ l) ++ rest) ≡ length table = ap length (append_assoc front l rest ∙ ap (λ t. front ++ t) (sym (overlay_whole l back p.1))) ∙ length-append front (overlay l back) ∙ omega (arith, overlay_length l back, length-append front back, ap length (take-append-drop n table)) in (
        omega (arith, length-drop n table, p.0, p.1, within),
        ap (λ t. placed_behind (n + k) m t) there
            ∙ ap (λ i. placed_behind i m ((front ++ l) ++ rest)) (sym lengths)
            ∙ behind_front (front ++ l) rest m
            ∙ both
            (ap (λ i. cond (leb i (length ((front ++ l) ++ rest))) (Some i) None) counted ∙ ap (λ i. cond (leb (n + length (l ++ m)) i) (Some (n + length (l ++ m))) None) long)
            (append_assoc front l (overlay m rest) ∙ ap (λ t. front ++ t) (sym (overlay_fits l m back p.1))),
      )

  stopped' : (n : ℕ) (l m table after : List A) (r : Option ℕ) → n ≤ length table → ◌≡◌ {A = Written A} (record { count = r; table = after }) (placed l (drop n table)) → r ≡ None → ◌≡◌ {A = Written A} (record { count = None; table = take n table ++ after }) (placed_behind n (l ++ m) table)
  stopped' n l m table after r within e is =
      let long = placed_full l (drop n table) after r e is in
      let over : length table < n + length (l ++ m) = omega (arith, long, length-drop n table, length-append l m, within) in
      both (sym (cond-false _ _ _ (lt-leb (n + length (l ++ m)) (length table) over))) (ap (λ t. take n table ++ t) (ap (λ w. w.table) e ∙ sym (overlay_full l m (drop n table) (omega (arith, long)))))

  -- the same of a write to the rest of a table, from its entry n on
  pub rest_is : (n : ℕ) (table : List A) → take (length table - n) (drop n table) ≡ drop n table
  rest_is n table = take_all (length table - n) (drop n table) (omega (arith, length-drop n table))

  pub rest_length : (n : ℕ) (table : List A) → length (take (length table - n) (drop n table)) ≡ length table - n
  rest_length n table = ap length (rest_is n table) ∙ length-drop n table

  pub put_rest : (n : ℕ) (table after : List A) → put_mid n (length table - n) table after ≡ take n table ++ after
  put_rest n table after = ap (λ t. take n table ++ (after ++ t)) (drop_all (length table - n) (drop n table) (omega (arith, length-drop n table))) ∙ ap (λ t. take n table ++ t) (append-nil after)

  pub went_on : (n k : ℕ) (l m table after : List A) (r : Option ℕ) → n ≤ length table → ◌≡◌ {A = Written A} (record { count = r; table = after }) (placed l (take (length table - n) (drop n table))) → r ≡ Some k → (n + k ≤ length table) × (length (put_mid n (length table - n) table after) ≡ length table) × (placed_behind (n + k) m (put_mid n (length table - n) table after) ≡ placed_behind n (l ++ m) table)
  went_on n k l m table after r within e is =
      let on = went_on' n k l m table after r within (e ∙ ap (placed l) (rest_is n table)) is in (
        on.0,
        same_len_mid n (length table - n) table after (ap (λ w. length w.table) e ∙ overlay_length l _),
        ap (λ t. placed_behind (n + k) m t) (put_rest n table after) ∙ on.1,
      )

  pub stopped : (n : ℕ) (l m table after : List A) (r : Option ℕ) → n ≤ length table → ◌≡◌ {A = Written A} (record { count = r; table = after }) (placed l (take (length table - n) (drop n table))) → r ≡ None → ◌≡◌ {A = Written A} (record { count = None; table = put_mid n (length table - n) table after }) (placed_behind n (l ++ m) table)
  stopped n l m table after r within e is = both refl (put_rest n table after) ∙ stopped' n l m table after r within (e ∙ ap (placed l) (rest_is n table)) is

  -- the front of a table, as far as its capacity goes
  pub placed_filled : (n : ℕ) (l table after : List A) (r : Option ℕ) → n ≡ capacity table → ◌≡◌ {A = Written A} (record { count = r; table = after }) (placed l (take n table)) → ◌≡◌ {A = Written A} (record { count = r; table = after ++ drop n table }) (filled l table)
  placed_filled n l table after r cap e =
      let full : length (take n table) ≡ capacity table = length-take n table ∙ omega (arith, cap) in
      ap (λ v. record { count = v.count; table = v.table ++ drop n table }) e
      ∙ ap (λ t. record { count = cond (leb (length l) (length (take n table))) (Some (length l)) None; table = t }) (overlay_part n l table)
      ∙ ap (λ k. record { count = cond (leb (length l) k) (Some (length l)) None; table = overlay (take n l) table }) full
      ∙ ap (λ k. record { count = cond (leb (length l) (capacity table)) (Some (length l)) None; table = overlay (take k l) table }) cap

-- what a filled table answers to a caller that refuses with e
pub filled_answer : {A E : Type 0} (l table after : List A) (count : Option ℕ) (e : E) → ◌≡◌ {A = Written A} (record { count = count; table = after }) (filled l table) → (ok_or count e ≡ cond (leb (length l) (capacity table)) (Ok (length l)) (Err e)) × (after ≡ overlay (take (capacity table) l) table)
filled_answer l table after count e is = (ap (λ w. ok_or w.count e) is ∙ go (leb (length l) (capacity table)), ap (λ w. w.table) is)
  where
    go : (b : Bool) → ok_or (cond b (Some (length l)) None) e ≡ cond b (Ok (length l)) (Err e)
    go true = refl
    go false = refl
