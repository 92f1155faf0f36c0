-- Translations: their sections and their skips.
use Rattle.std.proofs.Common.{◌≡◌, ℕ, suc, ◌+◌, ◌-◌, ◌<◌, ◌≤◌, min, Bool, ◌&&◌, ◌⊎◌, ℤ, pos, negsuc, sym, ap, ◌∙◌, subst, ap₂, inl, inr, ⊎_elim, arith}
use mathlib.Core.Path.{fun_ext}
use Rattle.std.proofs.lemmas.Bool.{cases_lt, cond-true, cond-false, le-leb, lt-leb, le-ltb, lt-ltb}
use Rattle.geometry.specs.declared.axis.Axis.{Axis}
use Rattle.geometry.specs.declared.axis.Axis.TheVariants.{X, Y, Z}
use Rattle.body.specs.Solids.{Inside, Skips, Solid, section}
use Rattle.layers.specs.declared.moves.Source.{Source}
use Rattle.layers.specs.declared.moves.Source.TheVariants.{Here, Beneath}
use Rattle.layers.specs.Layers.{cell_less, less, moved_source, of_source, plane_more, source_of, translated, translated_skip}
use Rattle.layers.proofs.Framing.{Good, framed_skips, section_outside}

-- n and p less a step are both below 0, or are numbers that S relates
abbrev Alike : ℤ → (ℕ → ℕ → Type 0) → ℕ → ℕ → Type 0
Alike (pos d) S n p = ((n < d) × (p < d)) ⊎ ((d ≤ n) × (d ≤ p) × S (n - d) (p - d))
Alike (negsuc d) S n p = S (n + suc d) (p + suc d)

less_alike : (z : ℤ) (S : ℕ → ℕ → Type 0) (f : ℕ → Bool) → ((t w : ℕ) → S t w → f t ≡ f w) → (n p : ℕ) → Alike z S n p → less z f n ≡ less z f p
less_alike (pos d) S f same n p (inl e) = ap (λ b. b && f (n - d)) (lt-leb d n e.0) ∙ sym (ap (λ b. b && f (p - d)) (lt-leb d p e.1))
less_alike (pos d) S f same n p (inr e) = ap₂ ◌&&◌ (le-leb d n e.0 ∙ sym (le-leb d p e.1)) (same _ _ e.2)
less_alike (negsuc d) S f same n p e = same _ _ e

-- planes whose sections beneath are equal have equal sections above
abbrev Equal : Axis → (ℕ → ℕ → ℕ → Bool) → ℕ → ℕ → Type 0
Equal a h t w = (u v : ℕ) → section a h t u v ≡ section a h w u v

moved_section : (a : Axis) (d : Axis → ℤ) (h : ℕ → ℕ → ℕ → Bool) (n p : ℕ) → Alike (d a) (Equal a h) n p → Equal a (cell_less d h) n p
moved_section X d h n p e u v =
    less_alike (d X) (Equal X h) (λ x. less (d Y) (λ y. less (d Z) (h x y) v) u)
    (λ t w same. ap (λ (f : ℕ → ℕ → Bool). less (d Y) (λ y. less (d Z) (f y) v) u) (fun_ext (λ y. fun_ext (λ z. same y z))))
    n p e
moved_section Y d h n p e u v =
    ap (λ (f : ℕ → Bool). less (d X) f v)
    (fun_ext (λ x. less_alike (d Y) (Equal Y h) (λ y. less (d Z) (h x y) u) (λ t w same. ap (λ (f : ℕ → Bool). less (d Z) f u) (fun_ext (λ z. same z x))) n p e))
moved_section Z d h n p e u v =
    ap (λ (f : ℕ → Bool). less (d X) f u)
    (fun_ext (λ x. ap (λ (f : ℕ → Bool). less (d Y) f v) (fun_ext (λ y. less_alike (d Z) (Equal Z h) (h x y) (λ t w same. same x y) n p e))))

here_is : (q r : ℕ) → Here q ≡ Here r → q ≡ r
here_is q r e = cc

beneath_is : (q r : ℕ) → Beneath q ≡ Beneath r → q ≡ r
beneath_is q r e = cc

apart : (q r : ℕ) → Here q ≡ Beneath r → ⊥
apart q r e = let z : ◌≡◌ {A = ℕ} 0 1 = cc in omega arith

-- what a skip along an axis has to show, from plane p below the side
pub record Passes (z : ℤ) (S : ℕ → ℕ → Type 0) (side p q : ℕ) : Type 0 where
  pub later : p < q
  pub within : q ≤ side
  pub alike : (n : ℕ) → p ≤ n → n < q → Alike z S n p

here_passes : (z : ℤ) (S : ℕ → ℕ → Type 0) (side p q : ℕ) → ((t w : ℕ) → side ≤ t → side ≤ w → S t w) → p < side → Here q ≡ moved_source z side p → Passes z S side p q
here_passes (pos d) S side p q out h e =
    ⊎_elim
    (λ (l : p < d).
    let is = here_is q (min side d) (e ∙ cond-true _ _ _ (lt-ltb p d l)) in
    record { later = omega arith; within = omega arith; alike = λ n a b. inl (omega arith, l) })
    (λ (l : d ≤ p). absurd (apart _ _ (e ∙ cond-false _ _ _ (le-ltb p d l))))
    (cases_lt p d)
here_passes (negsuc d) S side p q out h e =
    ⊎_elim
    (λ (l : p + suc d < side). absurd (apart _ _ (e ∙ cond-true _ _ _ (lt-ltb (p + suc d) side l))))
    (λ (l : side ≤ p + suc d).
    let is = here_is q side (e ∙ cond-false _ _ _ (le-ltb (p + suc d) side l)) in
    record { later = omega arith; within = omega arith; alike = λ n a b. out _ _ (omega arith) l })
    (cases_lt (p + suc d) side)

beneath_passes : (z : ℤ) (S : ℕ → ℕ → Type 0) (side p b q : ℕ) → p < side → Beneath b ≡ moved_source z side p
    → (b < side → (b < q) × (q ≤ side)) → ((n : ℕ) → b ≤ n → n < q → S n b) → Passes z S side p (plane_more z side q)
beneath_passes (pos d) S side p b q h e inside same =
    ⊎_elim
    (λ (l : p < d). absurd (apart _ _ (sym (e ∙ cond-true _ _ _ (lt-ltb p d l)))))
    (λ (l : d ≤ p).
    let is = beneath_is b (p - d) (e ∙ cond-false _ _ _ (le-ltb p d l)) in
    let reach = inside (omega arith) in
    record { later = omega (arith, reach.0); within = omega arith; alike = λ n x y. inr (omega arith, l, subst (S (n - d)) is (same (n - d) (omega arith) (omega arith))) })
    (cases_lt p d)
beneath_passes (negsuc d) S side p b q h e inside same =
    ⊎_elim
    (λ (l : p + suc d < side).
    let is = beneath_is b (p + suc d) (e ∙ cond-true _ _ _ (lt-ltb (p + suc d) side l)) in
    let reach = inside (omega arith) in
    record { later = omega (arith, reach.0); within = omega arith; alike = λ n x y. subst (S (n + suc d)) is (same (n + suc d) (omega arith) (omega arith)) })
    (λ (l : side ≤ p + suc d). absurd (apart _ _ (sym (e ∙ cond-false _ _ _ (le-ltb (p + suc d) side l)))))
    (cases_lt (p + suc d) side)

module _ (m : Solid) (d : Axis → ℤ) (a : Axis) (p : ℕ) where
  passes_lawful : (q : ℕ) → (m.side a ≤ p → q ≡ m.side a) → (p < m.side a → Passes (d a) (Equal a m.holds) (m.side a) p q) → Skips (translated d m) a p q
  passes_lawful q past passes =
      framed_skips m.side (cell_less d m.holds) a p q (λ h. ((passes h).later, (passes h).within)) past
      (λ h n u v l r. moved_section a d m.holds n p ((passes h).alike n l r) u v)

  from_within : (s : Source) → p < m.side a → s ≡ source_of (d a) (m.side a) p → s ≡ moved_source (d a) (m.side a) p
  from_within s h e = e ∙ cond-true _ _ _ (lt-ltb p (m.side a) h)

  from_past : (s : Source) → m.side a ≤ p → s ≡ source_of (d a) (m.side a) p → s ≡ Here (m.side a)
  from_past s h e = e ∙ cond-false _ _ _ (le-ltb p (m.side a) h)

  here_lawful : (q : ℕ) → Inside m → Here q ≡ source_of (d a) (m.side a) p → Skips (translated d m) a p q
  here_lawful q inside e =
      passes_lawful q (λ h. here_is q (m.side a) (from_past (Here q) h e))
      (λ h. here_passes (d a) (Equal a m.holds) (m.side a) p q (λ t w x y u v. section_outside m inside a t u v x ∙ sym (section_outside m inside a w u v y)) h (from_within (Here q) h e))

  beneath_lawful : (b q : ℕ) → Beneath b ≡ source_of (d a) (m.side a) p → Skips m a b q → Skips (translated d m) a p (plane_more (d a) (m.side a) q)
  beneath_lawful b q e s =
      passes_lawful _ (λ h. absurd (apart _ _ (sym (from_past (Beneath b) h e))))
      (λ h. beneath_passes (d a) (Equal a m.holds) (m.side a) p b q h (from_within (Beneath b) h e) s.inside (λ n l r u v. s.equal n u v l r))

  -- the skip of a translation, whether it is known or comes from one beneath
  module _ (f : Axis → ℕ → ℕ) (side : ℕ) (same : side ≡ m.side a) where
    pub translated_here : (q : ℕ) → Inside m → Here q ≡ source_of (d a) side p → Good (translated d m) (λ b. translated_skip (d b) (m.side b) (f b)) a p q
    translated_here q inside e =
        let from = e ∙ ap (λ (n : ℕ). source_of (d a) n p) same in
        record { value = ap (of_source (d a) (m.side a) (f a)) from; lawful = here_lawful q inside from }

    pub translated_beneath : (b q r : ℕ) → Beneath b ≡ source_of (d a) side p → Good m f a b q → r ≡ plane_more (d a) side q
        → Good (translated d m) (λ b. translated_skip (d b) (m.side b) (f b)) a p r
    translated_beneath b q r e good more =
        let from = e ∙ ap (λ (n : ℕ). source_of (d a) n p) same in
        let is = more ∙ ap (λ (n : ℕ). plane_more (d a) n q) same in
        record {
          value = is ∙ ap (plane_more (d a) (m.side a)) good.value ∙ ap (of_source (d a) (m.side a) (f a)) from;
          lawful = subst (Skips (translated d m) a p) (sym is) (beneath_lawful b q from good.lawful);
        }
