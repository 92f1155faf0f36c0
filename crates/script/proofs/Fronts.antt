-- What a call answered that writes a list to the front of a table, and what stands there then.
use Rattle.std.proofs.Common.{◌≡◌, ℕ, ◌<◌, ◌≤◌, min, Bool, true, false, cond, leb, List, length, take, Ok, Err, Result, sym, refl, ap, ◌∙◌, arith, length-take, take_all}
use Rattle.std.proofs.lemmas.Bool.{leb-false, leb-true}
use Rattle.geometry.specs.declared.axis.AxisOrder.{AxisOrder}
use Rattle.geometry.specs.declared.frame.Point.{Point}
use Rattle.geometry.specs.declared.refusal.Refusal.{Refusal}
use Rattle.geometry.specs.declared.refusal.Refusal.TheVariants.{BoxesFull, CornersFull}
use Rattle.tables.specs.Tables.{capacity, overlay}
use Rattle.tables.proofs.Placing.{take_overlay}
use Rattle.body.specs.Solids.{Solid}
use Rattle.body.specs.Corners.{ListingOutcome, corner_list, corners_outcome}
use Rattle.boxes.specs.Records.{CutOutcome, cut_list, cut_outcome}
use Rattle.boxes.specs.declared.record.BoxRecord.{BoxRecord}
use Rattle.script.specs.Scripts.{Home, State, boxed, corners_reply, cut_held, cut_reply, cut_step, free, listed, overfull, refused, standing, told, with_boxes, world}
use Rattle.script.specs.declared.call.BlockCall.TheVariants.{Corners}
use Rattle.script.specs.declared.call.CallName.TheVariants as names

-- a list that was granted when it fits, and refused with `full` otherwise
module _ {A : Type 0} (l table after : List A) (answer : Result ℕ Refusal) (full : Refusal) (answered : answer ≡ cond (leb (length l) (capacity table)) (Ok (length l)) (Err full)) (left : after ≡ overlay (take (capacity table) l) table) where
  pub granted_front : (n : ℕ) → answer ≡ Ok n → (leb (length l) (capacity table) ≡ true) × (take n after ≡ l)
  granted_front n ok = go (leb (length l) (capacity table)) refl
    where
      go : (b : Bool) → leb (length l) (capacity table) ≡ b → (leb (length l) (capacity table) ≡ true) × (take n after ≡ l)
      go true t =
          let fits : length l ≤ capacity table = leb-true _ _ t in
          let is : ◌≡◌ {A = Result ℕ Refusal} (Ok n) (Ok (length l)) = sym ok ∙ answered ∙ ap (λ b. cond b (Ok (length l)) (Err full)) t in
          let same : n ≡ length l = cc in
          let whole : take (capacity table) l ≡ l = take_all (capacity table) l fits in
          (t, ap (λ k. take k after) same ∙ ap (take (length l)) (left ∙ ap (λ f. overlay f table) whole) ∙ take_overlay l table (omega arith))
      go false t =
          let is : ◌≡◌ {A = Result ℕ Refusal} (Ok n) (Err full) = sym ok ∙ answered ∙ ap (λ b. cond b (Ok (length l)) (Err full)) t in
          absurd cc

  pub refused_front : (e : Refusal) → answer ≡ Err e → (leb (length l) (capacity table) ≡ false) × (e ≡ full) × (take (capacity table) after ≡ take (capacity table) l)
  refused_front e err = go (leb (length l) (capacity table)) refl
    where
      go : (b : Bool) → leb (length l) (capacity table) ≡ b → (leb (length l) (capacity table) ≡ false) × (e ≡ full) × (take (capacity table) after ≡ take (capacity table) l)
      go true t =
          let is : ◌≡◌ {A = Result ℕ Refusal} (Err e) (Ok (length l)) = sym err ∙ answered ∙ ap (λ b. cond b (Ok (length l)) (Err full)) t in
          absurd cc
      go false t =
          let is : ◌≡◌ {A = Result ℕ Refusal} (Err e) (Err full) = sym err ∙ answered ∙ ap (λ b. cond b (Ok (length l)) (Err full)) t in
          let same : e ≡ full = cc in
          let over : capacity table < length l = leb-false _ _ t in
          let long : capacity table ≡ length (take (capacity table) l) = omega (arith, length-take (capacity table) l) in
          (t, same, ap (take (capacity table)) left ∙ ap (λ k. take k (overlay (take (capacity table) l) table)) long ∙ take_overlay (take (capacity table) l) table (omega (arith, length-take (capacity table) l)))

-- the corners call, in a table of n entries
module _ (m : Solid) (table after : List Point) (n : ℕ) (long : length table ≡ n) (answer : Result ℕ Refusal) (e : ◌≡◌ {A = ListingOutcome} (record { answer = answer; table = after }) (corners_outcome m table)) where
  answered : answer ≡ cond (leb (length (corner_list m)) (capacity table)) (Ok (length (corner_list m))) (Err CornersFull)
  unfolding corners_outcome
  answered = ap (λ o. o.answer) e

  left : after ≡ overlay (take (capacity table) (corner_list m)) table
  unfolding corners_outcome
  left = ap (λ o. o.table) e

  reply_at : (b : Bool) → leb (length (corner_list m)) (capacity table) ≡ b → corners_reply n m ≡ cond b (listed (corner_list m)) (refused (names.Block Corners) CornersFull)
  reply_at b t = ap (λ b. cond b (listed (corner_list m)) (refused (names.Block Corners) CornersFull)) (ap (λ k. leb (length (corner_list m)) (min k 65536)) (sym long) ∙ t)

  pub corners_listed : (count : ℕ) (items : List Point) → answer ≡ Ok count → items ≡ take count after → listed items ≡ corners_reply n m
  corners_listed count items ok front =
      let g = granted_front (corner_list m) table after answer CornersFull answered left count ok in
      ap listed (front ∙ g.1) ∙ sym (reply_at true g.0)

  pub corners_refused : (refusal : Refusal) → answer ≡ Err refusal → refused (names.Block Corners) refusal ≡ corners_reply n m
  corners_refused refusal err =
      let r = refused_front (corner_list m) table after answer CornersFull answered left refusal err in
      ap (refused (names.Block Corners)) r.1 ∙ sym (reply_at false r.0)

-- the cut of a block, in a box table of which `after` is left
module _ (h : Home) (m : Solid) (o : AxisOrder) (s : State) (after : List BoxRecord) where
  stepped : (answer : Result ℕ Refusal) → ◌≡◌ {A = CutOutcome} (record { answer = answer; table = after }) (cut_outcome m o s.boxes) → cut_step h (free m) s o ≡ world h (cut_held m o answer) (told (with_boxes s after) (cut_reply m o s.boxes answer))
  stepped answer e = ap (λ r. world h (cut_held m o r.answer) (told (with_boxes s r.table) (cut_reply m o s.boxes r.answer))) (sym e)

  fills : (answer : Result ℕ Refusal) → ◌≡◌ {A = CutOutcome} (record { answer = answer; table = after }) (cut_outcome m o s.boxes) → (answer ≡ cond (leb (length (cut_list m o)) (capacity s.boxes)) (Ok (length (cut_list m o))) (Err BoxesFull)) × (after ≡ overlay (take (capacity s.boxes) (cut_list m o)) s.boxes)
  unfolding cut_outcome
  fills answer e = (ap (λ r. r.answer) e, ap (λ r. r.table) e)

  pub cut_stands : (n : ℕ) → ◌≡◌ {A = CutOutcome} (record { answer = Ok n; table = after }) (cut_outcome m o s.boxes) → cut_step h (free m) s o ≡ world h (standing m o n) (told (with_boxes s after) (boxed o (take n after)))
  cut_stands n e =
      let f = fills (Ok n) e in
      let g = granted_front (cut_list m o) s.boxes after (Ok n) BoxesFull f.0 f.1 n refl in
      stepped (Ok n) e ∙ ap (λ l. world h (standing m o n) (told (with_boxes s after) (boxed o l))) (sym g.1)

  pub cut_overfull : (x : Refusal) → ◌≡◌ {A = CutOutcome} (record { answer = Err x; table = after }) (cut_outcome m o s.boxes) → length after ≡ length s.boxes → cut_step h (free m) s o ≡ world h (free m) (told (with_boxes s after) (overfull o x (take (capacity after) after)))
  cut_overfull x e long =
      let f = fills (Err x) e in
      let r = refused_front (cut_list m o) s.boxes after (Err x) BoxesFull f.0 f.1 x refl in
      stepped (Err x) e ∙ ap (λ l. world h (free m) (told (with_boxes s after) (overfull o x l))) (sym r.2 ∙ ap (λ k. take (min k 65536) after) (sym long))
