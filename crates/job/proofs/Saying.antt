-- What lines say, a line at a time.
use Rattle.std.proofs.Common.{◌≡◌, ℕ, ◌+◌, ◌<◌, Bool, List, [], ◌∷◌, ◌++◌, length, get_or, take, drop, IfSome, IfNone, Some, None, Option, Result, sym, ap, ◌∙◌, subst, add-zero, arith, below_more}
use Rattle.std.proofs.lemmas.List.{append_assoc, append-nil, drop-drop, get_or_append_left, get_or-drop, get_or_push, flat_map_more, length-drop, length_push, take_more}
use Rattle.std.specs.List.{flat_map}
use Rattle.std.specs.Option.{option_map}
use Rattle.std.specs.Result.{result_ok}
use Rattle.geometry.specs.Frames.{sides, sides_given, sides_ok}
use Rattle.geometry.specs.Refusals.{Answers}
use Rattle.geometry.specs.declared.axis.Axis.{Axis}
use Rattle.geometry.specs.declared.frame.Frame.{Frame}
use Rattle.geometry.specs.declared.refusal.Refusal.{Refusal}
use Rattle.geometry.specs.declared.refusal.Refusal.TheVariants.{FrameSide}
use Rattle.job.specs.Jobs.{Later, Numbers, Only, Reads, Rows, Says, SoFar, ended, force, left, said, skipped}
use Rattle.text.specs.Scans.{Row, row_cells}
use Rattle.text.specs.Texts.{words_of}
use Rattle.script.specs.Scripts.{new_frame}
use Rattle.script.specs.declared.call.Call.{Call}
use Rattle.script.proofs.Making.{made_part}
use Rattle.job.specs.declared.reader.Reader.{Reader}
use Rattle.text.specs.declared.text.Text.{Text}

pub later_later : (s t u : Text) → Later s t → Later t u → Later s u
later_later s t u a b = record { total = b.total ∙ a.total; on = omega arith }

-- a frame that is taken is in force, and after one that is refused there is none
pub framed_by : (r : Result Frame Refusal) (x y z : ℕ) (o : Option Frame) → Answers r (sides_ok x y z) (λ f. sides f ≡ sides_given x y z) FrameSide → o ≡ result_ok r → option_map sides o ≡ new_frame x y z
framed_by r x y z o a e = ap (option_map sides) e ∙ made_part r (sides_ok x y z) sides (sides_given x y z) FrameSide a

-- the first of what is left
module _ {A : Type 0} (xs : List A) (n : ℕ) (y : A) (ys : List A) (e : drop n xs ≡ y ∷ ys) where
  pub some_left : n < length xs
  some_left = omega (arith, ap length (sym e), length-drop n xs)

  pub first_left : (d : A) → get_or xs n d ≡ y
  first_left d = ap (λ k. get_or xs k d) (sym (add-zero n)) ∙ sym (get_or-drop n xs 0 d) ∙ ap (λ l. get_or l 0 d) e

  pub then_left : ys ≡ drop (n + 1) xs
  then_left = ap (drop 1) (sym e) ∙ drop-drop 1 n xs

-- a row more of a scan
module _ (lines before after : List (List ℕ)) (n : ℕ) (row : List ℕ) (l : before ≡ drop n lines) (e : before ≡ row ∷ after) where
  at : drop n lines ≡ row ∷ after
  at = sym l ∙ e

  pub left_more : after ≡ drop (n + 1) lines
  left_more = then_left lines n row after at

  pub rows_more : (side : ℕ) → Rows n side lines → length row ≡ side → Row row → Rows (n + 1) side lines
  rows_more side rows long good = (
    omega (arith, some_left lines n row after at),
    below_more _ n rows.1 (subst (λ r. (length r ≡ side) × Row r) (sym (first_left lines n row after at [])) (long, good)),
  )

  pub joined_rows : (cells cells' : List Bool) → cells ≡ flat_map row_cells (take n lines) → cells' ≡ cells ++ row_cells row → cells' ≡ flat_map row_cells (take (n + 1) lines)
  joined_rows cells cells' c c' =
      c'
      ∙ ap (λ xs. xs ++ row_cells row) c
      ∙ flat_map_more row_cells [] (take n lines) row
      ∙ ap (flat_map row_cells) (ap (λ r. take n lines ++ r ∷ []) (sym (first_left lines n row after at [])) ∙ sym (take_more lines n [] (some_left lines n row after at)))

  pub numbers_more : (ns ns' : List ℕ) (x : ℕ) → length ns ≡ n → Numbers ns lines → Only (words_of row) x → ns' ≡ ns ++ x ∷ [] → Numbers ns' lines
  numbers_more ns ns' x is numbers only is' =
      subst (λ v. Numbers v lines) (sym is') (
        omega (arith, length_push ns x, some_left lines n row after at),
        λ k h. below_more (λ i. Only (words_of (get_or lines i [])) (get_or (ns ++ x ∷ []) i 0)) n
            (λ i b. subst (λ m. Only (words_of (get_or lines i [])) m) (sym (get_or_append_left ns (x ∷ []) 0 i (omega arith))) (numbers.1 i (omega arith)))
            (subst (λ m. Only (words_of (get_or lines n [])) m) (sym (get_or_push ns x 0 n is)) (subst (λ r. Only (words_of r) x) (sym (first_left lines n row after at [])) only))
            k (omega (arith, length_push ns x)),
      )

-- a line more of a job, with a call and without
pub said_more : (s : Option (Axis → ℕ)) (all : List (List ℕ)) (done done' : List Call) (line : List ℕ) (a b : Reader) (o : Option Call) (k : Call) → IfSome o (λ c. Says (force a) (words_of line) (left a.text) c (force b) (left b.text)) → o ≡ Some k → done' ≡ done ++ k ∷ [] → SoFar s all done (force a) (line ∷ left a.text) → SoFar s all done' (force b) (left b.text)
said_more s all done done' line a b o k says is e far more reads =
    subst (λ l. Reads s all l) (sym (ap (λ l. l ++ more) e ∙ append_assoc done (k ∷ []) more))
    (far (k ∷ more) (said (subst (λ p. IfSome p (λ c. Says (force a) (words_of line) (left a.text) c (force b) (left b.text))) is says) reads))

pub skipped_more : (s : Option (Axis → ℕ)) (all : List (List ℕ)) (done : List Call) (line : List ℕ) (a b : Reader) (o : Option Call) → IfNone o ((words_of line ≡ []) × (b ≡ a)) → o ≡ None → SoFar s all done (force a) (line ∷ left a.text) → SoFar s all done (force b) (left b.text)
skipped_more s all done line a b o blank is far =
    let none = subst (λ p. IfNone p ((words_of line ≡ []) × (b ≡ a))) is blank in
    subst (λ r. SoFar s all done (force r) (left r.text)) (sym none.1) (λ more reads. far more (skipped none.0 reads))

-- no line is left
pub all_read : (s t : Option (Axis → ℕ)) (all lines : List (List ℕ)) (done : List Call) → lines ≡ [] → SoFar s all done t lines → Reads s all done
all_read s t all lines done none far =
    subst (λ l. Reads s all l) (append-nil done) (far [] (subst (λ l. Reads t l []) (sym none) ended))
