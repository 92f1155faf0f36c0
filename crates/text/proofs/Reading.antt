-- Numbers, words and lines, a piece at a time.
use lib.Pointwise.{pointwise}
use Rattle.std.proofs.Common.{Bor, MatchOption, nat_eq, ◌≡◌, ℕ, zero, suc, ◌+◌, ◌-◌, ◌<◌, ◌≤◌, Bool, true, false, cond, ◌&&◌, eqb, List, [], ◌∷◌, length, get_or, take, drop, Some, None, Option, not, position, unwrap_or, ◌==◌, inl, inr, sym, refl, ap, ◌∙◌, add-zero, arith}
use Rattle.std.proofs.lemmas.List.{at_drop_more, at_drop_all, get_or-drop, length-drop, take_rest}
use Rattle.std.proofs.lemmas.List.Quantifiers.{position-Some}
use Rattle.std.proofs.lemmas.List.Sums.{fails_before_first, passes_at_first, prefix_len-le-length}
use Rattle.std.specs.List.{position_or_len}
use Rattle.std.proofs.lemmas.Bool.{cases_lt, lt-ltb, le-ltb, not-false, not-true, cond-true, cond-false, and_right, both_ways}
use Rattle.text.specs.Texts.{blank, chomped, digit_on, ends_word, lines_of, number_of, number_on, onto, words_of}

pub number_of_some : (word : List ℕ) → 0 < length word → number_of word ≡ number_on (Some 0) word
number_of_some [] h = absurd (omega arith)
number_of_some (b ∷ bs) h = refl

-- one digit more, and all of them
pub number_more : (n : ℕ) (o : Option ℕ) (word : List ℕ) (i : ℕ) → i < length word → o ≡ digit_on n (get_or word i 0) → number_on (Some n) (drop i word) ≡ number_on o (drop (i + 1) word)
number_more n o word i h e = at_drop_more (number_on (Some n)) word i 0 h ∙ ap (λ p. number_on p (drop (i + 1) word)) (sym e)

pub number_all : (n : ℕ) (word : List ℕ) (i : ℕ) → length word ≤ i → number_on (Some n) (drop i word) ≡ Some n
number_all n word i h = at_drop_all (number_on (Some n)) word i h

-- a line as it is cut off at a line feed, and the last one without
pub lines_fed : (bs : List ℕ) (n : ℕ) → n < length bs → ((k : ℕ) → k < n → eqb (get_or bs k 0) 10 ≡ false) → eqb (get_or bs n 0) 10 ≡ true → lines_of bs ≡ chomped (take n bs) ∷ lines_of (drop (suc n) bs)
unfolding lines_of
lines_fed [] n h none here = absurd (omega arith)
lines_fed (b ∷ bs) zero h none here = cond-true _ _ _ here
lines_fed (b ∷ []) (suc n) h none here = absurd (omega arith)
lines_fed (b ∷ c ∷ bs) (suc zero) h none here =
    cond-false _ _ _ (none 0 (omega arith))
    ∙ ends (eqb b 13) (eqb c 10) here
  where
    ends : (r f : Bool) → f ≡ true → cond (r && f) (lines_of (c ∷ bs)) (onto b (lines_of (c ∷ bs))) ≡ cond r [] (b ∷ []) ∷ lines_of bs
    ends true f e = cond-true f _ _ e ∙ cond-true _ _ _ here
    ends false f e = ap (onto b) (cond-true _ _ _ here)
lines_fed (b ∷ c ∷ bs) (suc (suc n)) h none here =
    let rest = lines_fed (c ∷ bs) (suc n) (omega arith) (λ k l. none (suc k) (omega arith)) here in
    cond-false _ _ _ (none 0 (omega arith))
    ∙ cond-false _ _ _ (and_right (eqb b 13) _ (none 1 (omega arith)))
    ∙ ap (onto b) rest

pub lines_last : (bs : List ℕ) → 0 < length bs → ((k : ℕ) → k < length bs → eqb (get_or bs k 0) 10 ≡ false) → lines_of bs ≡ bs ∷ []
unfolding lines_of
lines_last [] h none = absurd (omega arith)
lines_last (b ∷ []) h none = cond-false _ _ _ (none 0 (omega arith)) ∙ cond-false _ _ _ (and_right (eqb b 13) false refl)
lines_last (b ∷ c ∷ bs) h none =
    cond-false _ _ _ (none 0 (omega arith))
    ∙ cond-false _ _ _ (and_right (eqb b 13) _ (none 1 (omega arith)))
    ∙ ap (onto b) (lines_last (c ∷ bs) (omega arith) (λ k l. none (suc k) (omega arith)))

-- blanks in front of a word, and the word up to the next blank
pub words_skip : (bs : List ℕ) (n : ℕ) → n ≤ length bs → ((k : ℕ) → k < n → blank (get_or bs k 0) ≡ true) → words_of bs ≡ words_of (drop n bs)
unfolding words_of
words_skip bs zero h blanks = refl
words_skip [] (suc n) h blanks = refl
words_skip (b ∷ bs) (suc n) h blanks = cond-true _ _ _ (blanks 0 (omega arith)) ∙ words_skip bs n (omega arith) (λ k l. blanks (suc k) (omega arith))

pub words_first : (bs : List ℕ) (n : ℕ) → n < length bs → ((k : ℕ) → k < suc n → blank (get_or bs k 0) ≡ false) → ends_word (drop (suc n) bs) ≡ true → words_of bs ≡ take (suc n) bs ∷ words_of (drop (suc n) bs)
unfolding words_of
words_first [] n h word after = absurd (omega arith)
words_first (b ∷ bs) zero h word after = cond-false _ _ _ (word 0 (omega arith)) ∙ cond-true _ _ _ after
words_first (b ∷ []) (suc n) h word after = absurd (omega arith)
words_first (b ∷ c ∷ bs) (suc n) h word after =
    cond-false _ _ _ (word 0 (omega arith))
    ∙ cond-false _ _ _ (word 1 (omega arith))
    ∙ ap (onto b) (words_first (c ∷ bs) n (omega arith) (λ k l. word (suc k) (omega arith)) after)

-- a line without the carriage return at its end, as it is stripped off
strip : (line : List ℕ) (n : ℕ) → length line ≡ suc n → chomped line ≡ cond (pointwise nat_eq (drop n line) (13 ∷ [])) (take n line) line
strip [] n e = absurd (omega arith)
strip (a ∷ []) zero e = ends (eqb a 13)
  where
    ends : (r : Bool) → cond r [] (a ∷ []) ≡ cond (r && true) [] (a ∷ [])
    ends true = refl
    ends false = refl
strip (a ∷ []) (suc n) e = absurd (omega arith)
strip (a ∷ c ∷ bs) zero e = absurd (omega arith)
strip (a ∷ c ∷ bs) (suc n) e = ap (λ l. a ∷ l) (strip (c ∷ bs) n (omega arith)) ∙ onto_cond (pointwise nat_eq (drop n (c ∷ bs)) (13 ∷ []))
  where
    onto_cond : (r : Bool) → a ∷ cond r (take n (c ∷ bs)) (c ∷ bs) ≡ cond r (a ∷ take n (c ∷ bs)) (a ∷ c ∷ bs)
    onto_cond true = refl
    onto_cond false = refl

stripped : (line : List ℕ) → chomped line ≡ cond (pointwise nat_eq (drop (length line - 1) line) (13 ∷ [])) (take (length line - 1) line) line
stripped [] = refl
stripped (a ∷ bs) =
    let n : length bs ≡ length (a ∷ bs) - 1 = omega arith in
    strip (a ∷ bs) (length bs) (omega arith) ∙ ap (λ k. cond (pointwise nat_eq (drop k (a ∷ bs)) (13 ∷ [])) (take k (a ∷ bs)) (a ∷ bs)) n

pub chomped_stripped : (line : Bor (List ℕ)) (o : Option (Bor (List ℕ))) → MatchOption o (pointwise nat_eq (drop (length line.now - 1) line.now) (13 ∷ []) ≡ false) (λ x. (pointwise nat_eq (drop (length line.now - 1) line.now) (13 ∷ []) ≡ true) × (x.now ≡ take (length line.now - 1) line.now) × (length x.now + 1 ≡ length line.now)) → (unwrap_or o line).now ≡ chomped line.now
chomped_stripped line None kept = sym (stripped line.now ∙ cond-false _ _ _ kept)
chomped_stripped line (Some x) cut = cut.1 ∙ sym (stripped line.now ∙ cond-true _ _ _ cut.0)

pub lines_none : (text : List ℕ) → length text ≡ 0 → lines_of text ≡ []
unfolding lines_of
lines_none [] h = refl
lines_none (b ∷ bs) h = absurd (omega arith)

pub words_none : (line : List ℕ) → length line ≡ 0 → words_of line ≡ []
unfolding words_of
words_none [] h = refl
words_none (b ∷ bs) h = absurd (omega arith)

-- the place of the first that passes, where there is none, and where the length stands for none
position-None : {A : Type 0} (p : A → Bool) (xs : List A) (d : A) → position p xs ≡ None → (k : ℕ) → k < length xs → p (get_or xs k d) ≡ false
position-None p xs d none k h = elim (cases_lt (position_or_len p xs) (length xs)) [
  | inl l ↦ let some : position p xs ≡ Some (position_or_len p xs) = cond-true _ _ _ (lt-ltb _ _ l) in cc
  | inr l ↦ fails_before_first p xs k d (omega arith)
]

position-length : {A : Type 0} (p : A → Bool) (xs : List A) → unwrap_or (position p xs) (length xs) ≡ position_or_len p xs
position-length p xs = elim (cases_lt (position_or_len p xs) (length xs)) [
  | inl l ↦ ap (λ o. unwrap_or o (length xs)) (cond-true _ _ _ (lt-ltb _ _ l))
  | inr l ↦ let most : position_or_len p xs ≤ length xs = prefix_len-le-length _ xs in ap (λ o. unwrap_or o (length xs)) (cond-false _ _ _ (le-ltb _ _ l)) ∙ (omega arith)
]

-- a text cut at its first line feed, and one without any
pub line_fed : (text : List ℕ) (n : ℕ) (line : List ℕ) → position (λ b. b == 10) text ≡ Some n → line ≡ chomped (take n text) → lines_of text ≡ line ∷ lines_of (take (length text - (n + 1)) (drop (n + 1) text))
line_fed text n line first l =
    let feed = position-Some (λ b. b == 10) text n 0 first in
    let next : suc n ≡ n + 1 = omega arith in
    lines_fed text n feed.0 feed.2 feed.1
    ∙ ap (λ k. chomped (take n text) ∷ lines_of (drop k text)) next
    ∙ ap (λ t. chomped (take n text) ∷ lines_of t) (sym (take_rest text (n + 1)))
    ∙ ap (λ t. t ∷ lines_of (take (length text - (n + 1)) (drop (n + 1) text))) (sym l)

pub line_last : (text : List ℕ) → 0 < length text → position (λ b. b == 10) text ≡ None → lines_of text ≡ text ∷ lines_of []
line_last text some none = lines_last text some (position-None _ text 0 none) ∙ ap (λ ls. text ∷ ls) (sym (lines_none [] refl))

ends_word_at : (bs : List ℕ) (n : ℕ) → (n < length bs → blank (get_or bs n 0) ≡ true) → ends_word (drop n bs) ≡ true
ends_word_at [] zero found = refl
ends_word_at [] (suc n) found = refl
ends_word_at (b ∷ bs) zero found = found (omega arith)
ends_word_at (b ∷ bs) (suc n) found = ends_word_at bs n (λ h. found (omega arith))

-- a line of blanks only, and one cut at its first byte that is not blank and the next that is
pub word_none : (line : List ℕ) → position (λ b. not (blank b)) line ≡ None → words_of line ≡ []
word_none line none =
    words_skip line (length line) (omega arith) (λ k h. not-false _ (position-None _ line 0 none k h))
    ∙ words_none (drop (length line) line) (omega (arith, length-drop (length line) line))

words_first_to : (rest : List ℕ) (m : ℕ) → m ≡ position_or_len blank rest → 0 < length rest → blank (get_or rest 0 0) ≡ false → words_of rest ≡ take m rest ∷ words_of (drop m rest)
words_first_to rest zero is some starts =
    let passes : blank (get_or rest 0 0) ≡ true = ap (λ k. blank (get_or rest k 0)) is ∙ passes_at_first blank rest 0 (omega arith) in
    absurd (both_ways _ starts passes)
words_first_to rest (suc m) is some starts =
    words_first rest m (omega (arith, prefix_len-le-length (λ b. not (blank b)) rest)) (λ k h. fails_before_first blank rest k 0 (omega arith)) (ends_word_at rest (suc m) (λ h. ap (λ k. blank (get_or rest k 0)) is ∙ passes_at_first blank rest 0 (omega arith)))

pub word_first : (line : List ℕ) (n m : ℕ) (o : Option ℕ) (word after : List ℕ) → position (λ b. not (blank b)) line ≡ Some n → o ≡ position blank (take (length line - n) (drop n line)) → m ≡ unwrap_or o (length (take (length line - n) (drop n line))) → word ≡ take m (take (length line - n) (drop n line)) → after ≡ drop m (take (length line - n) (drop n line)) → words_of line ≡ word ∷ words_of after
word_first line n m o word after start e end w a =
    let rest = take (length line - n) (drop n line) in
    let r : rest ≡ drop n line = take_rest line n in
    let first = position-Some (λ b. not (blank b)) line n 0 start in
    words_skip line n (omega (arith, first.0)) (λ k h. not-false _ (first.2 k h))
    ∙ ap words_of (sym r)
    ∙ words_first_to rest m (end ∙ ap (λ p. unwrap_or p (length rest)) e ∙ position-length blank rest) (omega (arith, first.0, ap length r ∙ length-drop n line)) (ap (λ l. blank (get_or l 0 0)) r ∙ ap blank (get_or-drop n line 0 0 ∙ ap (λ k. get_or line k 0) (add-zero n)) ∙ not-true _ first.1)
    ∙ ap (λ l. l ∷ words_of (drop m rest)) (sym w)
    ∙ ap (λ l. word ∷ words_of l) (sym a)
