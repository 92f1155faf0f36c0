-- What is refused says nothing, and what is read can be read in one way only.
use Rattle.std.proofs.Common.{◌≡◌, ℕ, ◌+◌, ◌-◌, ◌*◌, ◌^◌, ◌<◌, ◌≤◌, Bool, true, false, cond, eqb, List, [], ◌∷◌, length, get_or, drop, IfNone, IsErrAnd, IfErr, IfOk, IfSome, MatchResult, IsTrue, is_ok, Some, None, Ok, Err, vec_items, Option, Result, sym, refl, ap, ◌∙◌, subst, inl, inr, arith}
use Rattle.std.proofs.lemmas.List.{length-drop}
use Rattle.std.proofs.lemmas.Option.{MatchOption-at_none}
use Rattle.std.proofs.lemmas.Bool.{and_parts, ltb-true}
use Rattle.geometry.specs.declared.axis.Axis.{Axis}
use Rattle.geometry.specs.declared.axis.Axis.TheVariants.{X, Y}
use Rattle.script.specs.Scripts.{new_frame}
use Rattle.script.specs.declared.call.Call.{Call}
use Rattle.job.proofs.Saying.{first_left}
use Rattle.job.specs.Jobs.{Numbers, Only, Reads, Rows, Says, SaysAlone, Then, Three, force, frame_after, keyword_word, left, said, sense_word, skipped, table_word}
use Rattle.job.specs.Lines.{Line, NoLine, Readable}
use Rattle.text.specs.Scans.{Row}
use Rattle.text.specs.Texts.{digit, number_of, number_on, words_of}
use Rattle.job.specs.declared.reader.Reader.{Reader}
use Rattle.job.specs.declared.line.Command.{Command}
use Rattle.job.specs.declared.line.Command.TheVariants as commands
use Rattle.job.specs.declared.reader.Keyword.{Keyword}
use Rattle.job.specs.declared.reader.Keyword.TheVariants as keywords

-- what holds of the error at the exit of a `?`
pub refused_by : {T E : Type 0} {Q : E → Type 0} (P : E → Type 0) (r : Result T E) → IsErrAnd r Q → ((e : E) → Q e → P e) → IfErr r P
refused_by P (Ok x) by f = absurd by
refused_by P (Err e) by f = f e by

-- what holds of a refusal holds where it is passed on
pub refused_in : {T U E : Type 0} (P Q : E → Type 0) (r : Result T E) (q : Result U E) → MatchResult r (λ _. IsTrue (is_ok q)) (λ e. q ≡ Err e) → ((e : E) → P e → Q e) → IfErr r P → IfErr q Q
refused_in P Q (Ok x) (Ok y) same f none = tt
refused_in P Q (Ok x) (Err e) same f none = let no : false ≡ true = same in cc
refused_in P Q (Err d) (Ok y) same f none = cc
refused_in P Q (Err d) (Err e) same f none = let is : d ≡ e = cc in subst Q is (f d none)

-- what holds of a value holds where it is put in `Some`
pub some_mapped : {T E : Type 0} (P : T → Type 0) (r : Result T E) (q : Result (Option T) E) → MatchResult r (λ x. q ≡ Ok (Some x)) (λ e. q ≡ Err e) → IfOk r P → IfOk q (λ o. IfSome o P)
some_mapped P (Ok x) (Ok (Some y)) is holds = let same : x ≡ y = cc in subst P same holds
some_mapped P (Ok x) (Ok None) is holds = tt
some_mapped P (Err d) (Ok o) is holds = cc
some_mapped P r (Err e) is holds = tt

-- a number of a text fits 64 bits
number_on_fits : (n : ℕ) (bs : List ℕ) (m : ℕ) → n < 2 ^ 64 → number_on (Some n) bs ≡ Some m → m < 2 ^ 64
number_on_fits n [] m h e = let same : n ≡ m = cc in omega arith
number_on_fits n (b ∷ bs) m h e = next _ (λ t. ltb-true _ _ (and_parts (digit b) _ t).1) (number_on_fits (n * 10 + (b - 48)) bs m) e
  where
    next : (t : Bool) → (t ≡ true → n * 10 + (b - 48) < 2 ^ 64) → (n * 10 + (b - 48) < 2 ^ 64 → number_on (Some (n * 10 + (b - 48))) bs ≡ Some m → m < 2 ^ 64) → number_on (cond t (Some (n * 10 + (b - 48))) None) bs ≡ Some m → m < 2 ^ 64
    next true fits rest e = rest (fits refl) e
    next false fits rest e = cc

number_fits : (w : List ℕ) (n : ℕ) → number_of w ≡ Some n → n ≤ 18446744073709551615
number_fits [] n e = cc
number_fits (b ∷ bs) n e = omega (arith, number_on_fits 0 (b ∷ bs) n (omega arith) e)

pub only_fits : (words : List (List ℕ)) (n : ℕ) → Only words n → n ≤ 18446744073709551615
only_fits words n only = number_fits only.0 n only.2

-- words begin with one number only
then_same : (words a b : List (List ℕ)) (m n : ℕ) → Then words m a → Then words n b → (m ≡ n) × (a ≡ b)
then_same words a b m n p q =
    let e : p.0 ∷ a ≡ q.0 ∷ b = sym p.1 ∙ q.1 in
    let w : p.0 ≡ q.0 = cc in
    let v : Some m ≡ Some n = sym p.2 ∙ ap number_of w ∙ q.2 in
    ((cc), (cc))

-- three numbers without the first, the second and the last
module _ (words : List (List ℕ)) where
  pub no_first : ((n : ℕ) (rest : List (List ℕ)) → Then words n rest → ⊥) → (x y z : ℕ) → Three words x y z → ⊥
  no_first none x y z t = none _ _ t.2

  pub no_second : (x : ℕ) (a : List (List ℕ)) → Then words x a → ((n : ℕ) (rest : List (List ℕ)) → Then a n rest → ⊥) → (i j k : ℕ) → Three words i j k → ⊥
  no_second x a first none i j k t = none _ _ (subst (λ r. Then r j t.1) (then_same _ _ _ _ _ t.2 first).1 t.3)

  pub no_last : (x y : ℕ) (a b : List (List ℕ)) → Then words x a → Then a y b → ((n : ℕ) → n ≤ 18446744073709551615 → Only b n → ⊥) → (i j k : ℕ) → Three words i j k → ⊥
  no_last x y a b first second none i j k t =
      let second' = subst (λ r. Then r j t.1) (then_same _ _ _ _ _ t.2 first).1 t.3 in
      let last = subst (λ r. Only r k) (then_same _ _ _ _ _ second' second).1 t.4 in
      none _ (only_fits _ _ last) last

  -- they say three numbers in one way only
  three_same : (x y z i j k : ℕ) → Three words x y z → Three words i j k → (x ≡ i) × (y ≡ j) × (z ≡ k)
  three_same x y z i j k p q =
      let first = then_same _ _ _ _ _ p.2 q.2 in
      let second = then_same _ _ _ _ _ (subst (λ r. Then r y p.1) first.1 p.3) q.3 in
      let last = then_same _ [] [] _ _ (subst (λ r. Only r z) second.1 p.4) q.4 in
      (first.0, second.0, last.0)

-- a table line without its length, and a neighbour line without its last number
module _ (words a : List (List ℕ)) (w : List ℕ) where
  pub no_length : words ≡ w ∷ a → ((n : ℕ) → n ≤ 1000000 → Only a n → ⊥) → (c : Call) → SaysAlone commands.Table words c → ⊥
  no_length is none c l =
      let e : w ∷ a ≡ table_word l.0 ∷ l.2 = sym is ∙ l.3 in
      let same : l.2 ≡ a = cc in
      none l.1 l.5 (subst (λ r. Only r l.1) same l.4)

pub no_above : (words rest a : List (List ℕ)) (u : ℕ) (w : List ℕ) → Then words u rest → rest ≡ w ∷ a → ((n : ℕ) → n ≤ 18446744073709551615 → Only a n → ⊥) → (c : Call) → SaysAlone commands.Neighbour words c → ⊥
no_above words rest a u w first is none c l =
    let e : sense_word l.1 ∷ l.3 ≡ w ∷ a = (then_same _ _ _ _ _ l.4 first).1 ∙ is in
    let same : l.3 ≡ a = cc in
    let last = subst (λ r. Only r l.2) same l.5 in
    none _ (only_fits _ _ last) last

-- the lines end before all is read, and the next one is not as it has to be
module _ (lines before : List (List ℕ)) (n count : ℕ) (h : n < count) (l : before ≡ drop n lines) where
  pub too_few : before ≡ [] → count ≤ length lines → ⊥
  too_few none enough = omega (arith, ap length (sym l ∙ none), length-drop n lines)

  module _ (row : List ℕ) (after : List (List ℕ)) (e : before ≡ row ∷ after) where
    is_row : get_or lines n [] ≡ row
    is_row = first_left lines n row after (sym l ∙ e) []

    pub row_good : (side : ℕ) → Rows count side lines → (length row ≡ side) × Row row
    row_good side rows = subst (λ r. (length r ≡ side) × Row r) is_row (rows.1 n h)

    pub number_good : (ns : List ℕ) → length ns ≡ count → Numbers ns lines → Only (words_of row) (get_or ns n 0)
    number_good ns is numbers = subst (λ r. Only (words_of r) (get_or ns n 0)) is_row (numbers.1 n (omega arith))

-- a spelling is that of one keyword only
abbrev mark : List ℕ → ℕ
mark w = length w * 1000 + get_or w 0 0 * 3 + get_or w 2 0

abbrev keyword : ℕ → Keyword
keyword m =
    cond (eqb m 4442) keywords.Scan
    (cond (eqb m 4414) keywords.Grid
    (cond (eqb m 5403) (keywords.Alone commands.Frame)
    (cond (eqb m 5446) (keywords.Alone commands.Table)
    (cond (eqb m 5414) (keywords.Alone commands.Count)
    (cond (eqb m 7411) (keywords.Alone commands.Corners)
    (cond (eqb m 7430) (keywords.Alone commands.Inspect)
    (cond (eqb m 3413) (keywords.Alone commands.Cut)
    (cond (eqb m 6462) (keywords.Alone commands.Volume)
    (cond (eqb m 4416) (keywords.Alone commands.Find)
    (cond (eqb m 9435) (keywords.Alone commands.Neighbour) (keywords.Alone commands.Reopen)))))))))))

keyword_of : (k : Keyword) → keyword (mark (keyword_word k)) ≡ k
keyword_of keywords.Scan = refl
keyword_of keywords.Grid = refl
keyword_of (keywords.Alone commands.Frame) = refl
keyword_of (keywords.Alone commands.Table) = refl
keyword_of (keywords.Alone commands.Count) = refl
keyword_of (keywords.Alone commands.Corners) = refl
keyword_of (keywords.Alone commands.Inspect) = refl
keyword_of (keywords.Alone commands.Cut) = refl
keyword_of (keywords.Alone commands.Volume) = refl
keyword_of (keywords.Alone commands.Find) = refl
keyword_of (keywords.Alone commands.Neighbour) = refl
keyword_of (keywords.Alone commands.Reopen) = refl

pub spelled_once : (k k' : Keyword) → keyword_word k ≡ keyword_word k' → k ≡ k'
spelled_once k k' e = sym (keyword_of k) ∙ ap (λ w. keyword (mark w)) e ∙ keyword_of k'

-- what is said is said by a line that begins with a keyword
pub says_line : (s : Option (Axis → ℕ)) (words lines : List (List ℕ)) (c : Call) (s' : Option (Axis → ℕ)) (lines' : List (List ℕ)) → Says s words lines c s' lines' → (k : Keyword) × (a : List (List ℕ)) × (words ≡ keyword_word k ∷ a) × Line k s a lines s' lines'
says_line s words lines c s' lines' (inl l) = (keywords.Alone l.0, l.1, l.2, (c, l.3, l.4, l.5))
says_line s words lines c s' lines' (inr (v, is, inl l)) = (keywords.Scan, [], l.0, (l.1.0, refl, l.1.1, l.1.2, l.2, l.1.5))
says_line s words lines c s' lines' (inr (v, is, inr l)) = (keywords.Grid, l.0.0, l.0.1, (vec_items v, l.0.2, l.0.3, l.1, l.2, l.3, l.4))

-- words say one frame only, and no frame where another command says something
frame_same : (k : Command) (s : Option (Axis → ℕ)) (words : List (List ℕ)) (c d : Call) → SaysAlone k words c → SaysAlone k words d → frame_after s c ≡ frame_after s d
frame_same commands.Frame s words c d p q =
    let t = three_same words _ _ _ _ _ _ p.3 q.3 in
    ap (frame_after s) p.4 ∙ (λ i. new_frame (t.0 i) (t.1 i) (t.2 i)) ∙ ap (frame_after s) (sym q.4)
frame_same commands.Table s words c d p q = ap (frame_after s) p.6 ∙ ap (frame_after s) (sym q.6)
frame_same commands.Count s words c d p q = ap (frame_after s) p.1 ∙ ap (frame_after s) (sym q.1)
frame_same commands.Corners s words c d p q = ap (frame_after s) p.1 ∙ ap (frame_after s) (sym q.1)
frame_same commands.Inspect s words c d p q = ap (frame_after s) p.2 ∙ ap (frame_after s) (sym q.2)
frame_same commands.Cut s words c d p q = ap (frame_after s) p.2 ∙ ap (frame_after s) (sym q.2)
frame_same commands.Volume s words c d p q = ap (frame_after s) p.1 ∙ ap (frame_after s) (sym q.1)
frame_same commands.Find s words c d p q = ap (frame_after s) p.4 ∙ ap (frame_after s) (sym q.4)
frame_same commands.Neighbour s words c d p q = ap (frame_after s) p.6 ∙ ap (frame_after s) (sym q.6)
frame_same commands.Reopen s words c d p q = ap (frame_after s) p.1 ∙ ap (frame_after s) (sym q.1)

-- a line leaves one state only
pub line_same : (k : Keyword) (s : Option (Axis → ℕ)) (words lines : List (List ℕ)) (s1 s2 : Option (Axis → ℕ)) (l1 l2 : List (List ℕ)) → Line k s words lines s1 l1 → Line k s words lines s2 l2 → (s1 ≡ s2) × (l1 ≡ l2)
line_same keywords.Scan s words lines s1 s2 l1 l2 p q =
    let e : Some p.0 ≡ Some q.0 = sym p.2 ∙ q.2 in
    let same : p.0 ≡ q.0 = cc in
    (p.4 ∙ sym q.4, p.5 ∙ ap (λ t. drop (t X * t Y) lines) same ∙ sym q.5)
line_same keywords.Grid s words lines s1 s2 l1 l2 p q =
    (p.5 ∙ sym q.5, p.6 ∙ ap (λ n. drop n lines) (then_same words [] [] _ _ p.1 q.1).0 ∙ sym q.6)
line_same (keywords.Alone k) s words lines s1 s2 l1 l2 p q =
    (p.2 ∙ frame_same k s words p.0 q.0 p.1 q.1 ∙ sym q.2, p.3 ∙ sym q.3)

-- lines that can be read, where the first begins with a keyword: what it says, and what is left
abbrev Goes : Keyword → Option (Axis → ℕ) → List (List ℕ) → List (List ℕ) → Type 0
Goes k s a lines = (s' : Option (Axis → ℕ)) × (lines' : List (List ℕ)) × Line k s a lines s' lines' × Readable s' lines'

module _ (s : Option (Axis → ℕ)) (line : List ℕ) (lines : List (List ℕ)) where
  begins : (w : List ℕ) (a : List (List ℕ)) → words_of line ≡ w ∷ a → (calls : List Call) → Reads s (line ∷ lines) calls → (k : Keyword) × (w ≡ keyword_word k) × Goes k s a lines
  begins w a is calls (skipped none rest) = cc
  begins w a is (call ∷ calls) (said says rest) =
      let l = says_line s (words_of line) lines call _ _ says in
      let e : w ∷ a ≡ keyword_word l.0 ∷ l.1 = sym is ∙ l.2 in
      let head : w ≡ keyword_word l.0 = cc in
      let tail : l.1 ≡ a = cc in
      (l.0, head, subst (λ b. Goes l.0 s b lines) tail (_, _, l.3, (calls, rest)))

  goes : (k : Keyword) (a : List (List ℕ)) → words_of line ≡ keyword_word k ∷ a → Readable s (line ∷ lines) → Goes k s a lines
  goes k a is r =
      let b = begins (keyword_word k) a is r.0 r.1 in
      subst (λ j. Goes j s a lines) (sym (spelled_once k b.0 b.1)) b.2

  -- a line that does not begin with a keyword, and one that does not go on as its keyword asks
  module _ (w : List ℕ) (a : List (List ℕ)) (is : words_of line ≡ w ∷ a) where
    pub no_keyword : ((k : Keyword) → w ≡ keyword_word k → ⊥) → Readable s (line ∷ lines) → ⊥
    no_keyword none r =
        let b = begins w a is r.0 r.1 in
        none b.0 b.1

    pub no_call : (k : Keyword) → w ≡ keyword_word k → NoLine k s a lines → Readable s (line ∷ lines) → ⊥
    no_call k spelled none r =
        let g = goes k a (is ∙ ap (λ v. v ∷ a) spelled) r in
        none g.0 g.1 g.2

  -- after a line, lines that could be read can be read on
  pub on_said : (call : Call) (s1 : Option (Axis → ℕ)) (l1 : List (List ℕ)) → Says s (words_of line) lines call s1 l1 → Readable s (line ∷ lines) → Readable s1 l1
  on_said call s1 l1 says r =
      let l = says_line s (words_of line) lines call s1 l1 says in
      let g = goes l.0 l.1 l.2 r in
      let next = line_same l.0 s l.1 lines _ _ _ _ g.2 l.3 in
      subst (λ t. Readable t l1) next.0 (subst (λ ls. Readable g.0 ls) next.1 g.3)

  skip : words_of line ≡ [] → (calls : List Call) → Reads s (line ∷ lines) calls → Readable s lines
  skip none calls (skipped _ rest) = (calls, rest)
  skip none (call ∷ calls) (said says rest) =
      let words = (says_line s (words_of line) lines call _ _ says).2 in
      cc

pub on_skipped : (line : List ℕ) (a b : Reader) (o : Option Call) → IfNone o ((words_of line ≡ []) × (b ≡ a)) → o ≡ None → Readable (force a) (line ∷ left a.text) → Readable (force b) (left b.text)
on_skipped line a b o blank is r =
    let none = MatchOption-at_none _ _ is blank in
    subst (λ t. Readable (force t) (left t.text)) (sym none.1) (skip _ line _ none.0 r.0 r.1)
