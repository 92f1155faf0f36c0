-- Lines that say plain calls by themselves say those calls as lines of a job, and no others.
use Rattle.std.proofs.Common.{◌≡◌, ℕ, List, [], ◌∷◌, length, map, Some, None, codes, Option, sym, refl, ap, ap₂, ◌∙◌, subst, inl, inr, arith}
use Rattle.geometry.specs.declared.axis.Axis.{Axis}
use Rattle.script.specs.Plain.{PlainCall, call_of, corner_table, corners, count, frame, grid}
use Rattle.script.specs.declared.call.Call.{Call}
use Rattle.script.specs.declared.call.Call.TheVariants.{Make, SetTable, OnBlock, Cut, OnCut}
use Rattle.script.specs.declared.call.MakeCall.TheVariants as makes
use Rattle.script.specs.declared.call.Table.TheVariants as tables
use Rattle.script.specs.declared.call.BlockCall.TheVariants as blocks
use Rattle.job.specs.Jobs.{Reads, Says, SaysAlone, command_word, ended, frame_after, keyword_word, said, skipped}
use Rattle.job.specs.Plain as plain
use Rattle.job.specs.declared.line.Command.{Command}
use Rattle.job.specs.declared.line.Command.TheVariants as commands
use Rattle.job.specs.declared.reader.Keyword.{Keyword}
use Rattle.job.specs.declared.reader.Keyword.TheVariants as keywords
use Rattle.job.specs.Lines.{Line}
use Rattle.job.proofs.Refusing.{line_same, says_line, spelled_once}
use Rattle.text.specs.Texts.{words_of}

-- a line that says a plain call says that call
says_plainly : (s s' : Option (Axis → ℕ)) (words lines lines' : List (List ℕ)) (c : PlainCall) → plain.Says s words lines c s' lines' → Says s words lines (call_of c) s' lines'
says_plainly s s' words lines lines' (frame x y z) p =
    inl (commands.Frame, p.0.0, p.0.1.1.0, (x, y, z, (p.0.1.0, p.0.1.1.2.0, p.0.1.1.1, p.0.1.1.2.1, p.0.1.1.2.2), refl), p.1, p.2)
says_plainly s s' words lines lines' (corner_table n) p =
    inl (commands.Table, codes "corners" ∷ p.0.0, p.0.1, (tables.Corners, n, p.0.0, refl, p.0.2, p.0.3, refl), p.1, p.2)
says_plainly s s' words lines lines' (grid v) p = inr (v, refl, p)
says_plainly s s' words lines lines' count p = inl (commands.Count, [], p.0, (refl, refl), p.1, p.2)
says_plainly s s' words lines lines' corners p = inl (commands.Corners, [], p.0, (refl, refl), p.1, p.2)

pub reads_plainly : (s : Option (Axis → ℕ)) (lines : List (List ℕ)) (cs : List PlainCall) → plain.Reads s lines cs → Reads s lines (map call_of cs)
reads_plainly s lines cs plain.ended = ended
reads_plainly s lines cs (plain.skipped none rest) = skipped none (reads_plainly _ _ _ rest)
reads_plainly s lines cs (plain.said says rest) = said (says_plainly _ _ _ _ _ _ says) (reads_plainly _ _ _ rest)

-- the plain call that a call is, if it is one
plain_part : Call → Option PlainCall
plain_part (Make (makes.Frame x y z)) = Some (frame x y z)
plain_part (Make (makes.Grid v)) = Some (grid v)
plain_part (SetTable tables.Corners n) = Some (corner_table n)
plain_part (SetTable tables.Boxes n) = None
plain_part (OnBlock blocks.Count) = Some count
plain_part (OnBlock blocks.Corners) = Some corners
plain_part (OnBlock (blocks.Inspect o)) = None
plain_part (Cut o) = None
plain_part (OnCut c) = None

part_of_call : (c : PlainCall) → plain_part (call_of c) ≡ Some c
unfolding plain_part
part_of_call (frame x y z) = refl
part_of_call (corner_table n) = refl
part_of_call (grid v) = refl
part_of_call count = refl
part_of_call corners = refl

-- a line that says a plain call among others says it by itself
module _ (s s' : Option (Axis → ℕ)) (words lines lines' : List (List ℕ)) (call : Call) (c : PlainCall) (part : plain_part call ≡ Some c) where
  said_part : (d : PlainCall) → plain_part call ≡ Some d → plain.Says s words lines d s' lines' → plain.Says s words lines c s' lines'
  said_part d e says =
      let both : Some d ≡ Some c = sym e ∙ part in
      let same : d ≡ c = cc in
      subst (λ k. plain.Says s words lines k s' lines') same says

  not_said : {C : Type 0} → plain_part call ≡ None → C
  not_said e = let none : None ≡ Some c = sym e ∙ part in cc

  alone_part : (k : Command) (a : List (List ℕ)) → words ≡ command_word k ∷ a → SaysAlone k a call → s' ≡ frame_after s call → lines' ≡ lines → plain.Says s words lines c s' lines'
  unfolding plain_part
  alone_part commands.Frame a is p after left =
      said_part (frame p.0 p.1 p.2) (ap plain_part p.4) ((a, (p.3.0, (is, p.3.2, (p.3.1, p.3.3, p.3.4)))), after ∙ ap (frame_after s) p.4, left)
  alone_part commands.Table a is (tables.Corners, n, b, words_are, only, most, call_is) after left =
      said_part (corner_table n) (ap plain_part call_is) ((b, is ∙ ap (λ l. codes "table" ∷ l) words_are, only, most), after ∙ ap (frame_after s) call_is, left)
  alone_part commands.Table a is (tables.Boxes, n, b, words_are, only, most, call_is) after left = not_said (ap plain_part call_is)
  alone_part commands.Count a is p after left =
      said_part count (ap plain_part p.1) (is ∙ ap (λ l. codes "count" ∷ l) p.0, after ∙ ap (frame_after s) p.1, left)
  alone_part commands.Corners a is p after left =
      said_part corners (ap plain_part p.1) (is ∙ ap (λ l. codes "corners" ∷ l) p.0, after ∙ ap (frame_after s) p.1, left)
  alone_part commands.Inspect a is p after left = not_said (ap plain_part p.2)
  alone_part commands.Cut a is p after left = not_said (ap plain_part p.2)
  alone_part commands.Volume a is p after left = not_said (ap plain_part p.1)
  alone_part commands.Find a is p after left = not_said (ap plain_part p.4)
  alone_part commands.Neighbour a is p after left = not_said (ap plain_part p.6)
  alone_part commands.Reopen a is p after left = not_said (ap plain_part p.1)

  says_part : Says s words lines call s' lines' → plain.Says s words lines c s' lines'
  unfolding plain_part
  says_part (inl l) = alone_part l.0 l.1 l.2 l.3 l.4 l.5
  says_part (inr (v, is, says)) = said_part (grid v) (ap plain_part is) says

-- lines that say plain calls among others say them by themselves
pub plain_reads : (s : Option (Axis → ℕ)) (lines : List (List ℕ)) (calls : List Call) → Reads s lines calls → (cs : List PlainCall) → calls ≡ map call_of cs → plain.Reads s lines cs
plain_reads s lines calls ended [] is = plain.ended
plain_reads s lines calls ended (c ∷ cs) is = cc
plain_reads s lines calls (skipped none rest) cs is = plain.skipped none (plain_reads _ _ _ rest cs is)
plain_reads s lines calls (said says rest) [] is = cc
plain_reads s lines (call ∷ calls) (said says rest) (c ∷ cs) is =
    let head : call ≡ call_of c = cc in
    let tail : calls ≡ map call_of cs = cc in
    plain.said (says_part _ _ _ _ _ call c (ap plain_part head ∙ part_of_call c) says) (plain_reads _ _ _ rest cs tail)

-- the words behind a keyword, where it says plain calls only
abbrev Plain : Keyword → List (List ℕ) → Type 0
Plain keywords.Scan words = Unit
Plain keywords.Grid words = Unit
Plain (keywords.Alone commands.Frame) words = Unit
Plain (keywords.Alone commands.Table) words = (a : List (List ℕ)) × (words ≡ codes "corners" ∷ a)
Plain (keywords.Alone commands.Count) words = Unit
Plain (keywords.Alone commands.Corners) words = Unit
Plain (keywords.Alone commands.Inspect) words = ⊥
Plain (keywords.Alone commands.Cut) words = ⊥
Plain (keywords.Alone commands.Volume) words = ⊥
Plain (keywords.Alone commands.Find) words = ⊥
Plain (keywords.Alone commands.Neighbour) words = ⊥
Plain (keywords.Alone commands.Reopen) words = ⊥

-- words that begin with such a keyword
abbrev PlainWords : List (List ℕ) → Type 0
PlainWords words = (k : Keyword) × (a : List (List ℕ)) × (words ≡ keyword_word k ∷ a) × Plain k a

plain_words : (s s' : Option (Axis → ℕ)) (words lines lines' : List (List ℕ)) (c : PlainCall) → plain.Says s words lines c s' lines' → PlainWords words
plain_words s s' words lines lines' (frame x y z) p = (keywords.Alone commands.Frame, p.0.0, p.0.1.1.0, tt)
plain_words s s' words lines lines' (corner_table n) p = (keywords.Alone commands.Table, codes "corners" ∷ p.0.0, p.0.1, (p.0.0, refl))
plain_words s s' words lines lines' (grid v) (inl p) = (keywords.Scan, [], p.0, tt)
plain_words s s' words lines lines' (grid v) (inr p) = (keywords.Grid, p.0.0, p.0.1, tt)
plain_words s s' words lines lines' count p = (keywords.Alone commands.Count, [], p.0, tt)
plain_words s s' words lines lines' corners p = (keywords.Alone commands.Corners, [], p.0, tt)

-- behind such a keyword a plain call is said
abbrev IsPlain : Call → Type 0
IsPlain call = (d : PlainCall) × (call ≡ call_of d)

plain_alone : (k : Command) (a : List (List ℕ)) (call : Call) → Plain (keywords.Alone k) a → SaysAlone k a call → IsPlain call
plain_alone commands.Frame a call so p = (frame p.0 p.1 p.2, p.4)
plain_alone commands.Table a call so (tables.Corners, n, b, words_are, only, most, call_is) = (corner_table n, call_is)
plain_alone commands.Table a call so (tables.Boxes, n, b, words_are, only, most, call_is) =
    let e : codes "corners" ∷ so.0 ≡ codes "boxes" ∷ b = sym so.1 ∙ words_are in
    let same : codes "corners" ≡ codes "boxes" = cc in
    let z : ◌≡◌ {A = ℕ} 7 5 = ap length same in
    absurd (omega arith)
plain_alone commands.Count a call so p = (count, p.1)
plain_alone commands.Corners a call so p = (corners, p.1)
plain_alone commands.Inspect a call so p = absurd so
plain_alone commands.Cut a call so p = absurd so
plain_alone commands.Volume a call so p = absurd so
plain_alone commands.Find a call so p = absurd so
plain_alone commands.Neighbour a call so p = absurd so
plain_alone commands.Reopen a call so p = absurd so

-- words begin with one keyword only
same_keyword : (words a b : List (List ℕ)) (k j : Keyword) → words ≡ keyword_word k ∷ a → words ≡ keyword_word j ∷ b → (k ≡ j) × (a ≡ b)
same_keyword words a b k j p q =
    let e : keyword_word k ∷ a ≡ keyword_word j ∷ b = sym p ∙ q in
    let head : keyword_word k ≡ keyword_word j = cc in
    (spelled_once k j head, (cc))

plain_line : (s s' : Option (Axis → ℕ)) (words lines lines' : List (List ℕ)) (call : Call) → PlainWords words → Says s words lines call s' lines' → IsPlain call
plain_line s s' words lines lines' call so (inl l) =
    let same = same_keyword words _ _ so.0 (keywords.Alone l.0) so.2 l.2 in
    plain_alone l.0 l.1 call (subst (λ w. Plain (keywords.Alone l.0) w) same.1 (subst (λ k. Plain k so.1) same.0 so.3)) l.3
plain_line s s' words lines lines' call so (inr (v, is, says)) = (grid v, is)

-- a line leaves one state only
says_same : (s s1 s2 : Option (Axis → ℕ)) (words lines l1 l2 : List (List ℕ)) (c d : Call) → Says s words lines c s1 l1 → Says s words lines d s2 l2 → (s1 ≡ s2) × (l1 ≡ l2)
says_same s s1 s2 words lines l1 l2 c d p q =
    let k = says_line s words lines c s1 l1 p in
    let j = says_line s words lines d s2 l2 q in
    let same = same_keyword words _ _ k.0 j.0 k.2 j.2 in
    line_same j.0 s j.1 lines s1 s2 l1 l2 (subst (λ w. Line j.0 s w lines s1 l1) same.1 (subst (λ i. Line i s k.1 lines s1 l1) same.0 k.3)) j.3

-- lines that say plain calls, where the first is blank, and where it says a call
module _ (s : Option (Axis → ℕ)) (line : List ℕ) (lines : List (List ℕ)) where
  blank_line : words_of line ≡ [] → (cs : List PlainCall) → plain.Reads s (line ∷ lines) cs → (ds : List PlainCall) × plain.Reads s lines ds
  blank_line none cs (plain.skipped _ rest) = (cs, rest)
  blank_line none (c ∷ cs) (plain.said says rest) =
      let words = (plain_words s _ (words_of line) lines _ c says).2 in
      cc

  said_line : (s1 : Option (Axis → ℕ)) (l1 : List (List ℕ)) (call : Call) → Says s (words_of line) lines call s1 l1 → (cs : List PlainCall) → plain.Reads s (line ∷ lines) cs → IsPlain call × ((ds : List PlainCall) × plain.Reads s1 l1 ds)
  said_line s1 l1 call says cs (plain.skipped none rest) =
      let words = (says_line s (words_of line) lines call s1 l1 says).2 in
      cc
  said_line s1 l1 call says (c ∷ cs) (plain.said {s' = s2} {lines' = l2} plainly rest) =
      let same = says_same s s2 s1 (words_of line) lines l2 l1 (call_of c) call (says_plainly _ _ _ _ _ _ plainly) says in (
        plain_line s s1 (words_of line) lines l1 call (plain_words _ _ _ _ _ _ plainly) says,
        (cs, subst (λ t. plain.Reads t l1 cs) same.0 (subst (λ l. plain.Reads s2 l cs) same.1 rest)),
      )

-- where lines say plain calls they say no others
pub plain_only : (s : Option (Axis → ℕ)) (lines : List (List ℕ)) (calls : List Call) → Reads s lines calls → (cs : List PlainCall) → plain.Reads s lines cs → (ds : List PlainCall) × (calls ≡ map call_of ds)
plain_only s lines calls ended cs plainly = ([], refl)
plain_only s (line ∷ lines) calls (skipped none rest) cs plainly =
    let next = blank_line s line lines none cs plainly in
    plain_only s lines calls rest next.0 next.1
plain_only s (line ∷ lines) (call ∷ calls) (said says rest) cs plainly =
    let first = said_line s line lines _ _ call says cs plainly in
    let next = plain_only _ _ calls rest first.1.0 first.1.1 in
    (first.0.0 ∷ next.0, ap₂ (λ (k : Call) (l : List Call). k ∷ l) first.0.1 next.1)
