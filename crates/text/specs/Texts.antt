-- Texts: their lines, the words of a line, and the number that a word writes.
use Rattle.std.specs.Prelude.{ℕ, ◌+◌, ◌-◌, ◌*◌, ◌^◌, Bool, true, false, cond, ◌&&◌, ◌||◌, List, [], ◌∷◌, Some, None, Option, ◌==◌, nat_le, nat_lt}

-- a byte in front of the first of some pieces
abbrev pub onto : ℕ → List (List ℕ) → List (List ℕ)
onto b [] = (b ∷ []) ∷ []
onto b (piece ∷ pieces) = (b ∷ piece) ∷ pieces

-- a line feed comes next
abbrev pub feeds : List ℕ → Bool
feeds [] = false
feeds (b ∷ bs) = b == 10

-- the lines of a text: a line feed ends a line, and a carriage return before it is no part of the
-- line; the last line may lack its line feed
unfoldable pub lines_of : List ℕ → List (List ℕ)
lines_of [] = []
lines_of (b ∷ bs) = cond (b == 10) ([] ∷ lines_of bs) (cond (b == 13 && feeds bs) (lines_of bs) (onto b (lines_of bs)))

-- without a carriage return at the end
abbrev pub chomped : List ℕ → List ℕ
chomped [] = []
chomped (b ∷ []) = cond (b == 13) [] (b ∷ [])
chomped (b ∷ c ∷ bs) = b ∷ chomped (c ∷ bs)

-- a space or a tab
abbrev pub blank : ℕ → Bool
blank b = b == 32 || b == 9

-- a word ends here
abbrev pub ends_word : List ℕ → Bool
ends_word [] = true
ends_word (b ∷ bs) = blank b

-- the words of a line, between blanks
unfoldable pub words_of : List ℕ → List (List ℕ)
words_of [] = []
words_of (b ∷ bs) = cond (blank b) (words_of bs) (cond (ends_word bs) ((b ∷ []) ∷ words_of bs) (onto b (words_of bs)))

abbrev pub digit : ℕ → Bool
digit b = nat_le 48 b && nat_le b 57

-- the number that goes on from n by a digit, when the byte is one and the number fits 64 bits
abbrev pub digit_on : ℕ → ℕ → Option ℕ
digit_on n b = cond (digit b && nat_lt (n * 10 + (b - 48)) (2 ^ 64)) (Some (n * 10 + (b - 48))) None

-- the number that goes on from another by these digits, if there was one
abbrev pub number_on : Option ℕ → List ℕ → Option ℕ
number_on None bs = None
number_on (Some n) [] = Some n
number_on (Some n) (b ∷ bs) = number_on (digit_on n b) bs

-- the number that a word writes: decimal digits that fit 64 bits
abbrev pub number_of : List ℕ → Option ℕ
number_of [] = None
number_of (b ∷ bs) = number_on (Some 0) (b ∷ bs)
