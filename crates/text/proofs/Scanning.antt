-- Words as lists of bits, and the parts of a list of cells that they hold.
use Rattle.std.proofs.Common.{◌≡◌, ℕ, zero, suc, ◌+◌, ◌*◌, ◌^◌, ◌<◌, ◌≤◌, Bool, true, false, eqb, List, [], ◌∷◌, ◌++◌, length, get_or, take, sym, refl, ap, ◌∙◌, pow-suc, arith, length-append, pow_mono}
use mir.Val.{bool_byte}
use Rattle.std.proofs.lemmas.Nat.{div-mul-add, mod-mul-add}
use Rattle.std.proofs.lemmas.List.{append_assoc, map_more, length-take, take_all}
use Rattle.body.specs.Grids.{bit}
use Rattle.body.specs.Solids.{one}
use Rattle.text.specs.Scans.{row_cells, solid_byte, word_of}

-- a bool as a number
pub byte_one : (b : Bool) → bool_byte b ≡ one b
byte_one true = refl
byte_one false = refl

pub one_below : (b : Bool) → one b < 2
one_below true = omega arith
one_below false = omega arith

one_test : (b : Bool) → eqb (one b) 1 ≡ b
one_test true = refl
one_test false = refl

pub word_below : (bs : List Bool) → word_of bs < 2 ^ length bs
word_below [] = omega arith
word_below (b ∷ bs) = omega (arith, word_below bs, one_below b, pow-suc 2 (length bs))

-- where a cell of at most 64 is ahead of those behind, their word has room for it
pub word_fits : (ahead behind cells : List Bool) → 0 < length ahead → ahead ++ behind ≡ cells → length cells ≤ 64 → word_of behind * 2 + 1 < 2 ^ 64
word_fits ahead behind cells some is few =
    omega (arith, word_below behind, ap length is, length-append ahead behind, pow_mono {i = length behind} {j = 63} (omega (arith, ap length is, length-append ahead behind)))

bit_none : (k : ℕ) → bit 0 k ≡ false
bit_none zero = refl
bit_none (suc k) = bit_none k

-- the bits of a word are those that it is made of
pub bit_word : (bs : List Bool) (k : ℕ) → bit (word_of bs) k ≡ get_or bs k false
bit_word [] k = bit_none k
bit_word (b ∷ bs) zero = ap (λ r. eqb r 1) (mod-mul-add (word_of bs) 2 (one b) (one_below b)) ∙ one_test b
bit_word (b ∷ bs) (suc k) = ap (λ w. bit w k) (div-mul-add (word_of bs) 2 (one b) (one_below b)) ∙ bit_word bs k

pub length_part : {A : Type 0} (n : ℕ) (xs part : List A) → part ≡ take n xs → length part ≤ n
length_part n xs part e = omega (arith, ap length e ∙ length-take n xs)

-- a row's cells behind others, one cell more and all of them
pub cells_more : (front before after : List Bool) (row : List ℕ) (i : ℕ) (x : Bool) → i < length row → before ≡ front ++ row_cells (take i row) → x ≡ solid_byte (get_or row i 0) → after ≡ before ++ x ∷ [] → after ≡ front ++ row_cells (take (i + 1) row)
cells_more front before after row i x h b is a =
    a
    ∙ ap (λ xs. xs ++ x ∷ []) b
    ∙ append_assoc front (row_cells (take i row)) (x ∷ [])
    ∙ ap (λ xs. front ++ xs) (ap (λ y. row_cells (take i row) ++ y ∷ []) is ∙ sym (map_more solid_byte row i 0 h))

pub cells_all : (front : List Bool) (row : List ℕ) (i : ℕ) → length row ≤ i → front ++ row_cells (take i row) ≡ front ++ row_cells row
cells_all front row i h = ap (λ r. front ++ row_cells r) (take_all i row h)
