-- Lists that are made part by part, and tables that take a list at their front.
use Rattle.std.specs.Prelude.{ℕ, zero, suc, ◌+◌, min, cond, List, [], ◌∷◌, ◌++◌, length, take, Some, None, Option, nat_le, nat_lt, slice_set}

-- the lists f i, f (i + 1), .., k of them, one after the other
unfoldable pub listed : {A : Type 0} → (ℕ → List A) → ℕ → ℕ → List A
listed f zero i = []
listed f (suc k) i = f i ++ listed f k (suc i)

-- how much of a table is used: its length, but at most 65,536 entries
abbrev pub capacity : {A : Type 0} → List A → ℕ
capacity table = min (length table) 65536

-- a list laid over the front of a table, as far as the table goes; later entries stay
unfoldable pub overlay : {A : Type 0} → List A → List A → List A
overlay [] table = table
overlay (x ∷ l) [] = []
overlay (x ∷ l) (y ∷ table) = x ∷ overlay l table

-- what a write leaves: the number of entries written or in use, or none where the table was too short,
-- and the table
pub record Written (A : Type 0) : Type 0 where
  pub count : Option ℕ
  pub table : List A

-- a list written to the front of a table, as far as the table goes
abbrev pub placed : {A : Type 0} → List A → List A → Written A
placed l table = record { count = cond (nat_le (length l) (length table)) (Some (length l)) None; table = overlay l table }

-- a list written into a table of which n entries are in use, entry by entry until it is full: how many
-- are then in use
unfoldable pub write_on : {A : Type 0} → ℕ → List A → List A → Written A
write_on n [] table = record { count = Some n; table = table }
write_on n (x ∷ l) table = cond (nat_lt n (length table)) (write_on (n + 1) l (slice_set table n x)) (record { count = None; table = table })

-- a list written to the front of a table: its length, or none where it is longer than the capacity;
-- the table then begins with the list, or with as much of it as the capacity takes
abbrev pub filled : {A : Type 0} → List A → List A → Written A
filled l table = record { count = cond (nat_le (length l) (capacity table)) (Some (length l)) None; table = overlay (take (capacity table) l) table }
