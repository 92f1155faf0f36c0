-- Lists written behind the entries of a table that are in use, one entry after another.
use Rattle.std.proofs.Common.{◌≡◌, ℕ, suc, ◌+◌, ◌-◌, ◌<◌, ◌≤◌, ◌⊎◌, inl, inr, Bool, true, false, cond, ltb, leb, min, List, [], ◌∷◌, ◌++◌, length, take, drop, set, Some, None, Option, sym, refl, ap, ◌∙◌, append_assoc, add-zero, arith, length-append, take-append-drop}
use borrow.Rule.Slice.PartMut.{put_mid}
use lib.Dec.{leb-zero, leb-suc-zero, leb-suc-suc}
use lib.Seq.{set_at}
use Rattle.std.proofs.lemmas.List.{append-nil, drop_all, length-drop, length-take-le, length_push, take_all}
use Rattle.std.proofs.lemmas.Bool.{lt-ltb, le-ltb, le-leb, lt-leb, leb-true, leb-false, cond-true, cond-false}
use Rattle.tables.specs.Tables.{Written, write_on, overlay, placed}
use Rattle.tables.proofs.Placing.{both, placed_count, placed_full, put_rest, rest_is}

-- going on after a write
abbrev pub then_write : {A : Type 0} → Option ℕ → List A → List A → Written A
then_write (Some n) table l = write_on n l table
then_write None table l = record { count = None; table = table }

module _ {A : Type 0} where
  pub write_none : (n : ℕ) (table : List A) → write_on n [] table ≡ record { count = Some n; table = table }
  unfolding write_on
  write_none n table = refl

  pub write_fits : (n : ℕ) (x : A) (l table : List A) → n < length table → write_on n (x ∷ l) table ≡ write_on (n + 1) l (set table n x)
  unfolding write_on
  write_fits n x l table h = cond-true _ _ _ (lt-ltb n (length table) h)

  pub write_full : (n : ℕ) (x : A) (l table : List A) → length table ≤ n → write_on n (x ∷ l) table ≡ record { count = None; table = table }
  unfolding write_on
  write_full n x l table h = cond-false _ _ _ (le-ltb n (length table) h)

  pub write_append : (n : ℕ) (l m table : List A) → write_on n (l ++ m) table ≡ then_write (write_on n l table).count (write_on n l table).table m
  unfolding write_on
  write_append n [] m table = refl
  write_append n (x ∷ l) m table = go (ltb n (length table)) (write_append (n + 1) l m (set table n x))
    where
      go : (b : Bool) → write_on (n + 1) (l ++ m) (set table n x) ≡ then_write (write_on (n + 1) l (set table n x)).count (write_on (n + 1) l (set table n x)).table m
          → cond b (write_on (n + 1) (l ++ m) (set table n x)) (record { count = None; table = table }) ≡ then_write (cond b (write_on (n + 1) l (set table n x)) (record { count = None; table = table })).count (cond b (write_on (n + 1) l (set table n x)) (record { count = None; table = table })).table m
      go true e = e
      go false e = refl

  -- a write that went on, or stopped, and the list that it began
  pub write_went_on : (n used : ℕ) (l m table after : List A) (r : Option ℕ) → ◌≡◌ {A = Written A} (record { count = r; table = after }) (write_on n l table) → r ≡ Some used → write_on used m after ≡ write_on n (l ++ m) table
  write_went_on n used l m table after r e is =
      sym (write_append n l m table ∙ ap (λ w. then_write w.count w.table m) (sym e) ∙ ap (λ o. then_write o after m) is)

  pub write_stopped : (n : ℕ) (l m table after : List A) (r : Option ℕ) → ◌≡◌ {A = Written A} (record { count = r; table = after }) (write_on n l table) → r ≡ None → ◌≡◌ {A = Written A} (record { count = None; table = after }) (write_on n (l ++ m) table)
  write_stopped n l m table after r e is =
      sym (write_append n l m table ∙ ap (λ w. then_write w.count w.table m) (sym e) ∙ ap (λ o. then_write o after m) is)

  -- written behind the entries in front, a list lies over what stood there, and is cut off at the table's end
  pub write_over : (front l table : List A) → write_on (length front) l (front ++ table) ≡ record { count = cond (leb (length l) (length table)) (Some (length front + length l)) None; table = front ++ overlay l table }
  unfolding overlay
  write_over front [] table =
      write_none _ _ ∙ ap (λ n. record { count = Some n; table = front ++ table }) (sym (add-zero (length front))) ∙ ap (λ b. record { count = cond b (Some (length front + 0)) None; table = front ++ table }) (sym (leb-zero (length table)))
  write_over front (x ∷ l) [] =
      write_full _ _ _ _ (omega (arith, length-append front [])) ∙ ap (λ b. record { count = cond b (Some (length front + suc (length l))) None; table = front ++ [] }) (sym (leb-suc-zero (length l)))
  write_over front (x ∷ l) (y ∷ table) =
      let n = length front in
      let longer : length (front ++ x ∷ []) ≡ n + 1 = length_push front x in
      let room : n < length (front ++ y ∷ table) = omega (arith, length-append front (y ∷ table)) in
      let placed : set (front ++ y ∷ table) n x ≡ (front ++ x ∷ []) ++ table = set_at front y table x n refl ∙ sym (append_assoc front (x ∷ []) table) in
      let rest = write_over (front ++ x ∷ []) l table in
      write_fits n x l (front ++ y ∷ table) room
      ∙ ap (λ k. write_on k l (set (front ++ y ∷ table) n x)) (sym longer)
      ∙ ap (λ t. write_on (length (front ++ x ∷ [])) l t) placed
      ∙ rest
      ∙ ap (λ k. record { count = cond (leb (length l) (length table)) (Some k) None; table = (front ++ x ∷ []) ++ overlay l table }) (omega (arith, longer))
      ∙ ap (λ t. record { count = cond (leb (length l) (length table)) (Some (n + suc (length l))) None; table = t }) (append_assoc front (x ∷ []) (overlay l table))
      ∙ ap (λ b. record { count = cond b (Some (n + suc (length l))) None; table = front ++ (x ∷ overlay l table) }) (sym (leb-suc-suc (length l) (length table)))

  -- behind more entries than there are nothing fits
  write_past : (n : ℕ) (l table : List A) → length table ≤ n → write_on n l table ≡ record { count = cond (leb (length l) 0) (Some (n + length l)) None; table = table ++ overlay l [] }
  unfolding overlay
  write_past n [] table over = write_none n table ∙ ap (λ k. record { count = Some k; table = table }) (sym (add-zero n)) ∙ ap (λ t. record { count = Some (n + 0); table = t }) (sym (append-nil table))
  write_past n (x ∷ l) table over =
      write_full n x l table over
      ∙ ap (λ t. record { count = None; table = t }) (sym (append-nil table))
      ∙ ap (λ b. record { count = cond b (Some (n + suc (length l))) None; table = table ++ [] }) (sym (leb-suc-zero (length l)))

  -- a list written behind entries in use lies over what stood behind them, as far as the table goes
  pub write_on_is : (n : ℕ) (l table : List A) → write_on n l table ≡ record { count = cond (leb (length l) (length (drop n table))) (Some (n + length l)) None; table = take n table ++ overlay l (drop n table) }
  write_on_is n l table = go (leb n (length table)) refl
    where
      go : (b : Bool) → leb n (length table) ≡ b → write_on n l table ≡ record { count = cond (leb (length l) (length (drop n table))) (Some (n + length l)) None; table = take n table ++ overlay l (drop n table) }
      go true e =
          let front : length (take n table) ≡ n = length-take-le n table (leb-true _ _ e) in
          ap (λ t. write_on n l t) (sym (take-append-drop n table))
          ∙ ap (λ k. write_on k l (take n table ++ drop n table)) (sym front)
          ∙ write_over (take n table) l (drop n table)
          ∙ ap (λ k. record { count = cond (leb (length l) (length (drop n table))) (Some (k + length l)) None; table = take n table ++ overlay l (drop n table) }) front
      go false e =
          let over : length table ≤ n = omega (arith, leb-false _ _ e) in
          write_past n l table over
          ∙ ap (λ t. record { count = cond (leb (length l) (length t)) (Some (n + length l)) None; table = table ++ overlay l t }) (sym (drop_all n table over))
          ∙ ap (λ t. record { count = cond (leb (length l) (length (drop n table))) (Some (n + length l)) None; table = t ++ overlay l (drop n table) }) (sym (take_all n table over))

  -- the same by a list placed in the rest of the table, which is empty where fewer entries are there than are
  -- said to be in use
  module _ (n m : ℕ) (l table after : List A) (r : Option ℕ) (least : m ≡ min n (length table)) (e : ◌≡◌ {A = Written A} (record { count = r; table = after }) (placed l (take (length table - m) (drop m table)))) where
    front : (b : Bool) → leb n (length table) ≡ b → (take m table ≡ take n table) × (drop m table ≡ drop n table)
    front true h =
        let same : m ≡ n = omega (arith, least, leb-true _ _ h) in
        (ap (λ k. take k table) same, ap (λ k. drop k table) same)
    front false h =
        let over = leb-false _ _ h in
        let here : length table ≤ m = omega (arith, least, over) in
        (take_all m table here ∙ sym (take_all n table (omega (arith, over))), drop_all m table here ∙ sym (drop_all n table (omega (arith, over))))

    same : (take m table ≡ take n table) × (drop m table ≡ drop n table)
    same = front (leb n (length table)) refl

    rest : ◌≡◌ {A = Written A} (record { count = r; table = after }) (placed l (drop n table))
    rest = e ∙ ap (placed l) (rest_is m table ∙ same.1)

    there : put_mid m (length table - m) table after ≡ take n table ++ overlay l (drop n table)
    there = put_rest m table after ∙ ap (λ t. t ++ after) same.0 ∙ ap (λ t. take n table ++ t) (ap (λ w. w.table) rest)

    pub behind_went : (k : ℕ) → r ≡ Some k → (n + k ≤ length table ⊎ k ≡ 0) × ◌≡◌ {A = Written A} (record { count = Some (n + k); table = put_mid m (length table - m) table after }) (write_on n l table)
    behind_went k is =
        let p = placed_count l (drop n table) after r k rest is in (
          room (leb n (length table)) refl,
          both (ap (λ i. Some (n + i)) p.0 ∙ sym (cond-true _ _ _ (le-leb _ _ p.1))) there ∙ sym (write_on_is n l table),
        )
      where
        room : (b : Bool) → leb n (length table) ≡ b → n + k ≤ length table ⊎ k ≡ 0
        room true h = inl (let p = placed_count l (drop n table) after r k rest is in omega (arith, p.0, p.1, length-drop n table, leb-true _ _ h))
        room false h = inr (let p = placed_count l (drop n table) after r k rest is in omega (arith, p.0, p.1, length-drop n table, leb-false _ _ h))

    pub behind_stopped : r ≡ None → ◌≡◌ {A = Written A} (record { count = None; table = put_mid m (length table - m) table after }) (write_on n l table)
    behind_stopped is = both (sym (cond-false _ _ _ (lt-leb _ _ (placed_full l (drop n table) after r rest is)))) there ∙ sym (write_on_is n l table)
