-- A tally counts the answers of a kind.
use Rattle.std.proofs.Common.{◌≡◌, ℕ, ◌+◌, Bool, true, false, cond, List, map, refl, zero-add}
use Rattle.std.specs.List.{count_by}
use Rattle.std.proofs.lemmas.List.Recursion.{is_count_by}
use Rattle.script.specs.Scripts.{reply_of}
use Rattle.script.specs.Tallies.{how_many, kind_of, same_kind}
use Rattle.script.specs.declared.call.Answer.{Answer}
use Rattle.script.specs.declared.tally.Kind.{Kind}
use Rattle.body.specs.Solids.{one}

pub how_many_counts : (sought : Kind) (answers : List Answer) → how_many sought (map reply_of answers) ≡ count_by (λ a. same_kind (kind_of (reply_of a)) sought) answers
how_many_counts sought = is_count_by (λ l. how_many sought (map reply_of l)) (λ a. same_kind (kind_of (reply_of a)) sought) refl (λ a l. more (same_kind (kind_of (reply_of a)) sought) (how_many sought (map reply_of l)))
  where
    more : (b : Bool) (n : ℕ) → one b + n ≡ cond b (1 + n) n
    more true n = refl
    more false n = zero-add n
