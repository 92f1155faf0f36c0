-- What a constructor made, if it did not refuse.
use Rattle.std.proofs.Common.{◌≡◌, Bool, cond, Some, None, Ok, Err, Result, sym, ap, ◌∙◌}
use Rattle.std.specs.Option.{option_map}
use Rattle.std.specs.Result.{result_ok}
use Rattle.geometry.specs.Refusals.{Answers}
use Rattle.geometry.specs.declared.refusal.Refusal.{Refusal}

pub made_part : {A S : Type 0} (r : Result A Refusal) (fits : Bool) (f : A → S) (s : S) (e : Refusal) → Answers r fits (λ v. f v ≡ s) e → option_map f (result_ok r) ≡ cond fits (Some s) None
made_part (Ok v) fits f s e a = ap Some a.1 ∙ sym (ap (λ b. cond b (Some s) None) a.0)
made_part (Err d) fits f s e a = sym (ap (λ b. cond b (Some s) None) a.0)
