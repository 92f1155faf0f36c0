-- How many calls went one way.
use Rattle.std.specs.Prelude.{ℕ, ◌+◌, Bool, true, false, List, [], ◌∷◌}
use Rattle.body.specs.Solids.{one}
use Rattle.script.specs.Scripts.{Reply, boxed, counted, held_by, inspection, listed, measured, next, not_taken, overfull, refused, reopened}
use Rattle.script.specs.declared.tally.Kind.{Kind}
use Rattle.script.specs.declared.tally.Kind.TheVariants.{Granted, Refused, NotTaken}

abbrev pub kind_of : Reply → Kind
kind_of (counted n) = Granted
kind_of (listed l) = Granted
kind_of (inspection o i) = Granted
kind_of (boxed o l) = Granted
kind_of (overfull o e l) = Refused
kind_of (measured n) = Granted
kind_of (held_by o) = Granted
kind_of (next o) = Granted
kind_of reopened = Granted
kind_of (refused name e) = Refused
kind_of (not_taken name) = NotTaken

abbrev pub same_kind : Kind → Kind → Bool
same_kind Granted Granted = true
same_kind Granted Refused = false
same_kind Granted NotTaken = false
same_kind Refused Granted = false
same_kind Refused Refused = true
same_kind Refused NotTaken = false
same_kind NotTaken Granted = false
same_kind NotTaken Refused = false
same_kind NotTaken NotTaken = true

abbrev pub how_many : Kind → List Reply → ℕ
how_many k [] = 0
how_many k (r ∷ rs) = one (same_kind (kind_of r) k) + how_many k rs
