use Rattle.std.proofs.Common.{◌≡◌, drop, vec_items, vec_len}
use Rattle.job.specs.Jobs.{Later, Numbers, left}
use Rattle.job.proofs.reader.read_words.Given as goal

abbrev pub invariant-loop : goal.invariant-loop
invariant-loop l =
    Later l.initial.text l.text
    × (vec_len l.words ≡ l.counter)
    × Numbers (vec_items l.words) (left l.initial.text)
    × (left l.text ≡ drop l.counter (left l.initial.text))
