use Rattle.std.proofs.Common.{refl, inl, inr, rules}
use Rattle.job.proofs.reader.Reader.read_scan.Goals as goal

pub returns-clause-says : goal.returns-clause-says
returns-clause-says c = inr (_, refl, inl (search rules))
