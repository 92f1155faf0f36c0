use Rattle.piles.specs.Piles.{pile_size}
use Rattle.piles.proofs.pile.Pile.+duplicate.Given as goal

abbrev pub decreases-duplicate : goal.decreases-duplicate
decreases-duplicate l = pile_size l.self.now
