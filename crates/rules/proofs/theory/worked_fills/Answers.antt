use Rattle.rules.proofs.Worked.{fills}
use Rattle.rules.proofs.theory.worked_fills.Goals as goal

pub returns : goal.returns
returns c = fills
