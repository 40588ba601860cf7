use Rattle.std.proofs.Common.{rules}
use Rattle.text.proofs.SplitLaws.{cut_some}
use Rattle.text.proofs.cut.Goals as goal

pub returns : goal.returns
returns c = cut_some c.args.b c.args.s.now c.in_ok-n.n (search rules)
