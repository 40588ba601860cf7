use Prim.Native.Nat.{◌-◌}
use native.Mathlib.Omega.{arith}
use lib.Pow.{pow_pos}
use borrow.Author.Tests.{lt-ltb}
use Rattle.model.specs.step.Checks.{alignment_of}
use Rattle.model.proofs.Checks.{power_shift}
use Rattle.limits.proofs.root_alignment.Goals as goal

pub returns-then-split-lt15 : goal.returns-then-split-lt15
unfolding alignment_of
returns-then-split-lt15 c = let n = c.args.split in
    (simp (lt-ltb n 15 c.if-split-lt15.true), rw (power_shift 14 n (let h = c.if-split-lt15.true in omega arith)) (pow_pos (14 - n)))
