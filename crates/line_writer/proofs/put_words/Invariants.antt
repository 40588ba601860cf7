use Prim.Native.Nat.{◌*◌}
use mathlib.Core.Path.{◌≡◌}
use Rattle.line_writer.proofs.Laws.{Going}
use Rattle.line_writer.proofs.put_words.Given as goal

abbrev pub invariant-loop-k : goal.invariant-loop-k
invariant-loop-k l = record {
  same_buffer : l.w.out.ghost_name ≡ l.initial.w.out.ghost_name;
  going : Going l.image l.initial.w.out.now l.initial.w.at (4 * l.k) l.w.at l.w.out.now;
}
