use lib.ListN.{length, drop}
use Prim.Native.Nat.{◌+◌, ◌<◌, ◌^◌}
use mathlib.Core.Path.{◌≡◌}
use Rattle.text.specs.Hex.{hex_of, spell}
use Rattle.text.proofs.Writer.put_hex.Given as goal

abbrev pub invariant-loop-v : goal.invariant-loop-v
invariant-loop-v l = (l.i < 8) × (length l.buf ≡ 8) × (l.v < 16 ^ (l.i + 1)) × (hex_of l.n ≡ spell (l.i + 1) l.v (drop (l.i + 1) l.buf))

abbrev pub decreases-loop-v : goal.decreases-loop-v
decreases-loop-v l = l.v
