use Prim.Native.Nat.{◌≤◌, ◌<◌, ◌^◌}
use mathlib.Core.Path.{◌≡◌}
use mathlib.Core.Bool.{true}
use lib.ListN.{length, drop}
use Rattle.text.specs.Hex.{digits, number, lean}
use Rattle.text.proofs.read_value.Given as goal

abbrev pub invariant-loop-x : goal.invariant-loop-x
invariant-loop-x l = (length l.s ≤ 8) × (lean l.s ≡ true) × (l.v < 16 ^ l.x-index) × (digits l.s ≡ digits (drop l.x-index l.s)) × (number 0 l.s ≡ number l.v (drop l.x-index l.s))
