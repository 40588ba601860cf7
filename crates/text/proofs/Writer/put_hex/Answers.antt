use lib.ListN.{length, length-set}
use Prim.Native.Nat.{◌<◌, ◌≤◌, ◌+◌, ◌-◌}
use mathlib.Core.Path.{◌≡◌, refl, sym, ◌∙◌}
use native.Mathlib.Omega.{arith}
use Rattle.text.specs.Hex.{hex_of}
use Rattle.text.proofs.HexPut.{spelled_part, spell_turn, bound_turn, more_turns}
use Rattle.text.proofs.PutLaws.{put_fits}
use Rattle.text.proofs.HexLaws.{hex_length}
use Rattle.text.proofs.Writer.put_hex.Goals as goal

pub loop-v-init : goal.loop-v-init
unfolding hex_of
loop-v-init c = (omega arith, refl, c.ranges.n.fits, refl)

pub loop-v-preserved : goal.loop-v-preserved
loop-v-preserved c =
    let i = c.loop-v.i in
    let v = c.loop-v.v in
    let buf = c.loop-v.buf in
    let h : i < length buf = omega arith in
    let m : 1 ≤ i = more_turns (i + 1) i v buf (omega arith) h (omega arith) (omega arith) in
    let e : i - 1 + 1 ≡ i = omega arith in (
      omega arith,
      simp length-set c.loop-v.invariant.1,
      rw e (bound_turn (i + 1) i v buf (omega arith) h (omega arith)),
      c.loop-v.invariant.3 ∙ rw (c.glyph.ensures, e) (spell_turn (i + 1) i v buf (omega arith) h (omega arith)),
    )

pub returns-after-loop-v-clause-place : goal.returns-after-loop-v-clause-place
returns-after-loop-v-clause-place c =
    let n = c.args.n in
    let w = spelled_part n (c.loop-v.i + 1) c.loop-v.v c.glyph-then-has_room.result c.loop-v.buf c.loop-v.i (omega arith) (omega arith) c.loop-v.invariant.1 (omega arith) c.glyph-then-has_room.ensures c.loop-v.invariant.3 in
    rw w at c.put.ensures.place ∙ (put_fits 8 c.args.self.now.out.now c.args.self.now.at (hex_of n) (sym c.has_room.ensures ∙ c.if-has_room.true) (hex_length n)).0

pub returns-after-loop-v-clause-holds : goal.returns-after-loop-v-clause-holds
returns-after-loop-v-clause-holds c =
    let n = c.args.n in
    let w = spelled_part n (c.loop-v.i + 1) c.loop-v.v c.glyph-then-has_room.result c.loop-v.buf c.loop-v.i (omega arith) (omega arith) c.loop-v.invariant.1 (omega arith) c.glyph-then-has_room.ensures c.loop-v.invariant.3 in
    rw w at c.put.ensures.holds ∙ (put_fits 8 c.args.self.now.out.now c.args.self.now.at (hex_of n) (sym c.has_room.ensures ∙ c.if-has_room.true) (hex_length n)).1
