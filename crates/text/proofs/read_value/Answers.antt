use Prim.Native.Nat.{◌+◌, ◌*◌, ◌≤◌, ◌<◌}
use lib.Dec.{lit<}
use mathlib.Core.Path.{◌≡◌, sym, ◌∙◌}
use native.Mathlib.Omega.{arith}
use lib.ListN.{length, get_or}
use Rattle.std.proofs.Common.{rules, Some, None}
use Rattle.text.specs.Hex.{digit_of}
use Rattle.text.proofs.HexLaws.{digit_some, digit_none, digits_more, digits_stop, digits_end, number_more, number_end, bound_more, bound_fits}
use Rattle.text.proofs.HexLaws.{value_digits, value_good}
use Rattle.text.proofs.read_value.Goals as goal

pub returns-in_err-v : goal.returns-in_err-v
returns-in_err-v c =
    let l = c.args.s.now in
    let n : None ≡ digit_of (get_or l c.loop-x.x-index 0) = search rules in
    let r : c.from_residual.result ≡ None = search rules in
    r ∙ value_digits l (c.loop-x.invariant.3 ∙ digits_stop l c.loop-x.x-index (omega arith) (digit_none _ n))

pub overflow_mul-v : goal.overflow_mul-v
overflow_mul-v c =
    let i = c.loop-x.x-index in
    let v = c.loop-x.v in
    omega (arith, bound_fits (v * 16 + 0) (i + 1) (bound_more v 0 i (omega arith) (lit< tt)) (omega arith))

pub overflow_add-v : goal.overflow_add-v
overflow_add-v c =
    let i = c.loop-x.x-index in
    let v = c.loop-x.v in
    let d = c.in_ok-v.field-0 in
    let e : Some d ≡ digit_of (get_or c.args.s.now i 0) = search rules in
    let h = digit_some (get_or c.args.s.now i 0) d e in
    omega (arith, bound_fits (v * 16 + d) (i + 1) (bound_more v d i (omega arith) (omega arith)) (omega arith))

pub loop-x-preserved : goal.loop-x-preserved
loop-x-preserved c =
    let l = c.args.s.now in
    let i = c.loop-x.x-index in
    let h : i < length l = omega arith in
    let d : Some c.in_ok-v.field-0 ≡ digit_of (get_or l i 0) = search rules in
    let e = digit_some (get_or l i 0) c.in_ok-v.field-0 d in (
      omega arith,
      c.loop-x.invariant.1,
      bound_more c.loop-x.v c.in_ok-v.field-0 i (omega arith) (omega arith),
      c.loop-x.invariant.3 ∙ digits_more l i h e.0,
      c.loop-x.invariant.4 ∙ rw e.1 (number_more l i h c.loop-x.v),
    )

pub returns : goal.returns
returns c =
    let l = c.args.s.now in
    let i = c.loop-x.x-index in
    let h : length l ≤ i = omega arith in
    rw (sym (c.loop-x.invariant.4 ∙ number_end c.loop-x.v l i h)) (value_good l (omega arith) c.loop-x.invariant.1 (c.loop-x.invariant.3 ∙ digits_end l i h))
