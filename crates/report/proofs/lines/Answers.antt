use Rattle.std.proofs.Common.{◌≡◌, ap, sym, ◌∙◌, arith, refl}
use Rattle.std.specs.Prelude.{Ok, length}
use Rattle.listing.specs.Line.{line_of}
use Rattle.listing.proofs.CanonicalLaws.{line_rest}
use Rattle.report.proofs.Running.{running_start, running_more, running_refused, running_end}
use Rattle.report.proofs.lines.Goals as goal

pub loop-left-init : goal.loop-left-init
loop-left-init c = (refl, running_start _ c.args.list.now c.args.w.now.out.now c.args.w.now.at c.requires.size c.requires.room c.requires.noted)

pub returns-in-Err-clause-ran : goal.returns-in-Err-clause-ran
returns-in-Err-clause-ran c =
    let q = c.put_refusal in
    running_refused c.loop-left.invariant.1 c.in-Err.x q.new.w.out.now q.new.w.at c.loop-left-test.true (sym c.read_line.ensures.0 ∙ c.in-Err.is)
    (rw (c.list_number.ensures.0) at q.ensures.place, rw (c.list_number.ensures.0) at q.ensures.holds)

-- `said`: the line of a turn holds its operation
pub loop-left-smaller : goal.loop-left-smaller
loop-left-smaller c =
    let said : line_of c.loop-left.left.now ≡ Ok c.in-Ok.o = sym c.read_line.ensures.0 ∙ c.in-Ok.is in
    omega (arith, ap length c.rest-left.ensures, line_rest c.in-Ok.o c.loop-left.left.now said)

pub loop-left-preserved : goal.loop-left-preserved
loop-left-preserved c =
    let y = c.step-y in
    let q = c.put_answer in
    let said : line_of c.loop-left.left.now ≡ Ok c.in-Ok.o = sym c.read_line.ensures.0 ∙ c.in-Ok.is in (
      q.ensures.same_buffer ∙ c.loop-left.invariant.0,
      rw c.rest-left.ensures (running_more c.loop-left.invariant.1 c.in-Ok.o y.result y.new.m y.new.t q.new.w.out.now q.new.w.at c.loop-left-test.true said y.ensures (q.ensures.place, q.ensures.holds)),
    )

pub returns-clause-ran : goal.returns-clause-ran
returns-clause-ran c = running_end c.loop-left.invariant.1 c.loop-left-test.false
