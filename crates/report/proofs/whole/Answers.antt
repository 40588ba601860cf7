use mathlib.Core.Path.{ap, ◌∙◌}
use native.Mathlib.Omega.{arith}
use lib.ListN.{length}
use Rattle.std.proofs.Common.{rules}
use Rattle.text.proofs.PutLaws.{wrote_fits, length_over}
use Rattle.report_line.specs.Text.{header}
use Rattle.report.specs.Report.{body_of, report_of}
use Rattle.report.proofs.ReportLaws.{ran_headed}
use Rattle.report.proofs.whole.Goals as goal

pub body-requires : goal.body-requires
body-requires c =
    let d = c.args.out.now in
    let n = c.new-w.ensures in
    let q = c.put_header.ensures in
    let f = wrote_fits (length header) d 0 header _ _ (omega (arith, c.requires)) (rw (n.holds, n.place) at q.place, rw (n.holds, n.place) at q.holds) in
    omega (arith, f.0, ap length f.1 ∙ length_over d 0 header (omega (arith, c.requires)), c.requires)

pub returns : goal.returns
unfolding report_of
returns c =
    let n = c.new-w.ensures in
    let q = c.put_header.ensures in
    let ran = ran_headed (body_of c.args.m.now c.args.t.now c.args.list.now) (omega (arith, c.requires)) (rw (n.holds, n.place) at q.place, rw (n.holds, n.place) at q.holds) c.body.ensures.ran in
    search rules
