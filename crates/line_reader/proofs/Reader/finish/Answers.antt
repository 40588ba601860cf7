use mathlib.Core.Path.{sym}
use native.Mathlib.Omega.{arith}
use Rattle.line_reader.specs.Reading.{flaw_number}
use Rattle.line_reader.proofs.Laws.{finished_refusal}
use Rattle.line_reader.proofs.Front.{told_fits}
use Rattle.line_reader.proofs.Reader.finish.Goals as goal

pub returns-in-Some : goal.returns-in-Some
returns-in-Some c =
    let r = c.args.self in
    let m = c.args.image.now in
    let q = finished_refusal r m c.in-Some.line (flaw_number c.in-Some.flaw) _ _ c.if-image-lt18.false c.in-Some.ensures.ending c.refuse.ensures in
    record { told = q.0; image = q.1; fits = omega (arith, told_fits r m _ (sym q.0), c.refuse.auto.image) }
