use mathlib.Core.Path.{ap, sym, ◌∙◌}
use native.Mathlib.Omega.{arith}
use Rattle.model.specs.Numbers.{refused, refusal_number, shown}
use Rattle.model.specs.declared.Answer.{Answer}
use Rattle.model.specs.reference.Runs.{is_refused}
use Rattle.model.specs.step.Machine.{started}
use Rattle.listing.specs.Whole.{read_list}
use Rattle.report_line.specs.Text.{start_name, report_line}
use Rattle.report.specs.Report.{setting, body_of}
use Rattle.report.proofs.ReportLaws.{noted_from, kept, ran_same, ran_ended, carried_from, body_refused, body_carried}
use Rattle.report.proofs.body.Goals as goal

pub read_list-requires : goal.read_list-requires
read_list-requires c =
    record {
      room = omega (arith, c.requires);
      noted = noted_from c.args.m.now c.args.t.now c.start-begun.result _ _ c.start-begun.ensures (kept _ c.in-Done.is);
    }

pub returns-in-Refused-clause-ran : goal.returns-in-Refused-clause-ran
returns-in-Refused-clause-ran c =
    let m = c.args.m.now in
    let t = c.args.t.now in
    let l = c.args.list.now in
    let k = c.in-Refused.n in
    let s = c.start-begun.ensures in
    ran_ended (body_of m t l) (report_line 0 start_name (refused (refusal_number k))) (started m t setting)
    (body_refused m t l k (sym s.answer ∙ c.in-Refused.is)) s.memory s.track (omega (arith, c.requires))
    (rw (sym c.refusal_number.ensures.0) (c.put_start.ensures.place, c.put_start.ensures.holds))

pub returns-in-Done : goal.returns-in-Done
returns-in-Done c =
    let m = c.args.m.now in
    let t = c.args.t.now in
    let l = c.args.list.now in
    let s = c.start-begun.ensures in
    let same = carried_from (started m t setting) _ _ _ (read_list l) s.registers s.memory s.track in
    let carried = body_carried m t l (ap (λ (a : Answer). is_refused (shown a)) (sym s.answer) ∙ kept _ c.in-Done.is) in
    record {
      same_buffer = c.read_list.ensures.same_buffer;
      ran = ran_same _ _ (same ∙ sym carried) c.read_list.ensures.ran;
    }
