use Prim.Native.Nat.{ℕ}
use mathlib.Core.Path.{ap, sym, ◌∙◌}
use mathlib.Core.List.{List}
use native.Mathlib.Omega.{arith}
use lib.ListN.{length}
use Rattle.text.proofs.SplitLaws.{past_length}
use Rattle.names.specs.Names.{newline}
use Rattle.listing.specs.declared.Reason.TheVariants.{TooLong, Names}
use Rattle.listing.specs.Whole.{read_rest}
use Rattle.model.specs.declared.Answer.TheVariants.{Done}
use Rattle.model.specs.step.Machine.{After}
use Rattle.report.specs.Report.{replayed}
use Rattle.report.proofs.ReportLaws.{read_long, read_names, read_none, not_long, ran_same, ran_stopped}
use Rattle.report.proofs.read_list.Goals as goal

pub returns-then-too_long-clause-ran : goal.returns-then-too_long-clause-ran
returns-then-too_long-clause-ran c =
    let q = c.put_refusal.ensures in
    ran_stopped _ c.args.list.now TooLong _ (read_long c.args.list.now (sym c.too_long.ensures ∙ c.if-too_long.true)) (omega (arith, c.requires.room))
    c.list_number.ensures.0 (q.place, q.holds)

pub lines-requires-clause-size : goal.lines-requires-clause-size
lines-requires-clause-size c =
    let l = c.args.list.now in
    omega (arith, ap length c.rest.ensures, past_length newline l, not_long l (sym c.too_long.ensures ∙ c.if-too_long.false))

pub lines-requires-clause-room : goal.lines-requires-clause-room
lines-requires-clause-room c =
    let l = c.args.list.now in
    omega (arith, ap length c.rest.ensures, past_length newline l, not_long l (sym c.too_long.ensures ∙ c.if-too_long.false), c.requires.room)

pub returns-then-has_names-clause-ran : goal.returns-then-has_names-clause-ran
returns-then-has_names-clause-ran c =
    let x : After = record { answer = Done 0; registers = c.args.r; memory = c.args.m.now; track = c.args.t.now } in
    let l = c.args.list.now in
    ran_same _ _
    (ap (λ (z : List ℕ). replayed 2 x (read_rest z)) c.rest.ensures
    ∙ sym (ap (replayed 2 x) (read_names l (sym c.too_long.ensures ∙ c.if-too_long.false) (sym c.has_names.ensures ∙ c.if-has_names.true)))) c.lines.ensures.ran

pub returns-else-has_names-clause-ran : goal.returns-else-has_names-clause-ran
returns-else-has_names-clause-ran c =
    let q = c.put_refusal-else-has_names.ensures in
    ran_stopped _ c.args.list.now Names _
    (read_none c.args.list.now (sym c.too_long.ensures ∙ c.if-too_long.false) (sym c.has_names.ensures ∙ c.if-has_names.false)) (omega (arith, c.requires.room))
    c.list_number-else-has_names.ensures.0 (q.place, q.holds)
