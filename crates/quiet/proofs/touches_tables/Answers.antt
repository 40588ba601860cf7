use mathlib.Core.Path.{refl, ◌∙◌}
use native.Mathlib.Omega.{arith}
use Prim.Native.Nat.{ℕ, ◌-◌}
use Rattle.std.proofs.Common.{rules, tests}
use Rattle.std.proofs.lemmas.Iterator.{YieldsList-from_range}
use Rattle.std.proofs.lemmas.Iterator.Search.{any_from_yields_List}
use Rattle.model.specs.step.Walk.{descriptor_at, first_from}
use Rattle.runs.specs.Quiet.{touches_table}
use Rattle.runs.specs.Used.{first_place}
use Rattle.quiet.proofs.Laws.{each_mib}
use Rattle.quiet.proofs.touches_tables.Goals as goal

pub returns : goal.returns
returns c = let a = c.args in
    any_from_yields_List (λ (i : ℕ). touches_table (first_from (descriptor_at a.m.now (first_place a.tables.root (a.mibs - 1 - i))) 0) a.at a.n) _ _ _ c.any.ensures.ran
    (YieldsList-from_range 0 a.mibs a.mibs refl (omega arith)) (λ x b q k. search (rules, tests))
    ∙ each_mib a.m.now a.tables a.at a.n a.mibs
