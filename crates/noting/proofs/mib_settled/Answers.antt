use Rattle.std.proofs.Common.{◌-◌, ◌/◌, min, length, Ok, sym, ap, ◌∙◌, refl, arith, rules, zero-le}
use Rattle.model.specs.step.Walk.{section_entry, second_at}
use Rattle.noting.specs.Mib.{note_mib}
use Rattle.track.proofs.Rows.{still_part}
use lib.ListN.{take}
use Rattle.noting.proofs.Mib.{section_pages, table_pages, by_fault, by_none, by_table}
use Rattle.noting.proofs.mib_settled.Goals as goal

pub returns-in-Ok-Section : goal.returns-in-Ok-Section
returns-in-Ok-Section c = let a = c.args in let x = c.in-Some.x in
    let read = sym c.in-Some.is ∙ c.load.ensures in
    let says = sym (c.in-Ok-Section.is ∙ ap Ok c.in-Ok-Section.field-0-is) ∙ c.first_of.ensures.same in
    λ h. let y = c.pages_settled.ensures (λ i. Ok (section_entry x i)) (λ i o lt p. search rules) h in record {
      in_own = y.in_own ∙ section_pages a.m.now a.at 0 x a.own.now _ read says;
      in_shared = y.in_shared ∙ section_pages a.m.now a.at 1 x a.shared.now _ read says;
    }

pub returns-in-Ok-Table : goal.returns-in-Ok-Table
returns-in-Ok-Table c = let a = c.args in let x = c.in-Some.x in let t = c.in-Ok-Table.table in let n = c.words_inside-n.result in
    let read = sym c.in-Some.is ∙ c.load.ensures in
    let says = sym (c.in-Ok-Table.is ∙ ap Ok c.in-Ok-Table.field-0-is) ∙ c.first_of.ensures.same in
    λ h. let y = c.pages_settled-in-Ok-Table.ensures (λ i. second_at a.m.now t i) (λ i o lt p. search rules) h in record {
      in_own = still_part (note_mib a.m.now a.at 0) a.own.now 0 n refl zero-le (y.in_own ∙ table_pages a.m.now a.at 0 x (take n a.own.now) t read says)
          ∙ by_table a.m.now a.at 0 x n t a.own.now read says c.requires.one_mib c.words_inside-n.ensures;
      in_shared = still_part (note_mib a.m.now a.at 1) a.shared.now 0 n refl zero-le (y.in_shared ∙ table_pages a.m.now a.at 1 x (take n a.shared.now) t read says)
          ∙ by_table a.m.now a.at 1 x n t a.shared.now read says (omega (arith, c.requires.one_mib, c.requires.same))
          (c.words_inside-n.ensures ∙ ap (min ((length a.m.now - t.base) / 4)) (sym c.requires.same));
    }

pub returns-in-Err : goal.returns-in-Err
returns-in-Err c = let a = c.args in
    let read = sym c.in-Some.is ∙ c.load.ensures in
    let says = sym c.in-Err.is ∙ c.first_of.ensures.same in
    λ h. record { in_own = by_fault a.m.now a.at 0 c.in-Some.x a.own.now _ read says; in_shared = by_fault a.m.now a.at 1 c.in-Some.x a.shared.now _ read says }

pub returns-in_default : goal.returns-in_default
returns-in_default c = let a = c.args in
    let none = sym c.in_default.is ∙ c.load.ensures in
    λ h. record { in_own = by_none a.m.now a.at 0 a.own.now none; in_shared = by_none a.m.now a.at 1 a.shared.now none }
