use Rattle.std.proofs.Common.{Ok, sym, ap, ◌∙◌, refl, rules, zero-le}
use Rattle.model.specs.step.Walk.{section_entry, second_at}
use Rattle.noting.specs.Mib.{note_mib}
use Rattle.track.proofs.Rows.{part_turn}
use lib.ListN.{take}
use Rattle.noting.proofs.Mib.{section_pages, table_pages, by_fault, by_none, by_table}
use Rattle.noting.proofs.note_mib.Goals as goal

pub returns-in-Ok-Section : goal.returns-in-Ok-Section
returns-in-Ok-Section c = let a = c.args in let x = c.in-Some.x in
    c.note_pages.ensures (λ i. Ok (section_entry x i)) (λ i o lt p. search rules)
    ∙ section_pages a.m.now a.at a.global x a.mib.now _ (sym c.in-Some.is ∙ c.load.ensures) (sym (c.in-Ok-Section.is ∙ ap Ok c.in-Ok-Section.field-0-is) ∙ c.first_of.ensures.same)

pub returns-in-Ok-Table : goal.returns-in-Ok-Table
returns-in-Ok-Table c = let a = c.args in let x = c.in-Some.x in let t = c.in-Ok-Table.table in let n = c.words_inside-n.result in
    let read = sym c.in-Some.is ∙ c.load.ensures in
    let says = sym (c.in-Ok-Table.is ∙ ap Ok c.in-Ok-Table.field-0-is) ∙ c.first_of.ensures.same in
    let noted = c.note_pages-in-Ok-Table.ensures (λ i. second_at a.m.now t i) (λ i o lt p. search rules) in
    part_turn (note_mib a.m.now a.at a.global) a.mib.now a.mib.now _ 0 n refl zero-le (noted ∙ table_pages a.m.now a.at a.global x (take n a.mib.now) t read says)
    ∙ by_table a.m.now a.at a.global x n t a.mib.now read says c.requires c.words_inside-n.ensures

pub returns-in-Err : goal.returns-in-Err
returns-in-Err c = let a = c.args in
    by_fault a.m.now a.at a.global c.in-Some.x a.mib.now _ (sym c.in-Some.is ∙ c.load.ensures) (sym c.in-Err.is ∙ c.first_of.ensures.same)

pub returns-in_default : goal.returns-in_default
returns-in_default c = let a = c.args in
    by_none a.m.now a.at a.global a.mib.now (sym c.in_default.is ∙ c.load.ensures)
