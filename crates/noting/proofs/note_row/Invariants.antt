use Rattle.std.proofs.Common.{◌≡◌, ◌*◌, length, min}
use Rattle.model.specs.step.Rows.{map_first}
use Rattle.model.specs.step.Track.{note_page}
use Rattle.noting.specs.Mib.{mib_pages}
use Rattle.noting.proofs.note_row.Given as goal

abbrev pub invariant-loop-mib : goal.invariant-loop-mib
invariant-loop-mib l = l.row ≡ map_first (note_page l.m l.tables l.global) 0 (min (l.mib * mib_pages) (length l.initial.row)) l.initial.row
