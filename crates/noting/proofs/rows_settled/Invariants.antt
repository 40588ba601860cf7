use Rattle.std.proofs.Common.{◌*◌, length, min}
use Rattle.model.specs.step.Track.{note_page}
use Rattle.noting.specs.Mib.{mib_pages}
use Rattle.noting.proofs.Settled.{Through}
use Rattle.noting.proofs.rows_settled.Given as goal

abbrev pub invariant-loop-mib : goal.invariant-loop-mib
invariant-loop-mib l = Through (note_page l.m l.tables) (min (l.mib * mib_pages) (length l.own)) l.own l.shared
