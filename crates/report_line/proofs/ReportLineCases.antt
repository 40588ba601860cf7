-- The words and the lines of a report are those of the rules, by computation.
use mathlib.Core.Path.{refl}
use Rattle.text.specs.Hex.{spell, hex_of, glyph}
use Rattle.text.specs.Quoted.{quoted_from, quoted}
use Rattle.report_line.specs.Text.{report_line, LinesSpelled}

pub spelled : LinesSpelled
unfolding quoted_from quoted report_line hex_of spell glyph
spelled = record { names = refl; words = λ n. (refl, refl, refl); answer = refl; line_refused = refl; start_refused = refl }
