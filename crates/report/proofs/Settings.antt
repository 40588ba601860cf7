-- Cases computed on the report's definition: the program's settings (root 0, eight contexts, the image's limit), and what a report has of
-- a list that is turned back. `report_cases` has the others.
use Prim.Native.Nat.{ℕ}
use Prim.Native.String.{String}
use mathlib.Core.Path.{◌≡◌, refl}
use mathlib.Core.Bool.{Bool, true, ◌&&◌}
use mathlib.Core.List.{List, [], ◌∷◌, ◌++◌}
use lib.ListN.{replicate, take}
use Rattle.text.specs.Split.{has, until, past, same}
use Rattle.text.specs.Hex.{digit, glyph, digits, number, lean, spelled, value_of, spell, hex_of}
use Rattle.text.specs.Put.{over}
use Rattle.text.specs.Quoted.{quoted_from, quoted}
use Rattle.model.specs.reference.Runs.{last, checker_run}
use Rattle.model.proofs.CaseTools.{put, next}
use Rattle.names.specs.Names.{named_in}
use Rattle.listing.specs.Line.{spare, zeros, op_of, judged, values_of, field_a, field_b, field_c, fields_of, line_of}
use Rattle.listing.specs.Whole.{too_long, has_names, read_lines, read_list}
use Rattle.report_line.specs.Text.{report_line}
use Rattle.report.specs.Report.{track_length, memory_length, answer_lines, answer_text, body_of, report_of}

-- the report of an image file of n bytes with a list, on a track that held anything
abbrev pub report_text : ℕ → List ℕ → List ℕ → List ℕ
report_text n image list = (report_of (take (memory_length n) image) (replicate track_length 7) list).text

-- the shortest image, all zero: what it maps doesn't matter
abbrev pub report_of_list : List ℕ → List ℕ
report_of_list list = report_text 4096 (replicate 4096 0) list

-- an image whose first MiB is a section at 0, AP 3, nG clear
abbrev pub global_section : List ℕ
global_section = put 0 0xC02 (replicate 4096 0)

-- a list whose third line is turned back with this number: the line before it has been carried out, the one after it is not read
abbrev pub turned_back : String → String → List ℕ × List ℕ
turned_back line number = (
  report_of_list (quoted "op,a,b,c\nmode,0,0,0\n" ++ (quoted line ++ quoted "\nmode,0,0,0\n")),
  quoted "line,op,answer,value\n2,mode,ok,0\n3,-,refused," ++ (quoted number ++ quoted "\n"),
)

-- whether each report is the expected one
abbrev pub all_same : List (List ℕ × List ℕ) → Bool
all_same [] = true
all_same (x ∷ xs) = same x.0 x.1 && all_same xs

pub settings : List (List ℕ × List ℕ)
unfolding next quoted_from quoted
settings =
    -- the level-one table stands at root 0
    (report_text 4096 global_section (quoted "op,a,b,c\nread,0,4,0\n"), quoted "line,op,answer,value\n2,read,ok,c02\n")
    -- eight contexts
    ∷ (report_of_list (quoted "op,a,b,c\nasid,7,0,0\nasid,8,0,0\n"), quoted "line,op,answer,value\n2,asid,ok,0\n3,asid,refused,b\n")
    -- an image of 32,768 bytes, longer ones, and one that is missing
    ∷ (report_text 32768 (replicate 32768 0) (quoted "op,a,b,c\n"), quoted "line,op,answer,value\n")
    ∷ (report_text 32769 (replicate 32769 0) (quoted "op,a,b,c\n"), quoted "line,op,answer,value\n0,start,refused,d\n")
    ∷ (report_text 36864 (replicate 36864 0) (quoted "op,a,b,c\n"), quoted "line,op,answer,value\n0,start,refused,d\n")
    ∷ (report_text 0 [] (quoted "op,a,b,c\n"), quoted "line,op,answer,value\n0,start,refused,d\n")
    -- a list that is turned back at its first line, and at a later one
    ∷ (report_of_list [], quoted "line,op,answer,value\n1,-,refused,2\n")
    ∷ turned_back "read,1000,4" "3"
    ∷ []

pub settings_hold : all_same settings ≡ true
unfolding settings next quoted_from quoted same has until past digit glyph digits number lean spelled value_of spell hex_of over last checker_run
    named_in spare zeros op_of judged values_of field_a field_b field_c fields_of line_of too_long has_names read_lines read_list report_line answer_lines answer_text body_of report_of
settings_hold = refl
