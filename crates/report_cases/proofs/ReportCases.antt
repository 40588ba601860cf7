-- Cases computed on the report's definition, as one table of two parts: lists that are read to their end, and each refusal of a list.
use Prim.Native.Nat.{ℕ}
use mathlib.Core.Path.{◌≡◌, refl, ap₂}
use mathlib.Core.Bool.{true, ◌&&◌}
use mathlib.Core.List.{List, [], ◌∷◌, ◌++◌}
use lib.ListN.{replicate}
use Rattle.text.specs.Split.{has, until, past, same}
use Rattle.text.specs.Hex.{digit, glyph, digits, number, lean, spelled, value_of, spell, hex_of}
use Rattle.text.specs.Put.{over}
use Rattle.text.specs.Quoted.{quoted_from, quoted}
use Rattle.model.specs.reference.Runs.{last, checker_run}
use Rattle.model.proofs.BoolLaws.{and_both}
use Rattle.model.proofs.CaseTools.{image_a, next}
use Rattle.names.specs.Names.{named_in}
use Rattle.listing.specs.Line.{spare, zeros, op_of, judged, values_of, field_a, field_b, field_c, fields_of, line_of}
use Rattle.listing.specs.Whole.{too_long, has_names, read_lines, read_list}
use Rattle.report_line.specs.Text.{report_line}
use Rattle.report.specs.Report.{answer_lines, answer_text, body_of, report_of}
use Rattle.report.proofs.Settings.{report_text, report_of_list, global_section, turned_back, all_same}

-- a table of two parts is computed part by part
all_parts : (xs ys : List (List ℕ × List ℕ)) → all_same xs ≡ true → all_same ys ≡ true → all_same (xs ++ ys) ≡ true
all_parts [] ys p q = q
all_parts (x ∷ xs) ys p q =
    let b = and_both (same x.0 x.1) (all_same xs) p in
    ap₂ ◌&&◌ b.0 (all_parts xs ys b.1 q)

-- Lists that are read to their end.
runs : List (List ℕ × List ℕ)
unfolding next quoted_from quoted
runs =
    -- the image and the list of the rules: the level-one table stands at root 0
    (
      report_text 32768 image_a (quoted
          "op,a,b,c\nread,1000,4,0\nwrite,404,4,4832\nread,1000,4,0\naddr,1000,0,0\nread,1000,4,0\nread,1002,4,0\nread,2000,1,0\nmode,1,0,0\nread,404,4,0\nall,0,0,0\n"),
      quoted
          "line,op,answer,value\n2,read,ok,12345678\n3,write,ok,0\n4,read,refused,10\n5,addr,ok,0\n6,read,ok,11223344\n7,read,fault,1\n8,read,fault,7\n9,mode,ok,0\na,read,fault,f\nb,all,refused,f\n",
    )
    -- a global page changed to another global mapping: `ctx` leaves it stale, `addrctx` of any context frees it; and fetches from it
    ∷ (
      report_text 4096 global_section (quoted
          "op,a,b,c\nwrite,0,4,402\nctx,0,0,0\nread,0,4,0\naddrctx,0,7,0\nread,0,4,0\nread,1000,4,0\nfetch,0,0,0\nfetch,1000,0,0\nfetch,2,0,0\nfetch,400000,0,0\n"),
      quoted
          "line,op,answer,value\n2,write,ok,0\n3,ctx,ok,0\n4,read,refused,10\n5,addrctx,ok,0\n6,read,ok,402\n7,read,refused,10\n8,fetch,ok,402\n9,fetch,refused,10\na,fetch,fault,1\nb,fetch,refused,8\n",
    )
    -- a domain closed, opened to everything and with permissions applied again; a field 2, in both modes, and `domain` in user mode
    ∷ (
      report_text 4096 global_section (quoted
          "op,a,b,c\nwrite,0,4,402\nall,0,0,0\ndomain,55555554,0,0\nread,0,4,0\ndomain,3,0,0\nmode,1,0,0\nfetch,0,0,0\ndomain,80000000,0,0\ndomain,1,0,0\nmode,0,0,0\ndomain,2,0,0\ndomain,1,0,0\nmode,1,0,0\nread,0,4,0\n"),
      quoted
          "line,op,answer,value\n2,write,ok,0\n3,all,ok,0\n4,domain,ok,0\n5,read,fault,9\n6,domain,ok,0\n7,mode,ok,0\n8,fetch,ok,402\n9,domain,refused,11\na,domain,refused,f\nb,mode,ok,0\nc,domain,refused,11\nd,domain,ok,0\ne,mode,ok,0\nf,read,fault,d\n",
    )
    -- `root` under context 1, to another root and to the same; a bad root, and user mode; then through context 0
    ∷ (
      report_text 4096 global_section (quoted
          "op,a,b,c\nasid,1,0,0\nroot,80,0,0\nroot,0,0,0\nroot,40,0,0\nmode,1,0,0\nroot,80,0,0\nroot,40,0,0\nmode,0,0,0\nread,0,4,0\nasid,0,0,0\nroot,80,0,0\nasid,1,0,0\nread,0,4,0\n"),
      quoted
          "line,op,answer,value\n2,asid,ok,0\n3,root,refused,14\n4,root,refused,14\n5,root,refused,a\n6,mode,ok,0\n7,root,refused,f\n8,root,refused,a\n9,mode,ok,0\na,read,ok,c02\nb,asid,ok,0\nc,root,ok,0\nd,asid,ok,0\ne,read,refused,10\n",
    )
    ∷ []

-- Lists that are turned back.
refusals : List (List ℕ × List ℕ)
unfolding next quoted_from quoted
refusals =
    -- 1: a list of 65,537 bytes, and not one of 65,536
    (report_of_list (replicate 65537 10), quoted "line,op,answer,value\n1,-,refused,1\n")
    ∷ (report_of_list (replicate 65536 10), quoted "line,op,answer,value\n1,-,refused,2\n")
    -- 2: names without their newline; `settings` has the empty list
    ∷ (report_of_list (quoted "op,a,b,c"), quoted "line,op,answer,value\n1,-,refused,2\n")
    -- 3: five fields, one, and no newline at the end; 3 before 4; `settings` has three fields
    ∷ turned_back "read,1000,4,0,0" "3"
    ∷ turned_back "" "3"
    ∷ turned_back "read,XX,4" "3"
    ∷ (report_of_list (quoted "op,a,b,c\nmode,0,0,0"), quoted "line,op,answer,value\n2,-,refused,3\n")
    -- 4: empty, a leading zero, nine digits, upper case; 4 before 5, and before 6
    ∷ turned_back "read,,4,0" "4"
    ∷ turned_back "read,01000,4,0" "4"
    ∷ turned_back "read,123456789,4,0" "4"
    ∷ turned_back "read,ABC,4,0" "4"
    ∷ turned_back "Read,XX,4,0" "4"
    ∷ turned_back "all,1,0,X" "4"
    -- 5: no such operation, and no name at all
    ∷ turned_back "Read,1000,4,0" "5"
    ∷ turned_back ",0,0,0" "5"
    ∷ turned_back "fetches,0,0,0" "5"
    ∷ turned_back "domains,0,0,0" "5"
    -- 6: an unused field, the first, the second or the third
    ∷ turned_back "all,1,0,0" "6"
    ∷ turned_back "root,80,1,0" "6"
    ∷ turned_back "addrctx,1000,0,1" "6"
    ∷ turned_back "fetch,1000,4,0" "6"
    ∷ turned_back "fetch,1000,0,1" "6"
    ∷ turned_back "domain,1,1,0" "6"
    ∷ turned_back "domain,1,0,1" "6"
    ∷ []

runs_hold : all_same runs ≡ true
unfolding runs next quoted_from quoted same has until past digit glyph digits number lean spelled value_of spell hex_of over last checker_run
    named_in spare zeros op_of judged values_of field_a field_b field_c fields_of line_of too_long has_names read_lines read_list report_line answer_lines answer_text body_of report_of
runs_hold = refl

refusals_hold : all_same refusals ≡ true
unfolding refusals next quoted_from quoted same has until past digit glyph digits number lean spelled value_of spell hex_of over last checker_run
    named_in spare zeros op_of judged values_of field_a field_b field_c fields_of line_of too_long has_names read_lines read_list report_line answer_lines answer_text body_of report_of
refusals_hold = refl

pub report_cases : List (List ℕ × List ℕ)
report_cases = runs ++ refusals

pub report_cases_lem : all_same report_cases ≡ true
unfolding report_cases
report_cases_lem = all_parts runs refusals runs_hold refusals_hold
