-- The two ways on inputs by hand, in the limit of the programs.
use Prim.Native.Nat.{ℕ}
use mathlib.Core.Path.{◌≡◌, refl}
use mathlib.Core.Bool.{Bool, true, false, cond}
use mathlib.Core.List.{List, [], ◌∷◌, ◌++◌}
use lib.ListN.{replicate}
use Prim.Native.String.{String}
use Rattle.text.specs.Split.{has, until, past, same}
use Rattle.text.specs.Hex.{digit, digits, number, lean, spelled, value_of, glyph, spell, hex_of}
use Rattle.text.specs.Quoted.{quoted_from, quoted}
use Rattle.model.specs.step.Checks.{memory_fits}
use Rattle.lines.specs.Form.{line_of, pair_text}
use Rattle.lines.specs.Words.{has_line, words_from, image_from, end_from}
use Rattle.lines.specs.Ways.{refusal, length_fits, lines_text, text_of, lines_of, falls, unaligned, zero_before, refuses19, read_lines, has_names, read_all, image_of, output}

-- the limit of the programs
abbrev limit : ℕ
limit = 32768

-- whether the two of each pair are the same
abbrev all_same : List (List ℕ × List ℕ) → Bool
all_same [] = true
all_same (x ∷ xs) = cond (same x.0 x.1) (all_same xs) false

-- an input behind the names line, and the output
abbrev lines : String → String → List ℕ × List ℕ
lines s t = (output (image_of limit (quoted "at,word\n" ++ quoted s)), quoted t)

-- a whole input, and the output
abbrev input : String → String → List ℕ × List ℕ
input s t = (output (image_of limit (quoted s)), quoted t)

abbrev name_cases : List (List ℕ × List ℕ)
name_cases =
    input "" "1,12\n" ∷ input "\n" "1,12\n" ∷ input "at,word" "1,12\n" ∷ input "at,word\r\n" "1,12\n" ∷ input "at,wor\n" "1,12\n"
    ∷ input "word,at\nffc,0\n" "1,12\n" ∷ input "At,word\nffc,0\n" "1,12\n" ∷ input "ffc,0\n" "1,12\n" ∷ input "zz" "1,12\n"
    ∷ input "at,word\n" "0,13\n"
    ∷ []

-- 18 on a line: its shape, its spelling, its newline
abbrev shape_cases : List (List ℕ × List ℕ)
shape_cases =
    lines "\n" "2,12\n" ∷ lines "ffc\n" "2,12\n" ∷ lines "ffc,1,2\n" "2,12\n" ∷ lines ",\n" "2,12\n" ∷ lines ",1\n" "2,12\n" ∷ lines "ffc,\n" "2,12\n"
    ∷ lines "FFC,1\n" "2,12\n" ∷ lines "0ffc,1\n" "2,12\n" ∷ lines "ffc,01\n" "2,12\n" ∷ lines "ffc,00\n" "2,12\n" ∷ lines "ffc,1\r\n" "2,12\n" ∷ lines " ffc,1\n" "2,12\n"
    ∷ lines "100000000,1\n" "2,12\n" ∷ lines "ffc,100000000\n" "2,12\n" ∷ lines "0x8,1\n" "2,12\n" ∷ lines "ffc,g\n" "2,12\n"
    ∷ lines "ffc,1" "2,12\n" ∷ lines "0,1\nffc,1" "3,12\n" ∷ lines "ffc,1\n\n" "3,12\n"
    ∷ []

-- 19: addresses that do not rise
abbrev rise_cases : List (List ℕ × List ℕ)
rise_cases = lines "8,1\n8,1\n" "3,13\n" ∷ lines "8,1\n4,1\n" "3,13\n" ∷ lines "8,1\n0,1\n" "3,13\n" ∷ lines "0,1\n0,1\n" "3,13\n" ∷ lines "0,1\n4,1\n4,2\n" "4,13\n" ∷ []

-- 19: an address that is no multiple of 4
abbrev multiple_cases : List (List ℕ × List ℕ)
multiple_cases = lines "1,1\n" "2,13\n" ∷ lines "2,1\n" "2,13\n" ∷ lines "3,1\n" "2,13\n" ∷ lines "8,1\n9,1\n" "3,13\n" ∷ lines "ffd,1\n" "2,13\n" ∷ lines "ffe,1\n" "2,13\n" ∷ []

-- 19: a zero word on a line that bytes follow, whatever they are
abbrev zero_cases : List (List ℕ × List ℕ)
zero_cases =
    lines "0,0\nffc,1\n" "2,13\n" ∷ lines "0,1\n4,0\nffc,1\n" "3,13\n" ∷ lines "ffc,0\nx" "2,13\n" ∷ lines "ffc,0\n\n" "2,13\n" ∷ lines "0,0\nzz\n" "2,13\n"
    ∷ []

-- 18 before 19 on a line, and an earlier line before a later one
abbrev form_cases : List (List ℕ × List ℕ)
form_cases =
    lines "8,1\n4,z\n" "3,12\n" ∷ lines "2,01\n" "2,12\n" ∷ lines "8,1\n4,1" "3,12\n" ∷ lines "8,0" "2,12\n"
    ∷ lines "2,1\nzz\n" "2,13\n" ∷ lines "zz\n2,1\n" "2,12\n"
    ∷ []

-- 19 at line 0: the length, tested last
abbrev length_cases : List (List ℕ × List ℕ)
length_cases =
    lines "0,1\n" "0,13\n" ∷ lines "ff8,1\n" "0,13\n" ∷ lines "1000,1\n" "0,13\n" ∷ lines "ffc,1\n1000,1\n" "0,13\n" ∷ lines "8ffc,1\n" "0,13\n" ∷ lines "fffffc,1\n" "0,13\n"
    ∷ lines "fffffffc,1\n" "0,13\n" ∷ lines "fffffffc,ffffffff\n" "0,13\n"
    ∷ lines "8ffc,1\nzz\n" "3,12\n" ∷ lines "fffffffc,1\nfffffffc,1\n" "3,13\n" ∷ lines "8ffc,0\n9ffc,1\n" "2,13\n" ∷ lines "0,1\n1,1\n" "3,13\n"
    ∷ []

-- an image of zeros but for the words, each at its place, from the first place on
abbrev gaps : List (ℕ × List ℕ) → List ℕ
gaps [] = []
gaps (x ∷ xs) = replicate x.0 0 ++ (x.1 ++ gaps xs)

-- image A of the rules: 0x401 at 0, 0x812 at 0x400, 0x3832 at 0x404, 0x12345678 at 0x3000, 0x11223344 at 0x4000; 32,768 bytes
abbrev image_a : List ℕ
image_a =
    gaps
    ((0, 0x01 ∷ 0x04 ∷ 0 ∷ 0 ∷ []) ∷ (0x3fc, 0x12 ∷ 0x08 ∷ 0 ∷ 0 ∷ 0x32 ∷ 0x38 ∷ 0 ∷ 0 ∷ []) ∷ (0x2bf8, 0x78 ∷ 0x56 ∷ 0x34 ∷ 0x12 ∷ []) ∷ (0xffc, 0x44 ∷ 0x33 ∷ 0x22 ∷ 0x11 ∷ []) ∷ (0x3ffc, []) ∷ [])

abbrev lines_a : List ℕ
lines_a = quoted "at,word\n0,401\n400,812\n404,3832\n3000,12345678\n4000,11223344\n7ffc,0\n"

-- an image whose words each have another byte set, and none of them zero
abbrev corners : List ℕ
corners = gaps ((0, 0 ∷ 0 ∷ 0 ∷ 1 ∷ 0 ∷ 0 ∷ 2 ∷ 0 ∷ 0 ∷ 3 ∷ 0 ∷ 0 ∷ 4 ∷ 0 ∷ 0 ∷ 0 ∷ []) ∷ (4076, 0xff ∷ 0xff ∷ 0xff ∷ 0xff ∷ []) ∷ [])

abbrev lines_corners : List ℕ
lines_corners = quoted "at,word\n0,1000000\n4,20000\n8,300\nc,4\nffc,ffffffff\n"

-- images and their lines, both ways
abbrev image_cases : List (List ℕ × List ℕ)
image_cases = (output (lines_of limit image_a), lines_a) ∷ (output (image_of limit lines_a), image_a) ∷ []

-- the order of a word's bytes, both ways
abbrev order_cases : List (List ℕ × List ℕ)
order_cases = (output (lines_of limit corners), lines_corners) ∷ (output (image_of limit lines_corners), corners) ∷ []

-- the last word always has its line, both ways; the limit is an argument
abbrev last_cases : List (List ℕ × List ℕ)
last_cases =
    (output (lines_of limit (replicate 4096 0)), quoted "at,word\nffc,0\n") ∷ (output (image_of limit (quoted "at,word\nffc,0\n")), replicate 4096 0)
    ∷ (output (lines_of 36864 (replicate 36864 0)), quoted "at,word\n8ffc,0\n") ∷ (output (image_of 36864 (quoted "at,word\n8ffc,0\n")), replicate 36864 0)
    ∷ []

-- images whose length does not fit
abbrev misfit_cases : List (List ℕ × List ℕ)
misfit_cases =
    (output (lines_of limit []), quoted "0,13\n") ∷ (output (lines_of limit (replicate 4095 1)), quoted "0,13\n") ∷ (output (lines_of limit (replicate 4100 1)), quoted "0,13\n")
    ∷ (output (lines_of limit (replicate 36864 1)), quoted "0,13\n")
    ∷ []

-- the lengths of a memory, and those beside them, under a limit that is higher than all; and a limit
abbrev length_tests : List Bool
length_tests =
    length_fits 0x100000000 4096 ∷ length_fits 0x100000000 8192 ∷ length_fits 0x100000000 16777216 ∷ length_fits 32768 32768
    ∷ length_fits 0x100000000 0 ∷ length_fits 0x100000000 4095 ∷ length_fits 0x100000000 4100 ∷ length_fits 0x100000000 16781312 ∷ length_fits 0x100000000 0x100000000 ∷ length_fits 32768 36864 ∷ length_fits 32767 32768
    ∷ []

-- ── The theorems ──
pub lengths : length_tests ≡ true ∷ true ∷ true ∷ true ∷ false ∷ false ∷ false ∷ false ∷ false ∷ false ∷ false ∷ []
unfolding length_fits memory_fits
lengths = refl

pub the_names : all_same name_cases ≡ true
unfolding has until past same digit digits number lean spelled value_of glyph spell hex_of quoted_from quoted memory_fits line_of pair_text has_line words_from image_from end_from length_fits lines_text text_of lines_of falls unaligned zero_before refuses19 read_lines has_names read_all image_of
the_names = refl

pub shape_and_spelling : all_same shape_cases ≡ true
unfolding has until past same digit digits number lean spelled value_of glyph spell hex_of quoted_from quoted memory_fits line_of pair_text has_line words_from image_from end_from length_fits lines_text text_of lines_of falls unaligned zero_before refuses19 read_lines has_names read_all image_of
shape_and_spelling = refl

pub addresses_rise : all_same rise_cases ≡ true
unfolding has until past same digit digits number lean spelled value_of glyph spell hex_of quoted_from quoted memory_fits line_of pair_text has_line words_from image_from end_from length_fits lines_text text_of lines_of falls unaligned zero_before refuses19 read_lines has_names read_all image_of
addresses_rise = refl

pub multiples_of_4 : all_same multiple_cases ≡ true
unfolding has until past same digit digits number lean spelled value_of glyph spell hex_of quoted_from quoted memory_fits line_of pair_text has_line words_from image_from end_from length_fits lines_text text_of lines_of falls unaligned zero_before refuses19 read_lines has_names read_all image_of
multiples_of_4 = refl

pub zero_words : all_same zero_cases ≡ true
unfolding has until past same digit digits number lean spelled value_of glyph spell hex_of quoted_from quoted memory_fits line_of pair_text has_line words_from image_from end_from length_fits lines_text text_of lines_of falls unaligned zero_before refuses19 read_lines has_names read_all image_of
zero_words = refl

pub form_before_order : all_same form_cases ≡ true
unfolding has until past same digit digits number lean spelled value_of glyph spell hex_of quoted_from quoted memory_fits line_of pair_text has_line words_from image_from end_from length_fits lines_text text_of lines_of falls unaligned zero_before refuses19 read_lines has_names read_all image_of
form_before_order = refl

pub length_last : all_same length_cases ≡ true
unfolding has until past same digit digits number lean spelled value_of glyph spell hex_of quoted_from quoted memory_fits line_of pair_text has_line words_from image_from end_from length_fits lines_text text_of lines_of falls unaligned zero_before refuses19 read_lines has_names read_all image_of
length_last = refl

pub low_byte_first : all_same order_cases ≡ true
unfolding has until past same digit digits number lean spelled value_of glyph spell hex_of quoted_from quoted memory_fits line_of pair_text has_line words_from image_from end_from length_fits lines_text text_of lines_of falls unaligned zero_before refuses19 read_lines has_names read_all image_of
low_byte_first = refl

pub last_word : all_same last_cases ≡ true
unfolding has until past same digit digits number lean spelled value_of glyph spell hex_of quoted_from quoted memory_fits line_of pair_text has_line words_from image_from end_from length_fits lines_text text_of lines_of falls unaligned zero_before refuses19 read_lines has_names read_all image_of
last_word = refl

pub misfits : all_same misfit_cases ≡ true
unfolding has until past same digit digits number lean spelled value_of glyph spell hex_of quoted_from quoted memory_fits line_of pair_text has_line words_from image_from end_from length_fits lines_text text_of lines_of falls unaligned zero_before refuses19 read_lines has_names read_all image_of
misfits = refl

pub image_A : all_same image_cases ≡ true
unfolding has until past same digit digits number lean spelled value_of glyph spell hex_of quoted_from quoted memory_fits line_of pair_text has_line words_from image_from end_from length_fits lines_text text_of lines_of falls unaligned zero_before refuses19 read_lines has_names read_all image_of
image_A = refl

-- a refusal is no image, whatever its bytes
pub refusals : (image_of limit [] ≡ refusal 1 18) × (image_of limit (quoted "at,word\n") ≡ refusal 0 19) × (lines_of limit [] ≡ refusal 0 19)
unfolding has until past same digit digits number lean spelled value_of glyph spell hex_of quoted_from quoted memory_fits line_of pair_text has_line words_from image_from end_from length_fits lines_text text_of lines_of falls unaligned zero_before refuses19 read_lines has_names read_all image_of
refusals = (refl, refl, refl)
