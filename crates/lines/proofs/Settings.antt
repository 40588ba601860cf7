-- Cases computed on the definitions: the image limit of the programs, both sides of it, both ways.
use Prim.Native.Nat.{ℕ}
use mathlib.Core.Path.{◌≡◌, refl}
use mathlib.Core.Bool.{Bool, true, ◌&&◌}
use mathlib.Core.List.{List, [], ◌∷◌, ◌++◌}
use lib.ListN.{replicate}
use Rattle.text.specs.Split.{has, until, past, same}
use Rattle.text.specs.Hex.{digit, digits, number, lean, spelled, value_of, glyph, spell, hex_of}
use Rattle.text.specs.Quoted.{quoted_from, quoted}
use Rattle.model.specs.step.Checks.{memory_fits}
use Rattle.lines.specs.Form.{line_of, pair_text}
use Rattle.lines.specs.Words.{has_line, words_from, image_from, end_from}
use Rattle.lines.specs.Ways.{length_fits, lines_text, text_of, lines_of, falls, unaligned, zero_before, refuses19, read_lines, has_names, read_all, image_of, output}
use Rattle.lines.specs.Settings.{file_lines, file_image}

-- whether each output is the expected one
abbrev all_same : List (List ℕ × List ℕ) → Bool
all_same [] = true
all_same (x ∷ xs) = same x.0 x.1 && all_same xs

abbrev settings : List (List ℕ × List ℕ)
settings =
    -- an image of 32,768 bytes has lines; longer ones have none, and neither has one that is missing
    (output (file_lines (replicate 32768 0)), quoted "at,word\n7ffc,0\n")
    ∷ (output (file_lines (replicate 32769 0)), quoted "0,13\n")
    ∷ (output (file_lines (replicate 36864 0)), quoted "0,13\n")
    ∷ (output (file_lines []), quoted "0,13\n")
    -- lines of an image of 32,768 bytes have it; those of a longer one have none, and neither have those of no word
    ∷ (output (file_image (quoted "at,word\n7ffc,1\n")), replicate 32764 0 ++ (1 ∷ 0 ∷ 0 ∷ 0 ∷ []))
    ∷ (output (file_image (quoted "at,word\n8ffc,1\n")), quoted "0,13\n")
    ∷ (output (file_image (quoted "at,word\n")), quoted "0,13\n")
    ∷ []

pub settings_hold : all_same settings ≡ true
unfolding has until past same digit digits number lean spelled value_of glyph spell hex_of quoted_from quoted memory_fits line_of pair_text has_line words_from image_from end_from length_fits lines_text text_of lines_of falls unaligned zero_before refuses19 read_lines has_names read_all image_of
settings_hold = refl
