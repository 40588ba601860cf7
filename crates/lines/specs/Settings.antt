-- The setting of the programs: the longest image, both ways.
use Rattle.std.specs.Prelude.{ℕ, List}
use Rattle.lines.specs.Ways.{Converted, lines_of, image_of}

-- the longest image that a program reads or writes
abbrev pub image_limit : ℕ
image_limit = 32768

-- the lines of an image file: one that is too long counts as length 0, and so does a missing one, of which 0 bytes are read; both are refused
abbrev pub file_lines : List ℕ → Converted
file_lines m = lines_of image_limit m

-- the image of a file of lines
abbrev pub file_image : List ℕ → Converted
file_image l = image_of image_limit l
