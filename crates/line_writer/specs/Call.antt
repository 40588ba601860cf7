-- What a call that writes the lines of an image answers and leaves.
use Rattle.std.specs.Prelude.{ℕ, ◌+◌, ◌*◌, ◌/◌, ◌≤◌, ◌≡◌, cond, List, ltb, length, take, Result, Ok, Err}
use Rattle.text.specs.Put.{over, has_room, wrote, place_after}
use Rattle.lines.specs.Form.{pair_text, pair_room}
use Rattle.lines.specs.Words.{has_line}
use Rattle.lines.specs.Ways.{length_fits, lines_of, output}
use Rattle.lines.specs.Settings.{image_limit, file_lines}
use Rattle.line_writer.specs.declared.NoLines.{NoLines}
use Rattle.line_writer.specs.declared.NoLines.TheVariants.{ShortBuffer, WrongCounts}

-- a word's line put into a buffer, if the word, in front of the rest of an image, has one: what the buffer holds, and the place after it
unfoldable pub wrote_word : List ℕ → ℕ → ℕ → ℕ → List ℕ → List ℕ
wrote_word d place at w rest = cond (has_line w rest) (wrote pair_room d place (pair_text at w)) d

unfoldable pub place_after_word : List ℕ → ℕ → ℕ → ℕ → List ℕ → ℕ
place_after_word d place at w rest = cond (has_line w rest) (place_after pair_room d place (pair_text at w)) place

-- how many bytes are enough: a line for each word, and one for the names or a refusal
unfoldable pub room_for : ℕ → ℕ → ℕ
room_for limit n = cond (length_fits limit n) (pair_room + pair_room * (n / 4)) pair_room

-- the answer, and what the buffer holds
pub record LinesCall : Type 0 where
  pub told : Result ℕ NoLines
  pub out : List ℕ

-- a text put in front of what a buffer held
abbrev pub in_front : List ℕ → List ℕ → LinesCall
in_front s d = record { told = Ok (length s); out = over d 0 s }

-- nothing written
abbrev pub left : NoLines → List ℕ → LinesCall
left e d = record { told = Err e; out = d }

-- a call with an image buffer of which n bytes were read: more than the limit are refused, and so is a missing image, of which 0 bytes were read
unfoldable pub called : ℕ → List ℕ → ℕ → List ℕ → LinesCall
called limit image n d = cond (ltb (length image) n) (left WrongCounts d) (cond (has_room (room_for limit n) d 0) (in_front (output (lines_of limit (take n image))) d) (left ShortBuffer d))

-- Where the buffer is long enough, its front is the whole output; and for the whole output there is room enough.
pub record Written : Type 0 where
  pub front : (limit : ℕ) (image : List ℕ) (n : ℕ) (d : List ℕ) (size : ℕ) → (called limit image n d).told ≡ Ok size → take size (called limit image n d).out ≡ output (lines_of limit (take n image))
  pub enough : (limit : ℕ) (image : List ℕ) (n : ℕ) (d : List ℕ) → n ≤ length image → room_for limit n ≤ length d → (called limit image n d).told ≡ Ok (length (output (lines_of limit (take n image))))
  pub room : (limit : ℕ) (m : List ℕ) → length (output (lines_of limit m)) ≤ room_for limit (length m)

-- how many bytes are enough for every image file
abbrev pub file_room : ℕ
file_room = 147474

-- Under the limit of the programs, whatever the image file: in a buffer of so many bytes the front is the whole output.
pub record FileWritten : Type 0 where
  pub front : (image : List ℕ) (n : ℕ) (d : List ℕ) → n ≤ length image → file_room ≤ length d → let s = output (file_lines (take n image)) in
      ((called image_limit image n d).told ≡ Ok (length s)) × (take (length s) (called image_limit image n d).out ≡ s)
