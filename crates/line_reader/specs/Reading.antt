-- The reader of lines: what a byte does to it and to the image, and what the end of the input gives. And what is proved of it: that it does
-- not matter in which parts the input arrives, and that the end of the whole input gives the image of the lines, or their refusal.
use Rattle.std.specs.Prelude.{ℕ, ◌+◌, ◌%◌, ◌≤◌, ◌≡◌, Bool, true, false, cond, List, [], ◌∷◌, ◌++◌, eqb, ltb, length, take, set, replicate, Option, Some, None, Result, Ok, Err}
use Rattle.text.specs.Split.{same}
use Rattle.text.specs.Put.{over}
use Rattle.names.specs.Names.{newline}
use Rattle.model.specs.declared.Size.TheVariants.{Four}
use Rattle.model.specs.step.Memory.{written_at}
use Rattle.lines.specs.Form.{line_names, line_of, pair_text, line_most, pair_room}
use Rattle.lines.specs.Ways.{Converted, gives, refusal, length_fits, image_of, output}
use Rattle.lines.specs.Settings.{image_limit, file_image}
use Rattle.line_reader.specs.declared.Flaw.{Flaw}
use Rattle.line_reader.specs.declared.Flaw.TheVariants.{Form, Order}
use Rattle.line_reader.specs.declared.Reader.{Reader}
use Rattle.line_reader.specs.declared.Reading.{Reading}
use Rattle.line_reader.specs.declared.NoOutput.{NoOutput}
use Rattle.line_reader.specs.declared.NoOutput.TheVariants.{ShortBuffer, WrongBuffer}

-- the reader, the buffer of the line being read, and the image
pub record State : Type 0 where
  pub reader : Reader
  pub line : List ℕ
  pub image : List ℕ

-- what a reader and its two lent buffers hold
abbrev pub state_of : Reading → State
state_of r = record { reader = r.reader; line = r.line.now; image = r.image.now }

-- the two buffers are the same
abbrev pub SameBuffers : Reading → Reading → Type 0
SameBuffers r q = (r.line.ghost_name ≡ q.line.ghost_name) × (r.image.ghost_name ≡ q.image.ghost_name)

-- nothing read
abbrev pub fresh : Reader
fresh = record { flaw = None; lines = 0; count = 0; end = 0; zero = false }

-- the beginning, with a buffer for the line and an image of so many bytes
abbrev pub begun : List ℕ → ℕ → State
begun d limit = record { reader = fresh; line = d; image = replicate limit 0 }

-- ── A line ──
-- the line behind line n; there is none behind the last that has 32 bits, which no input reaches, as addresses rise
abbrev pub line_limit : ℕ
line_limit = 4294967295

unfoldable pub line_after : ℕ → ℕ
line_after n = cond (ltb n line_limit) (n + 1) n

-- the line being read is turned back
abbrev pub turn : Flaw → Reader → Reader
turn f r = record { flaw = Some f; lines = line_after r.lines; count = r.count; end = r.end; zero = r.zero }

-- the line before it is
abbrev pub late_turn : Reader → Reader
late_turn r = record { flaw = Some Order; lines = r.lines; count = r.count; end = r.end; zero = r.zero }

-- the line being read is accepted
abbrev pub accept : Reader → ℕ → Bool → Reader
accept r end zero = record { flaw = None; lines = line_after r.lines; count = 0; end = end; zero = zero }

-- the reader alone changes
abbrev pub changed : Reader → State → State
changed r s = record { reader = r; line = s.line; image = s.image }

-- the line being read is turned back; the buffers stay
abbrev pub turned : Flaw → State → State
turned f s = changed (turn f s.reader) s

-- the line being read is accepted; the image ends at `end` so far, and `zero` says whether the last word is zero; the buffers stay
abbrev pub accepted : ℕ → Bool → State → State
accepted end zero s = changed (accept s.reader end zero) s

-- the line being read, as far as it is held
abbrev pub so_far : State → List ℕ
so_far s = take s.reader.count s.line

-- a byte more of it; a line that its buffer cannot hold is none
abbrev pub one_more : Reader → Reader
one_more r = record { flaw = None; lines = r.lines; count = r.count + 1; end = r.end; zero = r.zero }

unfoldable pub with_byte : ℕ → State → State
with_byte b s =
    cond (ltb s.reader.count (length s.line))
    (record { reader = one_more s.reader; line = set s.line s.reader.count b; image = s.image })
    (changed (turn Form s.reader) s)

-- ── The end of a line ──
unfoldable pub names_ended : State → State
names_ended s = cond (same (so_far s) line_names) (changed (accept s.reader 0 false) s) (changed (turn Form s.reader) s)

-- the word w at address a
unfoldable pub word_ended : ℕ → ℕ → State → State
word_ended a w s =
    cond (ltb a s.reader.end) (changed (turn Order s.reader) s)
    (cond (eqb (a % 4) 0) (record { reader = accept s.reader (a + 4) (eqb w 0); line = s.line; image = written_at Four s.image a w })
    (changed (turn Order s.reader) s))

abbrev pub said : Option (ℕ × ℕ) → State → State
said (Some (a, w)) s = word_ended a w s
said None s = changed (turn Form s.reader) s

-- the names are line 1: no line has ended before it
unfoldable pub line_ended : State → State
line_ended s = cond (eqb s.reader.lines 0) (names_ended s) (said (line_of (so_far s)) s)

-- ── A byte ──
-- behind a zero word no byte may follow
unfoldable pub byte_taken : ℕ → State → State
byte_taken b s = cond s.reader.zero (changed (late_turn s.reader) s) (cond (eqb b newline) (line_ended s) (with_byte b s))

-- the number of the rules for a flaw
abbrev pub flaw_number : Flaw → ℕ
flaw_number Form = 18
flaw_number Order = 19

-- whether a line was turned back
abbrev pub decides : Option Flaw → Bool
decides None = false
decides (Some f) = true

abbrev pub is_decided : Reader → Bool
is_decided r = decides r.flaw

unfoldable pub step : ℕ → State → State
step b s = cond (is_decided s.reader) s (byte_taken b s)

-- the bytes of a part of the input, one after the other
unfoldable pub feed : List ℕ → State → State
feed [] s = s
feed (b ∷ bs) s = feed bs (step b s)

-- ── The end of the input ──
-- the last line has its newline, and the names line is there
unfoldable pub complete : Reader → Bool
complete r = cond (eqb r.count 0) (ltb 0 r.lines) false

-- no line was turned back: the length is tested last; the limit is the length of the image's buffer
unfoldable pub last_test : Reader → List ℕ → Converted
last_test r m = cond (complete r) (cond (length_fits (length m) r.end) (gives (take r.end m)) (refusal 0 19)) (refusal (line_after r.lines) 18)

-- by why a line was turned back, if one was
abbrev pub by_flaw : Option Flaw → Reader → List ℕ → Converted
by_flaw None r m = last_test r m
by_flaw (Some f) r m = refusal r.lines (flaw_number f)

-- what the end of the input gives
abbrev pub ending : Reader → List ℕ → Converted
ending r m = by_flaw r.flaw r m

-- the same, told by the line of the refusal and why, where there is one
abbrev pub ending_by : Option (ℕ × Flaw) → Reader → List ℕ → Converted
ending_by None r m = gives (take r.end m)
ending_by (Some (n, f)) r m = refusal n (flaw_number f)

-- what a call at the end of the input answers, and what it leaves in the image's buffer
pub record EndCall : Type 0 where
  pub told : Result ℕ NoOutput
  pub image : List ℕ

abbrev pub refusal_call : ℕ → ℕ → List ℕ → EndCall
refusal_call n r d = record { told = Ok (length (pair_text n r)); image = over d 0 (pair_text n r) }

-- the bytes of the image stand in the buffer; a refusal is put in front of what it holds
abbrev pub end_call : Converted → List ℕ → EndCall
end_call (gives m) d = record { told = Ok (length m); image = d }
end_call (refusal n r) d = refusal_call n r d

unfoldable pub finished : Reader → List ℕ → EndCall
finished r m = cond (ltb (length m) pair_room) (record { told = Err ShortBuffer; image = m }) (end_call (ending r m) m)

-- the same for the programs: the length of the image's buffer is the limit, so one of another length has an answer of its own and stays as it is
unfoldable pub finished_file : Reader → List ℕ → EndCall
finished_file r m = cond (eqb (length m) image_limit) (finished r m) (record { told = Err WrongBuffer; image = m })

-- ── What is proved ──
-- the end of an input that is fed from the beginning, in a buffer for the line and an image of so many bytes
abbrev pub end_of : List ℕ → ℕ → List ℕ → EndCall
end_of d limit l = let s = feed l (begun d limit) in finished s.reader s.image

-- the same for the programs
abbrev pub end_of_file : List ℕ → List ℕ → EndCall
end_of_file d l = let s = feed l (begun d image_limit) in finished_file s.reader s.image

-- For every limit, and every buffer that can hold a line.
pub record Streamed : Type 0 where
  -- part by part is the whole
  pub parts : (xs ys : List ℕ) (s : State) → feed (xs ++ ys) s ≡ feed ys (feed xs s)
  -- once a line is turned back, no byte changes anything
  pub decided : (l : List ℕ) (s : State) → is_decided s.reader ≡ true → feed l s ≡ s
  -- the end of the whole input gives the image of the lines, or their refusal
  pub whole : (d : List ℕ) (limit : ℕ) (l : List ℕ) → line_most ≤ length d → let s = feed l (begun d limit) in ending s.reader s.image ≡ image_of limit l
  -- and the front of the image's buffer is the whole output, where a refusal fits
  pub front : (d : List ℕ) (limit : ℕ) (l : List ℕ) → line_most ≤ length d → pair_room ≤ limit
      → ((end_of d limit l).told ≡ Ok (length (output (image_of limit l)))) × (take (length (output (image_of limit l))) (end_of d limit l).image ≡ output (image_of limit l))

-- Under the limit of the programs, for every buffer that can hold a line: the front of the image's buffer is the whole output.
pub record FileStreamed : Type 0 where
  pub front : (d l : List ℕ) → line_most ≤ length d → let s = output (file_image l) in ((end_of_file d l).told ≡ Ok (length s)) × (take (length s) (end_of_file d l).image ≡ s)
