-- The track: noting, flushing and the stale test, by words, rows and parts.
use Rattle.std.specs.Prelude.{ℕ, ◌+◌, ◌*◌, ◌-◌, ◌/◌, ◌%◌, Bool, true, false, cond, List, eqb, ltb, length, get_or, set, Ok, Err}
use Rattle.model.specs.Limits.{row_size, word_limit}
use Rattle.model.specs.step.Walk.{walk_page}
use Rattle.model.specs.step.Rows.{map_words, in_row, each_row}
use Rattle.model.specs.Types.{Entry, Tables, Outcome}

-- the word of one entry
abbrev pub entry_word : Entry → ℕ
entry_word e = e.frame % 1048576 * 4096 + e.ap % 8 * 512 + e.section % 2 * 256 + e.global % 2 * 128 + e.xn % 2 * 64 + e.domain % 16 * 4 + 2

-- A row is one of two kinds: that of a context, whose entries are not global, or the global row. What follows is told the kind by a
-- number g as entries have it: 0 or 1.

-- whether a word of such a row stands for one entry
unfoldable pub is_entry : ℕ → ℕ → Bool
is_entry g w = cond (ltb w word_limit) (cond (eqb (w % 4) 2) (eqb (w / 128 % 2) g) false) false

-- a word after the entry with word v, one of its row's kind, was added to its set
unfoldable pub add_entry : ℕ → ℕ → ℕ → ℕ
add_entry g w v = cond (eqb w 0) v (cond (eqb w v) w (cond (is_entry g w) 1 w))

-- a word after noting what the walk of its page found
abbrev pub add_outcome : ℕ → ℕ → Outcome → ℕ
add_outcome g w (Ok e) = cond (eqb e.global g) (add_entry g w (entry_word e)) w
add_outcome g w (Err f) = w

unfoldable pub note_page : List ℕ → Tables → ℕ → ℕ → ℕ → ℕ
note_page m tables g page w = add_outcome g w (walk_page m tables page)

abbrev pub note_row : List ℕ → Tables → ℕ → List ℕ → List ℕ
note_row m tables g row = map_words (note_page m tables g) row

-- with a window of w MiB, how many rows n words have, and the number of the last: the global row of a track, and how many contexts it has
abbrev pub rows_of : ℕ → ℕ → ℕ
rows_of w n = n / row_size w

unfoldable pub last_row : ℕ → ℕ → ℕ
last_row w n = rows_of w n - 1

-- the track with the row of a context noted, then the global row
unfoldable pub note_track : ℕ → List ℕ → Tables → ℕ → List ℕ → List ℕ
note_track w m tables context t = in_row (row_size w) (last_row w (length t)) (note_row m tables 1) (in_row (row_size w) context (note_row m tables 0) t)

-- a row with the set of one page empty, and with every set empty
abbrev pub empty_page : ℕ → List ℕ → List ℕ
empty_page page row = set row page 0

abbrev pub empty_row : List ℕ → List ℕ
empty_row row = map_words (λ (i w : ℕ). 0) row

-- the four flushes of a track: every set; a page in every row; a context's row; a page in a context's row and in the global row
unfoldable pub flush_all : ℕ → List ℕ → List ℕ
flush_all w t = each_row (row_size w) (rows_of w (length t)) empty_row t

unfoldable pub flush_page : ℕ → ℕ → List ℕ → List ℕ
flush_page w page t = each_row (row_size w) (rows_of w (length t)) (empty_page page) t

unfoldable pub flush_context : ℕ → ℕ → List ℕ → List ℕ
flush_context w context t = in_row (row_size w) context empty_row t

unfoldable pub flush_page_in : ℕ → ℕ → ℕ → List ℕ → List ℕ
flush_page_in w context page t = in_row (row_size w) (last_row w (length t)) (empty_page page) (in_row (row_size w) context (empty_page page) t)

-- the word of a row and a page
abbrev pub word_at : ℕ → List ℕ → ℕ → ℕ → ℕ
word_at w t row page = get_or t (row * row_size w + page) 0

-- whether a word of a row of kind g makes its page stale
unfoldable pub stale_word : ℕ → ℕ → Outcome → Bool
stale_word g w (Ok e) = cond (eqb w 0) false (cond (eqb e.global g) (cond (eqb w (entry_word e)) false true) true)
stale_word g w (Err f) = cond (eqb w 0) false true

-- whether a page is stale: by its word in the row of a context, or by its word in the global row
unfoldable pub stale_page : ℕ → List ℕ → ℕ → ℕ → Outcome → Bool
stale_page w t context page x =
    cond (stale_word 0 (word_at w t context page) x) true (stale_word 1 (word_at w t (last_row w (length t)) page) x)
