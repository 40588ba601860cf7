-- Sizes, limits and alignments.
use Rattle.std.specs.Prelude.{ℕ, ◌*◌, ◌-◌, ◌^◌}

-- bytes of a page, and bytes that one level-one descriptor maps
abbrev pub page_size : ℕ
page_size = 4096

abbrev pub section_size : ℕ
section_size = 0x100000

-- The machine of the rules, which a later request calls the old one: N, of TTBCR, is 7, and its window is 4 MiB. So its addresses are below
-- 0x400000, its rows have 1,024 words, and its roots are multiples of 0x80.
abbrev pub old_split : ℕ
old_split = 7

abbrev pub old_window : ℕ
old_window = 4

-- with a window of w MiB, virtual addresses are below this
unfoldable pub address_limit : ℕ → ℕ
address_limit w = w * section_size

-- and this many are its pages: the words of a context's row in the track
unfoldable pub row_size : ℕ → ℕ
row_size w = 256 * w

-- with N, a root is a multiple of this
unfoldable pub root_alignment : ℕ → ℕ
root_alignment n = 2 ^ (14 - n)

-- memory's length is a multiple of the one, and at most the other
abbrev pub memory_unit : ℕ
memory_unit = 4096

abbrev pub memory_most : ℕ
memory_most = 16777216

-- the number of contexts is at most this
abbrev pub contexts_most : ℕ
contexts_most = 256

-- words and fields are below this
abbrev pub word_limit : ℕ
word_limit = 0x100000000
