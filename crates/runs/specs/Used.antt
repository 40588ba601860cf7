-- Which bytes of memory present walks use, in the words of the rules.
use Rattle.std.specs.Prelude.{ℕ, ◌+◌, ◌*◌, ◌/◌, ◌%◌, ◌≤◌, ◌<◌, ◌≡◌, true, List, length}
use Rattle.model.specs.Limits.{address_limit, page_size, section_size}
use Rattle.model.specs.reference.Rules.{in_memory, value, bits}

-- how many level-one words a window of w MiB has: one for each MiB below the limit of addresses
unfoldable pub window_words : ℕ → ℕ
window_words w = address_limit w / section_size

-- bytes of a level-one word, and of a table
abbrev pub word_size : ℕ
word_size = 4

abbrev pub table_size : ℕ
table_size = 1024

-- where the level-one word of MiB i stands, and where the table begins to which a word points
abbrev pub first_place : ℕ → ℕ → ℕ
first_place root i = root + word_size * i

abbrev pub table_base : ℕ → ℕ
table_base w = bits 31 10 w * 1024

-- byte b is one of the n bytes from `at` on
pub record Among (at n b : ℕ) : Type 0 where
  pub from : at ≤ b
  pub before : b < at + n

-- The bytes that belong to the walks of MiB i: its level-one word, whatever it says, and the table that it points to.
pub data Serves (m : List ℕ) (root i b : ℕ) : Type 0 where
  first_word : Among (first_place root i) word_size b → Serves m root i b
  of_table : in_memory m (first_place root i) word_size ≡ true → bits 1 0 (value m (first_place root i) word_size) ≡ 1 →
      Among (table_base (value m (first_place root i) word_size)) table_size b → Serves m root i b

-- A byte is used by a present walk if it belongs to the walks of a MiB of the window and lies in memory.
pub record Used (w : ℕ) (m : List ℕ) (root b : ℕ) : Type 0 where
  pub mib : ℕ
  pub in_window : mib < window_words w
  pub serves : Serves m root mib b
  pub inside : b < length m

-- The n bytes from `at` on touch no used byte.
abbrev pub Untouched : ℕ → List ℕ → ℕ → ℕ → ℕ → Type 0
Untouched w m root at n = (b : ℕ) → Among at n b → Used w m root b → ⊥

-- ── The bytes that the walk of one address reads ──
-- the level-one word of an address: where it stands, and what it says
abbrev pub first_address : ℕ → ℕ → ℕ
first_address root a = root + 4 * (a / section_size)

abbrev pub first_says : List ℕ → ℕ → ℕ → ℕ
first_says m root a = value m (first_address root a) 4

-- The walk of an address reads its level-one word; and, where that lies in memory and points to a table, the level-two word there.
pub data Reads (m : List ℕ) (root a b : ℕ) : Type 0 where
  first : Among (first_address root a) 4 b → Reads m root a b
  second : in_memory m (first_address root a) 4 ≡ true → bits 1 0 (first_says m root a) ≡ 1 →
      Among (bits 31 10 (first_says m root a) * 1024 + 4 * (a / page_size % 256)) 4 b → Reads m root a b
