-- The walk of two-level tables, by page number.
use Rattle.std.specs.Prelude.{ℕ, ◌+◌, ◌*◌, ◌-◌, ◌/◌, ◌%◌, cond, List, eqb, Option, Some, None, Ok, Err}
use Rattle.model.specs.step.Memory.{load_at}
use Rattle.model.specs.Types.{Entry, FirstUnmapped, SecondUnmapped, FirstOutside, SecondOutside, Four, Pointer, FirstOutcome, Table, Section, Tables, Outcome}

-- the AP of a section's word, and of a page's
abbrev pub section_ap : ℕ → ℕ
section_ap w = w / 32768 % 2 * 4 + w / 1024 % 4

abbrev pub page_ap : ℕ → ℕ
page_ap w = w / 512 % 2 * 4 + w / 16 % 4

-- 1 where the nG bit of a section's word is clear, and of a page's
abbrev pub section_global : ℕ → ℕ
section_global w = 1 - w / 131072 % 2

abbrev pub page_global : ℕ → ℕ
page_global w = 1 - w / 2048 % 2

-- the XN bit of a section's word, of a large page's and of a small page's
abbrev pub section_xn : ℕ → ℕ
section_xn w = w / 16 % 2

abbrev pub large_xn : ℕ → ℕ
large_xn w = w / 32768 % 2

abbrev pub small_xn : ℕ → ℕ
small_xn w = w % 2

-- the domain of a level-one word
abbrev pub first_domain : ℕ → ℕ
first_domain w = w / 32 % 16

-- the entries of the three kinds of mapping, for one page; d is the domain of the level-one word that points to a page's table
abbrev pub section_entry : ℕ → ℕ → Entry
section_entry w page = record { frame = w / 1048576 % 4096 * 256 + page % 256; ap = section_ap w; section = 1; global = section_global w; xn = section_xn w; domain = first_domain w }

abbrev pub large_entry : ℕ → ℕ → ℕ → Entry
large_entry w page d = record { frame = w / 65536 % 65536 * 16 + page % 16; ap = page_ap w; section = 0; global = page_global w; xn = large_xn w; domain = d }

abbrev pub small_entry : ℕ → ℕ → Entry
small_entry w d = record { frame = w / 4096 % 1048576; ap = page_ap w; section = 0; global = page_global w; xn = small_xn w; domain = d }

-- a descriptor is a word of memory
abbrev pub descriptor_at : List ℕ → ℕ → Option ℕ
descriptor_at m at = load_at Four m at

-- the low two bits of a word, and the bit that would make a section a supersection
abbrev pub kind_of : ℕ → ℕ
kind_of w = w % 4

abbrev pub super_bit : ℕ → ℕ
super_bit w = w / 262144 % 2

-- the table that a level-one word points to: its address, and the domain of its pages
abbrev pub pointer_of : ℕ → Pointer
pointer_of w = record { base = w / 1024 % 4194304 * 1024; domain = first_domain w }

-- what a level-one word says of a page
unfoldable pub first_of : ℕ → ℕ → FirstOutcome
first_of w page =
    cond (eqb (kind_of w) 1) (Ok (Table (pointer_of w)))
    (cond (eqb (kind_of w) 2)
    (cond (eqb (super_bit w) 0) (Ok (Section (section_entry w page))) (Err FirstUnmapped))
    (Err FirstUnmapped))

abbrev pub first_from : Option ℕ → ℕ → FirstOutcome
first_from (Some w) page = first_of w page
first_from None page = Err FirstOutside

unfoldable pub first_at : List ℕ → Tables → ℕ → FirstOutcome
first_at m tables page = first_from (descriptor_at m (tables.root + 4 * (page / 256))) page

-- what a level-two word says of a page, in a table of domain d
unfoldable pub second_of : ℕ → ℕ → ℕ → Outcome
second_of w page d =
    cond (eqb (kind_of w) 0) (Err SecondUnmapped)
    (cond (eqb (kind_of w) 1) (Ok (large_entry w page d)) (Ok (small_entry w d)))

abbrev pub second_from : Option ℕ → ℕ → ℕ → Outcome
second_from (Some w) page d = second_of w page d
second_from None page d = Err SecondOutside

unfoldable pub second_at : List ℕ → Pointer → ℕ → Outcome
second_at m table page = second_from (descriptor_at m (table.base + 4 * (page % 256))) page table.domain

-- the whole walk
abbrev pub walk_from : FirstOutcome → List ℕ → ℕ → Outcome
walk_from (Err f) m page = Err f
walk_from (Ok (Section e)) m page = Ok e
walk_from (Ok (Table table)) m page = second_at m table page

unfoldable pub walk_page : List ℕ → Tables → ℕ → Outcome
walk_page m tables page = walk_from (first_at m tables page) m page
