-- Sections split into pages: a TLB remembers whether an entry came from a section.
use Rattle.std.specs.Prelude.{ℕ, ◌+◌, ◌*◌, ◌/◌, ◌%◌, ◌≡◌, true, List}
use Rattle.model.specs.Limits.{page_size}
use Rattle.model.specs.reference.Rules.{found, in_memory, value, bits, domain_of, section, table_word, Scope, covers, one, kept, track_word, stale}
use Rattle.model.specs.Types.{Entry}

-- an entry that came from a page, and is otherwise the same
abbrev pub as_page : Entry → Entry
as_page e = record { frame = e.frame; ap = e.ap; section = 0; global = e.global; xn = e.xn; domain = e.domain }

-- the level-two word of a small page that equals the page of an address in a section: the same frame, nG, AP and XN
abbrev pub equal_page : ℕ → ℕ → ℕ
equal_page a w = (section a w).frame * 4096 + bits 17 17 w * 2048 + bits 15 15 w * 512 + bits 11 10 w * 16 + 2 + bits 4 4 w

-- where the level-two word of an address stands in the table that a level-one word points to
abbrev pub second_place : ℕ → ℕ → ℕ
second_place a v = bits 31 10 v * 1024 + 4 * (a / page_size % 256)

-- The level-one word w of a section is replaced by v, which points to a table of equal pages in the same domain.
pub record SectionRemembered : Type 0 where
  -- each page that the section mapped is mapped still, by the same entry but that it came from a page
  pub alone : (m : List ℕ) (a w v : ℕ) → bits 1 0 v ≡ 1 → domain_of v ≡ domain_of w → in_memory m (second_place a v) 4 ≡ true →
      value m (second_place a v) 4 ≡ equal_page a w → table_word m a v ≡ found (as_page (section a w))
  -- and the page is stale in every context that uses a set in which the section's entry is still noted
  pub stale : (m t : List ℕ) (window a w v : ℕ) (u : Scope) (context : ℕ) → table_word m a v ≡ found (as_page (section a w)) → covers u context ≡ true →
      kept u (track_word window t u (a / page_size)) ≡ one (section a w) → stale window t context (a / page_size) (table_word m a v) ≡ true
