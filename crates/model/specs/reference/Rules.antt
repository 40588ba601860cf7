-- The rules in their own words and order: reading a map, the operations and the plain machine, the chip with its TLB, what a
-- TLB may remember, and when an operation is turned back.
use Rattle.std.specs.Prelude.{ℕ, zero, suc, ◌+◌, ◌*◌, ◌-◌, ◌/◌, ◌%◌, ◌^◌, ◌≡◌, ◌⊎◌, Bool, true, false, cond, not, ◌&&◌, ◌||◌, eqb, leb, ltb, length, get_or, set}
use mathlib.Core.List.{List, [], ◌∷◌, map, foldl}
use Rattle.std.proofs.Math.Option.{Option, none, some}
use Rattle.model.specs.Limits.{page_size, section_size, old_split, old_window, address_limit, row_size, root_alignment, memory_unit, memory_most, contexts_most}
use Rattle.model.specs.Numbers.{Result, ok, fault, kind_number}
use Rattle.model.specs.Types.{Registers, Setting, Operation, Kind, Read, Write, Root, Asid, Mode, All, Addr, Ctx, AddrCtx, Fetch, Domain, Entry, Purpose, ToRead, ToWrite, ToFetch, Ruling, Allowed, PermissionDenied, DomainDenied}

-- ── Reading a map ──
-- whether n bytes from `at` lie wholly in memory
unfoldable pub in_memory : List ℕ → ℕ → ℕ → Bool
in_memory m at n = leb (at + n) (length m)

-- the number that n bytes from `at` make, low byte first
unfoldable pub value : List ℕ → ℕ → ℕ → ℕ
value m at zero = 0
value m at (suc n) = get_or m at 0 + 256 * value m (suc at) n

-- bits high..low of a word
unfoldable pub bits : ℕ → ℕ → ℕ → ℕ
bits high low w = w / 2 ^ low % 2 ^ (suc high - low)

-- What a walk gives: an entry, or the number of the fault that ends it.
pub data Translation : Type 0 where
  found : Entry → Translation
  failed : ℕ → Translation

-- what f says of the word at `at`, or this fault where the word is not wholly in memory
unfoldable pub descriptor : List ℕ → ℕ → ℕ → (ℕ → Translation) → Translation
descriptor m at n f = cond (in_memory m at 4) (f (value m at 4)) (failed n)

-- An entry with the nG bit clear is global: 1, else 0.
unfoldable pub global_by : ℕ → ℕ
global_by nG = cond (eqb nG 0) 1 0

-- The domain of a level-one word, bits 8..5: that of a section, and of the pages of the table that it points to.
unfoldable pub domain_of : ℕ → ℕ
domain_of w = bits 8 5 w

-- Section: base bits 31..20, AP[2] bit 15, AP[1:0] bits 11..10, nG bit 17, XN bit 4; the missing frame bits come from the address.
-- An entry records whether it came from a section: 1 here, 0 for pages.
unfoldable pub section : ℕ → ℕ → Entry
section a w = record {
  frame = bits 31 20 w * 256 + a / page_size % 256;
  ap = bits 15 15 w * 4 + bits 11 10 w;
  section = 1;
  global = global_by (bits 17 17 w);
  xn = bits 4 4 w;
  domain = domain_of w;
}

-- Large page: base bits 31..16, XN bit 15. Small page: base bits 31..12, XN bit 0. For both, AP[2] is bit 9, AP[1:0] bits 5..4 and nG
-- bit 11; the domain d is that of the level-one word.
unfoldable pub large_page : ℕ → ℕ → ℕ → Entry
large_page a d w = record {
  frame = bits 31 16 w * 16 + a / page_size % 16;
  ap = bits 9 9 w * 4 + bits 5 4 w;
  section = 0;
  global = global_by (bits 11 11 w);
  xn = bits 15 15 w;
  domain = d;
}

unfoldable pub small_page : ℕ → ℕ → Entry
small_page d w = record {
  frame = bits 31 12 w;
  ap = bits 9 9 w * 4 + bits 5 4 w;
  section = 0;
  global = global_by (bits 11 11 w);
  xn = bits 0 0 w;
  domain = d;
}

-- Level two. Low two bits 0: no mapping, fault 7. 1: large page. 2 or 3: small page.
unfoldable pub page_word : ℕ → ℕ → ℕ → Translation
page_word a d w = cond (eqb (bits 1 0 w) 0) (failed 0x7) (cond (eqb (bits 1 0 w) 1) (found (large_page a d w)) (found (small_page d w)))

-- Level one. Low two bits 0 or 3: no mapping, fault 5. 1: table at bits 31..10, and the level-two word at table base + 4 ×
-- (address / 4,096 % 256); fault 0xe where that word is not in memory. 2 with bit 18 clear: section; set: no mapping.
unfoldable pub table_word : List ℕ → ℕ → ℕ → Translation
table_word m a w =
    cond (eqb (bits 1 0 w) 1) (descriptor m (bits 31 10 w * 1024 + 4 * (a / page_size % 256)) 0xe (page_word a (domain_of w)))
    (cond (eqb (bits 1 0 w) 2 && eqb (bits 18 18 w) 0) (found (section a w)) (failed 0x5))

-- the walk of an address, in memory m from this root; fault 0xc where the level-one word is not in memory
unfoldable pub walk : List ℕ → ℕ → ℕ → Translation
walk m root a = descriptor m (root + 4 * (a / section_size)) 0xc (table_word m a)

-- The physical address is frame × 4,096 + address % 4,096.
unfoldable pub physical : Entry → ℕ → ℕ
physical e a = e.frame * page_size + a % page_size

pub data Right : Type 0 where
  nothing reading writing : Right

-- AP from 0 to 7: kernel / user. `writing` is read-write.
abbrev pub rights : List (Right × Right)
rights =
    (nothing, nothing) ∷ (writing, nothing) ∷ (writing, reading) ∷ (writing, writing)
    ∷ (nothing, nothing) ∷ (reading, nothing) ∷ (reading, reading) ∷ (reading, reading) ∷ []

-- the right that an AP gives in a mode, 0 kernel or 1 user
unfoldable pub right_of : ℕ → ℕ → Right
right_of ap mode = cond (eqb mode 0) (get_or rights ap (nothing, nothing)).0 (get_or rights ap (nothing, nothing)).1

-- whether a right is one to read, and one to write
unfoldable pub may_read : Right → Bool
may_read nothing = false
may_read reading = true
may_read writing = true

unfoldable pub may_write : Right → Bool
may_write nothing = false
may_write reading = false
may_write writing = true

-- What an access needs, by what it is for: a read needs read permission, a write write permission, a fetch read permission and XN clear.
unfoldable pub permits : Purpose → Right → ℕ → Bool
permits ToRead right xn = may_read right
permits ToWrite right xn = may_write right
permits ToFetch right xn = may_read right && eqb xn 0

-- the field of domain d in the domain register, which has sixteen fields of two bits
unfoldable pub field_of : ℕ → ℕ → ℕ
field_of domains d = bits (2 * d + 1) (2 * d) domains

-- What the field of its domain says of an access, in a mode, through an entry with this AP and XN: 0 denies it, whatever AP and XN say; 1
-- applies permissions and XN; 3 skips both. 2, which no register of an accepted operation has, answers as 0.
unfoldable pub ruling : ℕ → ℕ → Purpose → ℕ → ℕ → Ruling
ruling ap mode x field xn =
    cond (eqb field 1) (cond (permits x (right_of ap mode) xn) Allowed PermissionDenied) (cond (eqb field 3) Allowed DomainDenied)

-- ── The operations, and the plain machine: no TLB and no track ──
-- whether an operation's kind is one of these
unfoldable pub among : Kind → List Kind → Bool
among k [] = false
among k (x ∷ xs) = eqb (kind_number k) (kind_number x) || among k xs

-- the operations that are accesses
abbrev pub accesses : List Kind
accesses = Read ∷ Write ∷ Fetch ∷ []

-- A read or a write takes as many bytes as its field b says, a fetch four.
unfoldable pub access_size : Operation → ℕ
access_size o = cond (among o.kind (Fetch ∷ [])) 4 o.b

-- The plain machine holds memory and the registers.
pub record State : Type 0 where
  pub memory : List ℕ
  pub registers : Registers

-- what a start at this root is given
abbrev pub rooted : ℕ → Setting
rooted root = record { root = root }

-- at first: the image, the given root, context 0, kernel mode, each field of the domain register 1
unfoldable pub fresh : List ℕ → Setting → State
fresh image g = record { memory = image; registers = record { root = g.root; context = 0; mode = 0; domains = 0x55555555 } }

-- memory with the low n bytes of v written from `at`, low byte first
unfoldable pub stored : List ℕ → ℕ → ℕ → ℕ → List ℕ
stored m at zero v = m
stored m at (suc n) v = stored (set m at (v % 256)) (suc at) n (v / 256)

unfoldable pub aligned : ℕ → ℕ → Bool
aligned a size = eqb (a % size) 0

-- The bytes are read or written, low byte first; a fetch reads them.
unfoldable pub touched : Purpose → ℕ → ℕ → ℕ → State → Result × State
touched ToRead at size v s = (ok (value s.memory at size), s)
touched ToWrite at size v s = (ok 0, record { memory = stored s.memory at size v; registers = s.registers })
touched ToFetch at size v s = (ok (value s.memory at size), s)

-- permission, by the entry used: fault 0xd where it came from a section, 0xf where it came from a page
unfoldable pub permission_fault : Entry → ℕ
permission_fault e = cond (eqb e.section 1) 0xd 0xf

-- a closed domain, by the entry used: fault 9 where it came from a section, 0xb where it came from a page
unfoldable pub domain_fault : Entry → ℕ
domain_fault e = cond (eqb e.section 1) 0x9 0xb

-- An access through an entry: domain or permission; fault 8, bytes not in memory; the bytes.
unfoldable pub ruled : Ruling → Purpose → ℕ → ℕ → ℕ → State → Entry → Result × State
ruled DomainDenied x a size v s e = (fault (domain_fault e), s)
ruled PermissionDenied x a size v s e = (fault (permission_fault e), s)
ruled Allowed x a size v s e = cond (in_memory s.memory (physical e a) size) (touched x (physical e a) size v s) (fault 0x8, s)

-- An address with its translation: a fault of the walk, else the entry, with the mode and the domain register of now.
unfoldable pub translated : Purpose → ℕ → ℕ → ℕ → State → Translation → Result × State
translated x a size v s (failed n) = (fault n, s)
translated x a size v s (found e) =
    ruled (ruling e.ap s.registers.mode x (field_of s.registers.domains e.domain) e.xn) x a size v s e

-- A read, a write or a fetch: fault 1, address not a multiple of the size; else the address is translated.
unfoldable pub access : Purpose → Operation → State → (ℕ → Translation) → Result × State
access x o s f = cond (aligned o.a (access_size o)) (translated x o.a (access_size o) o.c s (f o.a)) (fault 0x1, s)

unfoldable pub set_registers : State → ℕ → ℕ → ℕ → ℕ → Result × State
set_registers s root context mode domains =
    (ok 0, record { memory = s.memory; registers = record { root = root; context = context; mode = mode; domains = domains } })

-- An operation carried out, where f translates addresses. A flush changes neither memory nor registers.
unfoldable pub effect : Kind → Operation → State → (ℕ → Translation) → Result × State
effect Read o s f = access ToRead o s f
effect Write o s f = access ToWrite o s f
effect Root o s f = set_registers s o.a s.registers.context s.registers.mode s.registers.domains
effect Asid o s f = set_registers s s.registers.root o.a s.registers.mode s.registers.domains
effect Mode o s f = set_registers s s.registers.root s.registers.context o.a s.registers.domains
effect All o s f = (ok 0, s)
effect Addr o s f = (ok 0, s)
effect Ctx o s f = (ok 0, s)
effect AddrCtx o s f = (ok 0, s)
effect Fetch o s f = access ToFetch o s f
effect Domain o s f = set_registers s s.registers.root s.registers.context s.registers.mode o.a

-- the present outcome of an address: what the walk of memory gives now
unfoldable pub outcome : State → ℕ → Translation
outcome s a = walk s.memory s.registers.root a

-- The plain machine translates by its tables.
unfoldable pub carried_out : Operation → State → Result × State
carried_out o s = effect o.kind o s (outcome s)

-- One operation, told whether it was refused. A refused operation changes nothing and gives no answer.
unfoldable pub plain_step : Operation → Bool → State → Option Result × State
plain_step o is_refused s = cond is_refused (none, s) (some (carried_out o s).0, (carried_out o s).1)

-- ── Where an entry is used ──
-- The contexts that use an entry of a TLB: one alone, or every context where the entry is global.
pub data Scope : Type 0 where
  own : ℕ → Scope
  global : Scope

-- the scope of an entry that is loaded in a context
unfoldable pub scope_of : ℕ → Entry → Scope
scope_of context e = cond (eqb e.global 1) global (own context)

-- whether entries of this scope are used in a context
unfoldable pub covers : Scope → ℕ → Bool
covers (own c) context = eqb c context
covers global context = true

-- Whether an operation is a flush that names the entries of this scope and page. `ctx` spares global entries; `addr` and `addrctx`
-- drop the global entry of their page, whatever context is named. The low 12 bits of a flush address don't matter.
unfoldable pub flushes : Kind → Operation → Scope → ℕ → Bool
flushes Read o x page = false
flushes Write o x page = false
flushes Root o x page = false
flushes Asid o x page = false
flushes Mode o x page = false
flushes All o x page = true
flushes Addr o x page = eqb page (o.a / page_size)
flushes Ctx o (own c) page = eqb c o.a
flushes Ctx o global page = false
flushes AddrCtx o x page = eqb page (o.a / page_size) && covers x o.b
flushes Fetch o x page = false
flushes Domain o x page = false

-- ── The chip: the plain machine with a TLB of n places ──
-- Each place may hold an entry, under the context that it was loaded in and its page.
pub record Held : Type 0 where
  pub context : ℕ
  pub page : ℕ
  pub entry : Entry

abbrev pub Places : Type 0
Places = List (Option Held)

unfoldable pub held_scope : Held → Scope
held_scope h = scope_of h.context h.entry

-- Whether what is held matches a page in a context: a global entry matches its page in every context.
unfoldable pub matches : Held → ℕ → ℕ → Bool
matches h context page = covers (held_scope h) context && eqb h.page page

-- the entry held that matches a page in a context
unfoldable pub held_for : ℕ → ℕ → Places → Option Entry
held_for context page [] = none
held_for context page (none ∷ hs) = held_for context page hs
held_for context page (some h ∷ hs) = cond (matches h context page) (some h.entry) (held_for context page hs)

-- Whether two scopes have a context in common.
unfoldable pub meet : Scope → Scope → Bool
meet (own c) (own d) = eqb c d
meet (own c) global = true
meet global x = true

-- Whether two would both match some page in some context.
unfoldable pub clash : Held → Held → Bool
clash h k = meet (held_scope h) (held_scope k) && eqb h.page k.page

-- whether something held would clash with h
unfoldable pub any_clash : Held → Places → Bool
any_clash h [] = false
any_clash h (none ∷ ps) = any_clash h ps
any_clash h (some k ∷ ps) = clash h k || any_clash h ps

-- What the chip does by itself: drop what place i holds, or load a page into place i.
pub data Move : Type 0 where
  drop : ℕ → Move
  load : ℕ → ℕ → Move

unfoldable pub is_free : {A : Type 0} → Option A → Bool
is_free none = true
is_free (some x) = false

-- It holds at most one entry that matches a page in a given context: what would clash is not put in.
unfoldable pub put_in : ℕ → ℕ → ℕ → Translation → Places → Places
put_in i context page (found e) ps =
    let h : Held = record { context = context; page = page; entry = e } in
    cond (any_clash h ps) ps (set ps i (some h))
put_in i context page (failed n) ps = ps

-- A move; one that is not allowed does nothing. A load needs place i free, a page of the window (0 to 1,023) that the tables
-- map in the current context, and that it brings about no two that match a page in some context.
unfoldable pub move : State → Places → Move → Places
move s ps (drop i) = set ps i none
move s ps (load i page) =
    cond (is_free (get_or ps i none) && ltb page (row_size old_window))
    (put_in i s.registers.context page (outcome s (page * page_size)) ps)
    ps

unfoldable pub moves : State → Places → List Move → Places
moves s ps xs = foldl (move s) ps xs

-- An aligned access takes the entry held that matches its page in the current context, in place of the walk.
unfoldable pub or_walk : Option Entry → Translation → Translation
or_walk none t = t
or_walk (some e) t = found e

unfoldable pub chip_outcome : State → Places → ℕ → Translation
chip_outcome s ps a = or_walk (held_for s.registers.context (a / page_size) ps) (outcome s a)

-- A flush drops what is held of the scopes and pages it names.
unfoldable pub flush_place : Operation → Option Held → Option Held
flush_place o none = none
flush_place o (some h) = cond (flushes o.kind o (held_scope h) h.page) none (some h)

-- One operation, told whether it was refused: its answer, the state, and what is held, before the moves that follow it.
unfoldable pub chip_step : Operation → Bool → State → Places → Option Result × State × Places
chip_step o true s ps = (none, s, ps)
chip_step o false s ps =
    (some (effect o.kind o s (chip_outcome s ps)).0, (effect o.kind o s (chip_outcome s ps)).1, map (flush_place o) ps)

-- ── What a TLB may remember ──
-- For each scope and page there is a set of entries. Of such a set a word keeps: it is empty, it has one entry, or it has two or
-- more different ones.
pub data Kept : Type 0 where
  empty : Kept
  one : Entry → Kept
  several : Kept

-- The word of one entry: frame in bits 31..12, AP in bits 11..9, section in bit 8, global in bit 7, XN in bit 6, domain in bits 5..2, bit 1
-- set, bit 0 clear.
unfoldable pub word_of : Entry → ℕ
word_of e = e.frame * 4096 + e.ap * 512 + e.section * 256 + e.global * 128 + e.xn * 64 + e.domain * 4 + 2

unfoldable pub entry_of : ℕ → Entry
entry_of w =
    record { frame = bits 31 12 w; ap = bits 11 9 w; section = bits 8 8 w; global = bits 7 7 w; xn = bits 6 6 w; domain = bits 5 2 w }

-- Whether an entry suits the row of a scope: global entries that of `global`, the others that of a context.
unfoldable pub suits : Scope → Entry → Bool
suits (own c) e = eqb e.global 0
suits global e = eqb e.global 1

-- A word is 0 for an empty set and the entry's word for one entry. 1, a word whose entry does not suit its row, and any other word
-- count as several.
unfoldable pub kept : Scope → ℕ → Kept
kept x w = cond (eqb w 0) empty (cond (eqb w (word_of (entry_of w)) && suits x (entry_of w)) (one (entry_of w)) several)

-- Two entries are the same if they are in every field.
unfoldable pub same : Entry → Entry → Bool
same x y =
    eqb x.frame y.frame
    && eqb x.ap y.ap
    && eqb x.section y.section
    && eqb x.global y.global
    && eqb x.xn y.xn
    && eqb x.domain y.domain

-- A word after an entry was added to its set. A word that counts as several stays as found.
unfoldable pub add_to : Kept → Entry → ℕ → ℕ
add_to empty e w = word_of e
add_to (one x) e w = cond (same x e) w 1
add_to several e w = w

unfoldable pub same_scope : Scope → Scope → Bool
same_scope (own c) (own d) = eqb c d
same_scope (own c) global = false
same_scope global (own d) = false
same_scope global global = true

-- A word of a scope after its page was noted in a context: a global entry is added to the set of `global` alone, another to that of
-- the context alone. A page without mapping adds nothing.
unfoldable pub noted : Scope → ℕ → Translation → ℕ → ℕ
noted x context (found e) w = cond (same_scope x (scope_of context e)) (add_to (kept x w) e w) w
noted x context (failed n) w = w

-- A set holds an entry different from the present outcome; no mapping and a failed walk differ from every entry.
unfoldable pub differs : Kept → Translation → Bool
differs empty x = false
differs (one e) (found x) = not (same e x)
differs (one e) (failed n) = true
differs several x = true

-- For all pages, one that the tables map in the context now current has its entry added.
unfoldable pub noted_in : State → Scope → ℕ → ℕ → ℕ
noted_in s x page w = noted x s.registers.context (outcome s (page * page_size)) w

-- The word of a scope and page after an operation that left the state s: a flush empties the sets it names, then noting follows.
unfoldable pub word_after : Operation → State → Scope → ℕ → ℕ → ℕ
word_after o s x page w = noted_in s x page (cond (flushes o.kind o x page) 0 w)

-- the number of contexts k, told with a window of w MiB by the track's length alone: the track has k rows, then the row of the
-- global entries
unfoldable pub contexts : ℕ → List ℕ → ℕ
contexts w t = length t / row_size w - 1

unfoldable pub row_of : ℕ → List ℕ → Scope → ℕ
row_of w t (own c) = c
row_of w t global = contexts w t

-- whether a track has the row of a scope: it has those of its contexts, and the global row
unfoldable pub has_row : ℕ → List ℕ → Scope → Bool
has_row w t (own c) = ltb c (contexts w t)
has_row w t global = true

-- the word of a scope and a page in the track
unfoldable pub track_word : ℕ → List ℕ → Scope → ℕ → ℕ
track_word w t x page = get_or t (row_size w * row_of w t x + page) 0

-- A page is stale in a context if its set there, or its global set, holds an entry different from its present outcome.
unfoldable pub stale : ℕ → List ℕ → ℕ → ℕ → Translation → Bool
stale w t context page y =
    differs (kept (own context) (track_word w t (own context) page)) y || differs (kept global (track_word w t global page)) y

-- ── Turned back ──
-- 7 size: 1, 2 or 4
unfoldable pub refuses7 : Operation → Bool
refuses7 o = among o.kind (Read ∷ Write ∷ []) && not (eqb o.b 1 || eqb o.b 2 || eqb o.b 4)

-- 8 address w × 0x100000 (0x400000) or more, flushes included
unfoldable pub refuses8 : Operation → ℕ → Bool
refuses8 o w = among o.kind (Read ∷ Write ∷ Addr ∷ AddrCtx ∷ Fetch ∷ []) && leb (address_limit w) o.a

-- 9 value too large for the size
unfoldable pub refuses9 : Operation → Bool
refuses9 o =
    among o.kind (Write ∷ [])
    && (eqb o.b 1 && leb 0x100 o.c || eqb o.b 2 && leb 0x10000 o.c || eqb o.b 4 && leb 0x100000000 o.c)

-- 10 root not a multiple of 2^(14 − N) (0x80)
abbrev pub wrong_root : ℕ → ℕ → Bool
wrong_root n root = not (eqb (root % root_alignment n) 0)

unfoldable pub refuses10 : Operation → ℕ → Bool
refuses10 o n = among o.kind (Root ∷ []) && wrong_root n o.a

-- 11 context k or more
unfoldable pub refuses11 : Operation → ℕ → Bool
refuses11 o k = among o.kind (Asid ∷ Ctx ∷ []) && leb k o.a || among o.kind (AddrCtx ∷ []) && leb k o.b

-- 12 mode above 1
unfoldable pub refuses12 : Operation → Bool
refuses12 o = among o.kind (Mode ∷ []) && leb 2 o.a

-- 13 lent lengths: memory a multiple of 4,096 from 4,096 to 16,777,216; track 256 × w × (k + 1) (1,024 × (k + 1)), k from 1 to 256
abbrev pub wrong_memory : List ℕ → Bool
wrong_memory m = not (eqb (length m % memory_unit) 0 && leb memory_unit (length m) && leb (length m) memory_most)

abbrev pub wrong_track : ℕ → List ℕ → Bool
wrong_track w t = not (eqb (length t) (row_size w * (contexts w t + 1)) && leb 1 (contexts w t) && leb (contexts w t) contexts_most)

unfoldable pub refuses13 : ℕ → List ℕ → List ℕ → Bool
refuses13 w m t = wrong_memory m || wrong_track w t

-- whether some of the first n fields of a domain register is 2; it has sixteen
unfoldable pub some_field2 : ℕ → ℕ → Bool
some_field2 zero domains = false
some_field2 (suc n) domains = some_field2 n domains || eqb (field_of domains n) 2

abbrev pub wrong_domains : ℕ → Bool
wrong_domains domains = some_field2 16 domains

-- 14 registers out of range: root a multiple of 2^(14 − N) (0x80), context 0 to k − 1, mode 0 or 1, no field of the domain register 2
unfoldable pub refuses14 : Registers → ℕ → Bool
refuses14 r k = wrong_root old_split r.root || leb k r.context || leb 2 r.mode || wrong_domains r.domains

-- 15 user mode: all operations but read, write, mode and fetch need kernel mode
unfoldable pub refuses15 : Operation → Registers → Bool
refuses15 o r = not (among o.kind (Read ∷ Write ∷ Mode ∷ Fetch ∷ [])) && not (eqb r.mode 0)

-- 16 stale: an aligned access to a page that is stale in the current context
unfoldable pub refuses16 : Operation → Registers → List ℕ → List ℕ → Bool
refuses16 o r m t =
    among o.kind accesses && aligned o.a (access_size o) && stale old_window t r.context (o.a / page_size) (walk m r.root o.a)

-- 17 some field of the new value of the domain register is 2
unfoldable pub refuses17 : Operation → Bool
refuses17 o = among o.kind (Domain ∷ []) && wrong_domains o.a

-- 20 root while the context is not 0, whatever the new root is
unfoldable pub refuses20 : Operation → Registers → Bool
refuses20 o r = among o.kind (Root ∷ []) && not (eqb r.context 0)

-- An operation is tested for 13, 14, then 7 to 12, 17, 15, 20, then 16.
unfoldable pub conditions : Operation → Registers → List ℕ → List ℕ → List (ℕ × Bool)
conditions o r m t =
    (13, refuses13 old_window m t) ∷ (14, refuses14 r (contexts old_window t))
    ∷ (7, refuses7 o) ∷ (8, refuses8 o old_window) ∷ (9, refuses9 o) ∷ (10, refuses10 o old_split)
    ∷ (11, refuses11 o (contexts old_window t)) ∷ (12, refuses12 o)
    ∷ (17, refuses17 o) ∷ (15, refuses15 o r) ∷ (20, refuses20 o r) ∷ (16, refuses16 o r m t) ∷ []

-- Start can give 13 and 10, 13 first.
unfoldable pub start_conditions : List ℕ → List ℕ → Setting → List (ℕ × Bool)
start_conditions m t g = (13, refuses13 old_window m t) ∷ (10, wrong_root old_split g.root) ∷ []

-- A single walk of an address is tested as start does, with no track, then for 8.
unfoldable pub walk_conditions : List ℕ → ℕ → ℕ → List (ℕ × Bool)
walk_conditions m root a =
    (13, wrong_memory m) ∷ (10, wrong_root old_split root) ∷ (8, refuses8 (record { kind = Read; a = a; b = 1; c = 0 }) old_window) ∷ []

-- A number is given only when its condition holds and none before it does.
unfoldable pub Given : ℕ → List (ℕ × Bool) → Type 0
Given r [] = ⊥
Given r (x ∷ xs) = ((x.0 ≡ r) × (x.1 ≡ true)) ⊎ ((x.1 ≡ false) × Given r xs)

-- ── A single walk as one number ──
-- an entry's track word, or 0x100000000 plus a fault
unfoldable pub translation_number : Translation → ℕ
translation_number (found e) = word_of e
translation_number (failed n) = 0x100000000 + n

-- or 0x200000000 plus a refusal
unfoldable pub refused_walk : ℕ → ℕ
refused_walk r = 0x200000000 + r
