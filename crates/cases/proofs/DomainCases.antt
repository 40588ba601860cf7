-- Domains: what the field of a domain allows, through sections and pages; the faults before and behind it; and descriptors whose domain
-- alone changes.
use Prim.Native.Nat.{ℕ, zero, suc, ◌+◌, ◌*◌}
use mathlib.Core.Path.{◌≡◌, refl}
use mathlib.Core.Bool.{true, cond}
use mathlib.Core.List.{List, [], ◌∷◌, ◌++◌}
use lib.Dec.{eqb}
use lib.ListN.{replicate, set}
use Rattle.model.specs.reference.Rules.{rooted}
use Rattle.model.specs.step.Rights.{permitted, field_at, ruling_of}
use Rattle.model.specs.step.Machine.{After, started}
use Rattle.model.specs.declared.Kind.TheVariants.{Read, Write, Asid, Mode, Addr, Fetch, Domain}
use Rattle.model.specs.declared.Purpose.{Purpose}
use Rattle.model.specs.declared.Purpose.TheVariants.{ToRead, ToWrite, ToFetch}
use Rattle.model.specs.declared.Ruling.{Ruling}
use Rattle.model.specs.declared.Ruling.TheVariants.{Allowed, PermissionDenied, DomainDenied}
use Rattle.model.proofs.CaseTools.{all_match, put, zeros, next, fault_code, refusal_code, answered, track_at}
use Rattle.cases.proofs.GlobalCases.{given_with}
use Rattle.cases.proofs.SplitCases.{as_section, as_pages, changing}

-- ── What a field says ──

-- what is said of an access, as a number
abbrev said : Ruling → ℕ
said Allowed = 0
said PermissionDenied = 1
said DomainDenied = 2

-- an access with each field: 0 denies it, 1 asks for permission, 2 answers as 0, 3 allows it
abbrev each_field : ℕ → ℕ → Purpose → ℕ → List (ℕ × ℕ)
each_field ap mode x xn =
    (said (ruling_of ap mode x 0 xn), 2)
    ∷ (said (ruling_of ap mode x 1 xn), cond (permitted ap mode x xn) 0 1)
    ∷ (said (ruling_of ap mode x 2 xn), 2)
    ∷ (said (ruling_of ap mode x 3 xn), 0)
    ∷ []

abbrev each_purpose : ℕ → ℕ → List (ℕ × ℕ)
each_purpose ap mode =
    each_field ap mode ToRead 0 ++ each_field ap mode ToRead 1
    ++ each_field ap mode ToWrite 0 ++ each_field ap mode ToWrite 1
    ++ each_field ap mode ToFetch 0 ++ each_field ap mode ToFetch 1

-- the APs below n, in both modes
abbrev each_ap : ℕ → List (ℕ × ℕ)
each_ap zero = []
each_ap (suc n) = each_purpose n 0 ++ each_purpose n 1 ++ each_ap n

-- the field of each domain below n, in a register in which domain d's alone is 3
abbrev each_domain : ℕ → ℕ → ℕ → List (ℕ × ℕ)
each_domain d w zero = []
each_domain d w (suc n) = (field_at w n, cond (eqb n d) 3 0) ∷ each_domain d w n

abbrev each_register : ℕ → ℕ → ℕ → List (ℕ × ℕ)
each_register d w zero = []
each_register d w (suc n) = each_domain d w 16 ++ each_register (suc d) (w * 4) n

fields : List (ℕ × ℕ)
unfolding next
fields =
    each_ap 8
    ++ each_register 0 3 16
    -- a field is two bits, and is not at the domain's own number
    ++ (field_at 0x2 0, 2) ∷ (field_at 0x2 1, 0) ∷ (field_at 0x4 1, 1) ∷ (field_at 0x8 1, 2) ∷ (field_at 0x8 3, 0) ∷ (field_at 0x40000000 15, 1) ∷ (field_at 0x8000 15, 0)
    ∷ []

-- ── What a field allows ──

-- The parked image maps frame 0 but where another is named, with nG set; 0x44332211 stands at 0x10.
-- Under root 0x80, by a table of domain 0: page 0 AP 1, through which the tables are written. By a table of domain 15: page 0x100 AP 3;
-- page 0x101 AP 0; page 0x102 AP 6; page 0x103 AP 3, XN; page 0x104 frame 5, AP 0, XN; page 0x105 no mapping; page 0x110 a large page,
-- AP 0. From page 0x200 a table of domain 15 that is not in memory. From page 0x300 a section of domain 15, AP 3, nG clear.
-- Under root 0x100, by sections of domain 3: from page 0 AP 3; from page 0x100 AP 0; from page 0x200 AP 6; from page 0x300 AP 3, XN.
-- Under root 0x180: from page 0 a section of domain 3 at 0x300000, AP 0, XN; from page 0x100 a word of kind 0, and from page 0x200 one with
-- bit 18, both with domain bits.
abbrev parked_image : List ℕ
parked_image =
    put 0x80 0x401 (put 0x84 0x9E1 (put 0x88 0x21E1 (put 0x8C 0xDE2
    (put 0x400 0x812 (put 0x800 0x832 (put 0x804 0x802 (put 0x808 0xA22 (put 0x80C 0x833 (put 0x810 0x5803 (put 0x840 0x801
    (put 0x100 0x20C62 (put 0x104 0x20062 (put 0x108 0x28862 (put 0x10C 0x20C72
    (put 0x180 0x320072 (put 0x184 0x60 (put 0x188 0x40062
    (put 0x10 0x44332211 zeros))))))))))))))))))

-- a read of a word, a write of its lowest byte as it is, and a fetch
abbrev three : After → ℕ → ℕ × ℕ × ℕ → List (ℕ × ℕ)
three x a answers =
    (answered (next Read a 4 0 x), answers.0) ∷ (answered (next Write a 1 0x11 x), answers.1) ∷ (answered (next Fetch a 0 0 x), answers.2) ∷ []

-- all carried out, and all stopped by one fault
abbrev allowed : ℕ × ℕ × ℕ
allowed = (0x44332211, 0, 0x44332211)

abbrev stopped : ℕ → ℕ × ℕ × ℕ
stopped n = (fault_code n, fault_code n, fault_code n)

-- the same at each of these addresses, and one after the other
abbrev each : After → List ℕ → ℕ × ℕ × ℕ → List (ℕ × ℕ)
each x [] p = []
each x (a ∷ rest) p = three x a p ++ each x rest p

abbrev in_turn : After → List ℕ → List (ℕ × ℕ × ℕ) → List (ℕ × ℕ)
in_turn x [] ps = []
in_turn x (a ∷ rest) [] = []
in_turn x (a ∷ rest) (p ∷ ps) = three x a p ++ in_turn x rest ps

-- the mappings of frame 0 with AP 3, AP 0, AP 6 and AP 3 with XN: by pages under root 0x80, by sections under root 0x100
abbrev at_pages : List ℕ
at_pages = 0x100010 ∷ 0x101010 ∷ 0x102010 ∷ 0x103010 ∷ []

abbrev at_sections : List ℕ
at_sections = 0x10 ∷ 0x100010 ∷ 0x200010 ∷ 0x300010 ∷ []

-- what permission and XN say of them: fault 0xD of a section and 0xF of a page
abbrev permissions : ℕ → List (ℕ × ℕ × ℕ)
permissions n =
    allowed ∷ stopped n ∷ (0x44332211, fault_code n, 0x44332211) ∷ (0x44332211, 0, fault_code n) ∷ []

in_mode : ℕ → List ℕ → List ℕ → List (ℕ × ℕ)
unfolding next
in_mode mode image track =
    let pages : ℕ → After = λ w. given_with w 0x80 1 mode image track in
    let sections : ℕ → After = λ w. given_with w 0x100 1 mode image track in
    let elsewhere : ℕ → After = λ w. given_with w 0x180 1 mode image track in
    -- pages of domain 15: its field 0, 1 and 3, with the other fields 1, 0 and 3
    each (pages 0x15555555) at_pages (stopped 0xB)
    ++ each (pages 0x3FFFFFFF) at_pages (stopped 0xB)
    ++ each (pages 0) at_pages (stopped 0xB)
    ++ in_turn (pages 0x55555555) at_pages (permissions 0xF)
    ++ in_turn (pages 0x40000000) at_pages (permissions 0xF)
    ++ in_turn (pages 0x7FFFFFFF) at_pages (permissions 0xF)
    ++ each (pages 0xD5555555) at_pages allowed
    ++ each (pages 0xC0000000) at_pages allowed
    -- a large page of it, and a section of it that is global
    ++ three (pages 0x15555555) 0x110010 (stopped 0xB)
    ++ three (pages 0x55555555) 0x110010 (stopped 0xF)
    ++ three (pages 0xD5555555) 0x110010 allowed
    ++ three (pages 0x15555555) 0x300010 (stopped 0x9)
    ++ three (pages 0x40000000) 0x300010 allowed
    -- sections of domain 3
    ++ each (sections 0x55555515) at_sections (stopped 0x9)
    ++ each (sections 0xFFFFFF3F) at_sections (stopped 0x9)
    ++ each (sections 0) at_sections (stopped 0x9)
    ++ in_turn (sections 0x55555555) at_sections (permissions 0xD)
    ++ in_turn (sections 0x40) at_sections (permissions 0xD)
    ++ each (sections 0x555555D5) at_sections allowed
    ++ each (sections 0xC0) at_sections allowed
    -- domain before permission and before bytes not in memory: AP 0 and XN, frame 5
    ++ three (pages 0x15555555) 0x104010 (stopped 0xB)
    ++ three (pages 0x55555555) 0x104010 (stopped 0xF)
    ++ three (pages 0xD5555555) 0x104010 (stopped 0x8)
    ++ three (elsewhere 0) 0x10 (stopped 0x9)
    ++ three (elsewhere 0x55555555) 0x10 (stopped 0xD)
    ++ three (elsewhere 0xFFFFFFFF) 0x10 (stopped 0x8)
    -- behind the walk's faults, closed or not: 7, 0xE, 5 and 0xC
    ++ three (pages 0) 0x105010 (stopped 0x7)
    ++ three (pages 0xFFFFFFFF) 0x105010 (stopped 0x7)
    ++ three (pages 0) 0x200010 (stopped 0xE)
    ++ three (pages 0xFFFFFFFF) 0x200010 (stopped 0xE)
    ++ three (elsewhere 0) 0x100010 (stopped 0x5)
    ++ three (elsewhere 0xFFFFFFFF) 0x200010 (stopped 0x5)
    ++ three (given_with 0 0x1000 1 mode image track) 0x10 (stopped 0xC)
    -- behind alignment
    ++ (answered (next Read 0x100011 2 0 (pages 0)), fault_code 1) ∷ (answered (next Write 0x100012 4 0 (pages 0)), fault_code 1)
    ∷ (answered (next Fetch 0x12 0 0 (sections 0)), fault_code 1)
    ∷ []

-- Behind stale, in a context's row and in the global row; a domain fault is noted as any other, and changes no register.
behind_stale : List ℕ → List ℕ → List (ℕ × ℕ)
unfolding next
behind_stale image track =
    let x = given_with 0 0x80 1 0 image (set track 1280 0x1002) in
    let y = given_with 0 0x80 1 0 image (set track 2304 0x1082) in
    let z = next Read 0x100010 4 0 (given_with 0x15555555 0x80 1 0 image track) in
    three x 0x100010 (refusal_code 16, refusal_code 16, refusal_code 16)
    ++ three y 0x100010 (refusal_code 16, refusal_code 16, refusal_code 16)
    ++ (track_at z.track 1 0x100, 0x63E) ∷ (track_at z.track 2 0x300, 0x7BE)
    ∷ (z.registers.root, 0x80) ∷ (z.registers.context, 1) ∷ (z.registers.mode, 0) ∷ (z.registers.domains, 0x15555555)
    ∷ []

-- ── The register changed ──

-- `domain` makes nothing stale, in any context: the words stay, and each access goes by the register of its own time.
opened : List ℕ → List (ℕ × ℕ)
unfolding next
opened image =
    let both = next Asid 1 0 0 (started image (replicate 3072 7) (rooted 0x80)) in
    let closed = next Domain 0x15555555 0 0 both in
    let manager = next Domain 0xD5555555 0 0 closed in
    let user = next Mode 1 0 0 manager in
    three both 0x100010 allowed
    ++ three both 0x101010 (stopped 0xF)
    ++ three closed 0x100010 (stopped 0xB)
    ++ three closed 0x101010 (stopped 0xB)
    ++ three (next Asid 0 0 0 closed) 0x100010 (stopped 0xB)
    ++ three manager 0x100010 allowed
    ++ three manager 0x101010 allowed
    ++ three user 0x101010 allowed
    ++ three (next Asid 0 0 0 manager) 0x101010 allowed
    ++ three (next Domain 0x55555555 0 0 manager) 0x101010 (stopped 0xF)
    -- the words of pages 0x100 and 0x300 in context 0, context 1 and the global row
    ++ (track_at manager.track 0 0x100, 0x63E) ∷ (track_at manager.track 1 0x100, 0x63E) ∷ (track_at manager.track 2 0x300, 0x7BE)
    ∷ (track_at both.track 0 0x100, 0x63E) ∷ (track_at both.track 1 0x100, 0x63E) ∷ (track_at both.track 2 0x300, 0x7BE)
    -- what closes page 0 closes the tables: the map can't be written until it is opened
    ∷ (answered (next Write 0x84 4 0x9C1 (next Domain 0x55555554 0 0 both)), fault_code 0xB)
    ∷ []

-- ── A descriptor's domain alone changed ──

-- the pages from p on, n of them
abbrev pages_from : ℕ → ℕ → List ℕ
pages_from p zero = []
pages_from p (suc n) = p ∷ pages_from (suc p) n

-- each of these pages has several entries in a row; a read of each is refused as stale
abbrev several_of : ℕ → List ℕ → After → List (ℕ × ℕ)
several_of c [] x = []
several_of c (p ∷ ps) x = (track_at x.track c p, 1) ∷ several_of c ps x

abbrev stale_each : List ℕ → After → List (ℕ × ℕ)
stale_each [] x = []
stale_each (p ∷ ps) x = (answered (next Read (p * 4096 + 0x10) 4 0 x), refusal_code 16) ∷ stale_each ps x

-- The pointer to the table of domain 15 turned to domain 14 by one store, and the global section: every page that they map is stale in the
-- context of the store and in the one that still has the old entries, until each is flushed; what they do not map is not.
redomained : List ℕ → List (ℕ × ℕ)
unfolding next
redomained image =
    let both = next Asid 1 0 0 (started image (replicate 3072 7) (rooted 0x80)) in
    let pointer = next Write 0x84 1 0xC1 both in
    let section = next Write 0x8C 1 0xC2 both in
    let mapped : List ℕ = 0x100 ∷ 0x101 ∷ 0x102 ∷ 0x103 ∷ 0x104 ∷ 0x110 ∷ [] in
    let flushed = next Addr 0x100000 0 0 pointer in
    (answered pointer, 0)
    ∷ several_of 1 mapped pointer
    ++ stale_each mapped pointer
    ++ stale_each mapped (next Asid 0 0 0 pointer)
    ++ (track_at pointer.track 0 0x100, 0x63E) ∷ (track_at pointer.track 0 0x110, 0x3E)
    ∷ (answered (next Read 0x105010 4 0 pointer), fault_code 0x7) ∷ (answered (next Read 0x10 4 0 pointer), 0x44332211)
    ∷ (answered (next Read 0x300010 4 0 pointer), 0x44332211)
    -- a page flushed is trusted again, in both contexts, by the new domain: 14's field is 1, and then 0
    ∷ (track_at flushed.track 1 0x100, 0x63A) ∷ (answered (next Read 0x100010 4 0 flushed), 0x44332211)
    ∷ (answered (next Read 0x100010 4 0 (next Asid 0 0 0 flushed)), 0x44332211)
    ∷ (answered (next Read 0x100010 4 0 (next Domain 0x45555555 0 0 flushed)), fault_code 0xB)
    ∷ (answered (next Read 0x101010 4 0 flushed), refusal_code 16)
    -- the section: in the global row, so in every context
    ∷ (answered section, 0)
    ∷ several_of 2 (pages_from 0x300 256) section
    ++ stale_each (0x300 ∷ 0x3FF ∷ []) section
    ++ stale_each (0x300 ∷ 0x3FF ∷ []) (next Asid 0 0 0 section)
    -- another bit that is ignored, bit 9 of a pointer, changes nothing
    ++ (track_at (next Write 0x85 1 0xB both).track 1 0x100, 0x63E) ∷ (answered (next Read 0x100010 4 0 (next Write 0x85 1 0xB both)), 0x44332211)
    ∷ []

-- a section's word and a pointer's with a whole table, from domain 0 to 5 and back, and through bit 8 to domain 8: as for every other change
-- of a level-one word
changes : List (ℕ × ℕ)
unfolding changing
changes =
    changing as_section (as_section + 0xA0) 0x702 0x716
    ++ changing (as_section + 0xA0) as_section 0x716 0x702
    ++ changing as_section (as_section + 0x100) 0x702 0x722
    ++ changing as_pages (as_pages + 0xA0) 0x602 0x616
    ++ changing (as_pages + 0x100) as_pages 0x622 0x602

-- the two parts of the table
pub domain_cases : List (ℕ × ℕ)
unfolding fields in_mode behind_stale opened redomained
domain_cases =
    let image = parked_image in
    let track : List ℕ = replicate 3072 0 in
    fields ++ in_mode 0 image track ++ in_mode 1 image track ++ behind_stale image track ++ opened image ++ redomained image

pub domain_cases_lem : all_match domain_cases ≡ true
unfolding domain_cases
domain_cases_lem = refl

pub domain_changes : List (ℕ × ℕ)
unfolding changes
domain_changes = changes

pub domain_changes_lem : all_match domain_changes ≡ true
unfolding domain_changes
domain_changes_lem = refl
