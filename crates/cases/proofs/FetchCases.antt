-- Fetches, and the XN bit: what may be fetched, from where, in which mode; and pages whose XN bit alone changes.
use Prim.Native.Nat.{ℕ, ◌+◌, ◌*◌}
use mathlib.Core.List.{List, [], ◌∷◌, ◌++◌}
use lib.ListN.{replicate}
use Rattle.model.specs.reference.Rules.{rooted}
use Rattle.model.specs.step.Machine.{After, started}
use Rattle.model.specs.declared.Kind.TheVariants.{Read, Write, Asid, Addr, AddrCtx, Fetch}
use Rattle.model.proofs.CaseTools.{put, zeros, next, fault_code, refusal_code, answered, track_at}
use Rattle.cases.proofs.GlobalCases.{given}

-- The code image has two maps, all of them at frame 0 but where another is named, with nG set but where it is not. 0x44332211 stands at
-- 0x10, 0x88776655 at 0x14, 0xA5A6A7A8 at 0xFFC, the last word of memory.
-- Under root 0x80, by small pages: page 0 AP 1, through which the tables are written; page 1 AP 3; page 2 AP 3, XN; page 3 AP 1; page 4 AP 0;
-- page 5 AP 6; page 6 AP 6, XN; page 7 AP 2; page 8 frame 5, AP 3; page 9 the same with XN; page 0xA AP 5; page 0xB no mapping; page 0xC
-- AP 3, XN, nG clear. By large pages: page 0x10 AP 3; page 0x11 AP 3, XN, frame 1. By sections: from page 0x100 AP 3; from page 0x200
-- AP 3, XN. By a table at 0x800: page 0x3FF AP 3.
-- Under root 0x100, by sections: from page 0 AP 1; from page 0x100 AP 0; from page 0x200 at 0x300000, AP 3; from page 0x300 the same with XN.
abbrev code_image : List ℕ
code_image =
    put 0x80 0x401 (put 0x84 0x20C02 (put 0x88 0x20C12 (put 0x8C 0x801
    (put 0x400 0x812 (put 0x404 0x832 (put 0x408 0x833 (put 0x40C 0x812 (put 0x410 0x802 (put 0x414 0xA22 (put 0x418 0xA23
    (put 0x41C 0x822 (put 0x420 0x5832 (put 0x424 0x5833 (put 0x428 0xA12 (put 0x430 0x33 (put 0x440 0x831 (put 0x444 0x8831 (put 0xBFC 0x832
    (put 0x100 0x20402 (put 0x104 0x20002 (put 0x108 0x320C02 (put 0x10C 0x320C12
    (put 0x10 0x44332211 (put 0x14 0x88776655 (put 0xFFC 0xA5A6A7A8 zeros)))))))))))))))))))))))))

-- a fetch, a read of four bytes and a write of a byte
abbrev fetching : ℕ → After → ℕ
fetching a x = answered (next Fetch a 0 0 x)

abbrev reading : ℕ → After → ℕ
reading a x = answered (next Read a 4 0 x)

abbrev writing : ℕ → After → ℕ
writing a x = answered (next Write a 1 0 x)

-- the word at 0x10, fetched through a page and read through it: both; neither, with this fault; read and not fetched
abbrev both : ℕ → After → List (ℕ × ℕ)
both p x = (fetching (p * 4096 + 0x10) x, 0x44332211) ∷ (reading (p * 4096 + 0x10) x, 0x44332211) ∷ []

abbrev neither : ℕ → ℕ → After → List (ℕ × ℕ)
neither n p x = (fetching (p * 4096 + 0x10) x, fault_code n) ∷ (reading (p * 4096 + 0x10) x, fault_code n) ∷ []

abbrev read_only : ℕ → ℕ → After → List (ℕ × ℕ)
read_only n p x = (fetching (p * 4096 + 0x10) x, fault_code n) ∷ (reading (p * 4096 + 0x10) x, 0x44332211) ∷ []

-- What may be fetched, in kernel mode and in user mode.
allowed : List ℕ → List (ℕ × ℕ)
unfolding next
allowed image =
    let empty : List ℕ = replicate 3072 0 in
    let kernel = given 0x80 1 0 image empty in
    let user = given 0x80 1 1 image empty in
    let kernel2 = given 0x100 1 0 image empty in
    let user2 = given 0x100 1 1 image empty in
    -- AP 3 by a small page, a large page and a section, with XN clear and set; XN stops no write
    both 1 kernel ++ both 1 user
    ++ read_only 0xF 2 kernel ++ read_only 0xF 2 user
    ++ both 0x10 kernel ++ both 0x10 user
    ++ (fetching 0x11010 kernel, fault_code 0xF) ∷ (fetching 0x11010 user, fault_code 0xF) ∷ (reading 0x11010 kernel, fault_code 0x8)
    ∷ both 0x100 kernel ++ both 0x100 user
    ++ read_only 0xD 0x200 kernel ++ read_only 0xD 0x200 user
    ++ (writing 0x2010 kernel, 0) ∷ (writing 0x2010 user, 0) ∷ (writing 0x200010 user, 0)
    -- a global page
    ∷ read_only 0xF 0xC kernel ++ read_only 0xF 0xC user
    -- AP 1 and 5: for the kernel alone; 0: for none; 6 and 2: for both, and a fetch needs no right to write; 6 with XN
    ++ both 3 kernel ++ neither 0xF 3 user
    ++ both 0xA kernel ++ neither 0xF 0xA user
    ++ neither 0xF 4 kernel ++ neither 0xF 4 user
    ++ both 5 kernel ++ both 5 user
    ++ both 7 kernel ++ both 7 user
    ++ read_only 0xF 6 kernel ++ read_only 0xF 6 user
    ++ (writing 0x5010 kernel, fault_code 0xF)
    -- sections: AP 1 and AP 0
    ∷ both 0 kernel2 ++ neither 0xD 0 user2
    ++ neither 0xD 0x100 kernel2 ++ neither 0xD 0x100 user2
    -- permission before bytes not in memory, by XN too
    ++ (fetching 0x8010 kernel, fault_code 0x8) ∷ (fetching 0x9010 kernel, fault_code 0xF) ∷ (reading 0x9010 kernel, fault_code 0x8)
    ∷ (fetching 0x200010 kernel2, fault_code 0x8) ∷ (fetching 0x300010 kernel2, fault_code 0xD) ∷ (reading 0x300010 kernel2, fault_code 0x8)
    ∷ []

-- Which bytes are fetched, and which addresses.
fetched : List ℕ → List (ℕ × ℕ)
unfolding next
fetched image =
    let empty : List ℕ = replicate 3072 0 in
    let kernel = given 0x80 1 0 image empty in
    let user = given 0x80 1 1 image empty in
    let once = next Fetch 0x1010 0 0 kernel in
    -- the fetched word is the read word; fields b and c don't matter
    (fetching 0x1014 kernel, 0x88776655) ∷ (reading 0x1014 kernel, 0x88776655) ∷ (fetching 0x1014 user, 0x88776655)
    ∷ (answered (next Fetch 0x1014 1 0 kernel), 0x88776655)
    ∷ (answered (next Fetch 0x1014 3 0xFFFFFFFF user), 0x88776655)
    -- a fetch changes no register
    ∷ (once.registers.root, 0x80) ∷ (once.registers.context, 1) ∷ (once.registers.mode, 0)
    -- an address that is no multiple of 4, on a page that may be fetched and on one that may not
    ∷ (fetching 0x1011 kernel, fault_code 1) ∷ (fetching 0x1012 kernel, fault_code 1) ∷ (fetching 0x1013 user, fault_code 1)
    ∷ (fetching 0x2012 kernel, fault_code 1) ∷ (fetching 0xB002 kernel, fault_code 1)
    -- the last word of the window, at the last word of memory; behind the window, also where the address is no multiple of 4
    ∷ (fetching 0x3FFFFC kernel, 0xA5A6A7A8) ∷ (fetching 0x3FFFFC user, 0xA5A6A7A8) ∷ (fetching 0x3FFFFD kernel, fault_code 1)
    ∷ (fetching 0x400000 kernel, refusal_code 8) ∷ (fetching 0x400001 kernel, refusal_code 8) ∷ (fetching 0x400000 user, refusal_code 8)
    ∷ (fetching 0xFFFFFFFC kernel, refusal_code 8)
    ∷ []

-- A page whose XN bit alone changes by a store of one byte at `at`: its words are `before` and `after` it, and this fault stops a fetch while
-- XN is set. It is stale, for reads and writes too, until a flush; in a context whose set is empty it is not.
xn_changes : ℕ → ℕ → ℕ → ℕ → ℕ → ℕ → ℕ → After → List (ℕ × ℕ)
unfolding next
xn_changes p at clear set n before after start =
    let address = p * 4096 + 0x10 in
    let changed = next Write at 1 set start in
    let back = next Write at 1 clear changed in
    let flushed = next Addr address 0 0 changed in
    let freed = next Addr address 0 0 back in
    let other = next Asid 1 0 0 changed in
    (track_at start.track 0 p, before) ∷ (fetching address start, 0x44332211)
    ∷ (track_at changed.track 0 p, 1)
    ∷ (fetching address changed, refusal_code 16) ∷ (reading address changed, refusal_code 16) ∷ (writing address changed, refusal_code 16)
    -- an unaligned access is fault 1 all the same
    ∷ (fetching (address + 2) changed, fault_code 1) ∷ (reading (address + 2) changed, fault_code 1)
    -- changed back without a flush
    ∷ (track_at back.track 0 p, 1) ∷ (fetching address back, refusal_code 16) ∷ (reading address back, refusal_code 16)
    -- flushed
    ∷ (track_at flushed.track 0 p, after) ∷ (fetching address flushed, fault_code n) ∷ (reading address flushed, 0x44332211)
    ∷ (track_at freed.track 0 p, before) ∷ (fetching address freed, 0x44332211)
    ∷ (track_at other.track 1 p, after) ∷ (fetching address other, fault_code n) ∷ (reading address other, 0x44332211)
    ∷ []

-- By a small page's bit 0, a large page's bit 15 and a section's bit 4; and a page from XN set to clear.
changing : List ℕ → List (ℕ × ℕ)
unfolding next xn_changes
changing image =
    let start = started image (replicate 3072 7) (rooted 0x80) in
    let cleared = next Write 0x408 1 0x32 start in
    let global = next Write 0x430 1 0x32 start in
    xn_changes 1 0x404 0x32 0x33 0xF 0x602 0x642 start
    ++ xn_changes 0x10 0x441 8 0x88 0xF 0x602 0x642 start
    ++ xn_changes 0x100 0x84 2 0x12 0xD 0x702 0x742 start
    ++ (track_at start.track 0 2, 0x642) ∷ (track_at cleared.track 0 2, 1) ∷ (reading 0x2010 cleared, refusal_code 16)
    ∷ (track_at (next Addr 0x2000 0 0 cleared).track 0 2, 0x602) ∷ (fetching 0x2010 (next Addr 0x2000 0 0 cleared), 0x44332211)
    -- a global page: its word is in the global row, and it is stale in every context
    ∷ (track_at start.track 2 0xC, 0x6C2) ∷ (track_at global.track 2 0xC, 1)
    ∷ (fetching 0xC010 global, refusal_code 16) ∷ (reading 0xC010 (next Asid 1 0 0 global), refusal_code 16)
    ∷ (track_at (next AddrCtx 0xC000 1 0 global).track 2 0xC, 0x682) ∷ (fetching 0xC010 (next AddrCtx 0xC000 1 0 global), 0x44332211)
    ∷ []

unfoldable pub fetches : List (ℕ × ℕ)
unfolding next allowed fetched changing
fetches = let image = code_image in allowed image ++ fetched image ++ changing image
