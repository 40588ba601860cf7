-- Global entries: pages with nG clear beside pages with nG set, in the rows of contexts and in the global row.
use Prim.Native.Nat.{ℕ, ◌+◌, ◌*◌}
use mathlib.Core.List.{List, [], ◌∷◌, ◌++◌}
use lib.ListN.{replicate}
use Rattle.model.specs.reference.Rules.{rooted}
use Rattle.model.specs.step.Machine.{After, started}
use Rattle.model.specs.declared.Kind.TheVariants.{Read, Write, Root, Asid, Mode, All, Addr, Ctx, AddrCtx}
use Rattle.model.specs.declared.Answer.TheVariants.{Done}
use Rattle.model.proofs.CaseTools.{put, zeros, next, fault_code, refusal_code, answered, track_at}

-- registers, memory and track as an operation is given them; with each field of the domain register 1
abbrev pub given_with : ℕ → ℕ → ℕ → ℕ → List ℕ → List ℕ → After
given_with domains root context mode m t =
    record { answer = Done 0; registers = record { root = root; context = context; mode = mode; domains = domains }; memory = m; track = t }

abbrev pub given : ℕ → ℕ → ℕ → List ℕ → List ℕ → After
given root context mode m t = given_with 0x55555555 root context mode m t

-- The shared image has two maps. All of it is mapped at frame 0 but where another frame is named; 0x44332211 stands at 0x10.
-- Under root 0x80: page 0 AP 1, nG set, and through it the tables are written; page 1 AP 3, nG clear; page 2 AP 3, nG set; page 3 no
-- mapping; page 4 as page 2; page 5 as page 1; from page 0x200 a section with AP 3, nG clear; from page 0x300 one with AP 3, nG set.
-- Under root 0x100: page 0 the same; page 1 frame 5, AP 3, nG clear; page 2 frame 5, AP 3, nG set; page 4 as page 1; page 5 as page 2.
abbrev shared_image : List ℕ
shared_image =
    put 0x80 0x401 (put 0x88 0xC02 (put 0x8C 0x20C02
    (put 0x400 0x812 (put 0x404 0x32 (put 0x408 0x832 (put 0x410 0x832 (put 0x414 0x32
    (put 0x100 0x801 (put 0x800 0x812 (put 0x804 0x5032 (put 0x808 0x5832 (put 0x810 0x5032 (put 0x814 0x5832
    (put 0x10 0x44332211 zeros))))))))))))))

-- the word of a page in context 0, in context 1 and in the global row of two contexts; the same of three contexts
abbrev in_rows : ℕ → After → ℕ × ℕ × ℕ → List (ℕ × ℕ)
in_rows p x row = (track_at x.track 0 p, row.0) ∷ (track_at x.track 1 p, row.1) ∷ (track_at x.track 2 p, row.2) ∷ []

abbrev in_four_rows : ℕ → After → ℕ × ℕ × ℕ × ℕ → List (ℕ × ℕ)
in_four_rows p x row =
    (track_at x.track 0 p, row.0) ∷ (track_at x.track 1 p, row.1) ∷ (track_at x.track 2 p, row.2) ∷ (track_at x.track 3 p, row.3) ∷ []

-- a read of a page that is at frame 0: it is refused as stale; it is carried out; it faults
abbrev reading : ℕ → After → ℕ
reading p x = answered (next Read (p * 4096 + 0x10) 4 0 x)

abbrev is_stale : ℕ → After → ℕ × ℕ
is_stale p x = (reading p x, refusal_code 16)

abbrev is_trusted : ℕ → After → ℕ × ℕ
is_trusted p x = (reading p x, 0x44332211)

abbrev faults_with : ℕ → ℕ → After → ℕ × ℕ
faults_with n p x = (reading p x, fault_code n)

-- The low byte of a page's level-two word, stored through page 0: 0x32 for AP 3, 0x12 for AP 1, 0x30 for no mapping; and the next byte:
-- 8 for nG set, 0 for nG clear.
abbrev store_low : ℕ → ℕ → After → After
store_low p v x = next Write (0x400 + 4 * p) 1 v x

abbrev store_nG : ℕ → ℕ → After → After
store_nG p v x = next Write (0x401 + 4 * p) 1 v x

abbrev asid : ℕ → After → After
asid c x = next Asid c 0 0 x

-- Start and noting: own entries in the row of the current context alone, global ones in the global row alone.
noting : List ℕ → After → After → List (ℕ × ℕ)
unfolding next
noting image start threeContexts =
    let oneContext = started image (replicate 2048 7) (rooted 0x80) in
    let other = asid 1 start in
    let empty : List ℕ = replicate 1024 0 in
    -- two contexts: context 0 has an own entry of page 1, the global row an entry of page 2, neither one of the tables
    let lent : List ℕ = (0 ∷ 0x1602 ∷ replicate 1022 0) ++ empty ++ (0 ∷ 0 ∷ 0x1682 ∷ replicate 1021 0) in
    let noted = next Mode 0 0 0 (given 0x80 1 0 image lent) in
    -- start with two contexts, on a track full of an odd word
    in_rows 0 start (0x202, 0, 0)
    ++ in_rows 1 start (0, 0, 0x682)
    ++ in_rows 2 start (0x602, 0, 0)
    ++ in_rows 3 start (0, 0, 0)
    ++ in_rows 0x1FF start (0, 0, 0)
    ++ in_rows 0x200 start (0, 0, 0x782)
    ++ in_rows 0x2FF start (0, 0, 0xFF782)
    ++ in_rows 0x300 start (0x702, 0, 0)
    ++ in_rows 0x3FF start (0xFF702, 0, 0)
    -- the global row is the one behind the contexts' rows, however many they are
    ++ (track_at oneContext.track 0 1, 0)
    ∷ (track_at oneContext.track 1 1, 0x682)
    ∷ (track_at oneContext.track 0 2, 0x602)
    ∷ (track_at oneContext.track 1 2, 0)
    ∷ in_four_rows 1 threeContexts (0, 0, 0, 0x682)
    ++ in_four_rows 2 threeContexts (0x602, 0, 0, 0)
    -- `asid` to another context: own entries are noted there, global ones are in their row already, and both are used
    ++ in_rows 0 other (0x202, 0x202, 0)
    ++ in_rows 1 other (0, 0, 0x682)
    ++ in_rows 2 other (0x602, 0x602, 0)
    ++ in_rows 0x200 other (0, 0, 0x782)
    ++ in_rows 0x300 other (0x702, 0x702, 0)
    ++ is_trusted 1 start ∷ is_trusted 2 start ∷ is_trusted 0x200 start ∷ is_trusted 0x300 start
    ∷ is_trusted 1 other ∷ is_trusted 2 other ∷ is_trusted 0x200 other ∷ is_trusted 0x300 other
    -- noting after a lent state, in context 1
    ∷ in_rows 0 noted (0, 0x202, 0)
    ++ in_rows 1 noted (0x1602, 0, 0x682)
    ++ in_rows 2 noted (0, 0x602, 0x1682)
    ++ in_rows 0x200 noted (0, 0, 0x782)
    ++ in_rows 0x300 noted (0, 0x702, 0)
    -- the entry of context 0 makes its page stale there, that of the global row in each context
    ++ is_trusted 1 noted ∷ is_stale 1 (asid 0 noted) ∷ is_stale 2 noted ∷ is_stale 2 (asid 0 noted) ∷ []

-- Mappings taken away, and changed, without a flush.
remapping : After → List (ℕ × ℕ)
unfolding next
remapping start =
    let gone = store_low 1 0x30 start in
    let goneOwn = store_low 2 0x30 start in
    let restored = store_low 1 0x32 gone in
    let changed = store_low 1 0x12 start in
    let goneIn1 = asid 1 gone in
    let ctx = next Ctx 0 0 0 changed in
    let addr = next Addr 0x1000 0 0 changed in
    let addrctx0 = next AddrCtx 0x1000 0 0 changed in
    let addrctx1 = next AddrCtx 0x1000 1 0 changed in
    let all = next All 0 0 0 changed in
    -- a global page unmapped is stale in every context
    in_rows 1 gone (0, 0, 0x682)
    ++ in_rows 1 goneIn1 (0, 0, 0x682)
    ++ is_stale 1 gone ∷ is_stale 1 goneIn1
    -- an own page unmapped only in the context whose set has it: in the other one it has no mapping
    ∷ in_rows 2 goneOwn (0x602, 0, 0)
    ++ is_stale 2 goneOwn ∷ faults_with 0x7 2 (asid 1 goneOwn)
    -- the same of sections
    ∷ is_stale 0x200 (asid 1 (next Write 0x88 1 0 start))
    ∷ faults_with 0x5 0x300 (asid 1 (next Write 0x8C 1 0 start))
    -- the sole global entry restored is trusted
    ∷ in_rows 1 restored (0, 0, 0x682)
    ++ is_trusted 1 restored ∷ is_trusted 1 (asid 1 restored)
    -- one global mapping changed to another: stale in every context, by the global set alone
    ∷ in_rows 1 changed (0, 0, 1)
    ++ is_stale 1 changed ∷ is_stale 1 (asid 1 changed) ∷ is_stale 1 (store_low 1 0x32 changed)
    -- `ctx` of any context leaves it so
    ∷ in_rows 1 ctx (0, 0, 1)
    ++ is_stale 1 ctx ∷ is_stale 1 (next Ctx 1 0 0 changed)
    -- `addr`, `addrctx` of any context and `all` free it
    ∷ in_rows 1 addr (0, 0, 0x282)
    ++ in_rows 1 addrctx0 (0, 0, 0x282)
    ++ in_rows 1 addrctx1 (0, 0, 0x282)
    ++ in_rows 1 all (0, 0, 0x282)
    ++ is_trusted 1 addr
    ∷ is_trusted 1 addrctx0
    ∷ is_trusted 1 addrctx1
    ∷ is_trusted 1 all
    -- unmapped, and freed by `addrctx` of another context
    ∷ faults_with 0x7 1 (next AddrCtx 0x1000 1 0 gone)
    ∷ []

-- nG alone changed: one entry in each row, no word at 1, and the page stale. There are three contexts.
turning : After → List (ℕ × ℕ)
unfolding next
turning start =
    -- page 2 from own to global, and back; page 1 from global to own, and back; the section from page 0x200 from global to own
    let shared = store_nG 2 0 start in
    let back = store_nG 2 8 shared in
    let owned = store_nG 1 8 start in
    let ownedBack = store_nG 1 0 owned in
    let own_section = next Write 0x8A 1 2 start in
    let ctxShared = next Ctx 0 0 0 shared in
    let addrctxShared = next AddrCtx 0x2000 0 0 shared in
    let thirdShared = next AddrCtx 0x2000 2 0 shared in
    let ctxOwned = next Ctx 0 0 0 owned in
    let thirdOwned = next AddrCtx 0x1000 2 0 owned in
    in_four_rows 2 shared (0x602, 0, 0, 0x682)
    ++ in_four_rows 2 back (0x602, 0, 0, 0x682)
    ++ in_four_rows 1 owned (0x602, 0, 0, 0x682)
    ++ in_four_rows 1 ownedBack (0x602, 0, 0, 0x682)
    ++ in_four_rows 0x200 own_section (0x702, 0, 0, 0x782)
    ++ in_four_rows 0x2FF own_section (0xFF702, 0, 0, 0xFF782)
    ++ is_stale 2 shared ∷ is_stale 2 back ∷ is_stale 1 owned ∷ is_stale 1 ownedBack ∷ is_stale 0x200 own_section
    -- in a context whose set is empty only a set of the global row counts
    ∷ is_trusted 2 (asid 1 shared) ∷ is_stale 2 (asid 1 back) ∷ is_stale 1 (asid 1 owned) ∷ is_trusted 1 (asid 1 ownedBack)
    -- from own to global: `ctx` and `addrctx` of the current context free it, of another one not
    ∷ in_four_rows 2 ctxShared (0, 0, 0, 0x682)
    ++ in_four_rows 2 thirdShared (0x602, 0, 0, 0x682)
    ++ in_four_rows 2 addrctxShared (0, 0, 0, 0x682)
    ++ is_trusted 2 ctxShared
    ∷ is_trusted 2 addrctxShared
    ∷ is_stale 2 (next Ctx 2 0 0 shared)
    ∷ is_stale 2 thirdShared
    -- from global to own: `ctx` of the current context leaves it stale; `addrctx` of whatever context frees it
    ∷ in_four_rows 1 ctxOwned (0x602, 0, 0, 0x682)
    ++ in_four_rows 1 thirdOwned (0x602, 0, 0, 0)
    ++ is_stale 1 ctxOwned
    ∷ is_trusted 1 thirdOwned
    ∷ []

-- `asid`, then `root`, to a map that differs: refused unless that context is 0.
switching : After → List (ℕ × ℕ)
unfolding next
switching start =
    let other = asid 1 start in
    let refused = next Root 0x100 0 0 other in
    let kept = next Root 0x80 0 0 other in
    let moved = next Root 0x100 0 0 (asid 0 start) in
    -- under context 1 nothing is set and nothing noted, also where the new root is the old one
    (answered refused, refusal_code 20)
    ∷ (answered kept, refusal_code 20)
    ∷ (refused.registers.root, 0x80)
    ∷ (refused.registers.context, 1)
    ∷ in_rows 0 refused (0x202, 0x202, 0)
    ++ in_rows 1 refused (0, 0, 0x682)
    ++ in_rows 2 refused (0x602, 0x602, 0)
    ++ in_rows 4 refused (0x602, 0x602, 0)
    ++ in_rows 5 refused (0, 0, 0x682)
    ++ is_trusted 0 refused ∷ is_trusted 1 refused ∷ is_trusted 2 refused ∷ is_trusted 4 refused ∷ is_trusted 5 refused
    -- under context 0 its own row is the one in which pages are left at 1
    ∷ (answered moved, 0)
    ∷ (moved.registers.root, 0x100)
    ∷ (moved.registers.context, 0)
    ∷ in_rows 0 moved (0x202, 0, 0)
    ++ in_rows 1 moved (0, 0, 1)
    ++ in_rows 2 moved (1, 0, 0)
    ++ in_rows 4 moved (0x602, 0, 0x5682)
    ++ in_rows 5 moved (0x5602, 0, 0x682)
    ++ is_trusted 0 moved ∷ is_stale 1 moved ∷ is_stale 2 moved ∷ is_stale 4 moved ∷ is_stale 5 moved
    ∷ []

-- From context 1 through context 0, where the root is set, to context 1 again: both contexts have used both maps.
through_context0 : After → List (ℕ × ℕ)
unfolding next
through_context0 start =
    let moved = asid 1 (next Root 0x100 0 0 (asid 0 (asid 1 start))) in
    let flushed = next Ctx 1 0 0 moved in
    -- page 0 is the same in both maps; with nG set in both, page 2 is at 1 under the new context; with nG clear in both, page 1 is at 1 in
    -- the global row; from one to the other, pages 4 and 5 have no word at 1
    in_rows 0 moved (0x202, 0x202, 0)
    ++ in_rows 1 moved (0, 0, 1)
    ++ in_rows 2 moved (1, 1, 0)
    ++ in_rows 4 moved (0x602, 0x602, 0x5682)
    ++ in_rows 5 moved (0x5602, 0x5602, 0x682)
    -- all but page 0 are stale
    ++ is_trusted 0 moved ∷ is_stale 1 moved ∷ is_stale 2 moved ∷ is_stale 4 moved ∷ is_stale 5 moved
    -- `ctx` of the new context frees those that are so by its row alone: their frame is not in memory
    ∷ is_stale 1 flushed ∷ faults_with 0x8 2 flushed ∷ faults_with 0x8 4 flushed ∷ is_stale 5 flushed
    ∷ []

-- `root` under context 0, then `asid`, then back: context 1 has used the new map alone, until the old one is set again.
there_and_back : After → List (ℕ × ℕ)
unfolding next
there_and_back start =
    let there = asid 1 (next Root 0x100 0 0 start) in
    let back = next Root 0x80 0 0 (asid 0 there) in
    let again = asid 1 back in
    in_rows 0 there (0x202, 0x202, 0)
    ++ in_rows 1 there (0, 0, 1)
    ++ in_rows 2 there (1, 0x5602, 0)
    ++ in_rows 4 there (0x602, 0, 0x5682)
    ++ in_rows 5 there (0x5602, 0x5602, 0x682)
    -- in context 1 page 2 is not stale, and page 4 neither: their frame is not in memory
    ++ is_trusted 0 there ∷ is_stale 1 there ∷ faults_with 0x8 2 there ∷ faults_with 0x8 4 there ∷ is_stale 5 there
    -- with the old root, under context 0
    ∷ (answered back, 0)
    ∷ (back.registers.root, 0x80)
    ∷ in_rows 2 back (1, 0x5602, 0)
    ++ is_trusted 0 back ∷ is_stale 1 back ∷ is_stale 2 back ∷ is_stale 4 back ∷ is_stale 5 back
    -- and under context 1, which has used both maps now
    ∷ in_rows 2 again (1, 1, 0)
    ++ in_rows 4 again (0x602, 0x602, 0x5682)
    ++ is_trusted 0 again ∷ is_stale 1 again ∷ is_stale 2 again ∷ is_stale 4 again ∷ is_stale 5 again
    ∷ []

-- Words of one entry whose bit 7 does not suit their row.
unsuited : List ℕ → List (ℕ × ℕ)
unfolding next
unsuited image =
    -- page 1 has in context 0 the word of its global entry, page 2 in the global row the word of its own entry, page 3 both
    let lent : List ℕ = (0 ∷ 0x682 ∷ 0 ∷ 0x682 ∷ replicate 2044 0) ++ (0 ∷ 0 ∷ 0x602 ∷ 0x602 ∷ replicate 1020 0) in
    let in0 = given 0x80 0 0 image lent in
    let in1 = given 0x80 1 0 image lent in
    let noted = next Mode 0 0 0 in0 in
    let ctx = next Ctx 0 0 0 noted in
    let all = next All 0 0 0 noted in
    let addr1 = next Addr 0x1000 0 0 noted in
    let other1 = next AddrCtx 0x1000 1 0 noted in
    let other2 = next AddrCtx 0x2000 1 0 noted in
    -- they make their pages stale, though the tables give the very word: the one of context 0 there, those of the global row everywhere
    is_stale 1 in0 ∷ is_stale 2 in0 ∷ is_stale 3 in0 ∷ is_trusted 1 in1 ∷ is_stale 2 in1 ∷ is_stale 3 in1
    -- they stay under noting
    ∷ in_rows 1 noted (0x682, 0, 0x682)
    ++ in_rows 2 noted (0x602, 0, 0x602)
    ++ in_rows 3 noted (0x682, 0, 0x602)
    ++ is_stale 1 noted ∷ is_stale 2 noted ∷ is_stale 3 noted
    -- and go with a flush that names them
    ∷ in_rows 1 ctx (0, 0, 0x682)
    ++ in_rows 2 ctx (0x602, 0, 0x602)
    ++ in_rows 3 ctx (0, 0, 0x602)
    ++ is_trusted 1 ctx ∷ is_stale 2 ctx ∷ is_stale 3 ctx
    ∷ in_rows 1 addr1 (0, 0, 0x682)
    ++ in_rows 1 other1 (0x682, 0, 0x682)
    ++ in_rows 2 other2 (0x602, 0, 0)
    ++ is_trusted 1 addr1
    ∷ is_stale 1 other1
    ∷ is_trusted 2 other2
    ∷ in_rows 1 all (0, 0, 0x682)
    ++ in_rows 2 all (0x602, 0, 0)
    ++ in_rows 3 all (0, 0, 0)
    ++ faults_with 0x7 3 all
    ∷ []

unfoldable pub global_entries : List (ℕ × ℕ)
unfolding next noting remapping turning switching through_context0 there_and_back unsuited
global_entries =
    let image = shared_image in
    let two = started image (replicate 3072 7) (rooted 0x80) in
    let three = started image (replicate 4096 7) (rooted 0x80) in
    noting image two three ++ remapping two ++ turning three ++ switching two ++ through_context0 two ++ there_and_back two ++ unsuited image
