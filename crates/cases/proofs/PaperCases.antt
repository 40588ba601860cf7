-- The cases that the rules mark P, as one table: what the step's definitions compute, and what the rules say.
use Prim.Native.Nat.{ℕ, ◌/◌}
use mathlib.Core.Path.{◌≡◌, refl}
use mathlib.Core.Bool.{true}
use mathlib.Core.List.{List, [], ◌∷◌}
use lib.ListN.{replicate}
use Rattle.std.specs.Prelude.{Ok, Err}
use Rattle.model.specs.reference.Rules.{rooted}
use Rattle.model.specs.Limits.{page_size}
use Rattle.model.specs.Numbers.{fault_number}
use Rattle.model.specs.step.Walk.{walk_page}
use Rattle.model.specs.step.Machine.{physical_of, started}
use Rattle.model.specs.declared.Kind.TheVariants.{Read, Write, Addr}
use Rattle.model.proofs.CaseTools.{all_match, put, zeros, image_a, next, fault_code, refusal_code, answered, track_at, tables_at}
use Rattle.model.specs.Types.{Outcome}

-- the physical address that an outcome gives an address, or the fault
abbrev placed : Outcome → ℕ → ℕ
placed (Ok e) a = physical_of e a
placed (Err f) a = fault_code (fault_number f)

-- where the tables of m at root 0 send an address
abbrev sent : List ℕ → ℕ → ℕ
sent m a = placed (walk_page m (tables_at 0) (a / page_size)) a

pub paper_cases : List (ℕ × ℕ)
unfolding next
paper_cases =
    -- image A, on a track of one context and the global row, full of an odd word; its list; a page unmapped and restored
    let start = started image_a (replicate 2048 7) (rooted 0) in
    let line2 = next Read 0x1000 4 0 start in
    let line3 = next Write 0x404 4 0x4832 line2 in
    let line4 = next Read 0x1000 4 0 line3 in
    let line5 = next Addr 0x1000 0 0 line4 in
    let unmapped = next Write 0x404 4 0 start in
    let readStale = next Read 0x1000 4 0 unmapped in
    let restored = next Write 0x404 4 0x3832 readStale in
    -- image A, start: words 0 and 1 are 0x202 and 0x3602
    (track_at start.track 0 0, 0x202)
    ∷ (track_at start.track 0 1, 0x3602)
    -- after line 3 word 1 is 1
    ∷ (track_at line3.track 0 1, 1)
    -- after line 5 it is 0x4602
    ∷ (track_at line5.track 0 1, 0x4602)
    -- image A: write 0 to 0x404, then a read of 0x1000 is refused 16
    ∷ (answered readStale, refusal_code 16)
    -- write 0x3832 back: the read is carried out
    ∷ (answered (next Read 0x1000 4 0 restored), 0x12345678)
    -- a level-one word 0x320C02 sends 0x105678 to 0x305678
    ∷ (sent (put 0x4 0x320C02 zeros) 0x105678, 0x305678)
    -- 0x40002 maps nothing: fault 5
    ∷ (sent (put 0x4 0x40002 zeros) 0x105678, fault_code 0x5)
    -- a level-two word 0x10831 sends 0x13000 to 0x13000
    ∷ (sent (put 0x0 0x401 (put 0x44C 0x10831 zeros)) 0x13000, 0x13000)
    -- read at 0x3FFFFF size 1 passes check 8: fault 5, as level-one word 3 is 0
    ∷ (answered (next Read 0x3FFFFF 1 0 start), fault_code 0x5)
    -- at 0x400000 it doesn't
    ∷ (answered (next Read 0x400000 1 0 start), refusal_code 8)
    -- read size 3 at 0x400000 gives 7
    ∷ (answered (next Read 0x400000 3 0 start), refusal_code 7)
    ∷ []

pub paper_cases_lem : all_match paper_cases ≡ true
unfolding paper_cases
paper_cases_lem = refl
