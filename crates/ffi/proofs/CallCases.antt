-- The C functions, as two tables of cases computed on their definitions: which word is which field, and the numbers of answers; and a
-- single walk.
use Prim.Native.Nat.{ℕ}
use mathlib.Core.Path.{◌≡◌, refl}
use mathlib.Core.Bool.{true}
use mathlib.Core.List.{List, [], ◌∷◌}
use lib.ListN.{get_or, replicate}
use Rattle.model.specs.reference.Rules.{rooted}
use Rattle.model.specs.step.WalkAnswer.{walk_answer}
use Rattle.model.proofs.CaseTools.{all_match, put, zeros, image_a, next}
use Rattle.ffi.specs.Words.{kind_from, operation_from, registers_from, registers_into, are_words, Called, step_call, start_call}

-- one of the registers left, counted from 0, and a byte of the memory left
abbrev register : ℕ → Called → ℕ
register i x = get_or x.registers i 9

abbrev byte : ℕ → Called → ℕ
byte at x = get_or x.memory at 0

-- a track of two contexts
abbrev track : List ℕ
track = replicate 3072 0

-- an operation's four words and four registers, on image A
abbrev called : ℕ → ℕ → ℕ → ℕ → List ℕ → Called
called kind a b c registers = step_call (kind ∷ a ∷ b ∷ c ∷ []) registers image_a track

pub call_cases : List (ℕ × ℕ)
call_cases =
    let kernel : List ℕ = 0 ∷ 0 ∷ 0 ∷ 0x55555555 ∷ [] in
    let closed : List ℕ = 0 ∷ 0 ∷ 0 ∷ 0x55555554 ∷ [] in
    let other : List ℕ = 0 ∷ 1 ∷ 0 ∷ 0x55555555 ∷ [] in
    let started = start_call zeros track (rooted 0x80) (9 ∷ 9 ∷ 9 ∷ 9 ∷ []) in
    let refused = start_call zeros track (rooted 0x81) (9 ∷ 9 ∷ 9 ∷ 9 ∷ []) in
    let newRoot = called 2 0x100 0 0 kernel in
    let switched = called 3 1 0 0 kernel in
    let user = called 4 1 0 0 kernel in
    let opened = called 10 0x3 0 0 kernel in
    -- a start gives root, context 0, kernel mode, and each field of the domain register 1
    (started.number, 0)
    ∷ (register 0 started, 0x80)
    ∷ (register 1 started, 0)
    ∷ (register 2 started, 0)
    ∷ (register 3 started, 0x55555555)
    -- refused: 10, with zero registers
    ∷ (refused.number, 0x20000000A)
    ∷ (register 0 refused, 0)
    ∷ (register 1 refused, 0)
    ∷ (register 2 refused, 0)
    ∷ (register 3 refused, 0)
    -- three words are no registers, and neither are five
    ∷ ((start_call zeros track (rooted 0) (0 ∷ 0 ∷ 0 ∷ [])).number, 0x300000000)
    ∷ ((start_call zeros track (rooted 0) (0 ∷ 0 ∷ 0 ∷ 0 ∷ 0 ∷ [])).number, 0x300000000)
    ∷ ((called 0 0x1000 4 0 (0 ∷ 0 ∷ 0 ∷ [])).number, 0x300000000)
    -- root, context, mode and domains are the first, the second, the third and the fourth register
    ∷ (register 0 newRoot, 0x100)
    ∷ (register 1 switched, 1)
    ∷ (register 2 user, 1)
    ∷ (register 3 opened, 3)
    ∷ (register 3 newRoot, 0x55555555)
    ∷ ((called 8 0 0 0 (0 ∷ 0 ∷ 1 ∷ 0 ∷ [])).number, 0x20000000F)
    ∷ ((called 0 0 4 0 (0 ∷ 2 ∷ 0 ∷ 0 ∷ [])).number, 0x20000000E)
    ∷ ((called 0 0 4 0 (0 ∷ 0 ∷ 0 ∷ 2 ∷ [])).number, 0x20000000E)
    -- two rows are one context, and one row is no track: 13
    ∷ ((start_call zeros (replicate 2048 0) (rooted 0x80) kernel).number, 0)
    ∷ ((start_call zeros (replicate 1024 0) (rooted 0x80) kernel).number, 0x20000000D)
    -- a read: the address is the second word, the size the third; its value, and fault 7
    ∷ ((called 0 0x1000 4 0 kernel).number, 0x12345678)
    ∷ ((called 0 0x1002 2 0 kernel).number, 0x1234)
    ∷ ((called 0 0x2000 1 0 kernel).number, 0x100000007)
    -- a write: the value is the fourth
    ∷ ((called 1 0x1000 2 0xABCD kernel).number, 0)
    ∷ (byte 0x3000 (called 1 0x1000 2 0xABCD kernel), 0xCD)
    ∷ (byte 0x3001 (called 1 0x1000 2 0xABCD kernel), 0xAB)
    ∷ (byte 0x3002 (called 1 0x1000 2 0xABCD kernel), 0x34)
    -- a fetch: the address is the second word, the others are ignored; its value, fault 1 and refusal 8
    ∷ ((called 9 0x1000 0 0 kernel).number, 0x12345678)
    ∷ ((called 9 0x1000 3 0xFFFFFFFF kernel).number, 0x12345678)
    ∷ ((called 9 0x1000 0 0 (0 ∷ 0 ∷ 1 ∷ 0x55555555 ∷ [])).number, 0x12345678)
    ∷ ((called 9 0x1002 0 0 kernel).number, 0x100000001)
    ∷ ((called 9 0x400001 0 0 kernel).number, 0x200000008)
    -- `domain`: the value is the second word, the others are ignored; fault 0xB while the domain is closed, and refusal 17
    ∷ ((called 10 0x3 7 0xFFFFFFFF kernel).number, 0)
    ∷ ((called 0 0x1000 4 0 closed).number, 0x10000000B)
    ∷ ((called 10 0x2 0 0 kernel).number, 0x200000011)
    -- `root` under context 1: refusal 20, and the registers as they were
    ∷ ((called 2 0x100 0 0 other).number, 0x200000014)
    ∷ (register 0 (called 2 0x100 0 0 other), 0)
    -- refused: 7; and no such kind
    ∷ ((called 0 0x1000 3 0 kernel).number, 0x200000007)
    ∷ ((called 11 0 0 0 kernel).number, 0x300000000)
    ∷ []

pub call_cases_lem : all_match call_cases ≡ true
unfolding call_cases next kind_from operation_from registers_from registers_into are_words step_call start_call
call_cases_lem = refl

-- image A with a table outside memory for the second MiB, a section at 0x30000000, AP 3, nG set, for the third, and the same with nG clear
-- for the fourth
abbrev outside : List ℕ
outside = put 0x4 0x8001 (put 0x8 0x30020C02 (put 0xC 0x30000C02 image_a))

pub walk_cases : List (ℕ × ℕ)
walk_cases =
    -- the track words of pages 0 and 1; any low 12 bits of the address
    (walk_answer image_a 0 0, 0x202)
    ∷ (walk_answer image_a 0 0x1000, 0x3602)
    ∷ (walk_answer image_a 0 0x1FFF, 0x3602)
    -- the word of a section's page has bit 8 set
    ∷ (walk_answer outside 0 0x2AB000, 0x300AB702)
    -- and bit 7 where the page is global
    ∷ (walk_answer outside 0 0x3AB000, 0x300AB782)
    ∷ (walk_answer (put 0x404 0x3032 image_a) 0 0x1000, 0x3682)
    -- and bit 6 where nothing may be fetched: a small page's bit 0, a large page's bit 15, a section's bit 4
    ∷ (walk_answer (put 0x404 0x3833 image_a) 0 0x1000, 0x3642)
    ∷ (walk_answer (put 0x404 0x8831 image_a) 0 0x1000, 0x1642)
    ∷ (walk_answer (put 0x8 0x30020C12 image_a) 0 0x2AB000, 0x300AB742)
    -- and the domain in bits 5..2: a section's bits 8..5, and those of the word that points to a page's table
    ∷ (walk_answer (put 0x8 0x30020CA2 image_a) 0 0x2AB000, 0x300AB716)
    ∷ (walk_answer (put 0x8 0x30020DE2 image_a) 0 0x2AB000, 0x300AB73E)
    ∷ (walk_answer (put 0x0 0x4A1 image_a) 0 0x1000, 0x3616)
    ∷ (walk_answer (put 0x0 0x5E1 image_a) 0 0x1000, 0x363E)
    ∷ (walk_answer (put 0x404 0x39F2 image_a) 0 0x1000, 0x3602)
    -- the faults of the walk: 0xC, 5, 0xE and 7
    ∷ (walk_answer image_a 0x8000 0, 0x10000000C)
    ∷ (walk_answer image_a 0 0x100000, 0x100000005)
    ∷ (walk_answer outside 0 0x100000, 0x10000000E)
    ∷ (walk_answer image_a 0 0x2000, 0x100000007)
    -- the refusals: 13, 10 and 8, in this order
    ∷ (walk_answer (replicate 5000 0) 1 0x400000, 0x20000000D)
    ∷ (walk_answer image_a 1 0x400000, 0x20000000A)
    ∷ (walk_answer image_a 0 0x400000, 0x200000008)
    ∷ (walk_answer image_a 0 0x3FFFFF, 0x100000005)
    ∷ []

pub walk_cases_lem : all_match walk_cases ≡ true
unfolding walk_cases next walk_answer
walk_cases_lem = refl
