-- A section split into equal pages by one store, and equal pages joined into a section, with the old entries in the sets of two contexts.
-- Every mapping has nG set, and the stores go through a page of another MiB.
use Prim.Native.Nat.{ℕ, zero, suc, ◌+◌, ◌*◌, ◌/◌, ◌%◌}
use mathlib.Core.List.{List, [], ◌∷◌, ◌++◌}
use lib.ListN.{replicate}
use Rattle.model.specs.reference.Rules.{rooted}
use Rattle.model.specs.step.Machine.{After, started}
use Rattle.model.specs.declared.Kind.TheVariants.{Read, Write, Asid, Ctx}
use Rattle.model.proofs.CaseTools.{put, next, fault_code, refusal_code, answered, track_at}

-- the bytes of the words of n small pages from page i on: frame i, AP 3, nG set
abbrev equal_pages : ℕ → ℕ → List ℕ
equal_pages i zero = []
equal_pages i (suc n) = 0x32 ∷ (i % 16 * 16 + 8) ∷ (i / 16) ∷ 0 ∷ equal_pages (suc i) n

-- The level-one word of the first MiB, under root 0x80, is either of these: a section at 0, AP 3, nG set; the table of equal pages.
abbrev pub as_section : ℕ
as_section = 0x20C02

abbrev pub as_pages : ℕ
as_pages = 0x401

-- The second MiB is a section at 0, AP 1, nG set: through it the level-one words are written. 0x44332211 stands at 0x10.
abbrev mib_image : ℕ → List ℕ
mib_image w = put 0x10 0x44332211 (put 0x80 w (put 0x84 0x20402 (replicate 0x400 0))) ++ (equal_pages 0 256 ++ replicate 0x800 0)

-- a store that makes w the level-one word of the first MiB
abbrev remap : ℕ → After → After
remap w x = next Write 0x100080 4 w x

-- The first and the last page of the first MiB are stale; and they are not: the bytes of the last are not in memory.
abbrev stale_mib : After → List (ℕ × ℕ)
stale_mib x = (answered (next Read 0x10 4 0 x), refusal_code 16) ∷ (answered (next Read 0xFF010 4 0 x), refusal_code 16) ∷ []

abbrev trusted_mib : After → List (ℕ × ℕ)
trusted_mib x = (answered (next Read 0x10 4 0 x), 0x44332211) ∷ (answered (next Read 0xFF010 4 0 x), fault_code 0x8) ∷ []

-- pages of the first MiB whose words are compared
abbrev some_pages : List ℕ
some_pages = 0 ∷ 1 ∷ 0x7F ∷ 0x80 ∷ 0xFE ∷ 0xFF ∷ []

-- In a context the set of each of these pages has one entry, that of page p with frame p and word w but for the frame; or it has several.
abbrev one_each : ℕ → After → ℕ → List ℕ → List (ℕ × ℕ)
one_each c x w [] = []
one_each c x w (p ∷ ps) = (track_at x.track c p, p * 4096 + w) ∷ one_each c x w ps

abbrev several_each : ℕ → After → List ℕ → List (ℕ × ℕ)
several_each c x [] = []
several_each c x (p ∷ ps) = (track_at x.track c p, 1) ∷ several_each c x ps

-- The level-one word of the first MiB changes from `old` to `new`, in context 1, with the old entries in the sets of contexts 0 and 1.
-- `oldWord` and `newWord` are the words of page 0's entries.
unfoldable pub changing : ℕ → ℕ → ℕ → ℕ → List (ℕ × ℕ)
unfolding next
changing old new oldWord newWord =
    let both = next Asid 1 0 0 (started (mib_image old) (replicate 3072 0) (rooted 0x80)) in
    let changed = remap new both in
    let flushed1 = next Ctx 1 0 0 changed in
    let flushed0 = next Ctx 0 0 0 changed in
    let back = remap old changed in
    one_each 0 both oldWord some_pages
    ++ one_each 1 both oldWord some_pages
    ++ trusted_mib both
    -- stale in both contexts: in the current one a set has both entries, in the other one the old entry alone
    ++ (answered changed, 0)
    ∷ several_each 1 changed some_pages
    ++ one_each 0 changed oldWord some_pages
    ++ stale_mib changed
    ++ stale_mib (next Asid 0 0 0 changed)
    -- `ctx` of one frees that one alone
    ++ one_each 1 flushed1 newWord some_pages
    ++ trusted_mib flushed1
    ++ stale_mib (next Asid 0 0 0 flushed1)
    ++ stale_mib flushed0
    ++ trusted_mib (next Asid 0 0 0 flushed0)
    -- changed back without a flush: stale in the context that was current meanwhile, trusted in the other
    ++ several_each 1 back some_pages
    ++ one_each 0 back oldWord some_pages
    ++ stale_mib back
    ++ trusted_mib (next Asid 0 0 0 back)

-- Split and joined again; joined and split again.
unfoldable pub split_and_joined : List (ℕ × ℕ)
unfolding changing
split_and_joined = changing as_section as_pages 0x702 0x602 ++ changing as_pages as_section 0x602 0x702
