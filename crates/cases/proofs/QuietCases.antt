-- Cases: which stores are quiet, and what the step for runs leaves in the track.
use Prim.Native.Nat.{ℕ, ◌+◌, ◌*◌}
use mathlib.Core.Path.{◌≡◌, refl}
use mathlib.Core.Bool.{true, cond}
use mathlib.Core.List.{List, [], ◌∷◌, ◌++◌}
use lib.ListN.{replicate}
use Rattle.model.specs.Limits.{old_window, row_size}
use Rattle.model.specs.reference.Rules.{rooted}
use Rattle.model.specs.step.Memory.{within, load_at, written_at}
use Rattle.model.specs.step.Walk.{walk_page, first_at, first_of, second_at, second_of}
use Rattle.model.specs.step.Rights.{kernel_rights, user_rights, rights_of, permitted, field_at, ruling_of}
use Rattle.model.specs.step.Rows.{in_row, each_row}
use Rattle.model.specs.step.Track.{is_entry, add_entry, note_page, last_row, note_track, flush_all, flush_page, flush_context, flush_page_in, stale_word, stale_page}
use Rattle.model.specs.step.Checks.{memory_fits, track_fits, lengths_fit, root_fits, fields_fit, domains_fit, registers_fit, size_fits, address_fits, value_fits, new_root_fits, context_fits, mode_fits, new_domains_fit, may_ask, root_may_change, checks, start_checks, first_failing, alignment_of}
use Rattle.model.specs.step.Machine.{After, permission_fault_of, domain_fault_of, decided, access_at, read_step, write_step, fetch_step, operate, started}
use Rattle.model.specs.declared.Kind.{Kind}
use Rattle.model.specs.declared.Kind.TheVariants.{Read, Write, Root, Asid, Mode, All, Addr, Ctx, AddrCtx, Fetch, Domain}
use Rattle.model.specs.declared.Answer.TheVariants.{Done}
use Rattle.model.proofs.CaseTools.{all_match, put, zeros, refusal_code, answered, track_at, tables_at}
use Rattle.runs.specs.Quiet.{overlap, touches_tables, touches, quiet}
use Rattle.runs.specs.Step.{extent_of, flushed_by, note_one_page, run_operate, run_stepped}

-- an operation of a run with its fields, on what the one before it left; to unfold it is to unfold the whole step
unfoldable pub step : Kind → ℕ → ℕ → ℕ → After → After
unfolding within load_at written_at walk_page first_at first_of second_at second_of kernel_rights user_rights rights_of permitted field_at ruling_of in_row
    each_row is_entry add_entry note_page last_row note_track flush_all flush_page flush_context flush_page_in stale_word stale_page row_size memory_fits
    track_fits lengths_fit alignment_of root_fits fields_fit domains_fit registers_fit size_fits address_fits value_fits new_root_fits context_fits mode_fits new_domains_fit may_ask
    root_may_change checks start_checks first_failing permission_fault_of domain_fault_of decided access_at read_step write_step fetch_step operate started
    overlap touches_tables touches quiet extent_of flushed_by note_one_page run_operate run_stepped
step k a b c x = run_stepped (record { kind = k; a = a; b = b; c = c }) x.registers x.memory x.track

-- The image has two maps, and 0x44332211 at 0x10. Each page is at frame 0, so that an offset below 0x1000 in a page is the address of the
-- byte. Under root 0x80: by the table at 0x400, page 0 and page 16 AP 1, page 1 AP 3, page 255 AP 3; the second MiB has no mapping, the
-- third has a section with AP 3, the fourth points to the table at 0x800. Under root 0x100: the table at 0x800, with page 0 AP 1, and no
-- more. All have nG set but page 255. Nothing points to the table at 0xC00.
abbrev image : List ℕ
image =
    put 0x80 0x401 (put 0x88 0x20C02 (put 0x8C 0x801
    (put 0x400 0x812 (put 0x404 0x832 (put 0x440 0x812 (put 0x7FC 0x32
    (put 0x100 0x801 (put 0x800 0x812
    (put 0x10 0x44332211 zeros)))))))))

-- ── Which stores are quiet, by place and size, under root 0x80 ──

abbrev is_quiet : ℕ → ℕ → ℕ
is_quiet at n = cond (quiet old_window image (tables_at 0x80) at n) 1 0

abbrev used : ℕ → ℕ → ℕ × ℕ
used at n = (is_quiet at n, 0)

abbrev unused : ℕ → ℕ → ℕ × ℕ
unused at n = (is_quiet at n, 1)

-- a level-one word that points to a table, one of a MiB without mapping, one of a section, the last of the window; its bytes and halves
abbrev first_words : List (ℕ × ℕ)
first_words =
    used 0x80 4 ∷ used 0x84 4 ∷ used 0x88 4 ∷ used 0x8C 4
    ∷ used 0x80 1 ∷ used 0x84 1 ∷ used 0x87 1 ∷ used 0x86 2 ∷ used 0x8F 1 ∷ used 0x8E 2
    ∷ []

-- a table's first word, one behind the last page in use, its last word; bytes and halves; the table of the last MiB
abbrev tables : List (ℕ × ℕ)
tables =
    used 0x400 4 ∷ used 0x410 4 ∷ used 0x7F8 1 ∷ used 0x7FC 4 ∷ used 0x7FF 1 ∷ used 0x7FE 2
    ∷ used 0x800 4 ∷ used 0xBFC 4 ∷ used 0xBFF 1
    ∷ []

-- before the root and behind the window's words; another root's words; before the first table; a table that no walk uses; plain data
abbrev others : List (ℕ × ℕ)
others =
    unused 0x7C 4 ∷ unused 0x7F 1 ∷ unused 0x90 4 ∷ unused 0x90 1 ∷ unused 0xFC 4
    ∷ unused 0x100 4 ∷ unused 0x0 4 ∷ unused 0x3FC 4 ∷ unused 0x3FF 1
    ∷ unused 0xC00 4 ∷ unused 0xC04 1 ∷ unused 0xFFC 4 ∷ unused 0x10 4
    ∷ []

-- A store is judged by each of its bytes: the second of two, the last of four.
abbrev across_edges : List (ℕ × ℕ)
across_edges = used 0x7F 2 ∷ used 0x7D 4 ∷ unused 0x7C 3 ∷ used 0x3FF 2 ∷ used 0x3FD 4 ∷ used 0x8F 2 ∷ used 0xBFF 4 ∷ []

pub quiet_cases : all_match (first_words ++ (tables ++ (others ++ across_edges))) ≡ true
unfolding overlap touches_tables touches quiet within load_at first_of
quiet_cases = refl

-- ── The step for runs, from a start with two contexts ──

abbrev begun : After
begun = started image (replicate 3072 0) (rooted 0x80)

-- the words of a page in context 0, in context 1 and in the global row
abbrev words : ℕ → After → ℕ × ℕ × ℕ → List (ℕ × ℕ)
words p x row = (track_at x.track 0 p, row.0) ∷ (track_at x.track 1 p, row.1) ∷ (track_at x.track 2 p, row.2) ∷ []

-- a read of a page: carried out, or refused as stale
abbrev reads : ℕ → After → ℕ × ℕ
reads p x = (answered (step Read (p * 4096 + 0x10) 4 0 x), 0x44332211)

abbrev stale : ℕ → After → ℕ × ℕ
stale p x = (answered (step Read (p * 4096 + 0x10) 4 0 x), refusal_code 16)

-- a store through page 0, whose offsets are addresses
abbrev store : ℕ → ℕ → ℕ → After → After
store at n v x = step Write at n v x

-- what the track holds of a page at frame 0 with AP 1, with AP 3, and of a section with AP 3; 1 for two entries
abbrev ap1 : ℕ
ap1 = 0x202

abbrev ap3 : ℕ
ap3 = 0x602

abbrev section3 : ℕ
section3 = 0x702

-- quiet stores, then what makes the stored words used: another root's level-one word and `root`; a table's word and a level-one word that
-- points to it, after which the table is used; a level-one word above the window
abbrev made_used : List (ℕ × ℕ)
made_used =
    words 256 (store 0x104 4 0x20C02 begun) (0, 0, 0)
    ++ (words 256 (step Root 0x100 0 0 (store 0x104 4 0x20C02 begun)) (section3, 0, 0)
    ++ (reads 256 (step Root 0x100 0 0 (store 0x104 4 0x20C02 begun))
    ∷ words 257 (store 0xC04 4 0x832 begun) (0, 0, 0)
    ++ (words 257 (store 0x84 4 0xC01 (store 0xC04 4 0x832 begun)) (ap3, 0, 0)
    ++ (reads 257 (store 0x84 4 0xC01 (store 0xC04 4 0x832 begun))
    ∷ stale 257 (store 0xC04 1 0x12 (store 0x84 4 0xC01 (store 0xC04 4 0x832 begun)))
    ∷ words 1023 (store 0x90 4 0x20C02 begun) (0, 0, 0)))))

-- stores into used bytes: the level-one word of a MiB without mapping; a table's word of a page without mapping, its last word, and a word
-- of the last MiB's table; one byte of a word; the value that is there; through page 16, by the physical address
abbrev used_bytes : List (ℕ × ℕ)
used_bytes =
    words 256 (store 0x84 4 0x20C02 begun) (section3, 0, 0)
    ++ (words 4 (store 0x410 4 0x832 begun) (ap3, 0, 0)
    ++ (words 255 (store 0x7FC 4 0x832 begun) (ap3, 0, 0x682)
    ++ (words 768 (store 0x800 1 0x32 begun) (1, 0, 0)
    ++ (words 1 (store 0x404 1 0x12 begun) (1, 0, 0)
    ++ (stale 1 (store 0x404 1 0x12 begun)
    ∷ words 1 (store 0x404 4 0x832 begun) (ap3, 0, 0)
    ++ (reads 1 (store 0x404 4 0x832 begun)
    ∷ words 1 (step Write 0x10404 1 0x12 begun) (1, 0, 0)))))))

-- page 1 changed, and stale
abbrev changed : After
changed = store 0x404 4 0x812 begun

-- flushes: the page named is noted again, and no other; a page of another context, whose global set is noted again; `ctx` of another
-- context, and of the current one; `all`; another context
abbrev flushed : List (ℕ × ℕ)
flushed =
    words 1 changed (1, 0, 0)
    ++ (words 1 (step Addr 0x1234 0 0 changed) (ap1, 0, 0)
    ++ (reads 1 (step Addr 0x1234 0 0 changed)
    ∷ words 1 (step AddrCtx 0x1000 0 0 changed) (ap1, 0, 0)
    ++ (words 1 (step AddrCtx 0x1000 1 0 changed) (1, 0, 0)
    ++ (words 255 (step AddrCtx 0xFF000 1 0 changed) (0, 0, 0x682)
    ++ (words 1 (step Ctx 1 0 0 changed) (1, 0, 0)
    ++ (words 1 (step Ctx 0 0 0 changed) (ap1, 0, 0)
    ++ (words 1 (step All 0 0 0 changed) (ap1, 0, 0)
    ++ (words 1 (step Asid 1 0 0 changed) (1, ap1, 0)
    ++ words 1 (step Ctx 0 0 0 (step Asid 1 0 0 changed)) (0, ap1, 0)))))))))

-- ── A lent track that is not noted ──

abbrev lent : After
lent = record { answer = Done 0; registers = begun.registers; memory = image; track = replicate 3072 0 }

-- It stays as lent after a read, a fetch, a fault, a quiet store, `mode`, `domain` and `ctx` of another context; after `addr` and
-- `addrctx` one page is noted; after the rest every page is.
abbrev as_lent : List (ℕ × ℕ)
as_lent =
    words 1 (step Read 0x10 4 0 lent) (0, 0, 0)
    ++ (words 1 (step Fetch 0x10 0 0 lent) (0, 0, 0)
    ++ (words 1 (step Read 0x2000 4 0 lent) (0, 0, 0)
    ++ (words 1 (step Write 0x2000 4 0 lent) (0, 0, 0)
    ++ (words 1 (store 0x10 4 7 lent) (0, 0, 0)
    ++ (words 1 (step Mode 1 0 0 lent) (0, 0, 0)
    ++ (words 1 (step Domain 0 0 0 lent) (0, 0, 0)
    ++ (words 1 (step Ctx 1 0 0 lent) (0, 0, 0)
    ++ (words 1 (step Addr 0x1000 0 0 lent) (ap3, 0, 0)
    ++ (words 0 (step Addr 0x1000 0 0 lent) (0, 0, 0)
    ++ (words 1 (step AddrCtx 0x1000 1 0 lent) (ap3, 0, 0)
    ++ (words 255 (step AddrCtx 0x1000 1 0 lent) (0, 0, 0)
    ++ (words 1 (store 0x84 4 0 lent) (ap3, 0, 0)
    ++ (words 1 (step Root 0x80 0 0 lent) (ap3, 0, 0)
    ++ (words 1 (step Asid 0 0 0 lent) (ap3, 0, 0)
    ++ (words 1 (step All 0 0 0 lent) (ap3, 0, 0)
    ++ words 1 (step Ctx 0 0 0 lent) (ap3, 0, 0))))))))))))))))

pub run_cases : all_match (made_used ++ (used_bytes ++ (flushed ++ as_lent))) ≡ true
unfolding step
run_cases = refl
