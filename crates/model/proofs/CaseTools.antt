-- What the tables of cases share: images, steps, and answers as numbers.
use Prim.Native.Nat.{ℕ, ◌+◌}
use mathlib.Core.Bool.{Bool, true, false, cond}
use mathlib.Core.List.{List, [], ◌∷◌}
use lib.Dec.{eqb}
use lib.ListN.{replicate}
use Rattle.model.specs.Limits.{old_window, row_size}
use Rattle.model.specs.Numbers.{Result, ok, fault, refused, shown}
use Rattle.model.specs.step.Memory.{stored_at, within, load_at, written_at}
use Rattle.model.specs.step.Walk.{walk_page, first_at, first_of, second_at, second_of}
use Rattle.model.specs.step.Rights.{kernel_rights, user_rights, rights_of, permitted, field_at, ruling_of}
use Rattle.model.specs.step.Rows.{in_row, each_row}
use Rattle.model.specs.step.Track.{is_entry, add_entry, note_page, last_row, note_track, flush_all, flush_page, flush_context, flush_page_in, word_at, stale_word, stale_page}
use Rattle.model.specs.step.Checks.{memory_fits, track_fits, lengths_fit, alignment_of, root_fits, fields_fit, domains_fit, registers_fit, size_fits, address_fits, value_fits, new_root_fits, context_fits, mode_fits, new_domains_fit, may_ask, root_may_change, checks, start_checks, first_failing}
use Rattle.model.specs.step.Machine.{After, permission_fault_of, domain_fault_of, decided, access_at, read_step, write_step, fetch_step, operate, stepped, started}
use Rattle.model.specs.Types.{Tables, Kind, Four}

-- whether each computed value is the expected one
abbrev pub all_match : List (ℕ × ℕ) → Bool
all_match [] = true
all_match (x ∷ xs) = cond (eqb x.0 x.1) (all_match xs) false

-- memory with a word stored at `at`
abbrev pub put : ℕ → ℕ → List ℕ → List ℕ
put at w m = stored_at Four m at w

-- the shortest memory, all zero
abbrev pub zeros : List ℕ
zeros = replicate 4096 0

-- image A
abbrev pub image_a : List ℕ
image_a =
    put 0x0 0x401 (put 0x400 0x812 (put 0x404 0x3832 (put 0x3000 0x12345678 (put 0x4000 0x11223344 (replicate 32768 0)))))

-- the tables at this root
abbrev pub tables_at : ℕ → Tables
tables_at root = record { root = root }

-- the word of a row and a page in a track of the machine of the rules
abbrev pub track_at : List ℕ → ℕ → ℕ → ℕ
track_at t row page = word_at old_window t row page

-- an operation with its fields, on what the one before it left; to unfold it is to unfold the whole step, and start
unfoldable pub next : Kind → ℕ → ℕ → ℕ → After → After
unfolding within load_at written_at walk_page first_at first_of second_at second_of kernel_rights user_rights rights_of permitted field_at ruling_of in_row
    each_row is_entry add_entry note_page last_row note_track flush_all flush_page flush_context flush_page_in stale_word stale_page memory_fits
    row_size track_fits lengths_fit alignment_of root_fits fields_fit domains_fit registers_fit size_fits address_fits value_fits new_root_fits context_fits mode_fits new_domains_fit may_ask
    root_may_change checks start_checks first_failing permission_fault_of domain_fault_of decided access_at read_step write_step fetch_step operate stepped started
next k a b c x = stepped (record { kind = k; a = a; b = b; c = c }) x.registers x.memory x.track

-- an answer as one number: the value, or the number of a fault or a refusal, each above every value
abbrev pub fault_code : ℕ → ℕ
fault_code n = 0x100000000 + n

abbrev pub refusal_code : ℕ → ℕ
refusal_code n = 0x200000000 + n

abbrev pub code : Result → ℕ
code (ok v) = v
code (fault n) = fault_code n
code (refused n) = refusal_code n

abbrev pub answered : After → ℕ
answered x = code (shown x.answer)
