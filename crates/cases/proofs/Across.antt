-- A run in which a chip uses under context 1 a global entry that it loaded under context 0.
use Prim.Native.Nat.{ℕ}
use mathlib.Core.Path.{refl}
use mathlib.Core.Logic.{inl}
use mathlib.Core.List.{List, [], ◌∷◌}
use native.Mathlib.Omega.{arith}
use lib.ListN.{set, replicate}
use Rattle.model.specs.Limits.{row_size}
use Rattle.model.specs.reference.Rules.{fresh, access, translated, touched, stored, aligned, access_size, may_read, may_write, permits, field_of, ruling, ruled, right_of, physical, among, outcome, set_registers, effect, carried_out, plain_step, scope_of, covers, flushes, Held, held_scope, matches, held_for, any_clash, load, is_free, put_in, move, moves, or_walk, chip_outcome, flush_place, chip_step, walk, descriptor, table_word, global_by, domain_of, section, bits, value, in_memory, rooted}
use Rattle.model.specs.reference.Runs.{last, plain_run, chip_start, chip_next, chip_run, Holds}
use Rattle.model.specs.Invisible.{UsedAcross}
use Rattle.model.specs.declared.Operation.{Operation}
use Rattle.model.specs.declared.Kind.TheVariants.{Read, Write, Asid}

-- three pages; under root 0x80 the first MiB is a section at 0 with AP 1 and nG clear; 7 stands at the start of page 2
abbrev mapped : List ℕ
mapped = set (set (set (replicate 12288 0) 0x80 2) 0x81 4) 0x2000 7

-- the section's word is overwritten, then context 1 is current
abbrev unmapped : List Operation
unmapped = record { kind = Write; a = 0x80; b = 4; c = 0 } ∷ record { kind = Asid; a = 1; b = 0; c = 0 } ∷ []

-- page 2, loaded under context 0
abbrev page2 : Held
page2 = record { context = 0; page = 2; entry = record { frame = 2; ap = 1; section = 1; global = 1; xn = 0; domain = 0 } }

pub used_across : UsedAcross
unfolding last plain_run plain_step carried_out effect set_registers access translated touched stored aligned access_size among may_read may_write permits field_of ruling ruled right_of physical fresh chip_start
    chip_run chip_next chip_step chip_outcome or_walk held_for moves move row_size is_free any_clash put_in outcome walk descriptor table_word section global_by domain_of bits value
    in_memory held_scope scope_of covers matches flush_place flushes Holds
used_across = record {
  image = mapped;
  setting = rooted 0x80;
  before = unmapped;
  access = record { kind = Read; a = 0x2000; b = 4; c = 0 };
  places = 1;
  first = load 0 2 ∷ [];
  script = λ i. [];
  held = page2;
  value = 7;
  number = 0x5;
  holds = inl refl;
  shared = refl;
  elsewhere = λ q. omega (arith, q);
  matching = refl;
  unmapped = refl;
  chip_answers = refl;
  plain_faults = refl;
}
