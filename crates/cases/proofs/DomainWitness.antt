-- Domains taken through the third demand: a page whose domain alone changes, accessed by a chip that still holds its old entry; a TLB that
-- could; and a chip that held its entry before the domain register changed, which decides by the register of the access.
use Prim.Native.Nat.{ℕ}
use mathlib.Core.Path.{◌≡◌, refl}
use mathlib.Core.Bool.{true}
use mathlib.Core.Option.{Option, some}
use mathlib.Core.List.{List, [], ◌∷◌}
use lib.ListN.{replicate}
use Rattle.model.specs.Limits.{row_size}
use Rattle.model.specs.Numbers.{Result, ok, fault, refused, shown}
use Rattle.model.specs.reference.Rules.{fresh, access, translated, touched, stored, aligned, among, access_size, may_read, may_write, permits, field_of, ruling, ruled, permission_fault, domain_fault, right_of, physical, outcome, set_registers, effect, carried_out, plain_step, scope_of, covers, flushes, held_scope, matches, held_for, any_clash, load, is_free, put_in, move, moves, or_walk, chip_outcome, flush_place, chip_step, walk, descriptor, table_word, global_by, domain_of, section, bits, value, in_memory, rooted}
use Rattle.model.specs.reference.Runs.{last, next, checker_run, is_refused, plain_run, chip_start, chip_next, chip_run}
use Rattle.model.specs.Invisible.{Session, Accepted, is_access, aligned_access, at_end, plain_last, chip_last, CouldDiffer, checker}
use Rattle.model.specs.declared.Operation.{Operation}
use Rattle.model.specs.declared.Kind.TheVariants.{Read, Write, Mode, Domain}
use Rattle.model.proofs.CaseTools.{next as stepOn}
use Rattle.cases.proofs.OldEntry.{could_differ}
use Rattle.cases.proofs.FetchWitness.{image}

-- The low byte of the image's section is 2 in domain 0, and 0x22 in domain 1.

abbrev to_domains : ℕ → Operation
to_domains a = record { kind = Domain; a = a; b = 0; c = 0 }

abbrev read_page2 : Operation
read_page2 = record { kind = Read; a = 0x2000; b = 4; c = 0 }

-- ── A page whose domain alone changed is one that some TLB may still hold ──

-- the section turned to domain 1 by a store
redomain : Operation
redomain = record { kind = Write; a = 0x80; b = 1; c = 0x22 }

pub changed : Session
changed = record { image = image 2; track = replicate 2048 0; setting = rooted 0x80; operations = redomain ∷ [] }

accepted : Accepted checker changed
unfolding changed is_refused stepOn
accepted = refl

read_aligned : aligned_access read_page2 ≡ true
unfolding aligned_access is_access among access_size aligned
read_aligned = refl

refused_16 : shown (next checker read_page2 (at_end checker changed)).answer ≡ refused 16
unfolding changed redomain checker_run last stepOn
refused_16 = refl

pub domain_witness : CouldDiffer checker changed read_page2
domain_witness = could_differ changed accepted read_page2 read_aligned refused_16

-- ── The old entry's domain decides, by the register of the access ──

-- the last answer of a chip that loaded page 2 at first, and of the plain machine, told that nothing was refused
abbrev chip_answer : ℕ → List Operation → Option Result
chip_answer low os = (chip_last (image low) (rooted 0x80) os 1 (load 0 2 ∷ []) (λ i. [])).answer

abbrev plain_answer : ℕ → List Operation → Option Result
plain_answer low os = (plain_last (image low) (rooted 0x80) os).0

-- the low byte overwritten, the domain register set, page 2 read
abbrev after : ℕ → ℕ → List Operation
after low w = record { kind = Write; a = 0x80; b = 1; c = low } ∷ to_domains w ∷ read_page2 ∷ []

-- the section turned from domain 0 to domain 1, with one of the two closed: chip and plain machine differ both ways
pub record OldDomainDecides : Type 0 where
  pub reads : chip_answer 2 (after 0x22 0x1) ≡ some (ok 7)
  pub plain_faults : plain_answer 2 (after 0x22 0x1) ≡ some (fault 0x9)
  pub faults : chip_answer 2 (after 0x22 0x4) ≡ some (fault 0x9)
  pub plain_reads : plain_answer 2 (after 0x22 0x4) ≡ some (ok 7)

pub old_domain_decides : OldDomainDecides
unfolding last plain_run plain_step carried_out effect set_registers access translated touched stored aligned access_size among may_read may_write permits
    field_of ruling ruled permission_fault domain_fault right_of physical fresh chip_start chip_run chip_next chip_step chip_outcome or_walk held_for moves move row_size is_free
    any_clash put_in outcome walk descriptor table_word section global_by domain_of bits value in_memory held_scope scope_of covers matches flush_place flushes
old_domain_decides = record { reads = refl; plain_faults = refl; faults = refl; plain_reads = refl }

-- the domain register set, then page 2 read in user mode, which AP 1 does not permit
abbrev as_user : ℕ → List Operation
as_user w = to_domains w ∷ record { kind = Mode; a = 1; b = 0; c = 0 } ∷ read_page2 ∷ []

-- a chip that loaded page 2 while each field was 1 goes by the register of the access: closed, as at the load, and with permissions skipped
pub record RegisterOfNow : Type 0 where
  pub closed : chip_answer 2 (as_user 0) ≡ some (fault 0x9)
  pub plain_closed : plain_answer 2 (as_user 0) ≡ some (fault 0x9)
  pub client : chip_answer 2 (as_user 0x55555555) ≡ some (fault 0xd)
  pub plain_client : plain_answer 2 (as_user 0x55555555) ≡ some (fault 0xd)
  pub manager : chip_answer 2 (as_user 3) ≡ some (ok 7)
  pub plain_manager : plain_answer 2 (as_user 3) ≡ some (ok 7)

pub register_of_now : RegisterOfNow
unfolding last plain_run plain_step carried_out effect set_registers access translated touched stored aligned access_size among may_read may_write permits
    field_of ruling ruled permission_fault domain_fault right_of physical fresh chip_start chip_run chip_next chip_step chip_outcome or_walk held_for moves move row_size is_free
    any_clash put_in outcome walk descriptor table_word section global_by domain_of bits value in_memory held_scope scope_of covers matches flush_place flushes
register_of_now = record { closed = refl; plain_closed = refl; client = refl; plain_client = refl; manager = refl; plain_manager = refl }
