-- A proved case of the rules taken through the second half: image A, 0 written to 0x404, then a read of 0x1000.
use Prim.Native.Nat.{◌*◌}
use mathlib.Core.Path.{◌≡◌, refl, sym, subst}
use mathlib.Core.Bool.{true, false}
use mathlib.Core.List.{[], ◌∷◌}
use lib.ListN.{replicate}
use Rattle.model.specs.Limits.{page_size}
use Rattle.model.specs.Numbers.{refused, shown}
use Rattle.model.specs.reference.Rules.{found, failed, fresh, outcome, carried_out, plain_step, walk, descriptor, table_word, page_word, global_by, domain_of, small_page, bits, value, in_memory, effect, access, translated, touched, stored, aligned, access_size, may_read, may_write, permits, field_of, ruling, ruled, right_of, physical, among, rooted}
use Rattle.model.specs.reference.Runs.{last, next, checker_run, is_refused, told}
use Rattle.model.specs.Invisible.{Session, Accepted, told_of, at_end, is_access, aligned_access, CouldDiffer, checker}
use Rattle.model.specs.declared.Operation.{Operation}
use Rattle.model.specs.declared.Kind.TheVariants.{Read, Write}
use Rattle.model.specs.declared.Entry.{Entry}
use Rattle.model.proofs.CaseTools.{image_a, next as stepOn}
use Rattle.model.proofs.Chips.{held}
use Rattle.cases.proofs.OldEntry.{could_differ, Throughout, still, gone, only_old}

unfoldable pub unmap : Operation
unmap = record { kind = Write; a = 0x404; b = 4; c = 0 }

unfoldable pub read_back : Operation
read_back = record { kind = Read; a = 0x1000; b = 4; c = 0 }

-- the entry that image A's tables give page 1 at first
unfoldable pub old : Entry
old = record { frame = 3; ap = 3; section = 0; global = 0; xn = 0; domain = 0 }

unfoldable pub case : Session
case = record { image = image_a; track = replicate 2048 0; setting = rooted 0; operations = unmap ∷ [] }

pub accepted : Accepted checker case
unfolding case is_refused stepOn
accepted = refl

-- the read is an aligned access
pub read_aligned : aligned_access read_back ≡ true
unfolding aligned_access is_access among access_size aligned read_back
read_aligned = refl

-- it is refused as stale
refused_16 : shown (next checker read_back (at_end checker case)).answer ≡ refused 16
unfolding case unmap read_back checker_run last stepOn
refused_16 = refl

-- so some TLB could hold another entry
pub witness : CouldDiffer checker case read_back
witness = could_differ case accepted read_back read_aligned refused_16

-- ── Whatever such a TLB holds for page 1 is the old entry ──

told_is : told_of checker case ≡ (unmap, false) ∷ []
unfolding case unmap told is_refused stepOn
told_is = refl

-- the old entry before the write, none after it
before_write : outcome (fresh image_a (rooted 0)) (1 * page_size) ≡ found old
unfolding outcome fresh walk descriptor table_word page_word small_page global_by domain_of bits value in_memory old
before_write = refl

after_write : outcome (plain_step unmap false (fresh image_a (rooted 0))).1 (1 * page_size) ≡ failed 0x7
unfolding plain_step carried_out effect access translated touched stored aligned access_size among may_read may_write permits field_of ruling ruled right_of physical outcome fresh walk descriptor table_word page_word small_page domain_of bits value in_memory unmap
after_write = refl

pub throughout : Throughout 0 1 old (fresh image_a (rooted 0)) (told_of checker case)
throughout =
    subst (Throughout 0 1 old (fresh image_a (rooted 0))) (sym told_is)
    (unfold Throughout in (still before_write (unfold fresh in refl), gone 0x7 after_write))

-- a chip that could then hold for page 1 another entry than the present outcome holds the old entry, loaded in context 0
pub holds_old : (y : CouldDiffer checker case read_back) → y.held ≡ held 0 1 old
holds_old y = only_old 0 1 old case accepted read_back (unfold read_back in refl) (unfold case in throughout) y
