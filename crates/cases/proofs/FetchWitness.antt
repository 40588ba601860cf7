-- Fetches taken through the third demand: image A, 0 written to 0x404, then a fetch of 0x1000; a checker that does not ask of it whether its
-- page is stale; and a page whose XN bit alone changes, fetched from by a chip that still holds its old entry.
use Prim.Native.Nat.{ℕ}
use mathlib.Core.Path.{◌≡◌, refl, sym, ◌∙◌}
use mathlib.Core.Logic.{inl}
use mathlib.Core.Bool.{true, cond}
use mathlib.Core.Option.{Option, some}
use mathlib.Core.List.{List, [], ◌∷◌}
use lib.ListN.{length, set, replicate}
use Rattle.model.specs.Limits.{row_size}
use Rattle.model.specs.Numbers.{Result, ok, fault, refused, shown}
use Rattle.model.specs.reference.Rules.{fresh, access, translated, touched, stored, aligned, among, access_size, may_read, may_write, permits, field_of, ruling, ruled, permission_fault, right_of, physical, outcome, set_registers, effect, carried_out, plain_step, scope_of, covers, flushes, held_scope, matches, held_for, any_clash, load, is_free, put_in, move, moves, or_walk, chip_outcome, flush_place, chip_step, walk, descriptor, table_word, page_word, global_by, domain_of, section, small_page, bits, value, in_memory, rooted}
use Rattle.model.specs.reference.Runs.{last, Checker, next, checker_run, is_refused, told, plain_run, chip_start, chip_next, chip_run, Holds}
use Rattle.model.specs.step.Machine.{started, stepped}
use Rattle.model.specs.Invisible.{Accepted, is_access, aligned_access, at_end, plain_last, chip_last, CouldDiffer, checker}
use Rattle.model.specs.Wrong.{StaleAlwaysThen}
use Rattle.model.specs.declared.Operation.{Operation}
use Rattle.model.specs.declared.Kind.TheVariants.{Write, Fetch}
use Rattle.model.proofs.CaseTools.{next as stepOn}
use Rattle.model.proofs.Chips.{held}
use Rattle.cases.proofs.OldEntry.{could_differ, failed_found, fault_refused, only_old}
use Rattle.cases.proofs.Witness.{unmap, old, case, accepted, throughout}

-- ── A fetch of a page that some TLB may still hold ──

-- in a list its fields b and c are 0
unfoldable pub fetch_back : Operation
fetch_back = record { kind = Fetch; a = 0x1000; b = 0; c = 0 }

-- it is an aligned access
fetch_aligned : aligned_access fetch_back ≡ true
unfolding aligned_access is_access among access_size aligned fetch_back
fetch_aligned = refl

-- it is refused as stale
fetch_refused_16 : shown (next checker fetch_back (at_end checker case)).answer ≡ refused 16
unfolding case unmap fetch_back checker_run last stepOn
fetch_refused_16 = refl

-- so some TLB could hold another entry
pub fetch_witness : CouldDiffer checker case fetch_back
fetch_witness = could_differ case accepted fetch_back fetch_aligned fetch_refused_16

-- and that is the old one, loaded in context 0
pub fetch_holds_old : (y : CouldDiffer checker case fetch_back) → y.held ≡ held 0 1 old
fetch_holds_old y = only_old 0 1 old case accepted fetch_back (unfold fetch_back in refl) (unfold case in throughout) y

-- ── A checker that asks of no fetch whether its page is stale: it carries each out as on an empty track ──

pub blind_fetch : Checker
blind_fetch = record { start = started; step = λ o g i t. cond (among o.kind (Fetch ∷ [])) (stepped o g i (replicate (length t) 0)) (stepped o g i t) }

blind_accepted : Accepted blind_fetch case
unfolding blind_fetch case is_refused stepOn
blind_accepted = refl

-- the fetch faults, as the tables no longer map the page
blind_faults : shown (next blind_fetch fetch_back (at_end blind_fetch case)).answer ≡ fault 0x7
unfolding blind_fetch case unmap fetch_back among checker_run last stepOn
blind_faults = refl

-- a chip of one place that loaded the page before the store holds its old entry
blind_differs : CouldDiffer blind_fetch case fetch_back
unfolding blind_fetch case unmap fetch_back old told is_refused stepOn Holds last plain_run plain_step carried_out effect access translated touched stored aligned
    access_size among may_read may_write permits field_of ruling ruled right_of physical fresh chip_start chip_run chip_next chip_step chip_outcome or_walk held_for moves move row_size is_free any_clash
    put_in outcome walk descriptor table_word page_word small_page global_by domain_of bits value in_memory held_scope scope_of covers matches flush_place flushes
blind_differs = record {
  places = 0;
  first = load 0 1 ∷ [];
  script = λ i. [];
  held = held 0 1 old;
  holds = inl refl;
  matching = refl;
  other = λ q. failed_found 0x7 old q;
}

pub blind_fetch_refuted : StaleAlwaysThen blind_fetch → ⊥
blind_fetch_refuted always =
    fault_refused 0x7 16
    (sym blind_faults ∙ always case blind_accepted fetch_back fetch_aligned (λ r q. absurd (fault_refused 0x7 r (sym blind_faults ∙ q))) blind_differs)

-- ── The old entry decides what is fetched ──

-- three pages; under root 0x80 the first MiB is a section at 0 with AP 1 and nG set, its low byte as given: 2 with XN clear, 0x12 with XN set;
-- 7 stands at the start of page 2
abbrev pub image : ℕ → List ℕ
image low = set (set (set (set (replicate 12288 0) 0x80 low) 0x81 4) 0x82 2) 0x2000 7

-- the low byte is overwritten, then page 2 is fetched from
abbrev fetch_after : ℕ → List Operation
fetch_after low = record { kind = Write; a = 0x80; b = 1; c = low } ∷ record { kind = Fetch; a = 0x2000; b = 0; c = 0 } ∷ []

-- the last answer of a chip that loaded page 2 at first, and of the plain machine, told that nothing was refused
abbrev chip_answer : ℕ → ℕ → Option Result
chip_answer before after = (chip_last (image before) (rooted 0x80) (fetch_after after) 1 (load 0 2 ∷ []) (λ i. [])).answer

abbrev plain_answer : ℕ → ℕ → Option Result
plain_answer before after = (plain_last (image before) (rooted 0x80) (fetch_after after)).0

-- XN set by the store: the chip fetches through its old entry, and the plain machine faults; XN cleared: the other way round
pub record OldXnDecides : Type 0 where
  pub fetches : chip_answer 2 0x12 ≡ some (ok 7)
  pub plain_faults : plain_answer 2 0x12 ≡ some (fault 0xd)
  pub faults : chip_answer 0x12 2 ≡ some (fault 0xd)
  pub plain_fetches : plain_answer 0x12 2 ≡ some (ok 7)

pub old_xn_decides : OldXnDecides
unfolding last plain_run plain_step carried_out effect set_registers access translated touched stored aligned access_size among may_read may_write permits field_of ruling ruled
    permission_fault right_of physical fresh chip_start chip_run chip_next chip_step chip_outcome or_walk held_for moves move row_size is_free any_clash put_in outcome walk
    descriptor table_word section global_by domain_of bits value in_memory held_scope scope_of covers matches flush_place flushes
old_xn_decides = record { fetches = refl; plain_faults = refl; faults = refl; plain_fetches = refl }
