-- A global page taken through the second half: unmapped by a store in context 0, then read in context 1.
use Prim.Native.Nat.{ℕ, ◌*◌}
use mathlib.Core.Path.{◌≡◌, refl, sym, ap, ◌∙◌, subst}
use mathlib.Core.Bool.{Bool, false}
use mathlib.Core.Option.{Option, none}
use mathlib.Core.List.{List, [], ◌∷◌}
use lib.ListN.{replicate}
use Rattle.model.specs.Limits.{page_size}
use Rattle.model.specs.Numbers.{Result, fault, refused, shown}
use Rattle.model.specs.reference.Rules.{found, failed, State, fresh, outcome, carried_out, plain_step, walk, descriptor, table_word, page_word, global_by, domain_of, small_page, bits, value, in_memory, effect, set_registers, access, translated, touched, stored, aligned, access_size, may_read, may_write, permits, field_of, ruling, ruled, right_of, physical, among, rooted}
use Rattle.model.specs.reference.Runs.{last, next, checker_run, is_refused, told, plain_run}
use Rattle.model.specs.Invisible.{Session, Accepted, told_of, plain_end, at_end, CouldDiffer, checker}
use Rattle.model.specs.declared.Operation.{Operation}
use Rattle.model.specs.declared.Kind.TheVariants.{Asid}
use Rattle.model.specs.declared.Entry.{Entry}
use Rattle.model.proofs.CaseTools.{put, zeros, next as stepOn}
use Rattle.model.proofs.Chips.{held}
use Rattle.model.proofs.ThirdDemand.{invisible}
use Rattle.cases.proofs.OldEntry.{could_differ, fault_refused, Throughout, still, gone, only_old}
use Rattle.cases.proofs.Witness.{unmap, read_back, read_aligned}

-- page 0: frame 0, AP 1, nG set, and through it the tables are written; page 1 by this level-two word
abbrev image : ℕ → List ℕ
image w = put 0x0 0x401 (put 0x400 0x812 (put 0x404 w zeros))

unfoldable pub to_context1 : Operation
to_context1 = record { kind = Asid; a = 1; b = 0; c = 0 }

-- two contexts; page 1 is unmapped in context 0, then context 1 is current
unfoldable pub across : ℕ → Session
across w = record { image = image w; track = replicate 3072 0; setting = rooted 0; operations = unmap ∷ to_context1 ∷ [] }

-- page 1 global: frame 0, AP 3, nG clear; the same with nG set
abbrev pub global_word : ℕ
global_word = 0x32

abbrev pub own_word : ℕ
own_word = 0x832

-- the entry that the tables give page 1 at first
pub old_global : Entry
old_global = record { frame = 0; ap = 3; section = 0; global = 1; xn = 0; domain = 0 }

accepted : (w : ℕ) → Accepted checker (across w)
unfolding across is_refused stepOn
accepted w = refl

told_is : told_of checker (across global_word) ≡ (unmap, false) ∷ (to_context1, false) ∷ []
unfolding across unmap to_context1 told is_refused stepOn
told_is = refl

-- the read in context 1 is refused as stale
refused_16 : shown (next checker read_back (at_end checker (across global_word))).answer ≡ refused 16
unfolding across unmap to_context1 read_back checker_run last stepOn
refused_16 = refl

-- so some TLB could hold another entry
pub global_witness : CouldDiffer checker (across global_word) read_back
global_witness = could_differ (across global_word) (accepted global_word) read_back read_aligned refused_16

-- ── Whatever such a TLB holds that matches page 1 in context 1 is the old global entry ──

-- the context in which the plain machine ends after what was told: the read is one of context 1
ends_in : List (Operation × Bool) → ℕ
ends_in l = (last {A = Option Result × State} (none, fresh (image global_word) (rooted 0)) (plain_run (fresh (image global_word) (rooted 0)) l)).1.registers.context

ends_in_1 : ends_in ((unmap, false) ∷ (to_context1, false) ∷ []) ≡ 1
unfolding ends_in last plain_run plain_step carried_out effect set_registers to_context1
ends_in_1 = refl

pub read_in_1 : (plain_end checker (across global_word)).registers.context ≡ 1
unfolding across ends_in
read_in_1 = ap ends_in told_is ∙ ends_in_1

-- the old entry before the store, none after it and none in context 1
before_store : outcome (fresh (image global_word) (rooted 0)) (1 * page_size) ≡ found old_global
unfolding outcome fresh walk descriptor table_word page_word small_page global_by domain_of bits value in_memory old_global
before_store = refl

after_store : outcome (plain_step unmap false (fresh (image global_word) (rooted 0))).1 (1 * page_size) ≡ failed 0x7
unfolding plain_step carried_out effect access translated touched stored aligned access_size among may_read may_write permits field_of ruling ruled right_of physical outcome fresh walk descriptor table_word page_word small_page domain_of bits value in_memory unmap
after_store = refl

in_context_1 : outcome (plain_step to_context1 false (plain_step unmap false (fresh (image global_word) (rooted 0))).1).1 (1 * page_size) ≡ failed 0x7
unfolding plain_step carried_out effect set_registers access translated touched stored aligned access_size among may_read may_write permits field_of ruling ruled right_of physical outcome fresh walk descriptor table_word page_word small_page domain_of bits value in_memory unmap to_context1
in_context_1 = refl

throughout : Throughout 0 1 old_global (fresh (image global_word) (rooted 0)) (told_of checker (across global_word))
throughout =
    subst (Throughout 0 1 old_global (fresh (image global_word) (rooted 0))) (sym told_is)
    (unfold Throughout in (still before_store (unfold fresh in refl), (gone 0x7 after_store, gone 0x7 in_context_1)))

-- a chip that could then hold what matches page 1 in context 1 holds the old entry, loaded in context 0
pub holds_old_global : (y : CouldDiffer checker (across global_word) read_back) → y.held ≡ held 0 1 old_global
holds_old_global y =
    only_old 0 1 old_global (across global_word) (accepted global_word) read_back (unfold read_back in refl) (unfold across in throughout) y

-- ── With nG set no TLB could differ in context 1 ──

-- the read is carried out, and faults
own_faults : shown (next checker read_back (at_end checker (across own_word))).answer ≡ fault 0x7
unfolding across unmap to_context1 read_back checker_run last stepOn
own_faults = refl

pub own_same : CouldDiffer checker (across own_word) read_back → ⊥
own_same y = fault_refused 0x7 16
    (sym own_faults
    ∙ (invisible.exactly.stale (across own_word) (accepted own_word) read_back read_aligned
    (λ r q. absurd (fault_refused 0x7 r (sym own_faults ∙ q)))).1 y)
