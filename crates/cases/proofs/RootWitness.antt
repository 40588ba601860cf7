-- `asid`, then `root`, taken through both halves: refused under context 1, and through context 0 to a map that differs. Page 2 is mapped
-- under root 0x80 and not under root 0.
use Prim.Native.Nat.{ℕ}
use mathlib.Core.Path.{◌≡◌, refl, sym, ap, ◌∙◌}
use mathlib.Core.Bool.{Bool, true, false, true≢false}
use mathlib.Core.Option.{Option, none}
use mathlib.Core.List.{List, [], ◌∷◌}
use Rattle.model.specs.Numbers.{Result, ok, refused, shown}
use Rattle.model.specs.reference.Rules.{State, fresh, carried_out, plain_step, effect, set_registers, aligned, access_size, among, rooted}
use Rattle.model.specs.reference.Runs.{last, next, checker_run, is_refused, told, plain_run}
use Rattle.model.specs.Invisible.{Session, Accepted, told_of, plain_end, at_end, is_access, aligned_access, CouldDiffer, checker}
use Rattle.model.specs.declared.Operation.{Operation}
use Rattle.model.specs.declared.Kind.TheVariants.{Asid}
use Rattle.model.specs.declared.Registers.{Registers}
use Rattle.model.proofs.CaseTools.{next as stepOn}
use Rattle.model.proofs.Refuted.{image, to_root, read_page2, track0, session}
use Rattle.model.proofs.ThirdDemand.{invisible}
use Rattle.cases.proofs.OldEntry.{could_differ}

unfoldable pub to_context : ℕ → Operation
to_context a = record { kind = Asid; a = a; b = 0; c = 0 }

-- from root 0x80 to root 0, under context 1 and through context 0
unfoldable pub direct : Session
direct = session 0x80 (to_context 1 ∷ to_root 0 ∷ [])

unfoldable pub through : Session
through = session 0x80 (to_context 1 ∷ to_context 0 ∷ to_root 0 ∷ to_context 1 ∷ [])

direct_accepted : Accepted checker direct
unfolding direct session image track0 is_refused stepOn
direct_accepted = refl

through_accepted : Accepted checker through
unfolding through session image track0 is_refused stepOn
through_accepted = refl

read_aligned : aligned_access read_page2 ≡ true
unfolding aligned_access is_access among access_size aligned read_page2
read_aligned = refl

-- ── Under context 1 ──

-- the plain machine and the chip are told that `root` was refused
pub direct_told : told_of checker direct ≡ (to_context 1, false) ∷ (to_root 0, true) ∷ []
unfolding direct session image track0 to_context to_root told is_refused stepOn
direct_told = refl

-- and the plain machine keeps its root
end_of : List (Operation × Bool) → Registers
end_of l = (last {A = Option Result × State} (none, fresh image (rooted 0x80)) (plain_run (fresh image (rooted 0x80)) l)).1.registers

kept : end_of ((to_context 1, false) ∷ (to_root 0, true) ∷ []) ≡ record { root = 0x80; context = 1; mode = 0; domains = 0x55555555 }
unfolding end_of last plain_run plain_step carried_out effect set_registers fresh to_context
kept = refl

pub root_kept : (plain_end checker direct).registers ≡ record { root = 0x80; context = 1; mode = 0; domains = 0x55555555 }
unfolding direct session end_of
root_kept = ap end_of direct_told ∙ kept

-- a read of page 2 is carried out as before
pub reads_on : shown (next checker read_page2 (at_end checker direct)).answer ≡ ok 7
unfolding direct session image track0 to_context to_root read_page2 checker_run last stepOn
reads_on = refl

ok_refused : (v r : ℕ) → ◌≡◌ {A = Result} (ok v) (refused r) → ⊥
ok_refused v r q = let z : ◌≡◌ {A = Bool} true false = cc in true≢false z

-- so no TLB could differ there
pub direct_same : CouldDiffer checker direct read_page2 → ⊥
direct_same y = ok_refused 7 16
    (sym reads_on
    ∙ (invisible.exactly.stale direct direct_accepted read_page2 read_aligned (λ r q. absurd (ok_refused 7 r (sym reads_on ∙ q)))).1 y)

-- ── Through context 0 ──

-- every operation is carried out
pub through_told : told_of checker through ≡ (to_context 1, false) ∷ (to_context 0, false) ∷ (to_root 0, false) ∷ (to_context 1, false) ∷ []
unfolding through session image track0 to_context to_root told is_refused stepOn
through_told = refl

-- the read is refused as stale
refused_16 : shown (next checker read_page2 (at_end checker through)).answer ≡ refused 16
unfolding through session image track0 to_context to_root read_page2 checker_run last stepOn
refused_16 = refl

-- as some TLB could hold the entry of the old map
pub root_witness : CouldDiffer checker through read_page2
root_witness = could_differ through through_accepted read_page2 read_aligned refused_16
