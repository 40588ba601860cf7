-- Laws of the report around its lines: the list, the start, the header, and a call. Assumes nothing.
use Prim.Native.Nat.{ℕ, ◌+◌, ◌≤◌}
use mathlib.Core.Path.{◌≡◌, refl, ap, ap₂, sym, ◌∙◌, subst, subst₂}
use mathlib.Core.Bool.{Bool, true, false, cond, true≢false}
use mathlib.Core.Logic.{◌⊎◌, inl, inr}
use mathlib.Core.List.{List, [], ◌∷◌, ◌++◌}
use native.Mathlib.Omega.{arith}
use lib.Dec.{leb}
use lib.ListN.{length, length-append, drop}
use borrow.Author.Tests.{ltb-false}
use Rattle.text.specs.Split.{past}
use Rattle.text.specs.Put.{over, wrote, place_after}
use Rattle.text.proofs.PutLaws.{over_over, wrote_fits}
use Rattle.model.specs.Limits.{old_window}
use Rattle.model.specs.Numbers.{refused, refusal_number, shown}
use Rattle.model.specs.declared.Answer.{Answer}
use Rattle.model.specs.declared.Answer.TheVariants.{Done, Faulted, Refused}
use Rattle.model.specs.declared.Fault.{Fault}
use Rattle.model.specs.declared.Operation.{Operation}
use Rattle.model.specs.declared.Refusal.{Refusal}
use Rattle.model.specs.declared.Registers.{Registers}
use Rattle.model.specs.Types.{Check}
use Rattle.std.specs.Prelude.{Ok, Err, is_ok}
use Rattle.model.specs.step.Checks.{start_checks, first_failing}
use Rattle.model.specs.declared.Returned.{Returned}
use Rattle.model.specs.step.Machine.{After, Gives, started}
use Rattle.model.specs.reference.Rules.{State}
use Rattle.model.specs.reference.Runs.{last, checker_run, is_refused}
use Rattle.runs.specs.Noted.{Noted}
use Rattle.runs.proofs.Noted.{noted_start}
use Rattle.names.specs.Names.{newline}
use Rattle.listing.specs.declared.Reason.{Reason}
use Rattle.listing.specs.declared.Reason.TheVariants.{TooLong, Names}
use Rattle.listing.specs.Whole.{list_limit, list_number, too_long, has_names, Ending, Reading, stopped_at, read_rest, read_list}
use Rattle.report_line.specs.Text.{header, no_name, start_name, report_line, line_room}
use Rattle.std.specs.declared.result.Result.TheVariants.{Ok}
use Rattle.report.specs.Report.{setting, Left, replayed, after_start, body_of, headed, image_limit, memory_length, track_length, passes, looks_at_list, Ran, ReportCall, reported, GivesReport}
use Rattle.report.proofs.LinesLaws.{ended, stopped_at_lem}

-- ── The list ──

pub read_long : (l : List ℕ) → too_long l ≡ true → read_list l ≡ stopped_at 1 TooLong
unfolding read_list
read_long l h = rw h

pub read_names : (l : List ℕ) → too_long l ≡ false → has_names l ≡ true → read_list l ≡ read_rest (past newline l)
unfolding read_list
read_names l h k = rw (h, k)

pub read_none : (l : List ℕ) → too_long l ≡ false → has_names l ≡ false → read_list l ≡ stopped_at 1 Names
unfolding read_list
read_none l h k = rw (h, k)

pub not_long : (l : List ℕ) → too_long l ≡ false → length l ≤ list_limit
unfolding too_long
not_long l h = ltb-false list_limit (length l) h

-- ── A part of the report ──

pub ran_same : (r r' : Left) {d : List ℕ} {at p : ℕ} {m t out : List ℕ} → r ≡ r' → Ran r d at p m t out → Ran r' d at p m t out
ran_same r r' {d} {at} {p} {m} {t} {out} e w = subst (λ (z : Left). Ran z d at p m t out) e w

-- a line that ends the report
pub ran_ended : (r : Left) (s : List ℕ) (x : After) {d : List ℕ} {at p : ℕ} {m t out : List ℕ} → r ≡ ended s x → m ≡ x.memory → t ≡ x.track → at + line_room ≤ length d →
    (p ≡ place_after line_room d at s) × (out ≡ wrote line_room d at s) → Ran r d at p m t out
ran_ended r s x {d} {at} {p} {m} {t} {out} e a b h q =
    let f = wrote_fits line_room d at s p out h q in
    record {
      memory = a ∙ sym (ap (λ (k : Left). k.memory) e);
      track = b ∙ sym (ap (λ (k : Left). k.track) e);
      place = f.0 ∙ sym (ap (λ (k : Left). at + length k.text) e);
      bytes = f.1 ∙ sym (ap (λ (k : Left). over d at k.text) e);
    }

pub ran_stopped : (x : After) (l : List ℕ) (w : Reason) (k : ℕ) {d : List ℕ} {at p : ℕ} {out : List ℕ} → read_list l ≡ stopped_at 1 w → at + line_room ≤ length d → k ≡ list_number w →
    (p ≡ place_after line_room d at (report_line 1 no_name (refused k))) × (out ≡ wrote line_room d at (report_line 1 no_name (refused k))) →
    Ran (replayed 2 x (read_list l)) d at p x.memory x.track out
ran_stopped x l w k e h f q =
    ran_ended (replayed 2 x (read_list l)) (report_line 1 no_name (refused k)) x
    (ap (replayed 2 x) e ∙ stopped_at_lem 2 1 x w ∙ ap (λ (n : ℕ). ended (report_line 1 no_name (refused n)) x) (sym f)) refl refl h q

-- ── The start ──

-- what is carried out does not depend on the answer that went before
answer_apart : (a b : Answer) (r : Registers) (m t : List ℕ) (n : ℕ) (os : List Operation) (e : Ending) →
    replayed n (record { answer = a; registers = r; memory = m; track = t }) (record { operations = os; ending = e })
    ≡ replayed n (record { answer = b; registers = r; memory = m; track = t }) (record { operations = os; ending = e })
unfolding checker_run last
answer_apart a b r m t n [] e = refl
answer_apart a b r m t n (o ∷ os) e = refl

pub carried_from : (x : After) (r : Registers) (m t : List ℕ) (l : Reading) → r ≡ x.registers → m ≡ x.memory → t ≡ x.track →
    replayed 2 (record { answer = Done 0; registers = r; memory = m; track = t }) l ≡ replayed 2 x l
carried_from x r m t l e f g =
    ap (λ (z : Registers). replayed 2 (record { answer = Done 0; registers = z; memory = m; track = t }) l) e
    ∙ ap₂ (λ (y z : List ℕ). replayed 2 (record { answer = Done 0; registers = x.registers; memory = y; track = z }) l) f g
    ∙ answer_apart (Done 0) x.answer x.registers x.memory x.track 2 l.operations l.ending

-- what a start that is not refused returns and leaves: the track is noted
pub noted_from : (m t : List ℕ) (x : Returned) (l u : List ℕ) → Gives (started m t setting) x l u → is_refused (shown x.answer) ≡ false →
    Noted old_window (record { memory = l; registers = x.registers }) u
noted_from m t x l u g q =
    subst₂ (λ (s : State) (v : List ℕ). Noted old_window s v) (λ i. record { memory = sym g.memory i; registers = sym g.registers i }) (sym g.track)
    (noted_start m t setting (ap (λ (a : Answer). is_refused (shown a)) (sym g.answer) ∙ q))

-- an answer that is no refusal
pub kept : (a : Answer) → ((v : ℕ) × (a ≡ Done v)) ⊎ ((f : Fault) × (a ≡ Faulted f)) → is_refused (shown a) ≡ false
unfolding is_refused
kept a (inl p) = ap (λ (z : Answer). is_refused (shown z)) p.1
kept a (inr p) = ap (λ (z : Answer). is_refused (shown z)) p.1

pub start_accepted : (a : Answer) (x : After) (l : List ℕ) → is_refused (shown a) ≡ false → after_start a x l ≡ replayed 2 x (read_list l)
unfolding is_refused
start_accepted (Done v) x l h = refl
start_accepted (Faulted f) x l h = refl
start_accepted (Refused r) x l h = absurd (true≢false h)

module _ (m t l : List ℕ) where
  pub body_refused : (n : Refusal) → (started m t setting).answer ≡ Refused n → body_of m t l ≡ ended (report_line 0 start_name (refused (refusal_number n))) (started m t setting)
  unfolding body_of
  body_refused n e = ap (λ (a : Answer). after_start a (started m t setting) l) e

  pub body_carried : is_refused (shown (started m t setting).answer) ≡ false → body_of m t l ≡ replayed 2 (started m t setting) (read_list l)
  unfolding body_of
  body_carried = start_accepted (started m t setting).answer (started m t setting) l

-- ── The header ──

pub ran_headed : (r : Left) {d : List ℕ} {at p : ℕ} {m t out out' : List ℕ} → length header ≤ length d →
    (at ≡ place_after (length header) d 0 header) × (out ≡ wrote (length header) d 0 header) → Ran r out at p m t out' → Ran (headed r) d 0 p m t out'
ran_headed r {d} {at} {p} {m} {t} {out} {out'} h q w =
    let f = wrote_fits (length header) d 0 header at out (omega arith) q in
    record {
      memory = w.memory;
      track = w.track;
      place = omega (arith, w.place, f.0, length-append header r.text);
      bytes = w.bytes ∙ ap₂ (λ (o : List ℕ) (k : ℕ). over o k r.text) f.1 f.0 ∙ over_over d 0 header (omega arith) r.text;
    }

-- ── A call ──

pub memory_fits : (n k : ℕ) → n ≤ k → memory_length n ≤ k
memory_fits n k h = go (leb n image_limit)
  where
    go : (b : Bool) → cond b n 0 ≤ k
    go true = h
    go false = omega arith

-- what the check of a start says of looking at the list
pub looked : (n k : ℕ) (x : Check) → k ≡ memory_length n → x ≡ first_failing (start_checks k track_length setting) → passes x ≡ looks_at_list n
unfolding looks_at_list
looked n k x e f = ap passes f ∙ ap (λ (z : ℕ). passes (first_failing (start_checks z track_length setting))) e

-- `is_ok` of the library is `passes`
pub ok_passes : (x : Check) → is_ok x ≡ passes x
ok_passes (Ok tt) = refl
ok_passes (Err r) = refl

pub gives_report : (y : ReportCall) (r : Left) (size : ℕ) (i d : List ℕ) {p : ℕ} {m t out : List ℕ} → y ≡ reported r size i d → Ran r d 0 p m t out → GivesReport y (Ok p) (m ++ drop size i) t out
gives_report y r size i d {p} {m} {t} {out} e w =
    let f : p ≡ length r.text = omega (arith, w.place) in
    record {
      told = ap Ok f ∙ sym (ap (λ (z : ReportCall). z.told) e);
      image = ap (λ (z : List ℕ). z ++ drop size i) w.memory ∙ sym (ap (λ (z : ReportCall). z.image) e);
      track = w.track ∙ sym (ap (λ (z : ReportCall). z.track) e);
      out = w.bytes ∙ sym (ap (λ (z : ReportCall). z.out) e);
    }
