-- What holds at each turn of the loop over the lines of a list: its start, a turn, and its ends. Assumes nothing.
use Prim.Native.Nat.{ℕ, zero, suc, ◌+◌, ◌*◌, ◌≤◌, ◌<◌}
use mathlib.Core.Path.{◌≡◌, refl, ap, ap₂, sym, ◌∙◌, subst}
use mathlib.Core.List.{List, [], ◌++◌, append_assoc, append-nil}
use native.Mathlib.Omega.{arith}
use native.Mathlib.Numerals.{add-one}
use lib.ListN.{length, length-append}
use Rattle.std.specs.Prelude.{Ok, Err}
use Rattle.text.specs.Split.{past}
use Rattle.text.specs.Put.{over, wrote, place_after}
use Rattle.text.proofs.PutLaws.{over_over, over_none, length_over, wrote_fits}
use Rattle.model.specs.Limits.{old_window}
use Rattle.model.specs.Numbers.{refused, shown}
use Rattle.model.specs.declared.Answer.{Answer}
use Rattle.model.specs.declared.Operation.{Operation}
use Rattle.model.specs.declared.Registers.{Registers}
use Rattle.model.specs.declared.Returned.{Returned}
use Rattle.model.specs.step.Machine.{After, Gives}
use Rattle.model.specs.reference.Runs.{next}
use Rattle.model.specs.Invisible.{checker}
use Rattle.model.proofs.Instance.{state_of}
use Rattle.runs.specs.Noted.{Noted}
use Rattle.runs.specs.Step.{run_stepped}
use Rattle.runs.proofs.Noted.{noted_next}
use Rattle.runs.proofs.SameLaws.{step_same}
use Rattle.names.specs.Names.{newline, name}
use Rattle.listing.specs.declared.Reason.{Reason}
use Rattle.listing.specs.Line.{line_of}
use Rattle.listing.specs.Whole.{list_number, read_lines}
use Rattle.listing.proofs.CanonicalLaws.{line_rest}
use Rattle.report_line.specs.Text.{no_name, report_line, line_room}
use Rattle.report_line.proofs.ReportLineLaws.{line_most, refusal_most}
use Rattle.report.specs.Report.{Left, replayed, Ran}
use Rattle.report.proofs.LinesLaws.{behind, line_for, ended, lines_op, lines_refused, lines_end}

-- Of the whole, `text` is written into d from place `at` on, and what is left of the list is carried out from x on, which has the
-- registers r, the memory m and the track t.
pub record Running (whole : Left) (d : List ℕ) (at : ℕ) (r : Registers) (m t out left : List ℕ) (place line : ℕ) : Type 0 where
  pub turns : ℕ
  pub x : After
  pub text : List ℕ
  pub is_registers : x.registers ≡ r
  pub is_memory : x.memory ≡ m
  pub is_track : x.track ≡ t
  pub is_noted : Noted old_window (state_of x) x.track
  pub enough : length left ≤ turns
  pub lines : line + length left ≤ 65538
  pub room : at + length text + (4 * length left + 64) ≤ length d
  pub long : length out ≡ length d
  pub is_place : place ≡ at + length text
  pub bytes : out ≡ over d at text
  pub rest : whole ≡ behind text (replayed line x (read_lines turns line left))

-- two texts in front are one
together : (s t : List ℕ) (r : Left) → behind s (behind t r) ≡ behind (s ++ t) r
together s t r = ap (λ (u : List ℕ). record { text = u; memory = r.memory; track = r.track }) (sym (append_assoc s t r.text))

pub running_start : (x : After) (l d : List ℕ) (at : ℕ) → length l ≤ 65536 → at + (4 * length l + 64) ≤ length d → Noted old_window (state_of x) x.track →
    Running (replayed 2 x (read_lines (length l) 2 l)) d at x.registers x.memory x.track d l at 2
running_start x l d at h room n =
    record {
      turns = length l;
      x = x;
      text = [];
      is_registers = refl;
      is_memory = refl;
      is_track = refl;
      is_noted = n;
      enough = omega arith;
      lines = omega arith;
      room = omega arith;
      long = refl;
      is_place = omega arith;
      bytes = sym (over_none d at (omega arith));
      rest = refl;
    }

module _ {whole : Left} {d : List ℕ} {at : ℕ} {r : Registers} {m t out left : List ℕ} {place line : ℕ} (w : Running whole d at r m t out left place line) where
  -- more text behind what is written
  put_more : (s out' : List ℕ) (p : ℕ) → length s ≤ 64 → (p ≡ place_after line_room out place s) × (out' ≡ wrote line_room out place s) →
      (p ≡ at + length (w.text ++ s)) × (out' ≡ over d at (w.text ++ s))
  put_more s out' p h e =
      let f = wrote_fits line_room out place s p out' (omega (arith, w.is_place, w.long, w.room)) e in (
        omega (arith, f.0, w.is_place, length-append w.text s),
        f.1 ∙ ap₂ (λ (o : List ℕ) (q : ℕ). over o q s) w.bytes w.is_place ∙ over_over d at w.text (omega (arith, w.room)) s,
      )

  -- the step for runs from what is held is the step of the definition
  same_step : (o : Operation) → next checker o w.x ≡ run_stepped o r m t
  same_step o =
      sym (step_same o w.x.registers w.x.memory w.x.track w.is_noted)
      ∙ ap (λ (q : Registers). run_stepped o q w.x.memory w.x.track) w.is_registers
      ∙ ap (λ (q : List ℕ). run_stepped o r q w.x.track) w.is_memory
      ∙ ap (λ (q : List ℕ). run_stepped o r m q) w.is_track

  pub running_more : (o : Operation) (y : Returned) (m' t' out' : List ℕ) (p : ℕ) → 0 < length left → line_of left ≡ Ok o → Gives (run_stepped o r m t) y m' t' →
      (p ≡ place_after line_room out place (report_line line (name o.kind) (shown y.answer))) × (out' ≡ wrote line_room out place (report_line line (name o.kind) (shown y.answer))) →
      Running whole d at y.registers m' t' out' (past newline left) p (line + 1)
  running_more o y m' t' out' p h e g q = go w.turns refl
    where
      z : After
      z = next checker o w.x

      added : List ℕ
      added = line_for line o w.x

      added_is : report_line line (name o.kind) (shown y.answer) ≡ added
      added_is = ap (λ (a : Answer). report_line line (name o.kind) (shown a)) (g.answer ∙ sym (ap (λ (k : After). k.answer) (same_step o)))

      most : length added ≤ 34
      most = line_most line o.kind (shown z.answer)

      put : (p ≡ at + length (w.text ++ added)) × (out' ≡ over d at (w.text ++ added))
      put = put_more added out' p (omega (arith, most)) (subst (λ (s : List ℕ). (p ≡ place_after line_room out place s) × (out' ≡ wrote line_room out place s)) added_is q)

      less : length (past newline left) + 10 ≤ length left
      less = line_rest o left e

      more : length (w.text ++ added) ≡ length w.text + length added
      more = length-append w.text added

      go : (n : ℕ) → w.turns ≡ n → Running whole d at y.registers m' t' out' (past newline left) p (line + 1)
      go zero f = absurd (omega (arith, w.enough))
      go (suc n) f =
          record {
            turns = n;
            x = z;
            text = w.text ++ added;
            is_registers = ap (λ (k : After). k.registers) (same_step o) ∙ sym g.registers;
            is_memory = ap (λ (k : After). k.memory) (same_step o) ∙ sym g.memory;
            is_track = ap (λ (k : After). k.track) (same_step o) ∙ sym g.track;
            is_noted = noted_next (state_of w.x) w.x.track o w.is_noted;
            enough = omega (arith, w.enough, less);
            lines = omega (arith, w.lines, less);
            room = omega (arith, w.room, more, most, less);
            long = ap length put.1 ∙ length_over d at (w.text ++ added) (omega (arith, w.room, more, most));
            is_place = put.0;
            bytes = put.1;
            rest =
                w.rest
                ∙ ap (λ (j : ℕ). behind w.text (replayed line w.x (read_lines j line left))) f
                ∙ ap (behind w.text) (lines_op n line w.x left o h e)
                ∙ ap (λ (j : ℕ). behind w.text (behind added (replayed j z (read_lines n j (past newline left))))) (sym (add-one line))
                ∙ together w.text added (replayed (line + 1) z (read_lines n (line + 1) (past newline left)));
          }

  -- the report ends here, with s behind what is written
  pub running_stop : (s out' : List ℕ) (p : ℕ) → length s ≤ 64 → (p ≡ place_after line_room out place s) × (out' ≡ wrote line_room out place s) →
      replayed line w.x (read_lines w.turns line left) ≡ ended s w.x → Ran whole d at p m t out'
  running_stop s out' p h q e =
      let a : whole ≡ behind w.text (ended s w.x) = w.rest ∙ ap (behind w.text) e in
      let f = put_more s out' p h q in
      record {
        memory = sym w.is_memory ∙ sym (ap (λ (k : Left). k.memory) a);
        track = sym w.is_track ∙ sym (ap (λ (k : Left). k.track) a);
        place = f.0 ∙ sym (ap (λ (k : Left). at + length k.text) a);
        bytes = f.1 ∙ sym (ap (λ (k : Left). over d at k.text) a);
      }

  pub running_refused : (x : Reason) (out' : List ℕ) (p : ℕ) → 0 < length left → line_of left ≡ Err x →
      (p ≡ place_after line_room out place (report_line line no_name (refused (list_number x)))) × (out' ≡ wrote line_room out place (report_line line no_name (refused (list_number x)))) →
      Ran whole d at p m t out'
  running_refused x out' p h e q = running_stop (report_line line no_name (refused (list_number x))) out' p (omega (arith, refusal_most line (list_number x))) q (go w.turns refl)
    where
      go : (n : ℕ) → w.turns ≡ n → replayed line w.x (read_lines w.turns line left) ≡ ended (report_line line no_name (refused (list_number x))) w.x
      go zero f = absurd (omega (arith, w.enough))
      go (suc n) f = ap (λ (j : ℕ). replayed line w.x (read_lines j line left)) f ∙ lines_refused n line w.x left x h e

  pub running_end : length left ≤ 0 → Ran whole d at place m t out
  running_end h =
      let a : whole ≡ ended w.text w.x =
      w.rest ∙ ap (behind w.text) (lines_end w.turns line w.x left h) ∙ ap (λ (s : List ℕ). ended s w.x) (append-nil w.text) in
      record {
        memory = sym w.is_memory ∙ sym (ap (λ (k : Left). k.memory) a);
        track = sym w.is_track ∙ sym (ap (λ (k : Left). k.track) a);
        place = w.is_place ∙ sym (ap (λ (k : Left). at + length k.text) a);
        bytes = w.bytes ∙ sym (ap (λ (k : Left). over d at k.text) a);
      }
