-- What a byte does, case by case. Assumes nothing.
use Prim.Native.Nat.{ℕ, suc, ◌+◌, ◌%◌, ◌≤◌, ◌<◌}
use mathlib.Core.Path.{◌≡◌, ap, ◌∙◌}
use mathlib.Core.Bool.{true, false}
use mathlib.Core.List.{List}
use native.Mathlib.Omega.{arith}
use native.Mathlib.Nat.{zero-add}
use lib.Dec.{eqb}
use lib.ListN.{length, get_or, set, drop, drop_of_length-le}
use lib.Seq.{drop-cons}
use borrow.Author.Tests.{lt-ltb, le-ltb, eq-eqb, ne_eqb}
use Rattle.text.specs.Split.{same}
use Rattle.names.specs.Names.{newline}
use Rattle.model.specs.declared.Size.TheVariants.{Four}
use Rattle.model.specs.step.Memory.{written_at}
use Rattle.std.specs.declared.option.Option.{Option}
use Rattle.std.specs.declared.result.Result.TheVariants.{Ok}
use Rattle.text.specs.Put.{wrote, place_after}
use Rattle.text.proofs.PutLaws.{wrote_fits}
use Rattle.lines.specs.Form.{line_names, line_of, pair_text}
use Rattle.lines.specs.Ways.{refusal}
use Rattle.lines.specs.Settings.{image_limit}
use Rattle.line_reader.specs.declared.Flaw.TheVariants.{Form, Order}
use Rattle.line_reader.specs.declared.Reader.{Reader}
use Rattle.line_reader.specs.Reading.{State, turn, late_turn, accept, changed, so_far, one_more, with_byte, names_ended, word_ended, said, line_ended, byte_taken, is_decided, step, feed, line_after, complete, last_test, ending, finished, finished_file}

module _ (b : ℕ) (s : State) where
  -- a byte more of a line
  pub byte_added : s.reader.count < length s.line → with_byte b s ≡ record { reader = one_more s.reader; line = set s.line s.reader.count b; image = s.image }
  unfolding with_byte
  byte_added h = rw (lt-ltb s.reader.count (length s.line) h)

  pub byte_refused : length s.line ≤ s.reader.count → with_byte b s ≡ changed (turn Form s.reader) s
  unfolding with_byte
  byte_refused h = rw (le-ltb s.reader.count (length s.line) h)

  -- a byte
  pub taken_late : s.reader.zero ≡ true → byte_taken b s ≡ changed (late_turn s.reader) s
  unfolding byte_taken
  taken_late h = rw h

  pub taken_newline : s.reader.zero ≡ false → b ≡ newline → byte_taken b s ≡ line_ended s
  unfolding byte_taken
  taken_newline h e = rw (h, eq-eqb b newline e)

  pub taken_other : s.reader.zero ≡ false → (b ≡ newline → ⊥) → byte_taken b s ≡ with_byte b s
  unfolding byte_taken
  taken_other h e = rw (h, ne_eqb b newline e)

  pub step_decided : is_decided s.reader ≡ true → step b s ≡ s
  unfolding step
  step_decided h = rw h

  pub step_taken : is_decided s.reader ≡ false → step b s ≡ byte_taken b s
  unfolding step
  step_taken h = rw h

-- the end of a line
module _ (s : State) where
  pub names_good : same (so_far s) line_names ≡ true → names_ended s ≡ changed (accept s.reader 0 false) s
  unfolding names_ended
  names_good h = rw h

  pub names_wrong : same (so_far s) line_names ≡ false → names_ended s ≡ changed (turn Form s.reader) s
  unfolding names_ended
  names_wrong h = rw h

  pub line_names_lem : s.reader.lines ≡ 0 → line_ended s ≡ names_ended s
  unfolding line_ended
  line_names_lem h = rw (eq-eqb s.reader.lines 0 h)

  pub line_said : (s.reader.lines ≡ 0 → ⊥) → (x : Option (ℕ × ℕ)) → line_of (so_far s) ≡ x → line_ended s ≡ said x s
  unfolding line_ended
  line_said h x e = rw (ne_eqb s.reader.lines 0 h, e)

module _ (a w : ℕ) (s : State) where
  pub word_falls : a < s.reader.end → word_ended a w s ≡ changed (turn Order s.reader) s
  unfolding word_ended
  word_falls h = rw (lt-ltb a s.reader.end h)

  pub word_unaligned : s.reader.end ≤ a → (a % 4 ≡ 0 → ⊥) → word_ended a w s ≡ changed (turn Order s.reader) s
  unfolding word_ended
  word_unaligned h k = rw (le-ltb a s.reader.end h, ne_eqb (a % 4) 0 k)

  pub word_good : s.reader.end ≤ a → a % 4 ≡ 0 → word_ended a w s ≡ record { reader = accept s.reader (a + 4) (eqb w 0); line = s.line; image = written_at Four s.image a w }
  unfolding word_ended
  word_good h k = rw (le-ltb a s.reader.end h, eq-eqb (a % 4) 0 k)

-- ── A part of the input ──
pub feed_turn : (l : List ℕ) (i : ℕ) (s : State) → i < length l → feed (drop i l) s ≡ feed (drop (i + 1) l) (step (get_or l i 0) s)
unfolding feed
feed_turn l i s h = ap (λ (k : List ℕ). feed k s) (drop-cons l i 0 h) ∙ ap (λ (n : ℕ). feed (drop n l) (step (get_or l i 0) s)) (let e : suc i ≡ i + 1 = omega arith in e)

pub feed_end : (l : List ℕ) (i : ℕ) (s : State) → length l ≤ i → feed (drop i l) s ≡ s
unfolding feed
feed_end l i s h = ap (λ (k : List ℕ). feed k s) (drop_of_length-le l h)

-- ── The end of the input ──
module _ (r : Reader) (m : List ℕ) where
  pub last_open : complete r ≡ false → last_test r m ≡ refusal (line_after r.lines) 18
  unfolding last_test
  last_open h = rw h

  -- a refusal that was put in front of what the buffer held
  pub finished_refusal : (n k p : ℕ) (o : List ℕ) → 18 ≤ length m → ending r m ≡ refusal n k
      → (p ≡ place_after 18 m 0 (pair_text n k)) × (o ≡ wrote 18 m 0 (pair_text n k)) → (Ok p ≡ (finished r m).told) × (o ≡ (finished r m).image)
  unfolding finished
  finished_refusal n k p o h e w =
      let q = wrote_fits 18 m 0 (pair_text n k) p o h w in
      rw (le-ltb (length m) 18 h, e) (ap Ok (q.0 ∙ zero-add _), q.1)

  pub file_good : length m ≡ image_limit → finished_file r m ≡ finished r m
  unfolding finished_file
  file_good h = rw (eq-eqb (length m) image_limit h)
