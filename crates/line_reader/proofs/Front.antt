-- The end of the input: the front of the image's buffer is the whole output. Assumes nothing.
use Prim.Native.Nat.{ℕ, ◌+◌, ◌≤◌}
use mathlib.Core.Path.{◌≡◌, refl, ap, sym, ◌∙◌}
use mathlib.Core.Bool.{Bool, true, false, cond}
use mathlib.Core.List.{List}
use native.Mathlib.Omega.{arith}
use lib.Dec.{eqb, ltb}
use lib.ListN.{length, take, drop}
use lib.Seq.{length-take-le, take_at}
use borrow.Author.Tests.{ltb-false, le-ltb}
use Rattle.text.specs.Put.{over}
use Rattle.lines.specs.Form.{pair_text}
use Rattle.lines.specs.Ways.{Converted, gives, refusal, length_fits, output}
use Rattle.lines.specs.Settings.{image_limit}
use Rattle.lines.proofs.LineLaws.{pair_most}
use Rattle.lines.proofs.Theorem.{fits_parts}
use Rattle.std.specs.declared.option.Option.{Option}
use Rattle.std.specs.declared.option.Option.TheVariants.{Some, None}
use Rattle.std.specs.declared.result.Result.TheVariants.{Ok, Err}
use Rattle.line_reader.specs.declared.Flaw.{Flaw}
use Rattle.line_reader.specs.declared.Flaw.TheVariants.{Form, Order}
use Rattle.line_reader.specs.declared.Reader.{Reader}
use Rattle.std.specs.declared.result.Result.{Result}
use Rattle.line_reader.specs.declared.NoOutput.{NoOutput}
use Rattle.line_reader.specs.declared.NoOutput.TheVariants.{ShortBuffer, WrongBuffer}
use Rattle.line_reader.specs.Reading.{complete, last_test, line_after, by_flaw, ending, EndCall, end_call, finished, finished_file}

-- the front of m is the whole output, and no longer than m, or there is room for the output
pub data Stands : Converted → List ℕ → Type 0 where
  image : {m : List ℕ} (n : ℕ) → n ≤ length m → Stands (gives (take n m)) m
  refused : {m : List ℕ} (n r : ℕ) → Stands (refusal n r) m

-- what the end of the input gives is an image that stands in the buffer, or a refusal
ending_stands : (r : Reader) (m : List ℕ) → Stands (ending r m) m
ending_stands r m = by r.flaw
  where
    last : Stands (last_test r m) m
    last = unfold last_test in go (complete r) (length_fits (length m) r.end) refl
      where
        go : (t u : Bool) → length_fits (length m) r.end ≡ u → Stands (cond t (cond u (gives (take r.end m)) (refusal 0 19)) (refusal (line_after r.lines) 18)) m
        go true true e = image r.end (fits_parts (length m) r.end e).3
        go true false e = refused 0 19
        go false u e = refused (line_after r.lines) 18

    by : (f : Option Flaw) → Stands (by_flaw f r m) m
    by None = last
    by (Some Form) = refused r.lines 18
    by (Some Order) = refused r.lines 19

-- then a call tells how long the output is, and leaves it in front
stands_front : (g : Converted) (m : List ℕ) → Stands g m → 18 ≤ length m
    → ((end_call g m).told ≡ Ok (length (output g))) × (take (length (output g)) (end_call g m).image ≡ output g) × (length (output g) ≤ length m)
unfolding over
stands_front _ m (image n h) k = (refl, ap (λ (i : ℕ). take i m) (length-take-le n m h), omega (arith, length-take-le n m h))
stands_front _ m (refused n r) k = (refl, take_at (pair_text n r) (drop (0 + length (pair_text n r)) m) (length (pair_text n r)) refl, omega (arith, pair_most n r))

pub front : (r : Reader) (m : List ℕ) → 18 ≤ length m
    → ((finished r m).told ≡ Ok (length (output (ending r m)))) × (take (length (output (ending r m))) (finished r m).image ≡ output (ending r m)) × (length (output (ending r m)) ≤ length m)
unfolding finished
front r m h = rw (le-ltb (length m) 18 h) (stands_front (ending r m) m (ending_stands r m) h)

-- what a call tells is never longer than its buffer
pub told_fits : (r : Reader) (m : List ℕ) (n : ℕ) → (finished r m).told ≡ Ok n → n ≤ length m
told_fits r m n h = go (ltb (length m) 18) refl
  where
    short : ltb (length m) 18 ≡ true → finished r m ≡ record { told = Err ShortBuffer; image = m }
    short e = unfold finished in ap (λ (t : Bool). cond t (record { told = Err ShortBuffer; image = m }) (end_call (ending r m) m)) e

    go : (t : Bool) → ltb (length m) 18 ≡ t → n ≤ length m
    go true e =
        let q : ◌≡◌ {A = Result ℕ NoOutput} (Err ShortBuffer) (Ok n) = sym (ap (λ (y : EndCall). y.told) (short e)) ∙ h in
        let z : ◌≡◌ {A = ℕ} 0 1 = cc in absurd (omega arith)
    go false e =
        let f = front r m (ltb-false (length m) 18 e) in
        let q : ◌≡◌ {A = Result ℕ NoOutput} (Ok n) (Ok (length (output (ending r m)))) = sym h ∙ f.0 in
        let z : n ≡ length (output (ending r m)) = cc in
        omega (arith, f.2)

pub file_told_fits : (r : Reader) (m : List ℕ) (n : ℕ) → (finished_file r m).told ≡ Ok n → n ≤ length m
unfolding finished_file
file_told_fits r m n h = go (eqb (length m) image_limit) h
  where
    go : (t : Bool) → (cond t (finished r m) (record { told = Err WrongBuffer; image = m })).told ≡ Ok n → n ≤ length m
    go true k = told_fits r m n k
    go false k = let z : ◌≡◌ {A = ℕ} 0 1 = cc in absurd (omega arith)
