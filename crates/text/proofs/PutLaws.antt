-- Laws of putting text into a buffer. Assumes nothing.
use Prim.Native.Nat.{ℕ, ◌+◌, ◌≤◌}
use mathlib.Core.Path.{◌≡◌, refl, ap, ap₂, sym, ◌∙◌}
use mathlib.Core.List.{List, [], ◌++◌, append_assoc}
use mathlib.Core.Bool.{true, false}
use native.Mathlib.Omega.{arith}
use lib.ListN.{length, take, drop, length-append, length-drop}
use lib.Seq.{paste, paste-zero, take-length, take_at, drop-append-add, drop-drop, length-take-le}
use borrow.Author.Tests.{le-leb, leb-true}
use borrow.Rule.Slice.PartMut.{put_mid}
use Rattle.std.proofs.lemmas.Slice.{put_mid-paste}
use Rattle.text.specs.Put.{over, has_room, wrote, place_after}

-- a whole copy is what `over` says
pub over_paste : (d : List ℕ) (at : ℕ) (s : List ℕ) → paste d at s (length s) ≡ over d at s
unfolding over
over_paste d at s = rw take-length

-- a part of the buffer that was written is what `over` says
pub put_over : (at k : ℕ) (d new s : List ℕ) → new ≡ s → k ≡ length s → put_mid at k d new ≡ over d at s
put_over at k d new s e h = put_mid-paste at k d new s (length s) e (sym h) refl ∙ over_paste d at s

module _ (d : List ℕ) (at : ℕ) (s : List ℕ) (room : at + length s ≤ length d) where
  front : length (take at d ++ s) ≡ at + length s
  front = length-append (take at d) s ∙ ap (λ (k : ℕ). k + length s) (length-take-le at d (omega arith))

  pub length_over : length (over d at s) ≡ length d
  unfolding over
  length_over = omega (arith, front, length-append (take at d ++ s) (drop (at + length s) d), length-drop (at + length s) d)

  -- two texts, one behind the other, are one
  pub over_over : (t : List ℕ) → over (over d at s) (at + length s) t ≡ over d at (s ++ t)
  unfolding over
  over_over t =
      let p = take at d ++ s in
      let x = drop (at + length s) d in
      let e : take (at + length s) (p ++ x) ≡ p = take_at p x (at + length s) front in
      let f : drop (at + length s + length t) (p ++ x) ≡ drop (at + length s + length t) d =
      ap (λ (k : ℕ). drop (k + length t) (p ++ x)) (sym front) ∙ drop-append-add p x (length t) ∙ drop-drop (length t) (at + length s) d in
      let g : at + length s + length t ≡ at + length (s ++ t) = omega (arith, length-append s t) in
      ap₂ (λ (u w : List ℕ). (u ++ t) ++ w) e f ∙ ap₂ (λ (u : List ℕ) (k : ℕ). u ++ drop k d) (append_assoc (take at d) s t) g

-- what was written stands there
pub take_over : (d : List ℕ) (s : List ℕ) → length s ≤ length d → take (length s) (over d 0 s) ≡ s
unfolding over
take_over d s room = take_at s (drop (0 + length s) d) (length s) refl

-- out is d with s written at a place, p is the place after it, and s has at most m bytes, for which there is room
pub record Written (d : List ℕ) (at : ℕ) (s out : List ℕ) (p m : ℕ) : Type 0 where
  pub bytes : out ≡ over d at s
  pub place : p ≡ at + length s
  pub most : length s ≤ m
  pub room : at + m ≤ length d
  pub long : length out ≡ length d

pub written_first : {d out : List ℕ} {at p : ℕ} (t : List ℕ) (m : ℕ) → length t ≤ m → at + m ≤ length d → (p ≡ at + length t) × (out ≡ over d at t) → Written d at t out p m
written_first {d = d} {at = at} t m h r e = record { bytes = e.1; place = e.0; most = h; room = r; long = ap length e.1 ∙ length_over d at t (omega arith) }

pub written_more : {d s out out' : List ℕ} {at p p' m : ℕ} (t : List ℕ) (k : ℕ) → Written d at s out p m → length t ≤ k → at + (m + k) ≤ length d → (p' ≡ p + length t) × (out' ≡ over out p t) → Written d at (s ++ t) out' p' (m + k)
written_more {d = d} {s = s} {out = out} {out' = out'} {at = at} {p = p} {p' = p'} {m = m} t k w h r e =
    let b : out' ≡ over d at (s ++ t) =
    e.1 ∙ ap₂ (λ (x : List ℕ) (y : ℕ). over x y t) w.bytes w.place ∙ over_over d at s (omega arith) t in
    let l : length (s ++ t) ≡ length s + length t = length-append s t in
    record {
      bytes = b;
      place = omega arith;
      most = omega arith;
      room = r;
      long = ap length b ∙ length_over d at (s ++ t) (omega arith);
    }

-- where there is room, and where there is none
module _ (room : ℕ) (d : List ℕ) (at : ℕ) (s : List ℕ) where
  pub wrote_fits : (p : ℕ) (out : List ℕ) → at + room ≤ length d → (p ≡ place_after room d at s) × (out ≡ wrote room d at s) → (p ≡ at + length s) × (out ≡ over d at s)
  unfolding place_after wrote has_room
  wrote_fits p out h e = rw (le-leb (at + room) (length d) h) at e

  pub room_left : has_room room d at ≡ true → at + room ≤ length d
  unfolding has_room
  room_left h = leb-true (at + room) (length d) h

  pub wrote_yes : (p : ℕ) (out : List ℕ) → has_room room d at ≡ true → (p ≡ at + length s) × (out ≡ over d at s) → (p ≡ place_after room d at s) × (out ≡ wrote room d at s)
  unfolding place_after wrote
  wrote_yes p out h e = rw h e

  pub wrote_no : has_room room d at ≡ false → (at ≡ place_after room d at s) × (d ≡ wrote room d at s)
  unfolding place_after wrote
  wrote_no h = rw h (refl, refl)

-- a text that was put where there was room for more
pub put_fits : (room : ℕ) (d : List ℕ) (at : ℕ) (s : List ℕ) → has_room room d at ≡ true → length s ≤ room →
    (place_after (length s) d at s ≡ place_after room d at s) × (wrote (length s) d at s ≡ wrote room d at s)
unfolding place_after wrote has_room
put_fits room d at s h k = rw (h, le-leb (at + length s) (length d) (omega (arith, leb-true (at + room) (length d) h))) (refl, refl)

-- nothing put changes nothing
pub over_none : (d : List ℕ) (at : ℕ) → at ≤ length d → over d at [] ≡ d
unfolding over
over_none d at h = sym (paste-zero d at [])

-- the same of a text that was put where there was room for k bytes
pub put_first : {d out : List ℕ} {at p : ℕ} (k : ℕ) (t : List ℕ) (m : ℕ) → k ≤ m → length t ≤ m → at + m ≤ length d →
    (p ≡ place_after k d at t) × (out ≡ wrote k d at t) → Written d at t out p m
put_first {d = d} {out = out} {at = at} {p = p} k t m a h r e = written_first t m h r (wrote_fits k d at t p out (omega arith) e)

pub put_more : {d s out out' : List ℕ} {at p p' m : ℕ} (k : ℕ) (t : List ℕ) (n : ℕ) → Written d at s out p m → k ≤ n → length t ≤ n → at + (m + n) ≤ length d →
    (p' ≡ place_after k out p t) × (out' ≡ wrote k out p t) → Written d at (s ++ t) out' p' (m + n)
put_more {out = out} {out' = out'} {p = p} {p' = p'} k t n w a h r e =
    written_more t n w h r (wrote_fits k out p t p' out' (omega (arith, w.place, w.most, w.long)) e)
