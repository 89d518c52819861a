-- Which numbers of the parts a field of the session depends on: where these are the same, so is the field. Assumes nothing.
use Prim.Native.Nat.{ℕ, ◌+◌, ◌≤◌, ◌<◌}
use mathlib.Core.Path.{◌≡◌, sym, ◌∙◌}
use mathlib.Core.List.{List}
use native.Mathlib.Omega.{arith}
use lib.Ieee.{Float}
use lib.ListN.{length, drop, set, length-take, length-drop}
use lib.Seq.{ext_get_or, get_or-take, get_or-drop, get_or-set_other}
use Rattle.parts.specs.Seats.{seats}
use Rattle.parts.specs.Parts.{at, section, unacked_at, outbox_in, queued_at, queue_in, numbers_in, clock_in, codes_in, handoff_in, policy_in, reject_in}
use Rattle.parts.specs.Frames.{Past, Only}
use Rattle.parts.proofs.Seats.{seats-same}

-- two lists have the same numbers from an index up to another
pub record Agree (from to : ℕ) (l l' : List ℕ) : Type 0 where
  pub same : (i : ℕ) → from ≤ i → i < to → at l' i ≡ at l i

pub agree_within : {a b c d : ℕ} {l l' : List ℕ} → a ≤ c → d ≤ b → Agree a b l l' → Agree c d l l'
agree_within ha hb g = record { same = λ i hi hj. g.same i (omega arith) (omega arith) }

pub agree_past : {n : ℕ} {l l' : List ℕ} (c d : ℕ) → n ≤ c → Past n l l' → Agree c d l l'
agree_past c d h p = record { same = λ i hi hj. p.same i (omega arith) }

pub agree_set : (l : List ℕ) (k x c d : ℕ) → (c ≤ k → k < d → ⊥) → Agree c d l (set l k x)
agree_set l k x c d out = record { same = λ i hi hj. get_or-set_other l k i x 0 (λ e. out (omega (arith, e)) (omega (arith, e))) }

pub agree_then : {a b : ℕ} {l m r : List ℕ} → Agree a b l m → Agree a b m r → Agree a b l r
agree_then f g = record { same = λ i hi hj. g.same i hi hj ∙ f.same i hi hj }

pub agree_only : {from count : ℕ} {w w' : List ℕ} (c d : ℕ) → Only from count w w' → d ≤ from → (c ≤ count → count < d → ⊥) → Agree c d w w'
agree_only c d o h out = record { same = λ i hi hj. o.below i (omega arith) (λ e. out (omega (arith, e)) (omega (arith, e))) }

pub agree_above : {from count : ℕ} {w w' : List ℕ} (c d : ℕ) → Only from count w w' → from + 512 ≤ c → Agree c d w w'
agree_above c d o h = record { same = λ i hi hj. o.above i (omega arith) }

pub at-section : (from n : ℕ) (l : List ℕ) (i : ℕ) → i < n → at (section from n l) i ≡ at l (from + i)
at-section from n l i h = get_or-take n (drop from l) i 0 h ∙ get_or-drop from l i 0

pub length-section : (from n : ℕ) (l : List ℕ) → from + n ≤ length l → length (section from n l) ≡ n
length-section from n l h = simp (length-take, length-drop) (omega arith)

pub section-same : (from n : ℕ) (l l' : List ℕ) → from + n ≤ length l → length l' ≡ length l → Agree from (from + n) l l' → section from n l' ≡ section from n l
section-same from n l l' h e g =
    let e' : length (section from n l') ≡ n = length-section from n l' (omega (arith, e)) in
    let e₀ : length (section from n l) ≡ n = length-section from n l h in
    ext_get_or 0 (section from n l') (section from n l) (e' ∙ sym e₀)
    (λ i k. let k' : i < n = omega (arith, e') in at-section from n l' i k' ∙ g.same (from + i) (omega arith) (omega arith) ∙ sym (at-section from n l i k'))

-- ---- field by field

unackeds-same : {h h' b b' : List ℕ} → Agree 0 512 h h' → Agree 0 512 b b' → (i : ℕ) → i < 256 → unacked_at h' b' i ≡ unacked_at h b i
unackeds-same {h} {h'} {b} {b'} g k i l =
    let a : at h' i ≡ at h i = g.same i (omega arith) (omega arith) in
    let n : at h' (256 + i) ≡ at h (256 + i) = g.same (256 + i) (omega arith) (omega arith) in
    let p : at b' i ≡ at b i = k.same i (omega arith) (omega arith) in
    let u : at b' (256 + i) ≡ at b (256 + i) = k.same (256 + i) (omega arith) (omega arith) in
    rw (a, n, p, u)

pub outbox-same : {w w' h h' b b' : List ℕ} → Agree 0 2 w w' → Agree 0 512 h h' → Agree 0 512 b b' → outbox_in w' h' b' ≡ outbox_in w h b
outbox-same {w} {w'} {h} {h'} {b} {b'} f g k =
    let n : at w' 0 ≡ at w 0 = f.same 0 (omega arith) (omega arith) in
    let c : at w' 1 ≡ at w 1 = f.same 1 (omega arith) (omega arith) in
    let r : seats 256 (unacked_at h' b') ≡ seats 256 (unacked_at h b) = seats-same 256 (unacked_at h' b') (unacked_at h b) (unackeds-same g k) in
    rw (n, c, r)

queueds_same : {w w' h h' b b' : List ℕ} → Agree 16 272 w w' → Agree 512 768 h h' → Agree 512 768 b b' → (i : ℕ) → i < 256
    → queued_at w' h' b' i ≡ queued_at w h b i
queueds_same {w} {w'} {h} {h'} {b} {b'} f g k i l =
    let a : at w' (16 + i) ≡ at w (16 + i) = f.same (16 + i) (omega arith) (omega arith) in
    let n : at h' (512 + i) ≡ at h (512 + i) = g.same (512 + i) (omega arith) (omega arith) in
    let p : at b' (512 + i) ≡ at b (512 + i) = k.same (512 + i) (omega arith) (omega arith) in
    rw (a, n, p)

pub queue-same : {w w' h h' b b' : List ℕ} → Agree 4 5 w w' → Agree 16 272 w w' → Agree 512 768 h h' → Agree 512 768 b b' → queue_in w' h' b' ≡ queue_in w h b
queue-same {w} {w'} {h} {h'} {b} {b'} c f g k =
    let n : at w' 4 ≡ at w 4 = c.same 4 (omega arith) (omega arith) in
    let r : seats 256 (queued_at w' h' b') ≡ seats 256 (queued_at w h b) = seats-same 256 (queued_at w' h' b') (queued_at w h b) (queueds_same f g k) in
    rw (n, r)

pub numbers-same : {from count : ℕ} {w w' : List ℕ} → from + 512 ≤ length w → length w' ≡ length w → Agree count (count + 1) w w' → Agree from (from + 512) w w'
    → numbers_in from count w' ≡ numbers_in from count w
numbers-same {from} {count} {w} {w'} l e c g =
    let n : at w' count ≡ at w count = c.same count (omega arith) (omega arith) in
    let r : section from 512 w' ≡ section from 512 w = section-same from 512 w w' l e g in
    rw (n, r)

pub clock-same : {h h' : List ℕ} (t : Float) → Agree 768 771 h h' → clock_in h' t ≡ clock_in h t
clock-same {h} {h'} t g =
    let a : at h' 768 ≡ at h 768 = g.same 768 (omega arith) (omega arith) in
    let b : at h' 769 ≡ at h 769 = g.same 769 (omega arith) (omega arith) in
    let c : at h' 770 ≡ at h 770 = g.same 770 (omega arith) (omega arith) in
    rw (a, b, c)

pub codes_same : {h h' b b' : List ℕ} → Agree 771 772 h h' → Agree 768 773 b b' → codes_in h' b' ≡ codes_in h b
codes_same {h} {h'} {b} {b'} g k =
    let t : at h' 771 ≡ at h 771 = g.same 771 (omega arith) (omega arith) in
    let d : at b' 768 ≡ at b 768 = k.same 768 (omega arith) (omega arith) in
    let s : at b' 769 ≡ at b 769 = k.same 769 (omega arith) (omega arith) in
    let i : at b' 770 ≡ at b 770 = k.same 770 (omega arith) (omega arith) in
    let m : at b' 771 ≡ at b 771 = k.same 771 (omega arith) (omega arith) in
    let f : at b' 772 ≡ at b 772 = k.same 772 (omega arith) (omega arith) in
    rw (t, d, s, i, m, f)

pub handoff-same : {w w' b b' : List ℕ} → 4872 ≤ length b → length b' ≡ length b → Agree 7 10 w w' → Agree 773 4872 b b' → handoff_in w' b' ≡ handoff_in w b
handoff-same {w} {w'} {b} {b'} l e g k =
    let n : at w' 7 ≡ at w 7 = g.same 7 (omega arith) (omega arith) in
    let i : at w' 8 ≡ at w 8 = g.same 8 (omega arith) (omega arith) in
    let m : at w' 9 ≡ at w 9 = g.same 9 (omega arith) (omega arith) in
    let s : at b' 773 ≡ at b 773 = k.same 773 (omega arith) (omega arith) in
    let a : at b' 774 ≡ at b 774 = k.same 774 (omega arith) (omega arith) in
    let p : at b' 775 ≡ at b 775 = k.same 775 (omega arith) (omega arith) in
    let r : section 776 4096 b' ≡ section 776 4096 b = section-same 776 4096 b b' (omega arith) e (agree_within (omega arith) (omega arith) k) in
    rw (n, i, m, s, a, p, r)

pub policy-same : {w w' : List ℕ} → Agree 10 14 w w' → policy_in w' ≡ policy_in w
policy-same {w} {w'} g =
    let a : at w' 10 ≡ at w 10 = g.same 10 (omega arith) (omega arith) in
    let b : at w' 11 ≡ at w 11 = g.same 11 (omega arith) (omega arith) in
    let c : at w' 12 ≡ at w 12 = g.same 12 (omega arith) (omega arith) in
    let d : at w' 13 ≡ at w 13 = g.same 13 (omega arith) (omega arith) in
    rw (a, b, c, d)

pub reject-same : {w w' b b' : List ℕ} → 4936 ≤ length b → length b' ≡ length b → Agree 14 15 w w' → Agree 4872 4936 b b' → reject_in w' b' ≡ reject_in w b
reject-same {w} {w'} {b} {b'} l e g k =
    let n : at w' 14 ≡ at w 14 = g.same 14 (omega arith) (omega arith) in
    let r : section 4872 64 b' ≡ section 4872 64 b = section-same 4872 64 b b' l e (agree_within (omega arith) (omega arith) k) in
    rw (n, r)
