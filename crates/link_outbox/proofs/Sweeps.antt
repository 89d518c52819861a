-- A sweep over records that lie in halves and bytes: a turn, and its end. Assumes nothing.
use Rattle.std.specs.Prelude.{if◌then◌else◌}
use Rattle.std.specs.Int.{from_bool}
use mathlib.Core.Path.{◌≡◌, refl, sym, ap, ◌∙◌, subst}
use mathlib.Core.Bool.{Bool, true, false}
use mathlib.Core.List.{List}
use Prim.Native.Nat.{ℕ, ◌+◌, ◌-◌, ◌≤◌, ◌<◌}
use native.Mathlib.Omega.{arith}
use lib.ListN.{length, take, drop, get_or, set, replicate}
use lib.Seq.{get_or-set_same, get_or-set_other}
use Rattle.stores.specs.Placed.{placed}
use Rattle.rules.specs.Lists.{Bytes, kept}
use Rattle.rules.specs.Acks.{survives}
use Rattle.outbox.specs.declared.Unacked.{Unacked}
use Rattle.outbox.specs.View.{len_u, unacked_of, blank_u, ExactOutbox}
use Rattle.outbox.specs.Records.{survives_u}
use Rattle.outbox.specs.Steps.{Left}
use Rattle.outbox.specs.Sweeps.{Sweep, Lowers}
use Rattle.outbox.proofs.Sweeps.{Turns, turned, swept, reach, starts, finished}
use Rattle.outbox.proofs.View.{exact-count}
use Rattle.parts.specs.Seats.{seats}
use Rattle.parts.specs.Parts.{at, unacked_at, outbox_in}
use Rattle.parts.specs.Frames.{Past}
use Rattle.parts.proofs.Seats.{get_d_seats}
use Rattle.link_outbox.specs.Steps.{Drops}
use Rattle.link_outbox.proofs.Records.{past_same, past-set, written}

-- the sweep over the records of h and b
abbrev pub sweep_in : List ℕ → List ℕ → ℕ → ℕ → ℕ → ℕ → Sweep
sweep_in h b k i to from = record { records = seats 256 (unacked_at h b); kept = k; next = i; to = to; from = from }

pub counted : (k : ℕ) (t : Bool) → k + from_bool t ≡ (if t then k + 1 else k)
counted k true = refl
counted k false = omega arith

-- what the loop keeps
pub record Sweeps (ack n : ℕ) (h₀ b₀ : List ℕ) (s₀ : Bytes) (h b : List ℕ) (s : Bytes) (k i to from : ℕ) : Type 0 where
  pub halves : length h ≡ 772
  pub bytes : length b ≡ 4936
  pub past-halves : Past 512 h₀ h
  pub past_bytes : Past 512 b₀ b
  pub turns : Turns ack n (sweep_in h₀ b₀ 0 0 0 0) s₀ (sweep_in h b k i to from) s

module _ {ack n : ℕ} {h₀ b₀ : List ℕ} {s₀ : Bytes} {h b : List ℕ} {s : Bytes} {k i to from : ℕ} (g : Sweeps ack n h₀ b₀ s₀ h b s k i to from) (lt : i < n) where
  -- the record that is looked at
  here : get_or (seats 256 (unacked_at h b)) i blank_u ≡ unacked_at h b i
  here = get_d_seats 256 (unacked_at h b) i blank_u (omega (arith, g.turns.sweeping.few))

  pub body-within : from + at h (256 + i) ≤ length s
  body-within = omega (arith, ap len_u here, reach ack (sweep_in h b k i to from) n s g.turns.sweeping lt)

  pub seat_free : k < 256
  seat_free = omega (arith, g.turns.sweeping.order, g.turns.sweeping.few)

  pub turn : (t : Bool) → t ≡ survives_u ack (unacked_at h b i) → (z : ℕ) → z ≡ at h (256 + i) → (s' : Bytes) (to' : ℕ) → Lowers t to from z s s' to' → length s' ≡ length s
      → (k' : ℕ) → k' ≡ (if t then k + 1 else k) → (h' b' : List ℕ) → h' ≡ set (set h k (at h i)) (256 + k) (at h (256 + i)) → b' ≡ set (set b k (at b i)) (256 + k) (at b (256 + i))
      → Sweeps ack n h₀ b₀ s₀ h' b' s' k' (i + 1) to' (from + z)
  turn t et z ez s' to' lo ls k' ek h' b' eh eb =
      let f : k < 256 = seat_free in
      let zo : z ≡ (get_or (seats 256 (unacked_at h b)) i blank_u).len = ez ∙ sym (ap len_u here) in
      let ph : Past 512 h₀ h' = subst (Past 512 h₀) (sym eh) (past-set (past-set g.past-halves k (at h i) (omega arith)) (256 + k) (at h (256 + i)) (omega arith)) in
      let pb : Past 512 b₀ b' = subst (Past 512 b₀) (sym eb) (past-set (past-set g.past_bytes k (at b i) (omega arith)) (256 + k) (at b (256 + i)) (omega arith)) in
      let er : set (seats 256 (unacked_at h b)) k (get_or (seats 256 (unacked_at h b)) i blank_u) ≡ seats 256 (unacked_at h' b') =
      ap (set (seats 256 (unacked_at h b)) k) here
      ∙ sym (written h b k (at h i) (at h (256 + i)) (at b i) (at b (256 + i)) seat_free g.halves g.bytes)
      ∙ ap (λ (x : List ℕ). seats 256 (unacked_at x (set (set b k (at b i)) (256 + k) (at b (256 + i))))) (sym eh)
      ∙ ap (λ (x : List ℕ). seats 256 (unacked_at h' x)) (sym eb) in
      let step : Turns ack n (sweep_in h₀ b₀ 0 0 0 0) s₀ (record { records = set (seats 256 (unacked_at h b)) k (get_or (seats 256 (unacked_at h b)) i blank_u); kept = k'; next = i + 1; to = to'; from = from + (get_or (seats 256 (unacked_at h b)) i blank_u).len }) s' =
      turned g.turns
      (swept ack (sweep_in h b k i to from) n s g.turns.sweeping lt t (ap (survives_u ack) here ∙ sym et)
      (lo.store ∙ ap (λ (m : ℕ). if t then placed s to (take m (drop from s)) else s) zo)
      (lo.end ∙ ap (λ (m : ℕ). if t then to + m else to) zo) ek) ls in
      record {
        halves = ph.size ∙ sym g.past-halves.size ∙ g.halves;
        bytes = pb.size ∙ sym g.past_bytes.size ∙ g.bytes;
        past-halves = ph;
        past_bytes = pb;
        turns =
            subst (λ (m : ℕ). Turns ack n (sweep_in h₀ b₀ 0 0 0 0) s₀ (sweep_in h' b' k' (i + 1) to' (from + m)) s') (sym zo)
            (subst (λ (r : List Unacked). Turns ack n (sweep_in h₀ b₀ 0 0 0 0) s₀ (record { records = r; kept = k'; next = i + 1; to = to'; from = from + (get_or (seats 256 (unacked_at h b)) i blank_u).len }) s') er step);
      }

module _ (ack : ℕ) (w h b : List ℕ) (s : Bytes) (exact : ExactOutbox (outbox_in w h b) (length s)) where
  pub sweeps_none : length h ≡ 772 → length b ≡ 4936 → Sweeps ack (at w 1) h b s h b s 0 0 0 0
  sweeps_none lh lb =
      record { halves = lh; bytes = lb; past-halves = past_same 512 h; past_bytes = past_same 512 b; turns = starts ack (outbox_in w h b) s exact }

  pub dropped : length w ≡ 1296 → (h' b' : List ℕ) (s' : Bytes) (k i to from : ℕ) → Sweeps ack (at w 1) h b s h' b' s' k i to from → at w 1 ≤ i
      → (o : Bytes) → o ≡ placed s' to (replicate (from - to) 0) → Drops ack w h b s (set w 1 k) h' b' o
  dropped lw h' b' s' k i to from g stop o eo =
      let p0 : at (set w 1 k) 0 ≡ at w 0 = get_or-set_other w 1 0 k 0 (λ e. omega arith) in
      let p1 : at (set w 1 k) 1 ≡ k = get_or-set_same w 1 k 0 (omega arith) in
      let l : Left (outbox_in w h b) s (kept (survives ack) (unacked_of (outbox_in w h b) s)) (record { next = at w 0; records = seats 256 (unacked_at h' b'); count = k }) o =
      finished ack (outbox_in w h b) s exact (sweep_in h' b' k i to from) s' g.turns stop o eo in
      let n : k ≡ length (kept (survives ack) (unacked_of (outbox_in w h b) s)) =
      exact-count (record { next = at w 0; records = seats 256 (unacked_at h' b'); count = k }) o l.repacked.exact ∙ ap length l.repacked.unacked in
      record {
        left = rw (p0, p1) l;
        words = ap (set w 1) n;
        halves = g.past-halves;
        bytes = g.past_bytes;
      }
