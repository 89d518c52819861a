-- The drain's loop in Raw mode. Assumes nothing.
use mathlib.Core.Path.{◌≡◌, refl, sym, ap, ◌∙◌, subst}
use mathlib.Core.Bool.{true, false}
use mathlib.Core.List.{List}
use Prim.Native.Nat.{ℕ, ◌+◌, ◌-◌, ◌*◌, ◌≤◌, ◌<◌}
use lib.ListN.{length, take, drop, set}
use Rattle.rules.specs.declared.HostStatus.{HostStatus}
use Rattle.rules.specs.declared.ReceiveMode.TheVariants.{Raw}
use Rattle.rules.specs.Lists.{Bytes}
use Rattle.std.specs.Prelude.{None}
use Rattle.events.specs.Written.{Books, books}
use Rattle.delivery.specs.declared.Turn.{Turn}
use Rattle.delivery.specs.Turns.{step_at, Drains}
use Rattle.delivery.specs.Acts.{drained_by}
use Rattle.delivery.proofs.Drains.{next_small}
use Rattle.delivery.proofs.Queues.{part-size}
use Rattle.parts.specs.Parts.{at, queue_in, waiting_in}
use Rattle.link_queue.specs.Steps.{bodies}
use Rattle.link_delivery.specs.declared.DrainEnd.{DrainEnd}
use Rattle.link_delivery.specs.Drains.{DrainsIn, Left, reached, HandedRaw, DrainingRaw}
use Rattle.link_delivery.proofs.Turns.{TurnsIn, held, turns_in, ends_in, reaches_in, on_in, ready_in, more_in}
use Rattle.link_delivery.proofs.Raw.{raw_available, raw_deliverable}

-- What the loop keeps, at remote number r and generation g: the same for every host that is there. The middle ones are there for `omega`.
pub record RawTurns (t₀ : Turn) (w₀ h c : List ℕ) (i₀ : ℕ) (q : Bytes) (b₀ : Books) (w : List ℕ) (g r k i a : ℕ) (b : Books) : Type 0 where
  pub mode : t₀.mode ≡ Raw
  pub few : at w₀ 4 ≤ 256
  pub within : i ≤ at w₀ 4
  pub many : k + (at w₀ 4 - i) ≤ 512
  pub list : length b.list ≡ length b₀.list
  pub delivery : length b.delivery ≡ length b₀.delivery
  pub turns : (status : HostStatus) → status.available ≡ true → TurnsIn status t₀ w₀ h c i₀ q b₀ (reached t₀ r g) w k i a b

pub raw_none : {status : HostStatus} (t : Turn) (w h c : List ℕ) {i : ℕ} {q : Bytes} {b : Books} {a : ℕ} → DrainingRaw status t w h c i q b → a ≡ bodies h i
    → RawTurns t w h c i q b w t.clock.generation t.remote (at w 5) i a b
raw_none t w h c d e =
    record {
      mode = d.mode;
      few = d.draining.exact.few;
      within = d.draining.within;
      many = d.draining.many;
      list = refl;
      delivery = refl;
      turns = λ s on. turns_in w h c d.draining s e;
    }

-- a host that is there
abbrev some_host : HostStatus
some_host = record { available = true; established = false; discarding = false }

-- room for a frame of len bytes
pub record RawRoom (len : ℕ) (q : Bytes) (g a : ℕ) (b : Books) : Type 0 where
  pub slow : g + 2 ≤ 4294967295
  pub short : a + len ≤ 32768
  pub reaches : a + len ≤ length q
  pub room : 4 * b.n + 8 ≤ length b.list
  pub bytes : b.at + len ≤ length b.delivery

module _ {t₀ : Turn} {w₀ h c : List ℕ} {i₀ : ℕ} {q : Bytes} {b₀ : Books} {w : List ℕ} {g r k i a : ℕ} {b : Books}
    (v : RawTurns t₀ w₀ h c i₀ q b₀ w g r k i a b) where
  module _ (l : i < at w₀ 4) where
    pub raw_next : r + 1 ≤ 18446744073709551615
    raw_next = next_small (v.turns some_host refl).turns l

    pub raw_room : {len : ℕ} → len ≡ at h (512 + i) → RawRoom len q g a b
    raw_room {len} e =
        let y = v.turns some_host refl in
        let z = ready_in y l e in
        record { slow = z.slow; short = on_in y l e; reaches = reaches_in y l e; room = z.room; bytes = z.bytes }

    pub body_long : {len : ℕ} → len ≡ at h (512 + i) → {y : Bytes} → y ≡ take len (drop a q) → length y ≡ len
    body_long {len} e ey = ap length ey ∙ part-size q a len (raw_room e).reaches

    pub raw_more : {len : ℕ} → len ≡ at h (512 + i) → at w (16 + i) ≡ r + 1 → {p n' : ℕ} {x : Bytes} {l' : List ℕ} {d' : Bytes} → t₀.clock.persisted ≡ p
        → x ≡ take len (drop a q) → HandedRaw (at w (16 + i)) (g + 1) p x b n' l' d' → length l' ≡ length b.list → length d' ≡ length b.delivery
        → RawTurns t₀ w₀ h c i₀ q b₀ (set w (272 + k) (at w (16 + i))) (g + 1) (at w (16 + i)) (k + 1) (i + 1) (a + len) (books l' n' d' (b.at + len))
    raw_more {len} e is {p} {n'} {x} {l'} {d'} ep ex o ll ld =
        let t : Turn = reached t₀ r g in
        let y : (status : HostStatus) → status.available ≡ true
        → TurnsIn status t₀ w₀ h c i₀ q b₀ (reached t₀ (at w (16 + i)) (g + 1)) (set w (272 + k) (at w (16 + i))) (k + 1) (i + 1) (a + len) (books l' n' d' (b.at + len)) =
        λ s on.
        subst
        (λ (m : ℕ). TurnsIn s t₀ w₀ h c i₀ q b₀ (reached t₀ (at w (16 + i)) (g + 1)) (set w (272 + k) (at w (16 + i))) (k + 1) (i + 1) (a + len)
        (books l' n' d' (b.at + m)))
        (body_long e ex)
        (more_in (v.turns s on) l is e (raw_available s t on v.mode) (raw_deliverable (at w (16 + i)) (at c (512 + i)) t v.mode) ex
        (o.delivered t (at c (512 + i)) v.mode refl ep) ll ld) in
        let z = y some_host refl in
        record {
          mode = v.mode;
          few = v.few;
          within = z.within;
          many = z.many;
          list = z.turns.list;
          delivery = z.turns.delivery;
          turns = y;
        }

  -- the turn is put together
  pub raw_ends : {status : HostStatus} → status.available ≡ true → {j : ℕ} {u : Turn} {e : DrainEnd} {w' : List ℕ} → u ≡ reached t₀ r g
      → Drains status t₀ (waiting_in w₀) (queue_in w₀ h c) i₀ q b₀ (drained_by (reached t₀ r g) (held w k) j b.n b.at None) b.list b.delivery
      → Left (step_at u b.n b.at) k j None w e w' → DrainsIn status t₀ i₀ w₀ h c q b₀ e w' b.list b.delivery
  raw_ends {status} on {j} {u} {e} {w'} eu d x =
      ends_in (v.turns status on)
      (subst (λ (y : Turn). Drains status t₀ (waiting_in w₀) (queue_in w₀ h c) i₀ q b₀ (drained_by y (held w k) j b.n b.at None) b.list b.delivery) (sym eu) d) x
