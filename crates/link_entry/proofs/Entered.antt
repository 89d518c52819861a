-- The entry of a call, by what its tests found. Assumes nothing.
use Prim.Native.Nat.{ℕ, ◌≤◌, ◌<◌}
use mathlib.Core.Path.{◌≡◌, refl, sym}
use mathlib.Core.Bool.{Bool, true, false, ◌&&◌}
use lib.Dec.{leb}
use borrow.Author.Tests.{lt-ltb, le-ltb, le-leb, lt-leb}
use Rattle.std.specs.Prelude.{Ok, Err}
use Rattle.std.proofs.Math.Bool.{or-true}
use Rattle.rules.specs.declared.Refusal.TheVariants.{ShortBuffer, UnknownCode, BadRecord, GenerationsExhausted}
use Rattle.peer_session.specs.declared.SessionState.{SessionState}
use Rattle.peer_session.specs.Sound.{Full, Checked}
use Rattle.session.specs.Entry.{Enters, Admitted}

module _ {s : SessionState} {l d o q : ℕ} {wrong raises : Bool} where
  -- 1
  module _ (full : Full s) where
    pub list_short : l < 4096 → Enters s l d o q wrong raises (Err ShortBuffer)
    list_short h = record { is = rw (lt-ltb l 4096 h); full = full }

    pub delivery_short : d < 49152 → Enters s l d o q wrong raises (Err ShortBuffer)
    delivery_short h = record { is = rw (lt-ltb d 49152 h, or-true); full = full }

    pub outbound_short : o < 65536 → Enters s l d o q wrong raises (Err ShortBuffer)
    outbound_short h = record { is = rw (lt-ltb o 65536 h, or-true); full = full }

    pub queue_short : q < 32768 → Enters s l d o q wrong raises (Err ShortBuffer)
    queue_short h = record { is = rw (lt-ltb q 32768 h, or-true); full = full }

  module _ (ll : 4096 ≤ l) (ld : 49152 ≤ d) (lo : 65536 ≤ o) (lq : 32768 ≤ q) where
    -- 2
    pub code_wrong : Full s → wrong ≡ true → Enters s l d o q wrong raises (Err UnknownCode)
    code_wrong full e = record { is = rw (le-ltb l 4096 ll, le-ltb d 49152 ld, le-ltb o 65536 lo, le-ltb q 32768 lq, e); full = full }

    module _ (known : wrong ≡ false) where
      -- 3
      pub unsound : Checked s false → Enters s l d o q wrong raises (Err BadRecord)
      unsound k = record { is = rw (le-ltb l 4096 ll, le-ltb d 49152 ld, le-ltb o 65536 lo, le-ltb q 32768 lq, known, sym k.is); full = k.full }

      module _ (k : Checked s true) where
        -- 22
        pub spent : raises ≡ true → 4294966000 ≤ s.clock.generation → Enters s l d o q wrong raises (Err GenerationsExhausted)
        spent r h = record { is = rw (le-ltb l 4096 ll, le-ltb d 49152 ld, le-ltb o 65536 lo, le-ltb q 32768 lq, known, sym k.is, r, le-leb 4294966000 s.clock.generation h); full = k.full }

        module _ (low : raises ≡ true → s.clock.generation < 4294966000) where
          unspent : (b : Bool) → (b ≡ true → s.clock.generation < 4294966000) → (b && leb 4294966000 s.clock.generation) ≡ false
          unspent true f = lt-leb 4294966000 s.clock.generation (f refl)
          unspent false f = refl

          pub passes : Enters s l d o q wrong raises (Ok tt)
          passes = record { is = rw (le-ltb l 4096 ll, le-ltb d 49152 ld, le-ltb o 65536 lo, le-ltb q 32768 lq, known, sym k.is, unspent raises low); full = k.full }

          pub admits : Admitted s l d o q wrong raises
          admits = record { list = ll; delivery = ld; outbound = lo; queue = lq; known = known; sound = sym k.is; full = k.full; low = low }

-- what a test of soundness would find past it
pub checked : {s : SessionState} {l d o q : ℕ} {wrong raises : Bool} → Admitted s l d o q wrong raises → Checked s true
checked a = record { is = sym a.sound; full = a.full }
