-- The replay clock's exact cases: a NaN on either side, and the infinities. Assumes nothing.
use mathlib.Core.Path.{◌≡◌, refl}
use mathlib.Core.Bool.{Bool, true, false, not}
use Prim.Native.Nat.{ℕ}
use lib.IntN.{ℤ}
use lib.Ieee.{Float, nan, inf, fin, add, sub, neg, lt}
use Rattle.rules.specs.Clock.{held_back}

-- "A NaN is not held back", be it the time now or the time of the last replay
pub nan_now : (last : Float) → held_back nan last ≡ false
unfolding held_back lt sub add neg
nan_now nan = refl
nan_now (inf s) = refl
nan_now (fin s m e) = refl

pub nan_last : (now : Float) → held_back now nan ≡ false
unfolding held_back lt sub add neg
nan_last nan = refl
nan_last (inf true) = refl
nan_last (inf false) = refl
nan_last (fin s m e) = refl

-- the difference of equal infinities is a NaN
pub same_infinities : (s : Bool) → held_back (inf s) (inf s) ≡ false
unfolding held_back lt sub add neg
same_infinities true = refl
same_infinities false = refl

-- an infinite time is above, or below, any other
pub above-all : (s : Bool) (m : ℕ) (e : ℤ) → held_back (inf false) (fin s m e) ≡ false
unfolding held_back lt sub add neg
above-all s m e = refl

pub below_all : (s : Bool) (m : ℕ) (e : ℤ) → held_back (inf true) (fin s m e) ≡ true
unfolding held_back lt sub add neg
below_all s m e = refl

pub after-above : (s : Bool) (m : ℕ) (e : ℤ) → held_back (fin s m e) (inf false) ≡ true
unfolding held_back lt sub add neg
after-above s m e = refl

pub after-below : (s : Bool) (m : ℕ) (e : ℤ) → held_back (fin s m e) (inf true) ≡ false
unfolding held_back lt sub add neg
after-below s m e = refl

pub opposite_infinities : (s : Bool) → held_back (inf s) (inf (not s)) ≡ s
unfolding held_back lt sub add neg
opposite_infinities true = refl
opposite_infinities false = refl
