-- How many words and bytes there are where the session is full. Assumes nothing.
use Prim.Native.Nat.{ℕ, ◌+◌, ◌≤◌}
use mathlib.Core.Path.{◌≡◌}
use mathlib.Core.List.{List}
use native.Mathlib.Omega.{arith}
use lib.Ieee.{Float}
use lib.ListN.{length, length-take, length-drop}
use Rattle.peer_session.specs.Sound.{Full}
use Rattle.parts.specs.Parts.{parts, section, opened_of}

section-long : (from n : ℕ) (l : List ℕ) → 1 ≤ n → length (section from n l) ≡ n → from + n ≤ length l
section-long from n l one h = omega (arith, simp (length-take, length-drop) at h)

module _ (w h b : List ℕ) (t : Float) (full : Full (opened_of (parts w h b t))) where
  pub words-long : 1296 ≤ length w
  unfolding opened_of
  words-long = omega (arith, section-long 784 512 w (omega arith) full.retry)

  pub bytes-long : 4936 ≤ length b
  unfolding opened_of
  bytes-long = omega (arith, section-long 4872 64 b (omega arith) full.reject)
