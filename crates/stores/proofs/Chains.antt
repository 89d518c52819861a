-- A chain of tests, as a function makes it that returns false at the first that fails. Assumes nothing.
use mathlib.Core.Path.{◌≡◌, ap, ◌∙◌}
use mathlib.Core.Bool.{Bool, true, false, ◌&&◌}

pub is_skip : (x t r : Bool) → x ≡ true → t ≡ r → (x && t) ≡ r
is_skip x t r h e = ap (λ (x : Bool). x && t) h ∙ e

pub is_stop : (x t : Bool) → x ≡ false → (x && t) ≡ false
is_stop x t h = ap (λ (x : Bool). x && t) h
