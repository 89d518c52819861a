-- What the check of a session in place is made of. Assumes nothing.
use Rattle.std.specs.Prelude.{ℕ, ◌≡◌, Bool, List, length}
use Rattle.queue.specs.Sound.{admits_queued}

-- the arrays' lengths, which their types say
pub record Sized (w b : List ℕ) : Type 0 where
  pub words : length w ≡ 1296
  pub bytes : length b ≡ 4936

-- whether a frame may follow one numbered last, by the limits of a body and of all of them, of which sum are taken
abbrev pub admits : ℕ → ℕ → ℕ → ℕ → ℕ → ℕ → ℕ → Bool
admits body bytes last sum number len kind =
    admits_queued (record { gap = 0; messages = 0; bytes = bytes; body = body }) last sum (record { number = number; len = len; kind = kind })
