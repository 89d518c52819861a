-- What a change of the queue leaves alone. Assumes nothing.
use Rattle.std.specs.Prelude.{ℕ, ◌≤◌, ◌<◌, ◌≡◌, List, length}
use Rattle.parts.specs.Parts.{at}

-- only the queued frames change: their count, numbers, lengths and kinds
pub record OnlyQueue (w h b w' h' b' : List ℕ) : Type 0 where
  pub words : length w' ≡ length w
  pub halves : length h' ≡ length h
  pub bytes : length b' ≡ length b
  pub below : (i : ℕ) → i < 16 → (i ≡ 4 → ⊥) → at w' i ≡ at w i
  pub above : (i : ℕ) → 272 ≤ i → at w' i ≡ at w i
  pub unacked : (i : ℕ) → i < 512 → at h' i ≡ at h i
  pub clock : (i : ℕ) → 768 ≤ i → at h' i ≡ at h i
  pub flags : (i : ℕ) → i < 512 → at b' i ≡ at b i
  pub rest : (i : ℕ) → 768 ≤ i → at b' i ≡ at b i
