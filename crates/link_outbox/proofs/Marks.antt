-- A send that is reported. Assumes nothing.
use Rattle.std.specs.Prelude.{if◌then◌else◌, Some, None}
use mathlib.Core.Path.{◌≡◌, refl, sym, ap, ◌∙◌}
use mathlib.Core.Bool.{Bool, true, false}
use mathlib.Core.List.{List}
use Prim.Native.Nat.{ℕ, ◌+◌, ◌≤◌, ◌<◌}
use native.Mathlib.Omega.{arith}
use lib.ListN.{length, set}
use lib.Seq.{get_or-set_same, get_or-set_other}
use borrow.Author.Tests.{eq-eqb, ne_eqb}
use Rattle.outbox.specs.declared.Unacked.{Unacked}
use Rattle.outbox.specs.Records.{sent_u}
use Rattle.outbox.specs.Sound.{sound_outbox_of}
use Rattle.outbox.proofs.Flags.{sent-flags}
use Rattle.outbox.proofs.View.{SoundU, sound_facts}
use Rattle.parts.specs.Parts.{at, unacked_at, outbox_in}
use Rattle.link_outbox.specs.Tests.{Sought}
use Rattle.link_outbox.specs.Steps.{Marks}
use Rattle.link_outbox.proofs.Records.{by_eq, past_same, past-set, unacked-same, flagged-seats}
use Rattle.link_outbox.proofs.Sounds.{number-rises}

module _ (number : ℕ) (u : Unacked) where
  sent_it : u.number ≡ number → sent_u number u ≡ record { number = u.number; len = u.len; pending = u.pending; unsent = false }
  sent_it e = ap (λ (t : Bool). if t then record { number = u.number; len = u.len; pending = u.pending; unsent = false } else u) (eq-eqb _ _ e)

  sent-other : (u.number ≡ number → ⊥) → sent_u number u ≡ u
  sent-other e = ap (λ (t : Bool). if t then record { number = u.number; len = u.len; pending = u.pending; unsent = false } else u) (ne_eqb _ _ e)

module _ (w h b : List ℕ) (number i : ℕ) (sound : sound_outbox_of (outbox_in w h b) ≡ true) (s : Sought h (at w 1) number (Some i)) where
  -- no other record has the number
  alone : (j : ℕ) → j < at w 1 → (j ≡ i → ⊥) → at h j ≡ number → ⊥
  alone j r not e =
      let f : SoundU (outbox_in w h b) = sound_facts (outbox_in w h b) sound in
      let a : at h i ≡ number = s.1 in
      let p : (j < i → ⊥) = λ l. omega (arith, number-rises w h b f j i l s.0) in
      let q : (i < j → ⊥) = λ l. omega (arith, number-rises w h b f i j l r) in
      not (omega (arith, p, q))

  pub marked : length b ≡ 4936 → Marks number w h b (set b (256 + i) 0)
  marked lb =
      let k : i < at w 1 = s.0 in
      let f : SoundU (outbox_in w h b) = sound_facts (outbox_in w h b) sound in
      let few : at w 1 ≤ 256 = f.few in
      let z : at (set b (256 + i) 0) (256 + i) ≡ 0 = get_or-set_same b (256 + i) 0 0 (omega arith) in
      let y : at (set b (256 + i) 0) i ≡ at b i = get_or-set_other b (256 + i) i 0 0 (λ e. omega arith) in
      record {
        flagged = flagged-seats (sent-flags number) w h b (set b (256 + i) 0) few
            (λ j r. by_eq j i
            (λ is. ap (unacked_at h (set b (256 + i) 0)) is ∙ rw (z, y) refl ∙ sym (sent_it number (unacked_at h b i) s.1) ∙ ap (λ (x : ℕ). sent_u number (unacked_at h b x)) (sym is))
            (λ not.
            unacked-same h b h (set b (256 + i) 0) j refl refl
            (get_or-set_other b (256 + i) j 0 0 (λ e. omega arith)) (get_or-set_other b (256 + i) (256 + j) 0 0 (λ e. not (omega arith)))
            ∙ sym (sent-other number (unacked_at h b j) (alone j r not))));
        bytes = past-set (past_same 512 b) (256 + i) 0 (omega arith);
      }

pub not_marked : (w h b : List ℕ) (number : ℕ) → sound_outbox_of (outbox_in w h b) ≡ true → Sought h (at w 1) number None → Marks number w h b b
not_marked w h b number sound s =
    let f : SoundU (outbox_in w h b) = sound_facts (outbox_in w h b) sound in
    record {
      flagged = flagged-seats (sent-flags number) w h b b f.few (λ j r. sym (sent-other number (unacked_at h b j) (s j r)));
      bytes = past_same 512 b;
    }
