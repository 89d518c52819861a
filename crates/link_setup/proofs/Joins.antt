-- A message that joins under another stage, on the parts of a session. Assumes nothing.
use Prim.Native.Nat.{ℕ, ◌+◌, ◌≤◌, ◌<◌}
use mathlib.Core.Path.{◌≡◌, refl, ap, ◌∙◌}
use mathlib.Core.Bool.{true}
use mathlib.Core.List.{List}
use native.Mathlib.Omega.{arith}
use lib.Ieee.{Float}
use lib.ListN.{length, set, length-set}
use Rattle.rules.specs.declared.Refusal.{Refusal}
use Rattle.rules.specs.declared.Setup.{Setup}
use Rattle.rules.specs.declared.Setup.TheVariants.{Waiting}
use Rattle.rules.specs.declared.Terms.{Terms}
use Rattle.rules.specs.Lists.{Bytes}
use Rattle.std.specs.Prelude.{Ok, Err}
use Rattle.peer_session.specs.declared.SessionState.{SessionState}
use Rattle.peer_session.specs.Sound.{Checked}
use Rattle.setup.specs.Steps.{staged, Joins}
use Rattle.setup.proofs.Steps as Steps
use Rattle.parts.specs.Codes.{good_codes, stage_of}
use Rattle.parts.specs.Parts.{parts, at, outbox_in, waiting_in, retry_in, codes_in, handoff_in, opened_of}
use Rattle.parts.proofs.Fields.{agree_past, agree_set, agree_then, codes_same}
use Rattle.parts.proofs.After.{other}
use Rattle.link_sound.proofs.Lengths.{words-long, bytes-long}
use Rattle.link_sound.proofs.Parts.{usable}
use Rattle.link_sending.specs.Sends.{AllocatesIn}
use Rattle.link_sending.proofs.Sends.{raised, left}
use Rattle.link_setup.specs.Steps.{Stages}
use Rattle.link_setup.proofs.Stages.{restaged, stages_apart, stage-waits, disposition_apart, stage_disposed}

module _ (w h b : List ℕ) (t : Float) (k : Checked (opened_of (parts w h b t)) true) where
  pub low_half : (opened_of (parts w h b t)).clock.generation < 4294966000 → at h 768 < 4294966000
  unfolding opened_of
  low_half e = e

  module _ {o body o' : Bytes} {w' h' b' : List ℕ} where
    -- a refusal
    pub joins_not : (d : ℕ) {x : Refusal} → AllocatesIn body w h b o (Err x) w' h' b' o' → Joins body d (opened_of (parts w h b t)) o (Err x) o'
    unfolding opened_of
    joins_not d a = Steps.joins_not a.allocates

    module _ (lh : length h ≡ 772) (a : AllocatesIn body w h b o (Ok tt) w' h' b' o') where
      -- the session with the message, under the stage that it had
      abbrev pub grown : SessionState
      grown =
          other (opened_of (parts w h b t)) (outbox_in w' h' b') (at w 3) (waiting_in w) (retry_in w)
          (record { last_replay_at = t; generation = at h 768 + 1; released = at h 769; persisted = at h 770 })
          (handoff_in w b)

      grows : opened_of (parts w' (raised h h') b' t) ≡ grown
      grows = left w h b t (words-long w h b t k.full) (bytes-long w h b t k.full) lh a

      pub joins : (d : ℕ) → Joins body d (opened_of (parts w h b t)) o (Ok (staged d (opened_of (parts w h b t)).stage.setup grown)) o'
      unfolding opened_of
      joins d = Steps.joins a.allocates

      lb : 4936 ≤ length b'
      lb = omega (arith, a.bytes.size, bytes-long w h b t k.full)

      lr : length (raised h h') ≡ 772
      lr = length-set h' 768 (at h 768 + 1) ∙ a.halves.size ∙ lh

      good : good_codes (codes_in (raised h h') b') ≡ true
      good =
          ap good_codes
          (codes_same (agree_then (agree_past 771 772 (omega arith) a.halves) (agree_set h' 768 (at h 768 + 1) 771 772 (λ p q. omega arith))) (agree_past 768 773 (omega arith) a.bytes))
          ∙ (usable w h b t k).codes

      pub joined_waiting : {d : ℕ} {terms : Terms} {h'' b'' : List ℕ} → Stages d 1 terms (raised h h') b' h'' b'' → opened_of (parts w' h'' b'' t) ≡ staged d (Waiting terms) grown
      joined_waiting {d} {terms} {h''} {b''} s =
          restaged w' (raised h h') b' h'' b'' t lb (stages_apart (raised h h') b' lr lb good s) d (Waiting terms) (stage-waits (raised h h') b' lr lb good s)
          ∙ ap (staged d (Waiting terms)) grows

      setup_in : (stage_of (codes_in (raised h h') b')).setup ≡ (opened_of (parts w' (raised h h') b' t)).stage.setup
      unfolding opened_of
      setup_in = refl

      pub joined_under : (d : ℕ) → opened_of (parts w' (raised h h') (set b' 768 d) t) ≡ staged d (opened_of (parts w h b t)).stage.setup grown
      joined_under d =
          restaged w' (raised h h') b' (raised h h') (set b' 768 d) t lb (disposition_apart (raised h h') b' d) d (stage_of (codes_in (raised h h') b')).setup (stage_disposed (raised h h') b' d lb good)
          ∙ ap (λ (x : Setup). staged d x (opened_of (parts w' (raised h h') b' t))) setup_in
          ∙ ap (λ (s : SessionState). staged d s.stage.setup s) grows
