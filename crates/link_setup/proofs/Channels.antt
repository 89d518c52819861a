-- A channel's terms on the parts of a session, by what they leave of them. Assumes nothing.
use Prim.Native.Nat.{ℕ, ◌≤◌}
use mathlib.Core.Path.{◌≡◌, refl, sym, ap, ◌∙◌}
use mathlib.Core.Bool.{true, false}
use mathlib.Core.List.{List}
use lib.Ieee.{Float}
use lib.ListN.{length}
use Rattle.rules.specs.declared.Answer.TheVariants.{Done, Refused}
use Rattle.rules.specs.declared.Refusal.TheVariants.{BadRecord, ChannelStarted, SetupRetired}
use Rattle.rules.specs.declared.Setup.{Setup}
use Rattle.rules.specs.declared.Setup.TheVariants.{None, Waiting, Started, Retired}
use Rattle.rules.specs.declared.Terms.{Terms}
use Rattle.rules.specs.Calls.{prepares_channel}
use Rattle.peer_session.specs.View.{state_of}
use Rattle.peer_session.specs.Sound.{sound_of, Checked}
use Rattle.session.specs.Promise.{CalledAlone}
use Rattle.session.proofs.Lengths.{not_taken}
use Rattle.setup.specs.Steps.{staged}
use Rattle.setup.proofs.Lending.{unsound, refused}
use Rattle.setup.proofs.Accepts.{preparing, prepare_is, waits}
use Rattle.parts.specs.declared.LinkAnswer.{LinkAnswer}
use Rattle.parts.specs.Codes.{answer_of, stage_of}
use Rattle.parts.specs.Parts.{Parts, parts, at, codes_in, opened_of}
use Rattle.parts.specs.Driven.{Driven}
use Rattle.parts.proofs.Drives.{leaves, changes, refuses}
use Rattle.link_sound.proofs.Lengths.{bytes-long}
use Rattle.link_sound.proofs.Parts.{usable}
use Rattle.link_setup.specs.Steps.{Stages}
use Rattle.link_setup.proofs.Stages.{stage_is, restaged, stages_apart, stage-waits}

-- ---- by the setup that there is

module _ (terms : Terms) (p : Parts) where
  pub prepare_unsound : sound_of (opened_of p) ≡ false → {y : LinkAnswer} → y ≡ answer_of (Refused BadRecord) 0 → Driven p p y (λ s r. CalledAlone (prepares_channel terms) s r)
  prepare_unsound e f = refuses p BadRecord f (λ r u l d o q lo lq. unsound preparing (opened_of p) l d o q not_taken not_taken not_taken u e)

  module _ (k : Checked (opened_of p) true) where
    prepare_fresh : (opened_of p).stage.setup ≡ None → (p' : Parts) → opened_of p' ≡ staged (opened_of p).stage.disposition (Waiting terms) (opened_of p)
        → {y : LinkAnswer} → y ≡ answer_of Done 0 → Driven p p' y (λ s r. CalledAlone (prepares_channel terms) s r)
    prepare_fresh e p' h f =
        changes p (sym k.is) p' _ h Done 0 f
        (λ l d o q lo lq. waits preparing (opened_of p) l d o q not_taken (sym k.is) k.full lo lq (opened_of p).stage.disposition (Waiting terms) refl (prepare_is terms (state_of (opened_of p) o q) None e))

    prepare_waiting : (t : Terms) → (opened_of p).stage.setup ≡ Waiting t → {y : LinkAnswer} → y ≡ answer_of Done 0 → Driven p p y (λ s r. CalledAlone (prepares_channel terms) s r)
    prepare_waiting t e f =
        leaves p Done 0 f
        (λ l d o q lo lq. waits preparing (opened_of p) l d o q not_taken (sym k.is) k.full lo lq (opened_of p).stage.disposition (opened_of p).stage.setup refl (prepare_is terms (state_of (opened_of p) o q) (Waiting t) e))

    prepare_started : (opened_of p).stage.setup ≡ Started → {y : LinkAnswer} → y ≡ answer_of (Refused ChannelStarted) 0 → Driven p p y (λ s r. CalledAlone (prepares_channel terms) s r)
    prepare_started e f =
        refuses p ChannelStarted f
        (λ r u l d o q lo lq. refused preparing (opened_of p) l d o q not_taken not_taken not_taken (sym k.is) k.full lo lq u (prepare_is terms (state_of (opened_of p) o q) Started e))

    prepare_retired : (opened_of p).stage.setup ≡ Retired → {y : LinkAnswer} → y ≡ answer_of (Refused SetupRetired) 0 → Driven p p y (λ s r. CalledAlone (prepares_channel terms) s r)
    prepare_retired e f =
        refuses p SetupRetired f
        (λ r u l d o q lo lq. refused preparing (opened_of p) l d o q not_taken not_taken not_taken (sym k.is) k.full lo lq u (prepare_is terms (state_of (opened_of p) o q) Retired e))

-- ---- by its code

module _ (terms : Terms) (w h b : List ℕ) (t : Float) (k : Checked (opened_of (parts w h b t)) true) where
  setup_in : {x : Setup} → (stage_of (codes_in h b)).setup ≡ x → (opened_of (parts w h b t)).stage.setup ≡ x
  unfolding opened_of
  setup_in e = e

  disposition_in : (opened_of (parts w h b t)).stage.disposition ≡ at b 768
  unfolding opened_of
  disposition_in = rw (stage_is (codes_in h b) (usable w h b t k).codes)

  pub by_none : length h ≡ 772 → (stage_of (codes_in h b)).setup ≡ None → {h' b' : List ℕ} → Stages (at b 768) 1 terms h b h' b' → {y : LinkAnswer} → y ≡ answer_of Done 0
      → Driven (parts w h b t) (parts w h' b' t) y (λ s r. CalledAlone (prepares_channel terms) s r)
  by_none lh e {h'} {b'} s f =
      let lb : 4936 ≤ length b = bytes-long w h b t k.full in
      prepare_fresh terms (parts w h b t) k (setup_in e) (parts w h' b' t)
      (restaged w h b h' b' t lb (stages_apart h b lh lb (usable w h b t k).codes s) (at b 768) (Waiting terms) (stage-waits h b lh lb (usable w h b t k).codes s)
      ∙ ap (λ (d : ℕ). staged d (Waiting terms) (opened_of (parts w h b t))) (sym disposition_in))
      f

  pub by_waiting : {x : Terms} → (stage_of (codes_in h b)).setup ≡ Waiting x → {y : LinkAnswer} → y ≡ answer_of Done 0 → Driven (parts w h b t) (parts w h b t) y (λ s r. CalledAlone (prepares_channel terms) s r)
  by_waiting e f = prepare_waiting terms (parts w h b t) k _ (setup_in e) f

  pub by_started : (stage_of (codes_in h b)).setup ≡ Started → {y : LinkAnswer} → y ≡ answer_of (Refused ChannelStarted) 0
      → Driven (parts w h b t) (parts w h b t) y (λ s r. CalledAlone (prepares_channel terms) s r)
  by_started e f = prepare_started terms (parts w h b t) k (setup_in e) f

  pub by_retired : (stage_of (codes_in h b)).setup ≡ Retired → {y : LinkAnswer} → y ≡ answer_of (Refused SetupRetired) 0
      → Driven (parts w h b t) (parts w h b t) y (λ s r. CalledAlone (prepares_channel terms) s r)
  by_retired e f = prepare_retired terms (parts w h b t) k (setup_in e) f
