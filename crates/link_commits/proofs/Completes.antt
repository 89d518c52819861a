-- The two calls of a commit on the parts of a session, test by test. Assumes nothing.
use Prim.Native.Nat.{ℕ, ◌-◌, ◌≤◌}
use mathlib.Core.Path.{◌≡◌, refl, ap, ◌∙◌, subst}
use mathlib.Core.Bool.{Bool, true, false}
use mathlib.Core.List.{List}
use native.Mathlib.Omega.{arith}
use lib.Ieee.{Float}
use lib.ListN.{length, set, length-set}
use Rattle.rules.specs.declared.Answer.TheVariants.{Done, Prepared, Refused}
use Rattle.rules.specs.declared.Clock.{Clock}
use Rattle.rules.specs.declared.PreparedCommit.{PreparedCommit}
use Rattle.rules.specs.declared.Refusal.TheVariants.{BadRecord}
use Rattle.rules.specs.Calls.{prepares, completes}
use Rattle.events.specs.Written.{Listed}
use Rattle.outbox.specs.Sound.{sound_outbox_of}
use Rattle.outbox.proofs.View.{sound_facts}
use Rattle.peer_session.specs.declared.SessionState.{SessionState}
use Rattle.peer_session.specs.Sound.{sound_of, Full}
use Rattle.peer_session.proofs.View as View
use Rattle.session.specs.Promise.{Answered, CalledWithList}
use Rattle.session.proofs.Clocks.{clocked}
use Rattle.commits.specs.Releases.{Persists, ReleasesBy, notices}
use Rattle.commits.proofs.Completes as C
use Rattle.parts.specs.declared.LinkAnswer.{LinkAnswer}
use Rattle.parts.specs.Codes.{answer_of}
use Rattle.parts.specs.Parts.{parts, at, outbox_in, clock_in, opened_of}
use Rattle.parts.specs.Driven.{Driven, DrivenAnswer}
use Rattle.parts.proofs.Fields.{agree_set, outbox-same}
use Rattle.parts.proofs.After.{agree_all}
use Rattle.parts.proofs.Drives.{changes, answers}
use Rattle.link_sound.proofs.Lengths.{words-long, bytes-long}
use Rattle.link_commits.specs.Completes.{Ready, MayReleaseIn, ReleasesIn}
use Rattle.link_commits.proofs.Releases.{persisted}

-- ---- complete, past its tests

module _ (w h b : List ℕ) (t : Float) (l : List ℕ) (c : PreparedCommit) (p : Bool) (ready : Ready (parts w h b t) (length l) c) (k : Clock)
    (persists : Persists p c (clock_in h t) k) where
  abbrev s : SessionState
  s = opened_of (parts w h b t)

  -- the halves with the generation that is persisted
  abbrev raised : List ℕ
  raised = set h 770 k.persisted

  is : opened_of (parts w raised b t) ≡ clocked k s
  is = persisted w h b t (words-long w h b t ready.full) ready.halves (bytes-long w h b t ready.full) p c k persists

  pub may : MayReleaseIn w raised b (length l)
  unfolding opened_of
  may =
      let v : View.Parts s = View.parts s ready.sound ready.full in
      let e : outbox_in w raised b ≡ outbox_in w h b = outbox-same (agree_all 0 2 w) (agree_set h 770 k.persisted 0 512 (λ x y. omega arith)) (agree_all 0 512 b) in
      record {
        sound = ap sound_outbox_of e ∙ v.outbox;
        messages = (sound_facts s.outbox v.outbox).few;
        acks = v.waiting;
        words = words-long w h b t ready.full;
        halves = omega (arith, ready.halves, length-set h 770 k.persisted);
        bytes = bytes-long w h b t ready.full;
        room = ready.list;
      }

  at_its_clock : Persists p c s.clock k
  unfolding opened_of
  at_its_clock = persists

  pub went : (w' h' b' l₁ l₂ : List ℕ) (m n : ℕ) → ReleasesIn c w raised b l w' h' b' l₁ m → Listed (notices p) l₁ m l₂ n → {y : LinkAnswer} → y ≡ answer_of Done n
      → Driven (parts w h b t) (parts w' h' b' t) y (λ s r. CalledWithList (completes c p) s l r l₂)
  went w' h' b' l₁ l₂ m n r li e =
      let f : ReleasesBy c (clocked k s) l (record { session = opened_of (parts w' h' b' t); events = m }) l₁ =
      subst (λ (x : SessionState). ReleasesBy c x l (record { session = opened_of (parts w' h' b' t); events = m }) l₁) is (r t) in
      changes (parts w h b t) ready.sound (parts w' h' b' t) (opened_of (parts w' h' b' t)) refl Done n e
      (C.completes_it c p s l ready.list ready.sound ready.full ready.outbound ready.remote l₁ l₂ k (record { session = opened_of (parts w' h' b' t); events = m }) n at_its_clock f li)

-- ---- prepare

module _ (w h b : List ℕ) (t : Float) where
  pub prepare_unsound : sound_of (opened_of (parts w h b t)) ≡ false → {y : LinkAnswer} → y ≡ answer_of (Refused BadRecord) 0
      → DrivenAnswer (parts w h b t) y (λ s a. Answered prepares s a)
  prepare_unsound bad e = answers (parts w h b t) (Refused BadRecord) e (C.prepare_unsound (opened_of (parts w h b t)) bad)

  -- a message's number is at least 1
  pub first : sound_of (opened_of (parts w h b t)) ≡ true → Full (opened_of (parts w h b t)) → 1 ≤ at w 0
  unfolding opened_of
  first sound full = (View.parts (opened_of (parts w h b t)) sound full).first

  pub prepare_sound : sound_of (opened_of (parts w h b t)) ≡ true → Full (opened_of (parts w h b t))
      → {y : LinkAnswer} → y ≡ answer_of (Prepared (record { generation = at h 768; outbound = at w 0 - 1; remote = at w 2 })) 0
      → DrivenAnswer (parts w h b t) y (λ s a. Answered prepares s a)
  unfolding opened_of
  prepare_sound sound full e =
      answers (parts w h b t) (Prepared (record { generation = at h 768; outbound = at w 0 - 1; remote = at w 2 })) e
      (C.prepare_sound (opened_of (parts w h b t)) sound full)
