-- A report of a send on the parts of a session, by what it leaves of them. Assumes nothing.
use Prim.Native.Nat.{ℕ, ◌+◌, ◌*◌, ◌≤◌}
use mathlib.Core.Path.{◌≡◌, refl, sym, ◌∙◌}
use mathlib.Core.Bool.{Bool, true, false}
use mathlib.Core.List.{List, [], ◌∷◌}
use native.Mathlib.Omega.{arith}
use lib.Ieee.{Float, nan}
use lib.ListN.{length, set, length-set}
use lib.Seq.{get_or-set_same}
use Rattle.stores.specs.Placed.{placed}
use Rattle.rules.specs.declared.Answer.TheVariants.{Done, Refused}
use Rattle.rules.specs.declared.Refusal.TheVariants.{RetriesFull}
use Rattle.rules.specs.Lists.{itself, put, kept}
use Rattle.rules.specs.Acks.{sent, differs_from}
use Rattle.rules.specs.State.{State}
use Rattle.rules.specs.Progress.{Outcome}
use Rattle.rules.specs.Calls.{reports, step}
use Rattle.numbers.specs.Seats.{in_use, Holds}
use Rattle.outbox.specs.Sound.{sound_outbox_of}
use Rattle.outbox.specs.Steps.{Flagged}
use Rattle.peer_session.specs.declared.SessionState.{SessionState}
use Rattle.session.specs.declared.Returned.{Returned}
use Rattle.session.specs.Promise.{CalledWithList}
use Rattle.session.specs.Entry.{Admitted}
use Rattle.session.proofs.WithList.{list-answers}
use Rattle.acks.specs.Reports.{Reports, own_frame, full_of, MayRetry}
use Rattle.acks.proofs.Reports as A
use Rattle.parts.specs.declared.LinkAnswer.{LinkAnswer}
use Rattle.parts.specs.Codes.{answer_of}
use Rattle.parts.specs.Parts.{parts, at, section, outbox_in, waiting_in, retry_in, clock_in, handoff_in, opened_of}
use Rattle.parts.specs.Frames.{Past, Only}
use Rattle.parts.proofs.Fields.{Agree, agree_past, agree_set, agree_then, agree_only, outbox-same, numbers-same, handoff-same, section-same}
use Rattle.parts.proofs.After.{Kept, other, after, agree_all}
use Rattle.parts.proofs.Drives.{leaves, changes, refuses}
use Rattle.link_numbers.specs.Sets.{Rising}
use Rattle.link_sound.proofs.Parts.{Usable, usable}
use Rattle.link_reports.specs.Reports.{Ready, Fit, Reported}
use Rattle.link_sound.proofs.Lengths.{bytes-long}

-- ---- data was accepted: one message is no longer unsent, and perhaps the handoff is sent

module _ (w h b : List ℕ) (t : Float) (lw : 1296 ≤ length w) (lb : 4936 ≤ length b) (b' : List ℕ) (past : Past 512 b b') where
  left-bytes : Kept w h b w h b'
  left-bytes =
      record {
        words = refl;
        bytes = past.size;
        remote = agree_all 2 3 w;
        queued = agree_all 4 5 w;
        rest = agree_all 7 272 w;
        lens = agree_all 512 768 h;
        terms = agree_all 771 772 h;
        codes = agree_past 512 773 (omega arith) past;
        bodies = agree_past 776 4936 (omega arith) past;
      }

  same_handoff : handoff_in w b' ≡ handoff_in w b
  same_handoff = handoff-same (omega arith) past.size (agree_all 7 10 w) (agree_past 773 4872 (omega arith) past)

  data_leaves : opened_of (parts w h b' t)
      ≡ other (opened_of (parts w h b t)) (outbox_in w h b') (at w 3) (waiting_in w) (retry_in w) (clock_in h t) (handoff_in w b)
  data_leaves = after w h b w h b' t t lb left-bytes refl refl refl refl refl same_handoff

  -- the same, the handoff marked as sent
  abbrev told : List ℕ
  told = set b' 773 1

  left-told : Kept w h b w h told
  left-told =
      record {
        words = refl;
        bytes = length-set b' 773 1 ∙ past.size;
        remote = agree_all 2 3 w;
        queued = agree_all 4 5 w;
        rest = agree_all 7 272 w;
        lens = agree_all 512 768 h;
        terms = agree_all 771 772 h;
        codes = agree_then (agree_past 512 773 (omega arith) past) (agree_set b' 773 1 512 773 (λ p q. omega arith));
        bodies = agree_then (agree_past 776 4936 (omega arith) past) (agree_set b' 773 1 776 4936 (λ p q. omega arith));
      }

  sent-handoff : handoff_in w told ≡ record { body = section 776 4096 b; len = at w 7; id = at w 8; number = at w 9; sent = true; acknowledged = (handoff_in w b).acknowledged; present = (handoff_in w b).present }
  sent-handoff =
      let k : length told ≡ length b = left-told.bytes in
      let s : at told 773 ≡ 1 = get_or-set_same b' 773 1 0 (omega (arith, past.size)) in
      let g : Agree 774 776 b told = agree_then (agree_past 774 776 (omega arith) past) (agree_set b' 773 1 774 776 (λ p q. omega arith)) in
      let a : at told 774 ≡ at b 774 = g.same 774 (omega arith) (omega arith) in
      let p : at told 775 ≡ at b 775 = g.same 775 (omega arith) (omega arith) in
      let r : section 776 4096 told ≡ section 776 4096 b = section-same 776 4096 b told (omega arith) k (agree_then (agree_past 776 (776 + 4096) (omega arith) past) (agree_set b' 773 1 776 (776 + 4096) (λ p q. omega arith))) in
      rw (s, a, p, r)

  told-leaves : opened_of (parts w h told t)
      ≡ other (opened_of (parts w h b t)) (outbox_in w h b') (at w 3) (waiting_in w) (retry_in w) (clock_in h t)
      (record { body = section 776 4096 b; len = at w 7; id = at w 8; number = at w 9; sent = true; acknowledged = (handoff_in w b).acknowledged; present = (handoff_in w b).present })
  told-leaves =
      after w h b w h told t t lb left-told
      (outbox-same (agree_all 0 2 w) (agree_all 0 512 h) (agree_set b' 773 1 0 512 (λ p q. omega arith))) refl refl refl refl sent-handoff

-- ---- the retries change

module _ (w h b : List ℕ) (t : Float) (lw : 1296 ≤ length w) (lb : 4936 ≤ length b) (w' : List ℕ) (only : Only 784 6 w w') where
  left-words : Kept w h b w' h b
  left-words =
      record {
        words = only.size;
        bytes = refl;
        remote = agree_only 2 3 only (omega arith) (λ p q. omega arith);
        queued = agree_only 4 5 only (omega arith) (λ p q. omega arith);
        rest = agree_only 7 272 only (omega arith) (λ p q. omega arith);
        lens = agree_all 512 768 h;
        terms = agree_all 771 772 h;
        codes = agree_all 512 773 b;
        bodies = agree_all 776 4936 b;
      }

  retries_leave : opened_of (parts w' h b t)
      ≡ other (opened_of (parts w h b t)) (outbox_in w h b) (at w 3) (waiting_in w) (retry_in w') (clock_in h t) (handoff_in w b)
  retries_leave =
      after w h b w' h b t t lb left-words
      (outbox-same (agree_only 0 2 only (omega arith) (λ p q. omega arith)) (agree_all 0 512 h) (agree_all 0 512 b))
      (only.below 3 (omega arith) (λ e. omega (arith, e)))
      (numbers-same (omega arith) only.size (agree_only 5 (5 + 1) only (omega arith) (λ p q. omega arith)) (agree_only 272 (272 + 512) only (omega arith) (λ p q. omega arith)))
      refl refl
      (handoff-same (omega arith) refl (agree_only 7 10 only (omega arith) (λ p q. omega arith)) (agree_all 773 4872 b))

-- ---- past the tests

-- what the tests leave to know
pub fits : {w h b : List ℕ} {n d o q : ℕ} {wrong : Bool} → ((t : Float) → Admitted (opened_of (parts w h b t)) n d o q wrong false) → Fit w h b n
fits f t = let a = f t in record { sound = a.sound; full = a.full; list = a.list }

module _ (w h b l : List ℕ) (number : ℕ) where
  -- what the steps ask of the parts, whatever the time
  module _ (fit : Fit w h b (length l)) where
    pub list-long : 4096 ≤ length l
    list-long = (fit nan).list

    used : Usable w h b
    used = usable w h b nan (record { is = sym (fit nan).sound; full = (fit nan).full })

    pub messages-sound : sound_outbox_of (outbox_in w h b) ≡ true
    messages-sound = used.outbox

    pub retries : Rising 784 6 w
    retries = used.retry

    pub may_retry : MayRetry number (retry_in w)
    unfolding opened_of
    may_retry = A.may_retry number (opened_of (parts w h b nan)) (fit nan).sound (fit nan).full

  -- by what is reported, and whether it was accepted
  pub reported_as : {what k : ℕ} {accepted a : Bool} {w' b' l' : List ℕ} {x : LinkAnswer} → what ≡ k → accepted ≡ a
      → Reported k number a w h b l w' b' l' x → Reported what number accepted w h b l w' b' l' x
  reported_as e f r = rw (e, f) r

  module _ (accepted : Bool) (fit : Fit w h b (length l)) where
    module _ (t : Float) where
      abbrev ready : Ready (parts w h b t) (length l)
      ready = fit t

      abbrev s : SessionState
      s = opened_of (parts w h b t)

      lw : 1296 ≤ length w
      lw = (usable w h b t (record { is = sym ready.sound; full = ready.full })).words

      lb : 4936 ≤ length b
      lb = bytes-long w h b t ready.full

      -- a step that does what the rule says
      does : (what : ℕ) → what ≤ 1 → {f : State → Outcome} {r : Returned} {l' : List ℕ} → ((u : State) → step (reports what number accepted) u ≡ f u) → Reports f s l r l'
          → CalledWithList (reports what number accepted) s l r l'
      does what code e k = A.reported what number accepted code s l ready.list ready.sound ready.full e k

    -- data that was not accepted
    pub unsent : accepted ≡ false → {y : LinkAnswer} → y ≡ answer_of Done 0 → Reported 0 number accepted w h b l w b l y
    unsent failed e t =
        leaves (parts w h b t) Done 0 e
        (list-answers (reports 0 number accepted) (A.list-alone 0 number accepted) (s t) l (ready t).list (A.good-code 0 number accepted (omega arith))
        (ready t).sound (ready t).full Done (λ o q lo. A.of_data 0 number accepted (omega arith) refl false failed _))

    module _ (did : accepted ≡ true) (b' : List ℕ) (m : Flagged (sent number) (outbox_in w h b) (outbox_in w h b')) (past : Past 512 b b') {y : LinkAnswer} where
      pub other-frame : false ≡ own_frame number (handoff_in w b) → y ≡ answer_of Done 0 → Reported 0 number accepted w h b l w b' l y
      unfolding opened_of
      other-frame f e t =
          changes (parts w h b t) (ready t).sound (parts w h b' t) _ (data_leaves w h b t (lw t) (lb t) b' past) Done 0 e
          (does t 0 (omega arith) (A.of_data 0 number accepted (omega arith) refl true did) (A.other-frame number (s t) l (outbox_in w h b') m (sym f)))

      pub its_own_frame : true ≡ own_frame number (handoff_in w b) → {l' : List ℕ} → l' ≡ placed l (4 * 0) (1 ∷ 0 ∷ 0 ∷ 0 ∷ []) → y ≡ answer_of Done 1
          → Reported 0 number accepted w h b l w (set b' 773 1) l' y
      unfolding opened_of
      its_own_frame f k e t =
          changes (parts w h b t) (ready t).sound (parts w h (set b' 773 1) t) _ (told-leaves w h b t (lw t) (lb t) b' past) Done 1 e
          (does t 0 (omega arith) (A.of_data 0 number accepted (omega arith) refl true did) (A.its_own_frame number (s t) l (outbox_in w h b') m (sym f) k))

    module _ (w' : List ℕ) (only : Only 784 6 w w') {y : LinkAnswer} (e : y ≡ answer_of Done 0) where
      -- an ack was accepted
      pub ack_sent : accepted ≡ true → Holds (kept (differs_from number) (in_use (retry_in w))) (retry_in w') → Reported 1 number accepted w h b l w' b l y
      unfolding opened_of
      ack_sent did k t =
          changes (parts w h b t) (ready t).sound (parts w' h b t) _ (retries_leave w h b t (lw t) (lb t) w' only) Done 0 e
          (does t 1 (omega arith) (A.of_ack 1 number accepted (omega arith) (λ z. omega (arith, z)) true did) (A.sent_ack number (s t) (retry_in w') l k))

      -- or is kept for the next keepalive
      pub ack_kept : accepted ≡ false → false ≡ full_of number (retry_in w) → Holds (put itself number (in_use (retry_in w))) (retry_in w')
          → Reported 1 number accepted w h b l w' b l y
      unfolding opened_of
      ack_kept failed f k t =
          changes (parts w h b t) (ready t).sound (parts w' h b t) _ (retries_leave w h b t (lw t) (lb t) w' only) Done 0 e
          (does t 1 (omega arith) (A.of_ack 1 number accepted (omega arith) (λ z. omega (arith, z)) false failed) (A.kept_ack number (s t) (retry_in w') l (sym f) k))

    -- or lost, where there is no room
    pub ack_lost : accepted ≡ false → true ≡ full_of number (retry_in w) → {y : LinkAnswer} → y ≡ answer_of (Refused RetriesFull) 0
        → Reported 1 number accepted w h b l w b l y
    unfolding opened_of
    ack_lost failed f e t =
        refuses (parts w h b t) RetriesFull e
        (λ r u. does t 1 (omega arith) (A.of_ack 1 number accepted (omega arith) (λ z. omega (arith, z)) false failed) (A.lost_ack number (s t) l (sym f) u))
