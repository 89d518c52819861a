-- An ack on the parts of a session, done in place. Assumes nothing.
use Rattle.std.specs.Prelude.{if◌then◌else◌}
use Prim.Native.Nat.{ℕ, ◌+◌, ◌≤◌, ◌<◌}
use mathlib.Core.Path.{◌≡◌, refl, sym, ap, ◌∙◌, subst}
use mathlib.Core.Bool.{Bool, true, false, ◌&&◌, ◌||◌}
use mathlib.Core.List.{List}
use native.Mathlib.Omega.{arith}
use lib.Ieee.{Float}
use lib.ListN.{length, set, length-set}
use lib.Seq.{get_or-set_same}
use lib.Dec.{leb, eqb}
use Rattle.rules.specs.declared.Answer.TheVariants.{Flag, Refused}
use Rattle.rules.specs.declared.ReceiveMode.TheVariants.{Raw, Proposal, Channel, Rejection, Retiring}
use Rattle.rules.specs.declared.Refusal.TheVariants.{AckOutOfRange}
use Rattle.rules.specs.declared.Clock.{Clock}
use Rattle.rules.specs.Lists.{Bytes, kept, empty}
use Rattle.rules.specs.State.{is_raw}
use Rattle.rules.specs.Acks.{survives}
use Rattle.rules.specs.Calls.{gets_ack}
use Rattle.events.specs.Written.{Listed, asked}
use Rattle.outbox.specs.View.{unacked_of, ExactOutbox}
use Rattle.peer_session.specs.declared.Stage.{Stage}
use Rattle.peer_session.specs.declared.TerminalHandoff.{TerminalHandoff}
use Rattle.session.specs.Promise.{CalledWithStores}
use Rattle.session.proofs.Queries.{empty-unacked}
use Rattle.acks.specs.Steps.{clock_after, notices}
use Rattle.acks.proofs.Steps.{acknowledges, acked-is}
use Rattle.acks.proofs.Acks as A
use Rattle.parts.specs.declared.StageCodes.{StageCodes}
use Rattle.parts.specs.declared.LinkAnswer.{LinkAnswer}
use Rattle.parts.specs.Codes.{good_codes, stage_of, answer_of}
use Rattle.parts.specs.Parts.{Parts, parts, at, flag, section, unacked_at, outbox_in, waiting_in, retry_in, clock_in, codes_in, handoff_in, opened_of}
use Rattle.parts.specs.Frames.{Past}
use Rattle.parts.specs.Driven.{Driven}
use Rattle.parts.proofs.Seats.{length-seats}
use Rattle.parts.proofs.Fields.{Agree, agree_past, agree_set, agree_then, outbox-same, clock-same, numbers-same, section-same}
use Rattle.parts.proofs.After.{Kept, other, after, agree_all}
use Rattle.parts.proofs.Drives.{changes}
use Rattle.link_outbox.specs.Steps.{Drops}
use Rattle.link_sound.proofs.Parts.{Usable, usable}
use Rattle.link_codes.proofs.Enums.{stage-good}
use Rattle.link_draining.specs.Steps.{Failing}
use Rattle.link_sending.specs.Sends.{Ready}
use Rattle.link_sending.proofs.Sends.{low_generation}
use Rattle.link_acks.specs.Acks.{outside, BeyondIn}
use Rattle.link_sound.proofs.Lengths.{bytes-long}

-- ---- what good codes say

raw_if : (a b c d : Bool) → a ≡ is_raw (if a then Raw else if b then Proposal else if c then Channel else if d then Rejection else Retiring)
raw_if true b c d = refl
raw_if false true c d = refl
raw_if false false true d = refl
raw_if false false false true = refl
raw_if false false false false = refl

module _ (g : StageCodes) (good : good_codes g ≡ true) where
  disposition_is : g.disposition ≡ (stage_of g).disposition
  disposition_is = ap (λ (s : Stage). s.disposition) (stage-good g good refl refl)

  raw_is : eqb g.mode 0 ≡ is_raw (stage_of g).mode
  raw_is = raw_if (eqb g.mode 0) (eqb g.mode 1) (eqb g.mode 2) (eqb g.mode 3) ∙ ap (λ (s : Stage). is_raw s.mode) (stage-good g good refl refl)

-- ---- what is left

module _ (w h b : List ℕ) (t : Float) (lh : length h ≡ 772) (lw : 1296 ≤ length w) (lb : 4936 ≤ length b) (w' h' b' : List ℕ) (left : ℕ) (words : w' ≡ set w 1 left)
    (halves : Past 512 h h') (bytes : Past 512 b b') (g f : ℕ) where
  -- halves with the generation g, bytes with the handoff's flag f
  abbrev dated : List ℕ
  dated = set h' 768 g

  abbrev told : List ℕ
  told = set b' 774 f

  words_agree : (c d : ℕ) → (c ≤ 1 → 1 < d → ⊥) → Agree c d w w'
  words_agree c d out = rw words (agree_set w 1 left c d out)

  words_size : length w' ≡ length w
  words_size = rw words (length-set w 1 left)

  halves_agree : (c d : ℕ) → 512 ≤ c → (c ≤ 768 → 768 < d → ⊥) → Agree c d h dated
  halves_agree c d k out = agree_then (agree_past c d k halves) (agree_set h' 768 g c d out)

  bytes_agree : (c d : ℕ) → 512 ≤ c → (c ≤ 774 → 774 < d → ⊥) → Agree c d b told
  bytes_agree c d k out = agree_then (agree_past c d k bytes) (agree_set b' 774 f c d out)

  bytes-size : length told ≡ length b
  bytes-size = length-set b' 774 f ∙ bytes.size

  stays : Kept w h b w' dated told
  stays =
      record {
        words = words_size;
        bytes = bytes-size;
        remote = words_agree 2 3 (λ p q. omega arith);
        queued = words_agree 4 5 (λ p q. omega arith);
        rest = words_agree 7 272 (λ p q. omega arith);
        lens = halves_agree 512 768 (omega arith) (λ p q. omega arith);
        terms = halves_agree 771 772 (omega arith) (λ p q. omega arith);
        codes = bytes_agree 512 773 (omega arith) (λ p q. omega arith);
        bodies = bytes_agree 776 4936 (omega arith) (λ p q. omega arith);
      }

  abbrev new_clock : Clock
  new_clock = record { last_replay_at = t; generation = g; released = at h 769; persisted = at h 770 }

  pub clock_dated : clock_in dated t ≡ new_clock
  clock_dated =
      let x : at dated 768 ≡ g = get_or-set_same h' 768 g 0 (omega (arith, halves.size)) in
      let k : Agree 769 771 h dated = halves_agree 769 771 (omega arith) (λ p q. omega arith) in
      let y : at dated 769 ≡ at h 769 = k.same 769 (omega arith) (omega arith) in
      let z : at dated 770 ≡ at h 770 = k.same 770 (omega arith) (omega arith) in
      rw (x, y, z)

  abbrev new_handoff : TerminalHandoff
  new_handoff = record { body = section 776 4096 b; len = at w 7; id = at w 8; number = at w 9; sent = flag (at b 773); acknowledged = flag f; present = flag (at b 775) }

  handoff-told : handoff_in w' told ≡ new_handoff
  handoff-told =
      let k : Agree 7 10 w w' = words_agree 7 10 (λ p q. omega arith) in
      let n : at w' 7 ≡ at w 7 = k.same 7 (omega arith) (omega arith) in
      let i : at w' 8 ≡ at w 8 = k.same 8 (omega arith) (omega arith) in
      let m : at w' 9 ≡ at w 9 = k.same 9 (omega arith) (omega arith) in
      let s : at told 773 ≡ at b 773 = (bytes_agree 773 774 (omega arith) (λ p q. omega arith)).same 773 (omega arith) (omega arith) in
      let a : at told 774 ≡ f = get_or-set_same b' 774 f 0 (omega (arith, bytes.size)) in
      let p : at told 775 ≡ at b 775 = (bytes_agree 775 776 (omega arith) (λ p q. omega arith)).same 775 (omega arith) (omega arith) in
      let r : section 776 4096 told ≡ section 776 4096 b = section-same 776 4096 b told (omega arith) bytes-size (bytes_agree 776 (776 + 4096) (omega arith) (λ p q. omega arith)) in
      rw (n, i, m, s, a, p, r)

  ack_leaves : opened_of (parts w' dated told t)
      ≡ other (opened_of (parts w h b t)) (outbox_in w' h' b') (at w 3) (waiting_in w) (retry_in w) new_clock new_handoff
  ack_leaves =
      after w h b w' dated told t t lb stays
      (outbox-same (agree_all 0 2 w') (agree_set h' 768 g 0 512 (λ p q. omega arith)) (agree_set b' 774 f 0 512 (λ p q. omega arith)))
      ((words_agree 3 4 (λ p q. omega arith)).same 3 (omega arith) (omega arith))
      (numbers-same (omega arith) words_size (words_agree 5 (5 + 1) (λ p q. omega arith)) (words_agree 272 (272 + 512) (λ p q. omega arith)))
      (numbers-same (omega arith) words_size (words_agree 6 (6 + 1) (λ p q. omega arith)) (words_agree 784 (784 + 512) (λ p q. omega arith)))
      clock_dated handoff-told

-- ---- the call

-- of the clock, an ack raises the generation alone
clock-raised : (e : Bool) (c : Clock)
    → record { last_replay_at = c.last_replay_at; generation = (clock_after e c).generation; released = c.released; persisted = c.persisted } ≡ clock_after e c
clock-raised true c = refl
clock-raised false c = refl

module _ (w h b : List ℕ) (t : Float) (l : List ℕ) (o : Bytes) (number : ℕ) (ready : Ready (parts w h b t) (length l) (length o)) where
  used : Usable w h b
  used = usable w h b t ready.checked

  -- what the sweep asks of the messages
  pub messages-exact : ExactOutbox (outbox_in w h b) (length o)
  messages-exact = used.unacked o ready.outbound

  module _ {w' h' b' : List ℕ} {o' : Bytes} (d : Drops number w h b o w' h' b' o') where
    clock-kept : clock_in h' t ≡ clock_in h t
    clock-kept = clock-same t (agree_past 768 771 (omega arith) d.halves)

    -- the generation can still be raised
    pub low-kept : {c : Clock} → c ≡ clock_in h' t → c.generation < 4294966000
    low-kept e = rw (e ∙ clock-kept) (low_generation w h b t ready)

  module _ {w' h' b' : List ℕ} {o' : Bytes} (d : Drops number w h b o w' h' b' o') (f : ℕ)
      (flagged : flag f ≡ (flag (at b 774) || (flag (at b 773) && leb (at w 9) number))) where
    -- how many are left
    abbrev k : ℕ
    k = length (kept (survives number) (unacked_of (outbox_in w h b) o))

    dates : (e : Bool) {c : Clock} → c ≡ clock_after e (clock_in h t) → record { last_replay_at = t; generation = c.generation; released = at h 769; persisted = at h 770 } ≡ clock_after e (clock_in h t)
    dates e x = ap (λ (z : Clock). record { last_replay_at = t; generation = z.generation; released = at h 769; persisted = at h 770 }) x ∙ clock-raised e (clock_in h t)

    -- a rejection is complete where no message is left
    completes : (x : Bytes) → (eqb (at b 768) 4 && eqb (at w' 1) 0) ≡ (eqb (stage_of (codes_in h b)).disposition 4 && empty (unacked_of (outbox_in w' h' b') x))
    completes x =
        ap (λ (i : ℕ). eqb i 4 && eqb (at w' 1) 0) (disposition_is (codes_in h b) used.codes)
        ∙ ap (λ (z : Bool). eqb (stage_of (codes_in h b)).disposition 4 && z) (sym (empty-unacked (outbox_in w' h' b') x (length-seats 256 (unacked_at h' b'))))

    pub went : (lh : length h ≡ 772) → outside number (at w 0) ≡ false → {k₁ c : Clock} {l₁ l₂ : List ℕ} {n₁ n : ℕ} → k₁ ≡ clock_in h' t
        → c ≡ clock_after (eqb (at w' 1) (at w 1)) k₁ → Listed (asked c) l 0 l₁ n₁ → {x : Bool}
        → x ≡ (eqb (at b 768) 4 && eqb (at w' 1) 0) → Listed (notices number x (eqb (at b 771) 0)) l₁ n₁ l₂ n → {y : LinkAnswer} → y ≡ answer_of (Flag true) n → (q : Bytes)
        → 32768 ≤ length q → Driven (parts w h b t) (parts w' (set h' 768 c.generation) (set b' 774 f) t) y (λ s r. CalledWithStores (gets_ack number) s l o q r l₂ o' q)
    unfolding opened_of
    went lh within {k₁} {c} {l₁} {l₂} {n₁} {n} ek ec li {x} ex lj e q lq =
        let after : Bool = eqb (at w' 1) (at w 1) in
        let is : c ≡ clock_after after (clock_in h t) = ec ∙ ap (clock_after after) (ek ∙ clock-kept d) in
        changes (parts w h b t) (sym ready.checked.is) (parts w' (set h' 768 c.generation) (set b' 774 f) t) _
        (ack_leaves w h b t lh used.words (bytes-long w h b t ready.checked.full) w' h' b' k d.words d.halves d.bytes c.generation f) (Flag true) n e
        (λ v. A.goes number (opened_of (parts w h b t)) l o q v ready.list ready.outbound lq (sym ready.checked.is) ready.checked.full ready.low within
        (acked-is number (opened_of (parts w h b t)) l o _ o'
        (acknowledges number (opened_of (parts w h b t)) o (outbox_in w' h' b') o' _ (flag f) messages-exact d.left (dates after is) flagged)
        (subst (λ (z : Clock). Listed (asked z) l 0 l₁ n₁) (is ∙ sym (dates after is)) li)
        (λ i j. ex ∙ completes i)
        (raw_is (codes_in h b) used.codes) lj))

  -- ---- an ack out of range

  pub failing : (q : Bytes) → 32768 ≤ length q → Failing w h b 0 (length l) (length q)
  failing q lq = record { queued = used.queued q lq; room = omega (arith, ready.list); codes = used.codes }

  pub broke : outside number (at w 0) ≡ true → (q : Bytes) → 32768 ≤ length q → {p' : Parts} {y : LinkAnswer} {l' : List ℕ} {q' : Bytes}
      → BeyondIn (parts w h b t) l q y p' l' q' → Driven (parts w h b t) p' y (λ s r. CalledWithStores (gets_ack number) s l o q r l' o q')
  unfolding opened_of
  broke out q lq {p'} g =
      changes (parts w h b t) (sym ready.checked.is) p' (opened_of p') refl (Refused AckOutOfRange) g.events g.answers
      (λ v. A.fails number (opened_of (parts w h b t)) l o q v ready.list ready.outbound lq (sym ready.checked.is) ready.checked.full ready.low out g.breaks)
