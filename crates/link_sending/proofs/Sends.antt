-- A send on the parts of a session, by what it leaves of them. Assumes nothing.
use Prim.Native.Nat.{ℕ, ◌+◌, ◌≤◌, ◌<◌}
use mathlib.Core.Path.{◌≡◌, refl, sym, ap, ◌∙◌, subst}
use mathlib.Core.Bool.{Bool, true}
use mathlib.Core.List.{List}
use native.Mathlib.Omega.{arith}
use lib.Ieee.{Float}
use lib.ListN.{length, set, length-set}
use lib.Seq.{get_or-set_same, get_or-set_other}
use Rattle.rules.specs.declared.Answer.TheVariants.{Number, Refused}
use Rattle.rules.specs.declared.Refusal.{Refusal}
use Rattle.rules.specs.declared.Clock.{Clock}
use Rattle.rules.specs.Lists.{Bytes}
use Rattle.rules.specs.Calls.{sends}
use Rattle.std.specs.Prelude.{Ok, Err}
use Rattle.outbox.specs.View.{ExactOutbox}
use Rattle.peer_session.specs.Allocates.{Allocates}
use Rattle.events.specs.Written.{Listed, asked}
use Rattle.session.specs.Promise.{CalledWithOutbound}
use Rattle.session.specs.Entry.{Admitted}
use Rattle.peer_session.proofs.View as View
use Rattle.sending.proofs.Sends as S
use Rattle.parts.specs.declared.LinkAnswer.{LinkAnswer}
use Rattle.parts.specs.Codes.{answer_of}
use Rattle.parts.specs.Parts.{Parts, parts, at, outbox_in, waiting_in, retry_in, clock_in, handoff_in, opened_of}
use Rattle.parts.specs.Driven.{Driven}
use Rattle.parts.proofs.Fields.{Agree, agree_past, agree_set, agree_then, outbox-same, numbers-same, handoff-same}
use Rattle.parts.proofs.After.{Kept, other, after, agree_all}
use Rattle.parts.proofs.Drives.{changes, refuses}
use Rattle.link_outbox.specs.Steps.{Joins}
use Rattle.link_outbox.proofs.Records.{past_same}
use Rattle.link_sound.proofs.Lengths.{words-long, bytes-long}
use Rattle.link_entry.proofs.Entered.{checked}
use Rattle.link_sending.specs.Sends.{Ready, AllocatesIn, Joined}

-- ---- a message joined and the generation is raised: the session that the parts are then

-- the halves h' with the generation of h raised
abbrev pub raised : List ℕ → List ℕ → List ℕ
raised h h' = set h' 768 (at h 768 + 1)

module _ (w h b : List ℕ) (t : Float) {o body : Bytes} (lw : 1296 ≤ length w) (lb : 4936 ≤ length b) (lh : length h ≡ 772) {w' h' b' : List ℕ} {o' : Bytes} (a : AllocatesIn body w h b o (Ok tt) w' h' b' o') where
  agrees : (c d : ℕ) → 512 ≤ c → (c ≤ 768 → 768 < d → ⊥) → Agree c d h (raised h h')
  agrees c d k out = agree_then (agree_past c d k a.halves) (agree_set h' 768 (at h 768 + 1) c d out)

  pub clock-raised : clock_in (raised h h') t ≡ record { last_replay_at = t; generation = at h 768 + 1; released = at h 769; persisted = at h 770 }
  clock-raised =
      let x : at (raised h h') 768 ≡ at h 768 + 1 = get_or-set_same h' 768 (at h 768 + 1) 0 (omega (arith, a.halves.size, lh)) in
      let g : Agree 769 771 h (raised h h') = agrees 769 771 (omega arith) (λ p q. omega arith) in
      let y : at (raised h h') 769 ≡ at h 769 = g.same 769 (omega arith) (omega arith) in
      let z : at (raised h h') 770 ≡ at h 770 = g.same 770 (omega arith) (omega arith) in
      rw (x, y, z)

  stays : Kept w h b w' (raised h h') b'
  stays =
      record {
        words = a.words.size;
        bytes = a.bytes.size;
        remote = agree_past 2 3 (omega arith) a.words;
        queued = agree_past 4 5 (omega arith) a.words;
        rest = agree_past 7 272 (omega arith) a.words;
        lens = agrees 512 768 (omega arith) (λ p q. omega arith);
        terms = agrees 771 772 (omega arith) (λ p q. omega arith);
        codes = agree_past 512 773 (omega arith) a.bytes;
        bodies = agree_past 776 4936 (omega arith) a.bytes;
      }

  pub left : opened_of (parts w' (raised h h') b' t)
      ≡ other (opened_of (parts w h b t)) (outbox_in w' h' b') (at w 3) (waiting_in w) (retry_in w)
      (record { last_replay_at = t; generation = at h 768 + 1; released = at h 769; persisted = at h 770 }) (handoff_in w b)
  left =
      after w h b w' (raised h h') b' t t lb stays
      (outbox-same (agree_all 0 2 w') (agree_set h' 768 (at h 768 + 1) 0 512 (λ p q. omega arith)) (agree_all 0 512 b'))
      (a.words.same 3 (omega arith))
      (numbers-same (omega arith) a.words.size (agree_past 5 (5 + 1) (omega arith) a.words) (agree_past 272 (272 + 512) (omega arith) a.words))
      (numbers-same (omega arith) a.words.size (agree_past 6 (6 + 1) (omega arith) a.words) (agree_past 784 (784 + 512) (omega arith) a.words))
      clock-raised
      (handoff-same (omega arith) a.bytes.size (agree_past 7 10 (omega arith) a.words) (agree_past 773 4872 (omega arith) a.bytes))

module _ (w h b : List ℕ) (t : Float) (l : List ℕ) (o body : Bytes) (ready : Ready (parts w h b t) (length l) (length o)) where
  lw : 1296 ≤ length w
  lw = words-long w h b t ready.checked.full

  lb : 4936 ≤ length b
  lb = bytes-long w h b t ready.checked.full

  goes : length h ≡ 772 → {w' h' b' : List ℕ} {o' : Bytes} → AllocatesIn body w h b o (Ok tt) w' h' b' o' → {k : Clock} → k ≡ clock_in (raised h h') t
      → {l' : List ℕ} {n : ℕ} → Listed (asked k) l 0 l' n → {y : LinkAnswer} → y ≡ answer_of (Number (at w 0)) n
      → Driven (parts w h b t) (parts w' (raised h h') b' t) y (λ s r. CalledWithOutbound (sends body) s l o r l' o')
  unfolding opened_of
  goes lh {w'} {h'} {b'} a ek {l'} {n} li f =
      changes (parts w h b t) (sym ready.checked.is) (parts w' (raised h h') b' t) _ (left w h b t lw lb lh a) (Number (at w 0)) n f
      (λ d q lq. S.went (opened_of (parts w h b t)) l o body d q ready.list ready.outbound (sym ready.checked.is) ready.checked.full lq ready.low a.allocates (subst (λ (c : Clock). Listed (asked c) l 0 l' n) (ek ∙ clock-raised w h b t lw lb lh a) li))

  pub went : length h ≡ 772 → {w' h' b' : List ℕ} {o' : Bytes} → Joined body w h b o w' h' b' o' → {k : Clock} → k ≡ clock_in h' t
      → {l' : List ℕ} {n : ℕ} → Listed (asked k) l 0 l' n → {y : LinkAnswer} → y ≡ answer_of (Number (at w 0)) n
      → Driven (parts w h b t) (parts w' h' b' t) y (λ s r. CalledWithOutbound (sends body) s l o r l' o')
  went lh {w'} {h'} {b'} {o'} j ek {l'} {n} li {y} f =
      subst (λ (x : List ℕ). Driven (parts w h b t) (parts w' x b' t) y (λ s r. CalledWithOutbound (sends body) s l o r l' o')) (sym j.raises)
      (goes lh j.joins (ek ∙ ap (λ (x : List ℕ). clock_in x t) j.raises) li f)

  -- a refusal, by the number of messages or the room that is left
  pub stopped : {w' h' b' : List ℕ} {o' : Bytes} {x : Refusal} → AllocatesIn body w h b o (Err x) w' h' b' o' → {y : LinkAnswer} → y ≡ answer_of (Refused x) 0
      → Driven (parts w h b t) (parts w' h' b' t) y (λ s r. CalledWithOutbound (sends body) s l o r l o')
  unfolding opened_of
  stopped {o' = o'} {x = x} k {y} f =
      subst (λ (g : Float → Parts). Driven (parts w h b t) (g t) y (λ s r. CalledWithOutbound (sends body) s l o r l o')) (sym (k.kept x refl))
      (refuses (parts w h b t) x f
      (λ r u d q lq. S.refused (opened_of (parts w h b t)) l o body d q ready.list ready.outbound (sym ready.checked.is) ready.checked.full lq ready.low k.allocates u))

-- ---- a message joins, or does not

module _ {body : Bytes} {w h b : List ℕ} {o : Bytes} where
  pub refused_in : {x : Refusal} → Allocates body (outbox_in w h b) o (Err x) o → AllocatesIn body w h b o (Err x) w h b o
  refused_in a = record { allocates = a; words = past_same 2 w; halves = past_same 512 h; bytes = past_same 512 b; kept = λ y e. refl }

  pub joined_in : {w' h' b' : List ℕ} {o' : Bytes} → Joins w h b o body w' h' b' o'
      → Allocates body (outbox_in w h b) o (Ok (outbox_in w' h' b')) o' → AllocatesIn body w h b o (Ok tt) w' h' b' o'
  joined_in j a =
      record {
        allocates = a;
        words =
            record {
              size = ap length j.words ∙ length-set (set w 0 (at w 0 + 1)) 1 (at w 1 + 1) ∙ length-set w 0 (at w 0 + 1);
              same = λ i k.
                  ap (λ (v : List ℕ). at v i) j.words
                  ∙ get_or-set_other (set w 0 (at w 0 + 1)) 1 i (at w 1 + 1) 0 (λ e. omega (arith, e))
                  ∙ get_or-set_other w 0 i (at w 0 + 1) 0 (λ e. omega (arith, e));
            };
        halves = j.halves;
        bytes = j.bytes;
        kept = λ y e. cc;
      }

-- what a message that joins asks
pub exact-outbox : (w h b : List ℕ) (t : Float) {n : ℕ} (o : Bytes) → Ready (parts w h b t) n (length o) → ExactOutbox (outbox_in w h b) (length o)
unfolding opened_of
exact-outbox w h b t o r = (View.parts (opened_of (parts w h b t)) (sym r.checked.is) r.checked.full).unacked o r.outbound

pub low_generation : (w h b : List ℕ) (t : Float) {n m : ℕ} → Ready (parts w h b t) n m → at h 768 < 4294966000
unfolding opened_of
low_generation w h b t r = r.low

-- what a send has past its entry
pub ready_to_send : {p : Parts} {n d m q : ℕ} {wrong : Bool} → Admitted (opened_of p) n d m q wrong true → Ready p n m
ready_to_send a = record { checked = checked a; list = a.list; outbound = a.outbound; low = a.low refl }
