use Prim.Native.Nat.{◌-◌, ◌+◌, ◌≤◌}
use native.Mathlib.Omega.{arith}
use mathlib.Core.Bool.{true}
use mathlib.Core.Path.{◌≡◌, sym, ◌∙◌}
use Rattle.stores.proofs.Scans.{admitted-none}
use Rattle.queue.specs.View.{num_q, len_q}
use Rattle.queue.specs.Sound.{admits_queued}
use Rattle.parts.specs.Seats.{seats}
use Rattle.parts.specs.Parts.{at, policy_in, queued_at}
use Rattle.link_sound.proofs.Sounds.{frames-on, frames_not, frame_tested, frame-room}
use Rattle.link_sound.proofs.sound_queued.Goals as goal

pub returns-then-not-admits : goal.returns-then-not-admits
returns-then-not-admits c =
    let a = c.args in
    sym (frames_not a.words.now a.halves.now a.bytes.now c.loop-i.i a.count (omega arith) (omega arith) c.loop-i.last c.loop-i.sum
    (frame_tested a.words.now a.halves.now a.bytes.now c.loop-i.i c.loop-i.last c.loop-i.sum c.from-len.ensures c.admits.ensures ∙ c.if-not-admits.true)) ∙ c.loop-i.invariant.4

pub loop-i-preserved : goal.loop-i-preserved
loop-i-preserved c = let tested : let a = c.args in admits_queued (policy_in a.words.now) c.loop-i.last c.loop-i.sum (queued_at a.words.now a.halves.now a.bytes.now c.loop-i.i) ≡ true = let a = c.args in frame_tested a.words.now a.halves.now a.bytes.now c.loop-i.i c.loop-i.last c.loop-i.sum c.from-len.ensures c.admits.ensures ∙ c.if-not-admits.false in let room : let a = c.args in at a.halves.now (512 + c.loop-i.i) ≤ at a.words.now 12 - c.loop-i.sum = let a = c.args in frame-room a.words.now a.halves.now a.bytes.now c.loop-i.i c.loop-i.last c.loop-i.sum (tested) in
    let a = c.args in (
      c.loop-i.invariant.0,
      c.loop-i.invariant.1,
      omega arith,
      omega (arith, room, c.from-len.ensures),
      frames-on a.words.now a.halves.now a.bytes.now c.loop-i.i a.count (omega arith) (omega arith) c.loop-i.last c.loop-i.sum c.from-len.ensures (tested) c.loop-i.invariant.4,
    )

pub returns : goal.returns
returns c =
    let a = c.args in
    sym (admitted-none num_q len_q (admits_queued (policy_in a.words.now)) (seats 256 (queued_at a.words.now a.halves.now a.bytes.now)) c.loop-i.i a.count c.loop-i.last c.loop-i.sum c.loop-i-test.false) ∙ c.loop-i.invariant.4
