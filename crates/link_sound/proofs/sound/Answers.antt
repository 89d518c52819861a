use native.Mathlib.Omega.{arith}
use mathlib.Core.Path.{◌≡◌, sym, ◌∙◌}
use mathlib.Core.Bool.{◌&&◌}
use Rattle.std.proofs.lemmas.Grind.{common_steps}
use Rattle.stores.proofs.Chains.{is_skip, is_stop}
use Rattle.outbox.specs.Sound.{sound_outbox_of}
use Rattle.queue.specs.Sound.{sound_queue}
use Rattle.peer_session.specs.Sound.{sound_acks, sound_sizes}
use Rattle.parts.specs.Parts.{at, outbox_in, queue_in, policy_in, waiting_in, retry_in}
use Rattle.link_outbox.proofs.Sounds.{stopped}
use Rattle.link_sound.proofs.Sounds.{checked}
use Rattle.link_sound.proofs.sound.Goals.{then-sound, else-sound, then-sound_queue, else-sound_queue}
use Rattle.link_sound.proofs.sound.Goals as goal

pub returns-then-sound_acks : goal.returns-then-sound_acks
returns-then-sound_acks c = λ t.
    let a = c.args in
    checked a.words.now a.halves.now a.bytes.now (record { words = omega arith; bytes = omega arith }) t c.disposition_in-d.ensures c.handoff_length-h.ensures
    (grind (arith, common_steps, c.sound.ensures a.bytes.now))

pub returns-else-sound_acks : goal.returns-else-sound_acks
returns-else-sound_acks c = λ t.
    let w = c.args.words.now in
    let h = c.args.halves.now in
    let b = c.args.bytes.now in
    let o = sound_outbox_of (outbox_in w h b) in
    let q = sound_queue (policy_in w) (at w 2) (queue_in w h b) in
    let k = sound_acks (waiting_in w) (retry_in w) (at w 4) (at w 2) in
    let two : c.if-sound.value ≡ (o && q) = elim c.if-sound.branch [
      | then-sound i ↦ sym (is_skip o q _ (sym (c.sound.ensures b) ∙ i.if-sound.true) (sym (i.value-is ∙ i.sound_queue.ensures)))
      | else-sound i ↦ i.value-is ∙ i.if-sound.false ∙ sym (is_stop o q (sym (c.sound.ensures b) ∙ i.if-sound.false))
    ] in
    let three : c.if-sound_queue.value ≡ ((o && q) && k) = elim c.if-sound_queue.branch [
      | then-sound_queue i ↦ sym (is_skip (o && q) k _ (sym two ∙ i.if-sound_queue.true) (sym (i.value-is ∙ i.sound_acks.ensures)))
      | else-sound_queue i ↦ i.value-is ∙ i.if-sound_queue.false ∙ sym (is_stop (o && q) k (sym two ∙ i.if-sound_queue.false))
    ] in
    checked w h b (record { words = omega arith; bytes = omega arith }) t c.disposition_in-d.ensures c.handoff_length-h.ensures
    (stopped o q k (sound_sizes c.disposition_in-d.result c.handoff_length-h.result (at w 14)) three c.if-sound_acks.false)
