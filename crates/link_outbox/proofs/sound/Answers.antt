use native.Mathlib.Omega.{arith}
use mathlib.Core.Path.{sym}
use Rattle.std.proofs.lemmas.Grind.{common_steps}
use Rattle.outbox.specs.Sound.{sound_outbox_of}
use Rattle.outbox.proofs.View.{sound_facts}
use Rattle.parts.specs.Parts.{outbox_in}
use Rattle.link_outbox.proofs.Sounds.{sound_none, same}
use Rattle.link_outbox.proofs.sound.Goals as goal

pub returns-then-n-eq0 : goal.returns-then-n-eq0
returns-then-n-eq0 c = λ b. same _ (sound_outbox_of (outbox_in c.args.words.now c.args.halves.now b)) (λ e. sym (sound_none c.args.words.now c.args.halves.now b (grind (arith, common_steps)) (grind (arith, common_steps)) (grind (arith, common_steps)))) (λ e. grind (arith, common_steps))

pub returns-else-next-le4294967296 : goal.returns-else-next-le4294967296
returns-else-next-le4294967296 c = λ b.
    let x = outbox_in c.args.words.now c.args.halves.now b in
    same _ (sound_outbox_of x) (λ e. absurd (grind (arith, common_steps)))
    (λ e. let s = sound_facts x e in grind (arith, common_steps, s.few, s.one, s.end))
