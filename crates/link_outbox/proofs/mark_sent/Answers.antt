use Rattle.std.proofs.Common.{◌≡◌, ◌≤◌, ℕ, List, true, arith}
use Rattle.outbox.specs.Sound.{sound_outbox_of}
use Rattle.outbox.proofs.View.{sound_facts}
use Rattle.parts.specs.Parts.{at, outbox_in}
use Rattle.link_outbox.proofs.Marks.{marked, not_marked}
use Rattle.link_outbox.proofs.mark_sent.Goals as goal

few : (w h b : List ℕ) → sound_outbox_of (outbox_in w h b) ≡ true → at w 1 ≤ 256
few w h b s = (sound_facts (outbox_in w h b) s).few

pub seat-requires : goal.seat-requires
seat-requires c = few c.args.words.now c.args.halves.now c.args.bytes.now c.requires

pub overflow_add-bytes : goal.overflow_add-bytes
overflow_add-bytes c = omega (arith, c.in-Some.ensures, few c.args.words.now c.args.halves.now c.args.bytes.now c.requires)

pub bounds-bytes-i : goal.bounds-bytes-i
bounds-bytes-i c = omega (arith, c.in-Some.ensures, few c.args.words.now c.args.halves.now c.args.bytes.now c.requires)

pub returns-in-Some : goal.returns-in-Some
returns-in-Some c =
    marked c.args.words.now c.args.halves.now c.args.bytes.now c.args.number c.in-Some.i c.requires c.in-Some.ensures (omega arith)

pub returns-in_default : goal.returns-in_default
returns-in_default c =
    not_marked c.args.words.now c.args.halves.now c.args.bytes.now c.args.number c.requires c.in_default.ensures
