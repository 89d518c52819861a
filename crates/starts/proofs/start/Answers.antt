use mathlib.Core.Path.{refl, ap, ◌∙◌}
use Prim.Native.Nat.{ℕ}
use native.Mathlib.Omega.{arith}
use lib.ListN.{length, take}
use Rattle.rules.specs.Buffers.{filled}
use Rattle.starts.specs.Started.{short_record}
use Rattle.starts.specs.Records.{reliable_of, Beginning}
use Rattle.starts.proofs.Messages.{Long, long_record}
use Rattle.starts.proofs.Checks.{Good, found-good, good_beginning}
use Rattle.starts.proofs.Begins.{record_started, away, goes}
use Rattle.starts.proofs.start.Goals as goal

pub returns-in-Err : goal.returns-in-Err
returns-in-Err c = (away c.args.«record».reliable c.args.«record».numbers.now c.args.«record».lengths.now c.args.«record».bodies.now c.args.policy c.args.reject.now c.enters.ensures _ c.in-Err.is).call _ _ refl refl _ c.refused.ensures

pub begun-session-requires : goal.begun-session-requires
begun-session-requires c = let j = goes c.args.«record».reliable c.args.«record».numbers.now c.args.«record».lengths.now c.args.«record».bodies.now c.args.policy c.args.reject.now c.enters.ensures c.in_default.is in let good : Good (short_record c.args.«record».numbers.now c.args.«record».lengths.now c.args.«record».bodies.now) (reliable_of c.args.«record».reliable c.args.«record».numbers.now c.args.«record».lengths.now c.args.«record».bodies.now) c.args.policy c.args.reject.now = found-good _ _ _ _ j.good in let beginning : let a = c.args in Beginning a.«record».reliable a.«record».numbers.now a.«record».lengths.now a.reject.now = good_beginning _ _ _ _ _ _ good in beginning

pub body_bytes-n-requires : goal.body_bytes-n-requires
body_bytes-n-requires c = let j = goes c.args.«record».reliable c.args.«record».numbers.now c.args.«record».lengths.now c.args.«record».bodies.now c.args.policy c.args.reject.now c.enters.ensures c.in_default.is in let good : Good (short_record c.args.«record».numbers.now c.args.«record».lengths.now c.args.«record».bodies.now) (reliable_of c.args.«record».reliable c.args.«record».numbers.now c.args.«record».lengths.now c.args.«record».bodies.now) c.args.policy c.args.reject.now = found-good _ _ _ _ j.good in let beginning : let a = c.args in Beginning a.«record».reliable a.«record».numbers.now a.«record».lengths.now a.reject.now = good_beginning _ _ _ _ _ _ good in (beginning.fitting.enough, beginning.fitting.small)

pub fill-requires : goal.fill-requires
fill-requires c = let j = goes c.args.«record».reliable c.args.«record».numbers.now c.args.«record».lengths.now c.args.«record».bodies.now c.args.policy c.args.reject.now c.enters.ensures c.in_default.is in let good : Good (short_record c.args.«record».numbers.now c.args.«record».lengths.now c.args.«record».bodies.now) (reliable_of c.args.«record».reliable c.args.«record».numbers.now c.args.«record».lengths.now c.args.«record».bodies.now) c.args.policy c.args.reject.now = found-good _ _ _ _ j.good in let beginning : let a = c.args in Beginning a.«record».reliable a.«record».numbers.now a.«record».lengths.now a.reject.now = good_beginning _ _ _ _ _ _ good in
    let l : Long c.args.«record».numbers.now c.args.«record».lengths.now c.args.«record».bodies.now = long_record _ _ _ good.long in
    (omega (arith, c.body_bytes-n.ensures, l.bytes), omega (arith, c.body_bytes-n.ensures, beginning.fitting.small, j.outbound))

pub returns : goal.returns
returns c = let j = goes c.args.«record».reliable c.args.«record».numbers.now c.args.«record».lengths.now c.args.«record».bodies.now c.args.policy c.args.reject.now c.enters.ensures c.in_default.is in let good : Good (short_record c.args.«record».numbers.now c.args.«record».lengths.now c.args.«record».bodies.now) (reliable_of c.args.«record».reliable c.args.«record».numbers.now c.args.«record».lengths.now c.args.«record».bodies.now) c.args.policy c.args.reject.now = found-good _ _ _ _ j.good in
    record_started _ _ _ _ _ _ _ _ j.outbound j.queue c.begun-session.result _ _ good c.begun-session.ensures
    (c.fill.ensures ∙ ap (λ (n : ℕ). filled (length c.args.outbound.now) (take n c.args.«record».bodies.now)) c.body_bytes-n.ensures)
    c.clear.ensures
