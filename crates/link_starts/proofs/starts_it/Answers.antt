use native.Mathlib.Omega.{arith}
use Rattle.link_starts.proofs.Starts.{beginning, bodies-there, starts_in}
use Rattle.link_starts.proofs.starts_it.Goals as goal

pub begin-requires : goal.begin-requires
begin-requires c = beginning c.args.«record».reliable c.args.«record».numbers.now c.args.«record».lengths.now c.args.«record».bodies.now c.args.policy c.args.reject.now c.args.outbound.now c.args.queue.now c.requires

pub body_bytes-n-requires : goal.body_bytes-n-requires
body_bytes-n-requires c = ((beginning c.args.«record».reliable c.args.«record».numbers.now c.args.«record».lengths.now c.args.«record».bodies.now c.args.policy c.args.reject.now c.args.outbound.now c.args.queue.now c.requires).fitting.enough, (beginning c.args.«record».reliable c.args.«record».numbers.now c.args.«record».lengths.now c.args.«record».bodies.now c.args.policy c.args.reject.now c.args.outbound.now c.args.queue.now c.requires).fitting.small)

pub fill-requires : goal.fill-requires
fill-requires c = (omega (arith, c.body_bytes-n.ensures, bodies-there c.args.«record».reliable c.args.«record».numbers.now c.args.«record».lengths.now c.args.«record».bodies.now c.args.policy c.args.reject.now c.args.outbound.now c.args.queue.now c.requires), omega (arith, c.body_bytes-n.ensures, (beginning c.args.«record».reliable c.args.«record».numbers.now c.args.«record».lengths.now c.args.«record».bodies.now c.args.policy c.args.reject.now c.args.outbound.now c.args.queue.now c.requires).fitting.small, c.requires.outbound))

pub returns : goal.returns
returns c = starts_in c.args.«record».reliable c.args.«record».numbers.now c.args.«record».lengths.now c.args.«record».bodies.now c.args.policy c.args.reject.now c.args.outbound.now c.args.queue.now c.requires _ _ c.begin.ensures _ c.body_bytes-n.ensures _ _ c.fill.ensures c.clear.ensures c.done.ensures
