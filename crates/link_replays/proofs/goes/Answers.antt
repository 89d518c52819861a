-- `link_replays::goes` meets its contract, answer by answer. Assumes nothing.
use mathlib.Core.Path.{sym, ◌∙◌}
use Rattle.link_replays.proofs.Connects.{noted, may_replay, nothing-unacked, kept_back, replayed}
use Rattle.link_replays.proofs.goes.Goals as goal

pub returns-then-not-resends : goal.returns-then-not-resends
returns-then-not-resends c = noted c.args.words.now c.args.halves.now c.args.bytes.now c.args.clock.now c.args.list.now c.args.event c.args.time c.args.force c.requires (sym c.resends.ensures ∙ c.if-not-resends.true) c.flag.ensures

pub returns-then-words-eq0 : goal.returns-then-words-eq0
returns-then-words-eq0 c = nothing-unacked c.args.words.now c.args.halves.now c.args.bytes.now c.args.clock.now c.args.list.now c.args.event c.args.time c.args.force c.requires (sym c.resends.ensures ∙ c.if-not-resends.false) c.if-words-eq0.true c.flag-then-words-eq0.ensures

pub returns-then-too_soon : goal.returns-then-too_soon
returns-then-too_soon c = kept_back c.args.words.now c.args.halves.now c.args.bytes.now c.args.clock.now c.args.list.now c.args.event c.args.time c.args.force c.requires (sym c.resends.ensures ∙ c.if-not-resends.false) c.if-words-eq0.false (sym c.too_soon.ensures ∙ c.if-too_soon.true) c.flag-then-too_soon.ensures

pub replay-n-requires : goal.replay-n-requires
replay-n-requires c = may_replay c.args.words.now c.args.halves.now c.args.bytes.now c.args.clock.now c.args.list.now c.args.event c.args.time c.args.force c.requires

pub returns : goal.returns
returns c = replayed c.args.words.now c.args.halves.now c.args.bytes.now c.args.clock.now c.args.list.now c.args.event c.args.time c.args.force c.requires (sym c.resends.ensures ∙ c.if-not-resends.false) c.if-words-eq0.false (sym c.too_soon.ensures ∙ c.if-too_soon.false) c.replay-n.new.list c.replay-n.result c.replay-n.ensures c.flag-2.ensures
