use mathlib.Core.Path.{sym, ◌∙◌}
use Rattle.starts.proofs.Checks.{too_many, unordered, by_size}
use Rattle.starts.proofs.good_messages.Goals as goal

pub returns-then-count-gt-MAX_UNACKED : goal.returns-then-count-gt-MAX_UNACKED
returns-then-count-gt-MAX_UNACKED c = too_many _ _ _ c.if-count-gt-MAX_UNACKED.true

pub returns-then-not-rise_below : goal.returns-then-not-rise_below
returns-then-not-rise_below c = unordered _ _ _ (sym c.rise_below.ensures ∙ c.if-not-rise_below.true)

pub returns : goal.returns
returns c = by_size _ _ _ c.if-count-gt-MAX_UNACKED.false (sym c.rise_below.ensures ∙ c.if-not-rise_below.false) c.fits.ensures
