use mathlib.Core.Path.{◌≡◌, sym, ◌∙◌}
use mathlib.Core.Bool.{true, false}
use Rattle.text.specs.Hex.{is_dash, is_pairs}
use Rattle.text.proofs.Pairs.{halves, digits, decoded_dash, decoded_wrong, decoded_long, decoded_pairs}
use Rattle.text.proofs.hex.Goals as goal

pub returns-then-is_dash : goal.returns-then-is_dash
returns-then-is_dash c = decoded_dash _ _ (sym c.is_dash.ensures ∙ c.if-is_dash.true)

pub returns-then-not-is_pairs : goal.returns-then-not-is_pairs
returns-then-not-is_pairs c = let no-dash : is_dash c.args.s.now ≡ false = sym c.is_dash.ensures ∙ c.if-is_dash.false in decoded_wrong _ _ (no-dash) (sym c.is_pairs.ensures ∙ c.if-not-is_pairs.true)

pub returns-then-out-n : goal.returns-then-out-n
returns-then-out-n c = let has-pairs : is_pairs c.args.s.now ≡ true = sym c.is_pairs.ensures ∙ c.if-not-is_pairs.false in let no-dash : is_dash c.args.s.now ≡ false = sym c.is_dash.ensures ∙ c.if-is_dash.false in decoded_long _ _ (no-dash) (has-pairs) c.if-out-n.true

pub write_pairs-requires : goal.write_pairs-requires
write_pairs-requires c = let has-pairs : is_pairs c.args.s.now ≡ true = sym c.is_pairs.ensures ∙ c.if-not-is_pairs.false in (halves _ (has-pairs), c.if-out-n.false, digits _ (has-pairs))

pub returns : goal.returns
returns c = let has-pairs : is_pairs c.args.s.now ≡ true = sym c.is_pairs.ensures ∙ c.if-not-is_pairs.false in let no-dash : is_dash c.args.s.now ≡ false = sym c.is_dash.ensures ∙ c.if-is_dash.false in decoded_pairs _ _ (no-dash) (has-pairs) _ c.if-out-n.false c.write_pairs.ensures
