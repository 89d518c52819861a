use Rattle.text.specs.Numbers.{decimal_of}
use Rattle.text.proofs.After.{after_none, after_read}
use Rattle.scripts.proofs.fields.Fields.decimal.Goals as goal

pub returns-in_err-next_field-clause-read : goal.returns-in_err-next_field-clause-read
returns-in_err-next_field-clause-read c = rw c.from_residual.ensures (after_none decimal_of _ _ c.in_err-next_field.ensures.field)

pub returns-clause-read : goal.returns-clause-read
returns-clause-read c = after_read c.in_ok-next_field.ensures.field decimal_of _ c.decimal.ensures
