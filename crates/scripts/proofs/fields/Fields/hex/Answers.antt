use Rattle.text.proofs.After.{filling_none, filling_read}
use Rattle.scripts.proofs.fields.Fields.hex.Goals as goal

pub returns-in_err-next_field-clause-read : goal.returns-in_err-next_field-clause-read
returns-in_err-next_field-clause-read c = rw c.from_residual.ensures (filling_none _ _ _ c.in_err-next_field.ensures.field)

pub returns-clause-read : goal.returns-clause-read
returns-clause-read c = filling_read c.in_ok-next_field.ensures.field _ c.hex.ensures
