use Rattle.text.proofs.Fields.{field_part}
use Rattle.text.proofs.next_field.Goals as goal

pub returns : goal.returns
returns c = record { some = c.if-s-end.false; field = field_part _ _ _ c.find-e.ensures; place = c.find-e.ensures.place }
