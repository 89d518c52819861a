use Rattle.scripts.proofs.fields.Fields.next_field.Goals as goal

-- kept, though the check finds it: with it the edit first_field_alone is refused by what differs, and not by a search that gave up
pub returns-clause-field : goal.returns-clause-field
returns-clause-field c = c.in_ok-field.ensures
