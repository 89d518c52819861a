use Rattle.fetches.proofs.Finds.{fetched_by}
use Rattle.fetches.proofs.fetch.Goals as goal

-- kept, though the check finds them: with them the edits no_bytes_of_a_body and all_where_none_is_held are refused by what is handed out, and not by a
-- search that gave up
pub returns-in-Some : goal.returns-in-Some
returns-in-Some c = fetched_by c.args.number c.args.s c.args.outbound.now c.in-Some.ensures

pub returns-in-None : goal.returns-in-None
returns-in-None c = fetched_by c.args.number c.args.s c.args.outbound.now c.in-None.ensures
