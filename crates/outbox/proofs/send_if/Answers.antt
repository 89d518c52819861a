use Rattle.outbox.proofs.send_if.Goals as goal

-- kept, though the check finds it: with it the edit send_without_its_length is refused by what differs, and not by a search that gave up
pub returns : goal.returns
returns c = rw (c.from.ensures, c.from-2.ensures) at c.emit_if.ensures
