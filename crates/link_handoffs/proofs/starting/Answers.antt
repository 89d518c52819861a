use Rattle.link_handoffs.proofs.starting.Goals as goal

-- kept, though the check finds it: with it the edit restoring_retires is refused by what is staged
pub returns : goal.returns
returns c = record { starts = λ e. c.stage.ensures; halves = λ e. cc; bytes = λ e. cc }
