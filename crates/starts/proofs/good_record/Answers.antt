use Rattle.starts.proofs.Checks.{number-none, number_high, remote_high, by_messages}
use Rattle.starts.proofs.good_record.Goals as goal

pub returns-then-next-lt1 : goal.returns-then-next-lt1
returns-then-next-lt1 c = number-none _ _ _ c.if-next-lt1.true

pub returns-then-next-gt-MESSAGES_END : goal.returns-then-next-gt-MESSAGES_END
returns-then-next-gt-MESSAGES_END c = number_high _ _ _ c.if-next-lt1.false c.if-next-gt-MESSAGES_END.true

pub returns-then-record-gt-LAST_REMOTE : goal.returns-then-record-gt-LAST_REMOTE
returns-then-record-gt-LAST_REMOTE c = remote_high _ _ _ c.if-next-lt1.false c.if-next-gt-MESSAGES_END.false c.if-record-gt-LAST_REMOTE.true

pub returns : goal.returns
returns c = by_messages _ _ _ c.if-next-lt1.false c.if-next-gt-MESSAGES_END.false c.if-record-gt-LAST_REMOTE.false c.good_messages.ensures
