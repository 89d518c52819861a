-- The message number that an answer carries, 0 where it carries none. Assumes nothing.
use Rattle.std.specs.Prelude.{ℕ}
use Rattle.rules.specs.declared.Answer.{Answer}
use Rattle.rules.specs.declared.Answer.TheVariants.{Done, Number, Flag, Prepared, Held, NotHeld, Refused}

abbrev pub message_number : Answer → ℕ
message_number Done = 0
message_number (Number n) = n
message_number (Flag b) = 0
message_number (Prepared c) = 0
message_number (Held start len) = 0
message_number NotHeld = 0
message_number (Refused r) = 0
