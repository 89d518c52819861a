-- The number of an answer's kind, as Codes.antt gives them. Assumes nothing.
use Rattle.std.specs.Prelude.{ℕ}
use Rattle.parts.specs.declared.AnswerKind.{AnswerKind}
use Rattle.parts.specs.declared.AnswerKind.TheVariants.{Done, Number, Flag, Prepared, Held, NotHeld, Refused}

abbrev pub kind_number : AnswerKind → ℕ
kind_number Done = 0
kind_number Number = 1
kind_number Flag = 2
kind_number Prepared = 3
kind_number Held = 4
kind_number NotHeld = 5
kind_number Refused = 6
