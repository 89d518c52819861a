-- "A refusal returns its number, lists nothing and changes nothing, except": by which refusals a call does more than that. Assumes nothing.
use Rattle.std.specs.Prelude.{ℕ, true, false, List, [], ◌∷◌}
use Rattle.rules.specs.Calls.{Call, sends, gets_data, gets_ack, gets_keepalive, is_ready, accepts, rejects, prepares_channel, commands, prepares, completes, connects, reports, fetches, retires, restores}

-- "data refused by 4, 5, 9, 21, 24, 25 and acks by 7 empty the queue, set failed in Channel mode, and list code 7 last ..; a restoring command
-- refused by 21, 23 or 32 to 36 leaves setup started; a restore refused by 31 has taken the state record but not the handoff". A consumer ready
-- whose drain meets 9 or 21 "returns no refusal"
abbrev pub excepted : Call → List ℕ
excepted (gets_data status f) = 4 ∷ 5 ∷ 9 ∷ 21 ∷ 24 ∷ 25 ∷ []
excepted (gets_ack n) = 7 ∷ []
excepted (commands true c) = 21 ∷ 23 ∷ 32 ∷ 33 ∷ 34 ∷ 35 ∷ 36 ∷ []
excepted (restores r h) = 31 ∷ []
excepted (sends b) = []
excepted gets_keepalive = []
excepted (is_ready status mode) = []
excepted (accepts terms b) = []
excepted rejects = []
excepted (prepares_channel terms) = []
excepted (commands false c) = []
excepted prepares = []
excepted (completes c persisted) = []
excepted (connects event now forced) = []
excepted (reports what n accepted) = []
excepted (fetches n) = []
excepted (retires retain) = []
