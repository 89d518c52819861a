-- What a call lists stands in the event list after it: `read_words` gives `Shown.events` back. For the contracts of compiled calls.
-- Assumes nothing.
use mathlib.Core.Path.{◌≡◌, refl, sym, ap, ◌∙◌}
use mathlib.Core.Bool.{Bool, true, false, not, true≢false}
use mathlib.Core.List.{List, [], ◌∷◌, ◌++◌}
use Prim.Native.Nat.{ℕ, suc, ◌+◌}
use native.Mathlib.Omega.{arith}
use lib.ListN.{length, drop}
use Rattle.rules.specs.declared.Setup.{Setup}
use Rattle.rules.specs.declared.Setup.TheVariants.{None, Waiting, Started, Retired}
use Rattle.rules.specs.declared.Terms.{Terms}
use Rattle.rules.specs.declared.Answer.TheVariants.{Done}
use Rattle.rules.specs.Lists.{Bytes}
use Rattle.rules.specs.State.{Unacked, State}
use Rattle.rules.specs.Clock.{at_limit}
use Rattle.rules.specs.Events.{Event, Words, handed, listed}
use Rattle.rules.specs.Progress.{◌then◌, Outcome, answers}
use Rattle.rules.specs.Sending.{exhausted, no_room, allocate}
use Rattle.rules.specs.Setup.{is_none, waiting_with, not_first, accept, prepare_in, prepare_channel}
use Rattle.rules.specs.Commits.{prepare_commit}
use Rattle.rules.specs.Replay.{fetch}
use Rattle.rules.specs.Calls.{Call, sends, gets_data, gets_ack, gets_keepalive, is_ready, accepts, rejects, prepares_channel, commands, prepares, completes, connects, reports, fetches, retires, restores, step}
use Rattle.rules.specs.Buffers.{taken_by, flat, over, where_taken, list_after}
use Rattle.rules.proofs.Lists.{if_rule}
use Rattle.history.specs.Shown.{read_words}
use Rattle.history.specs.Promises.{Buffers}
use Rattle.rules.proofs.RawCalls.{refuses_rule}
use Rattle.rules.proofs.RawOthers.{retire_silent, restore_silent}
use Rattle.history.proofs.Viewed.{Viewed, Gate, passes, is-short, is_unknown, outcome_of, left_of, lent-to, shown}

pub read_flat : (ws : List Words) (rest : List ℕ) → read_words (length ws) (flat ws ++ rest) ≡ ws
unfolding read_words flat
read_flat [] rest = refl
read_flat (w ∷ ws) rest = ap (λ z. w ∷ z) (read_flat ws rest)

pub length-listed : (us : List Unacked) (at : ℕ) (es : List Event) → length (listed us at es) ≡ length es
unfolding listed
length-listed us at [] = refl
length-listed us at (e ∷ es) = ap suc (length-listed us (at + length (handed e)) es)

-- ---- calls that are lent no list, list nothing

abbrev Unlisted : Outcome → Type 0
Unlisted o = o.events ≡ []

accept_unlisted : (terms : Terms) (b : Bytes) (s : State) → Unlisted (accept terms b s)
unfolding accept allocate
accept_unlisted terms b s =
    refuses_rule Unlisted s _ (at_limit s) _ (λ e. refl) λ e.
    refuses_rule Unlisted s _ (not (is_none s.stage.setup)) _ (λ e. refl) λ e.
    refuses_rule Unlisted s _ (not_first terms s) _ (λ e. refl) λ e.
    if_rule (λ p. Unlisted (answers Done (p then waiting_with terms))) terms.initiator _ _
    (λ e. if_rule (λ p. Unlisted (answers Done (p then waiting_with terms))) (exhausted s) _ _ (λ e. refl) λ e.
    if_rule (λ p. Unlisted (answers Done (p then waiting_with terms))) (no_room b s) _ _ (λ e. refl) (λ e. refl))
    (λ e. refl)

channel_unlisted : (x : Setup) (terms : Terms) (s : State) → Unlisted (prepare_in x terms s)
channel_unlisted None terms s = refl
channel_unlisted (Waiting t) terms s = refl
channel_unlisted Started terms s = refl
channel_unlisted Retired terms s = refl

unlisted : (c : Call) (s : State) → (taken_by c).list ≡ false → Unlisted (step c s)
unfolding taken_by step prepare_channel prepare_commit fetch
unlisted (sends b) s e = absurd (true≢false e)
unlisted (gets_data status f) s e = absurd (true≢false e)
unlisted (gets_ack n) s e = absurd (true≢false e)
unlisted gets_keepalive s e = absurd (true≢false e)
unlisted (is_ready status mode) s e = absurd (true≢false e)
unlisted (accepts terms b) s e = accept_unlisted terms b s
unlisted rejects s e = absurd (true≢false e)
unlisted (prepares_channel terms) s e = channel_unlisted s.stage.setup terms s
unlisted (commands restoring c) s e = absurd (true≢false e)
unlisted prepares s e = refl
unlisted (completes c persisted) s e = absurd (true≢false e)
unlisted (connects event now forced) s e = absurd (true≢false e)
unlisted (reports what n accepted) s e = absurd (true≢false e)
unlisted (fetches n) s e = refl
unlisted (retires retain) s e = (retire_silent retain s).0
unlisted (restores r h) s e = (restore_silent r h s).0

none_read : (us : List Unacked) (es : List Event) (ws : List ℕ) → es ≡ [] → read_words (length es) ws ≡ listed us 0 es
unfolding read_words listed
none_read us [] ws e = refl
none_read us (x ∷ es) ws e = absurd (let z : ◌≡◌ {A = ℕ} 0 1 = cc in omega arith)

none_yet : (us : List Unacked) (ws : List ℕ) → read_words 0 ws ≡ listed us 0 []
none_yet us ws = none_read us [] ws refl

-- ---- the list after a call, read as far as its count

list_after_read : (c : Call) (s : State) (l : List ℕ) (b : Bool) → (taken_by c).list ≡ b
    → read_words (length (step c s).events) (where_taken b (list_after (step c s) l) l) ≡ listed (step c s).state.outbox.unacked 0 (step c s).events
unfolding list_after
list_after_read c s l true e =
    let us : List Unacked = (step c s).state.outbox.unacked in
    let es : List Event = (step c s).events in
    ap (λ n. read_words n (over (flat (listed us 0 es)) l)) (sym (length-listed us 0 es)) ∙ read_flat (listed us 0 es) (drop (length (flat (listed us 0 es))) l)
list_after_read c s l false e = none_read (step c s).state.outbox.unacked (step c s).events l (unlisted c s e)

pub list_read : (v : Gate) (l : Buffers) (c : Call) (t : Viewed) → read_words (length (outcome_of v c t.state).events) (left_of v (lent-to l t) c t.state).list ≡ (shown v l c t).events
list_read passes l c t = list_after_read c t.state l.list (taken_by c).list refl
list_read is-short l c t = none_yet t.state.outbox.unacked l.list
list_read is_unknown l c t = none_yet t.state.outbox.unacked l.list
