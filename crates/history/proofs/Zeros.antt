-- "Store bytes past the last body are 0", after every call of a history: each store is its bodies, packed, and then 0. Assumes nothing.
use mathlib.Core.Path.{◌≡◌, refl, sym, ap, ◌∙◌, subst}
use mathlib.Core.Bool.{Bool, true, false}
use mathlib.Core.List.{◌++◌}
use Prim.Native.Nat.{ℕ, ◌+◌, ◌-◌, ◌≤◌, max}
use native.Mathlib.Omega.{arith}
use lib.ListN.{length, drop, replicate, replicate-append-replicate}
use lib.Seq.{drop-append-add}
use Rattle.stores.proofs.Packs.{drop-replicate}
use Rattle.rules.specs.Lists.{Bytes, packed}
use Rattle.rules.specs.State.{State, body_of, frame_body}
use Rattle.rules.specs.Receiving.{joins_queue}
use Rattle.rules.specs.Start.{new}
use Rattle.rules.specs.Calls.{Call, sends, gets_data, gets_ack, gets_keepalive, is_ready, accepts, rejects, prepares_channel, commands, prepares, completes, connects, reports, fetches, retires, restores, step}
use Rattle.rules.specs.Buffers.{taken_by, where_taken, repacked, queue_end, queue_reach, outbound_after, queue_after}
use Rattle.rules.proofs.Lists.{if_rule, length-packed}
use Rattle.history.specs.Promises.{Buffers, Opening}
use Rattle.history.specs.Histories.{End, left, right, History, opening, turn, session, Legal}
use Rattle.history.proofs.Viewed.{Viewed, view, Gate, passes, is-short, is_unknown, next}
use Rattle.history.proofs.Untouched.{left-bodies, left-queue}
use Rattle.history.proofs.Meets.{opened, starts, goes}
use Rattle.history.proofs.Prefix.{fit_at}

-- these bodies, and then 0
abbrev ThenZeros : Bytes → Bytes → Type 0
ThenZeros b store = (k : ℕ) × (store ≡ b ++ replicate k 0)

abbrev BodiesThenZeros : Viewed → Type 0
BodiesThenZeros t = ThenZeros (packed body_of t.state.outbox.unacked) t.outbound × ThenZeros (packed frame_body t.state.inbox.queue) t.queue

-- ---- one call

repacked_zeros : (n : ℕ) (b c s : Bytes) → length b ≤ n → ThenZeros b s → ThenZeros c (repacked n c s)
unfolding repacked
repacked_zeros n b c s h z =
    let j : ℕ = max n (length c) in
    let i : ℕ = j - length b in
    let e : j ≡ length b + i = omega arith in
    let d : drop j s ≡ replicate (z.0 - i) 0 =
    ap (drop j) z.1 ∙ ap (λ m. drop m (b ++ replicate z.0 0)) e ∙ drop-append-add b (replicate z.0 0) i ∙ drop-replicate i z.0 0 in
    (n - length c + (z.0 - i), ap (λ r. c ++ r) (ap (λ r. replicate (n - length c) 0 ++ r) d ∙ replicate-append-replicate (n - length c) (z.0 - i) 0))

reaches : (c : Call) (s : State) → queue_end s ≤ queue_reach c s
unfolding queue_reach
reaches (sends b) s = omega arith
reaches (gets_data status f) s = if_rule (λ (n : ℕ). queue_end s ≤ n) (joins_queue status f s) _ _ (λ e. omega arith) (λ e. omega arith)
reaches (gets_ack n) s = omega arith
reaches gets_keepalive s = omega arith
reaches (is_ready status mode) s = omega arith
reaches (accepts terms b) s = omega arith
reaches rejects s = omega arith
reaches (prepares_channel terms) s = omega arith
reaches (commands restoring c) s = omega arith
reaches prepares s = omega arith
reaches (completes c persisted) s = omega arith
reaches (connects event now forced) s = omega arith
reaches (reports what n accepted) s = omega arith
reaches (fetches n) s = omega arith
reaches (retires retain) s = omega arith
reaches (restores r h) s = omega arith

outbound_zeros : (c : Call) (s : State) (o : Bytes) → ThenZeros (packed body_of s.outbox.unacked) o → (b : Bool) → (taken_by c).outbound ≡ b
    → ThenZeros (packed body_of (step c s).state.outbox.unacked) (where_taken b (outbound_after c s o) o)
unfolding outbound_after
outbound_zeros c s o z true e = repacked_zeros _ (packed body_of s.outbox.unacked) _ o (omega (arith, length-packed body_of s.outbox.unacked)) z
outbound_zeros c s o z false e = (z.0, z.1 ∙ ap (λ b. b ++ replicate z.0 0) (sym (left-bodies c s e)))

queue_zeros : (c : Call) (s : State) (q : Bytes) → ThenZeros (packed frame_body s.inbox.queue) q → (b : Bool) → (taken_by c).queue ≡ b
    → ThenZeros (packed frame_body (step c s).state.inbox.queue) (where_taken b (queue_after c s q) q)
unfolding queue_after
queue_zeros c s q z true e = repacked_zeros _ (packed frame_body s.inbox.queue) _ q (omega (arith, length-packed frame_body s.inbox.queue, reaches c s)) z
queue_zeros c s q z false e = (z.0, z.1 ∙ ap (λ fs. packed frame_body fs ++ replicate z.0 0) (sym (left-queue c s e)))

zeros_next : (v : Gate) (l : Buffers) (c : Call) (t : Viewed) → BodiesThenZeros t → BodiesThenZeros (next v l c t)
zeros_next passes l c t z = (outbound_zeros c t.state t.outbound z.0 (taken_by c).outbound refl, queue_zeros c t.state t.queue z.1 (taken_by c).queue refl)
zeros_next is-short l c t z = z
zeros_next is_unknown l c t z = z

zeros_opened : (a : Opening) → BodiesThenZeros (opened a)
unfolding new packed
zeros_opened a = ((length a.outbound - 0, refl), (length a.queue - 0, refl))

-- ---- every call of a history

pub past_the_last_body : (h : History) → Legal h → (e : End) → BodiesThenZeros (view (session h e))
past_the_last_body (opening a b x y) g left = subst BodiesThenZeros (sym (starts a x g.0).is) (zeros_opened a)
past_the_last_body (opening a b x y) g right = subst BodiesThenZeros (sym (starts b y g.1).is) (zeros_opened b)
past_the_last_body (turn h left l c z) g left =
    let r = goes l c (session h left) z (fit_at h g.0 left).whole g.1 in
    subst BodiesThenZeros (sym r.leaves) (zeros_next r.gate l c (view (session h left)) (past_the_last_body h g.0 left))
past_the_last_body (turn h left l c z) g right = past_the_last_body h g.0 right
past_the_last_body (turn h right l c z) g left = past_the_last_body h g.0 left
past_the_last_body (turn h right l c z) g right =
    let r = goes l c (session h right) z (fit_at h g.0 right).whole g.1 in
    subst BodiesThenZeros (sym r.leaves) (zeros_next r.gate l c (view (session h right)) (past_the_last_body h g.0 right))
