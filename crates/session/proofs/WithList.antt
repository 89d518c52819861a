-- A call that takes the event list and no other buffer meets its promise, from the tests that it made. Assumes nothing.
use mathlib.Core.Path.{◌≡◌, ap, ◌∙◌}
use mathlib.Core.Bool.{Bool, true, false}
use mathlib.Core.List.{List, []}
use Prim.Native.Nat.{ℕ, ◌≤◌, ◌<◌}
use native.Mathlib.Nat.{zero-add}
use lib.ListN.{length}
use Rattle.rules.specs.declared.Answer.{Answer}
use Rattle.rules.specs.declared.Answer.TheVariants.{Refused}
use Rattle.rules.specs.declared.Refusal.{Refusal}
use Rattle.rules.specs.Lists.{Bytes}
use Rattle.rules.specs.Events.{Event}
use Rattle.rules.specs.Progress.{outcome}
use Rattle.rules.specs.Calls.{Call, step}
use Rattle.rules.specs.Buffers.{Takes, takes, taken_by, short, wrong_code, where_taken}
use Rattle.events.specs.Written.{ListedIn}
use Rattle.events.proofs.Laws.{listed-none}
use Rattle.outbox.specs.View.{unacked_of}
use Rattle.peer_session.specs.declared.SessionState.{SessionState}
use Rattle.peer_session.specs.View.{state_of, Exact}
use Rattle.peer_session.specs.Sound.{sound_of, Full}
use Rattle.peer_session.proofs.View.{exact-held}
use Rattle.session.specs.declared.Returned.{Returned}
use Rattle.session.specs.Promise.{lent, CalledWithList, Turned}
use Rattle.session.proofs.Promises.{list_written}
use Rattle.session.proofs.Lengths.{long-enough, not_taken}
use Rattle.session.proofs.Entry.{Entered, entered, turned, meets}

-- what the rule book says of the call, with these stores: session r is left, answer a given, and n events listed
pub record FollowsWithList (c : Call) (s : SessionState) (l : List ℕ) (r : SessionState) (a : Answer) (n : ℕ) (l' : List ℕ) (o q : Bytes) : Type 0 where
  pub events : List Event
  pub does : step c (state_of s o q) ≡ outcome (state_of r o q) a events
  pub exact : Exact r (length o) (length q)
  pub listed : ListedIn (unacked_of r.outbox o) events l 0 l' n

-- the same of every pair of stores that is long enough
abbrev pub Keeps : Call → SessionState → List ℕ → SessionState → Answer → ℕ → List ℕ → Type 0
Keeps c s l r a n l' = (o q : Bytes) → Entered s o q → 65536 ≤ length o → FollowsWithList c s l r a n l' o q

where_true : (b : Bool) (x y z : List ℕ) → b ≡ true → x ≡ y → x ≡ where_taken b y z
where_true b x y z e f = rw e f

where_false : (b : Bool) (x y : List ℕ) → b ≡ false → x ≡ where_taken b y x
where_false b x y e = rw e

module _ (c : Call) (is : taken_by c ≡ takes true false false false) (s : SessionState) (l : List ℕ) (ll : 4096 ≤ length l) where
  long : (d o q : Bytes) → short (taken_by c) (lent l d o q) ≡ false
  long d o q =
      rw is (long-enough (takes true false false false) (lent l d o q) (λ e. ll) not_taken not_taken not_taken)

  module _ (known : wrong_code c ≡ false) (sound : sound_of s ≡ true) (full : Full s) where
    -- the rule book's outcome; no store is touched
    pub list_meets : (r : SessionState) (a : Answer) (n : ℕ) (l' : List ℕ) → Keeps c s l r a n l'
        → CalledWithList c s l (record { session = r; answer = a; events = n }) l'
    list_meets r a n l' f d o q lo lq =
        let w : FollowsWithList c s l r a n l' o q = f o q (entered s o q sound full lo lq) lo in
        meets c s (lent l d o q) (long d o q) known {r = r} sound
        (record {
          left = state_of r o q;
          events = w.events;
          does = w.does;
          session = exact-held r o q w.exact;
          count = w.listed.count ∙ zero-add (length w.events);
          list = where_true (taken_by c).list l' _ l (ap (λ (x : Takes). x.list) is) (list_written w.listed);
          delivery = where_false (taken_by c).delivery d _ (ap (λ (x : Takes). x.delivery) is);
          outbound = where_false (taken_by c).outbound o _ (ap (λ (x : Takes). x.outbound) is);
          queue = where_false (taken_by c).queue q _ (ap (λ (x : Takes). x.queue) is);
        })

    -- an answer that changes nothing and lists nothing
    pub list-answers : (a : Answer) → ((o q : Bytes) → 65536 ≤ length o → step c (state_of s o q) ≡ outcome (state_of s o q) a [])
        → CalledWithList c s l (record { session = s; answer = a; events = 0 }) l
    list-answers a f = list_meets s a 0 l (λ o q i lo. record { events = []; does = f o q lo; exact = i.good.exact; listed = listed-none l 0 })

    -- a refusal by the rule book
    pub list_refused : (x : Refusal) {r : Returned} → Turned s x r
        → ((o q : Bytes) → 65536 ≤ length o → step c (state_of s o q) ≡ outcome (state_of s o q) (Refused x) []) → CalledWithList c s l r l
    list_refused x t f d o q lo lq = turned c s (lent l d o q) t (list-answers (Refused x) f d o q lo lq)
