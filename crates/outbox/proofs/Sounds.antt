-- Records of unacked messages that are admitted one after the other. Assumes nothing.
use mathlib.Core.Path.{◌≡◌, refl}
use mathlib.Core.Bool.{true}
use mathlib.Core.List.{List, [], ◌∷◌}
use Prim.Native.Nat.{ℕ, ◌+◌, ◌-◌, ◌≤◌, ◌<◌}
use native.Mathlib.Omega.{arith}
use lib.Dec.{ltb}
use borrow.Author.Tests.{le-leb, lt-ltb, ltb-true, leb-true}
use Rattle.std.proofs.lemmas.Bool.{and_parts}
use Rattle.stores.specs.Admitted.{admitted}
use Rattle.rules.specs.Lists.{all, total, rising}
use Rattle.rules.proofs.Lists.{and_both}
use Rattle.outbox.specs.declared.Unacked.{Unacked}
use Rattle.outbox.specs.View.{num_u, len_u}
use Rattle.outbox.specs.Sound.{admits_unacked}
use Rattle.outbox.specs.Records.{below_u}

-- ---- what admitted records have, and what makes records admitted

pub record FitsU (next last sum : ℕ) (u : Unacked) : Type 0 where
  pub above : last < u.number
  pub below : u.number < next
  pub room : u.len ≤ 65536 - sum

pub admits_facts : (next last sum : ℕ) (u : Unacked) → admits_unacked next last sum u ≡ true → FitsU next last sum u
admits_facts next last sum u e =
    let r = and_parts (ltb last u.number) _ e in
    let s = and_parts (ltb u.number next) _ r.1 in
    record { above = ltb-true _ _ r.0; below = ltb-true _ _ s.0; room = leb-true _ _ s.1 }

pub record FitU (next last sum : ℕ) (us : List Unacked) : Type 0 where
  pub order : rising num_u last us ≡ true
  pub below : all (below_u next) us ≡ true
  pub small : sum + total len_u us ≤ 65536

pub admitted_fit : (next last sum : ℕ) (us : List Unacked) → sum ≤ 65536 → admitted num_u len_u (admits_unacked next) last sum us ≡ true → FitU next last sum us
unfolding admitted rising all total
admitted_fit next last sum [] h e = record { order = refl; below = refl; small = omega arith }
admitted_fit next last sum (u ∷ us) h e =
    let t = and_parts (admits_unacked next last sum u) _ e in
    let f : FitsU next last sum u = admits_facts next last sum u t.0 in
    let r : FitU next u.number (sum + u.len) us = admitted_fit next u.number (sum + u.len) us (omega (arith, f.room)) t.1 in
    record {
      order = and_both (ltb last u.number) _ (lt-ltb _ _ f.above) r.order;
      below = and_both (ltb u.number next) _ (lt-ltb _ _ f.below) r.below;
      small = omega (arith, r.small);
    }

pub fit_admitted : (next last sum : ℕ) (us : List Unacked) → FitU next last sum us → admitted num_u len_u (admits_unacked next) last sum us ≡ true
unfolding admitted rising all total
fit_admitted next last sum [] f = refl
fit_admitted next last sum (u ∷ us) f =
    let o = and_parts (ltb last u.number) _ f.order in
    let b = and_parts (ltb u.number next) _ f.below in
    let room : u.len ≤ 65536 - sum = omega (arith, f.small) in
    let r : FitU next u.number (sum + u.len) us = record { order = o.1; below = b.1; small = omega (arith, f.small) } in
    and_both (admits_unacked next last sum u) _
    (and_both (ltb last u.number) _ o.0 (and_both (ltb u.number next) _ b.0 (le-leb _ _ room))) (fit_admitted next u.number (sum + u.len) us r)
