use Prim.Native.Nat.{◌<◌}
use native.Mathlib.Omega.{arith}
use mathlib.Core.Path.{◌≡◌}
use lib.ListN.{get_or}
use Rattle.numbers.proofs.Laws.{put_old, put-new, put-room, seat_within}
use Rattle.numbers.proofs.put.Goals as goal
use Rattle.numbers.proofs.put.Goals.{else-i-v-via-then-i-v+else-v-i, else-i-v-via-else-i-v}

pub returns-then-v-i : goal.returns-then-v-i
returns-then-v-i c = put_old _ _ _ c.requires.0 (omega arith) c.seat-i.ensures c.if-i-v.true c.if-v-i.true

pub put_at-requires : goal.put_at-requires
put_at-requires c =
    let new : c.seat-i.result < c.args.v.count → get_or c.args.v.values c.seat-i.result 0 ≡ c.args.n → ⊥ =
    elim c.else-i-v.branch [ else-i-v-via-then-i-v+else-v-i w ↦ λ h. w.if-v-i.false | else-i-v-via-else-i-v w ↦ λ h e. absurd (omega arith) ] in (
      seat_within _ _ _ c.requires.0 (omega arith) c.seat-i.ensures,
      put-room _ _ _ c.requires.0 (omega arith) c.seat-i.ensures new c.requires.1,
    )

pub returns : goal.returns
returns c =
    let new : c.seat-i.result < c.args.v.count → get_or c.args.v.values c.seat-i.result 0 ≡ c.args.n → ⊥ =
    elim c.else-i-v.branch [ else-i-v-via-then-i-v+else-v-i w ↦ λ h. w.if-v-i.false | else-i-v-via-else-i-v w ↦ λ h e. absurd (omega arith) ] in
    put-new _ _ _ c.requires.0 (omega arith) c.seat-i.ensures new _ c.put_at.ensures
