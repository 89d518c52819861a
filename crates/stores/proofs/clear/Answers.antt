use Prim.Native.Nat.{◌-◌}
use native.Mathlib.Omega.{arith}
use mathlib.Core.Path.{◌≡◌, sym, ap, ◌∙◌}
use lib.ListN.{length, take, drop, replicate, length-replicate, length-take, length-drop}
use Rattle.stores.proofs.Laws.{put_mid-placed}
use Rattle.stores.proofs.clear.Goals as goal

pub returns : goal.returns
returns c =
    let size : length (take (c.args.e - c.args.a) (drop c.args.a c.args.store.now)) ≡ c.args.e - c.args.a = simp (length-take, length-drop) (omega arith) in
    let zeros : c.fill.new.self ≡ replicate (c.args.e - c.args.a) 0 = c.fill.ensures.after (λ y h. h) ∙ ap (λ k. replicate k 0) size in
    rw zeros (put_mid-placed _ _ _ _ (sym (length-replicate (c.args.e - c.args.a) 0)))
