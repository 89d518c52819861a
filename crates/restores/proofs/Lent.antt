-- What a restore promises of a handoff whose body lies in a lent buffer is what it promises of it as C gives it, so as the laws and demand 3 have it.
-- Assumes nothing.
use Rattle.std.specs.Prelude as Prelude
use Rattle.std.specs.Prelude.{Some, None}
use mathlib.Core.List.{List}
use Prim.Native.Nat.{ℕ}
use Rattle.rules.specs.Lists.{Bytes}
use Rattle.peer_session.specs.declared.SessionState.{SessionState}
use Rattle.session.specs.declared.Returned.{Returned}
use Rattle.starts.specs.declared.Reliable.{Reliable}
use Rattle.restores.specs.declared.Given.{Given}
use Rattle.restores.specs.Restored.{given_if, as_given, body_given, RestoredBy, Restored}

pub and-as-given : (given : Prelude.Option Given) (x : Reliable) (ns ks : List ℕ) (b : Bytes) (s : SessionState) (o : Bytes) (y : Returned) (o' : Bytes)
    → RestoredBy x ns ks b (given_if given) s o y o'
    → RestoredBy x ns ks b (given_if given) s o y o' × Restored x ns ks b (as_given given) (body_given given) s o y o'
and-as-given None x ns ks b s o y o' p = (p, p)
and-as-given (Some h) x ns ks b s o y o' p = (p, p)
