-- A call that hands on what another call decided. Assumes nothing.
use Rattle.std.proofs.Common.{Some, None, Ok, Err, Option}
use Rattle.denials.specs.Checks.{Decided}

-- a denial handed on, with what else is known then
pub denied : {X Y E D : Type 0} (tells : E → D) (o : Option D) (e : E) (P : X → Type 0) (Q : Type 0) (P' : Y → Type 0) (Q' : Type 0) → Decided tells o (Err e) P Q → Q' → Decided tells o (Err e) P' Q'
denied tells (Some d) e P Q P' Q' h q = (h.0, q)
denied tells None e P Q P' Q' h q = absurd h

-- an accepted call, with what else is known then
pub accepted : {X Y E D : Type 0} (tells : E → D) (o : Option D) (x : X) (y : Y) (P : X → Type 0) (Q : Type 0) (P' : Y → Type 0) (Q' : Type 0) → Decided tells o (Ok x) P Q → P' y → Decided tells o (Ok y) P' Q'
accepted tells (Some d) x y P Q P' Q' h p = absurd h
accepted tells None x y P Q P' Q' h p = p

-- what an accepted call promises
pub promised : {X E D : Type 0} (tells : E → D) (o : Option D) (x : X) (P : X → Type 0) (Q : Type 0) → Decided tells o (Ok x) P Q → P x
promised tells (Some d) x P Q h = absurd h
promised tells None x P Q h = h
