-- What holds of an answer holds in other words.
use Rattle.std.proofs.Common.{Result, Ok, Err, IfOk, IfErr}

pub IfOk-map : {T E : Type 0} {P Q : T → Type 0} → ((t : T) → P t → Q t) → (r : Result T E) → IfOk r P → IfOk r Q
IfOk-map f (Ok t) h = f t h
IfOk-map f (Err e) h = tt

pub IfErr-map : {T E : Type 0} {P Q : E → Type 0} → ((e : E) → P e → Q e) → (r : Result T E) → IfErr r P → IfErr r Q
IfErr-map f (Ok t) h = tt
IfErr-map f (Err e) h = f e h
