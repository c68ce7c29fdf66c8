-- Facts on the value of an `Option`, if there is one.
use Rattle.std.proofs.Common.{Option, Some, None, IfSome}

pub if_some_more : {X : Type 0} {P Q : X → Type 0} (o : Option X) → ((x : X) → P x → Q x) → IfSome o P → IfSome o Q
if_some_more None more h = tt
if_some_more (Some x) more h = more x h

pub if_some_both : {X : Type 0} {P Q S : X → Type 0} (o : Option X) → ((x : X) → P x → Q x → S x) → IfSome o P → IfSome o Q → IfSome o S
if_some_both None more h k = tt
if_some_both (Some x) more h k = more x h k
