-- Paths that name no call.
use Rattle.std.proofs.Common.{◌≡◌, ℕ, Bool, true, false, cond, if◌then◌else◌, codes, Option, None, Some, List, [], ◌∷◌, refl}
use Rattle.std.specs.Option.{option_and_then}
use Rattle.std.specs.Str.{bytes_eq}
use Rattle.http_front.specs.Route.{library_route, repo_route, top_route}
use Rattle.http_front.specs.Target.{parts}
use Rattle.http_front.specs.declared.method.Method.{Method}
use Rattle.http_front.specs.declared.route.Route.{Route}
use Rattle.http_front.proofs.TargetLemmas.{parts_first}

pub none_anyway : (b : Bool) (o : Option Route) → o ≡ None → cond b o None ≡ None
none_anyway true o e = e
none_anyway false o e = refl

-- a library alone names no call
pub library_alone : (m : Method) (o : Option (List ℕ)) → option_and_then (λ lib. library_route m lib []) o ≡ None
library_alone m None = refl
library_alone m (Some lib) = refl

-- where a slash follows, the word is `repo`
pub top_and_more : (m : Method) (word s : List ℕ) → top_route m (word ∷ parts s) ≡ (if bytes_eq word (codes "repo") then repo_route m (parts s) else None)
top_and_more m word s = let more = parts_first s in rw more.1.1

-- a word and an id are followed by nothing
pub id_and_more : (m : Method) (lib word id s : List ℕ) → library_route m lib (word ∷ id ∷ parts s) ≡ None
id_and_more m lib word id s = let more = parts_first s in rw more.1.1
