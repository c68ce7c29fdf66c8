use Rattle.std.proofs.Common.{◌≡◌, ◌<◌, ◌&&◌, ℕ, zero, suc, Bool, true, false, if◌then◌else◌, List, [], ◌∷◌, get_or, length, map, refl, sym, ap, Some, None, Err, Bor, arith}
use Rattle.std.specs.List.{list_all}
use Rattle.std.specs.Option.{is_none}
use Rattle.tree_model.specs.Name.{name_fault}
use Rattle.tree_model.proofs.path.good_path.Goals as goal

abbrev is_good : List ℕ → Bool
is_good name = is_none (name_fault name)

bad_name : (names : List (Bor (List ℕ))) (k : ℕ) (d : Bor (List ℕ)) → k < length names → is_good (get_or names k d).now ≡ false
    → list_all is_good (map (λ name. name.now) names) ≡ false
bad_name [] k d below bad = absurd (omega arith)
bad_name (name ∷ names) zero d below bad = ap (λ b. b && list_all is_good (map (λ name. name.now) names)) bad
bad_name (name ∷ names) (suc k) d below bad = behind (is_good name.now) (bad_name names k d (omega arith) bad)
  where
    behind : (b : Bool) → list_all is_good (map (λ name. name.now) names) ≡ false → (b && list_all is_good (map (λ name. name.now) names)) ≡ false
    behind true e = e
    behind false e = refl

pub returns-in-Err-Bad : goal.returns-in-Err-Bad
returns-in-Err-Bad c =
    let fault = (c.in-Err-Bad.ensures.bad c.in-Err-Bad.field-0-0).0 (ap Err c.in-Err-Bad.field-0-is) in
    let bad = bad_name c.args.names.now c.loop-name.name-index _ c.loop-name-test.true (ap is_none fault) in
    record { value = sym (ap (λ b. if b then Some (map (λ (name : Bor (List ℕ)). name.now) c.args.names.now) else None) bad) }
