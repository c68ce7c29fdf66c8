-- The items of an array, as a list.
use Rattle.std.proofs.Common.{◌≡◌, ℕ, List, [], ◌∷◌, map, ◌&&◌, ◌||◌, Bor, String, Global, string_bytes, refl, ap, ◌∙◌}
use Rattle.std.specs.List.{list_all, list_any}
use Rattle.std.specs.Str.{bytes_eq}
use Rattle.serde_json.specs.Data.{Data}
use Rattle.serde_json.specs.View.{view, items_of, items_view, members_view}
use Rattle.serde_json.specs.declared.value.Value.{Value}
use Rattle.json_words.specs.Fields.{list_of, has_only_members}

-- a list made into an array and back
pub list_of-items_of : (ds : List Data) → list_of (items_of ds) ≡ ds
list_of-items_of [] = refl
list_of-items_of (d ∷ ds) = ap (λ rest. d ∷ rest) (list_of-items_of ds)

pub list_of-items_view : (values : List Value) → list_of (items_view values) ≡ map view values
list_of-items_view values = list_of-items_of (map view values)

-- whether a name is among some
pub any_named : (key : List ℕ) (names : List (Bor (List ℕ))) → list_any (bytes_eq key) (map (λ name. name.now) names) ≡ list_any (λ name. bytes_eq key name.now) names
any_named key [] = refl
any_named key (name ∷ names) = ap (λ rest. bytes_eq key name.now || rest) (any_named key names)

-- the keys of a map decide whether its object has only known ones
pub has_only_members-keys : (names : List (Bor (List ℕ))) (es : List (String Global × Value)) → has_only_members (map (λ name. name.now) names) (members_view es) ≡ list_all (λ key. list_any (λ name. bytes_eq (string_bytes key) name.now) names) (map (λ e. e.0) es)
has_only_members-keys names [] = refl
has_only_members-keys names (e ∷ es) = ap (λ here. here && has_only_members (map (λ name. name.now) names) (members_view es)) (any_named (string_bytes e.0) names) ∙ ap (λ rest. list_any (λ name. bytes_eq (string_bytes e.0) name.now) names && rest) (has_only_members-keys names es)
