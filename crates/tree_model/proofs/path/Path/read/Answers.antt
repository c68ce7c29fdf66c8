-- A text has a piece, so a path that is read has a name.
use Rattle.std.proofs.Common.{◌≡◌, ◌≢◌, ◌∙◌, [], List, ℕ, Option, Some, None, IfSome, map, sym, ap}
use Rattle.std.proofs.lemmas.Result.{IfOk-weaker}
use Rattle.tree_model.specs.Path.{PathV, good_path, path_of}
use Rattle.tree_model.proofs.PathReadingLemmas.{path_of-some}
use Rattle.tree_model.proofs.path.Path.read.Goals as goal

some_named : (text : List ℕ) (told : Option PathV) → told ≡ path_of text → IfSome told (λ path. path ≢ [])
some_named text None is = tt
some_named text (Some path) is = path_of-some text path (sym is)

pub returns-clause-proper : goal.returns-clause-proper
returns-clause-proper c =
    IfOk-weaker c.good_path.result (λ told. told ≡ good_path (map (λ name. name.now) c.as_slice.result.now)) (λ told. IfSome told (λ path. path ≢ []))
    (λ told is. some_named c.args.text.now told (is ∙ ap (λ names. good_path (map (λ name. name.now) names)) c.as_slice.ensures.value ∙ ap good_path c.in_ok-names.ensures.value))
    c.good_path.ensures.value
