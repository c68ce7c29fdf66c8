-- What a whole call had for what it named, a part of it had. The key lemmas are over_first and over_later.
use Rattle.std.proofs.Common.{ℕ, List, [], ◌∷◌, ◌++◌}
use Rattle.std.specs.List.{Contains}
use Rattle.std.proofs.lemmas.List.Elements.{Contains-append_left, Contains-append_right}
use Rattle.ids.specs.Key.{Objects}
use Rattle.ids.specs.declared.key.Key.{Key}
use Rattle.tree_model.specs.Tree.{Tree}
use Rattle.block_chunker.specs.declared.cuts.Cuts.{Cuts}
use Rattle.folder_side.specs.Folder.{Contents}
use Rattle.local_index.specs.declared.index.Index.{Index}
use Rattle.sync_rules.specs.Named.{HasAll}
use Rattle.sync_rules.specs.Premises.{InSync, IsClear, Over}

pub has_first : (objects : Objects) (first later : List (Key × List ℕ)) → HasAll objects (first ++ later) → HasAll objects first
has_first objects [] later is = tt
has_first objects (had ∷ first) later is = (is.0, has_first objects first later is.1)

pub has_later : (objects : Objects) (first later : List (Key × List ℕ)) → HasAll objects (first ++ later) → HasAll objects later
has_later objects [] later is = is
has_later objects (had ∷ first) later is = has_later objects first later is.1

module _ (cuts : Cuts) (c : Contents) (base : Tree) (part whole : List (Key × List ℕ))
    (wider : (key : Key) (piece : List ℕ) → Contains part (key, piece) → Contains whole (key, piece)) where
  in_whole : (piece : List ℕ) → InSync cuts c base part piece → InSync cuts c base whole piece
  in_whole piece (InSync.in_folder path bytes at_path is) = InSync.in_folder path bytes at_path is
  in_whole piece (InSync.in_index path file at_path is) = InSync.in_index path file at_path is
  in_whole piece (InSync.in_call key is) = InSync.in_call key (wider key piece is)

  clear_part : IsClear (InSync cuts c base whole) → IsClear (InSync cuts c base part)
  clear_part clear = record {
    same = λ x y here there e. clear.same x y (in_whole x here) (in_whole y there) e;
    not_nil = λ x here. clear.not_nil x (in_whole x here);
  }

module _ (objects : Objects) (cuts : Cuts) (c : Contents) (index : Index) (base : Tree) (first later : List (Key × List ℕ)) where
  pub over_first : Over objects cuts c index base (first ++ later) → Over objects cuts c index base first
  over_first over = record {
    has_all = has_first objects first later over.has_all;
    base_is = over.base_is;
    stands = over.stands;
    knows = over.knows;
    names = over.names;
    clear = clear_part cuts c base first (first ++ later) (λ key piece is. Contains-append_left first later (key, piece) is) over.clear;
  }

  pub over_later : Over objects cuts c index base (first ++ later) → Over objects cuts c index base later
  over_later over = record {
    has_all = has_later objects first later over.has_all;
    base_is = over.base_is;
    stands = over.stands;
    knows = over.knows;
    names = over.names;
    clear = clear_part cuts c base later (first ++ later) (λ key piece is. Contains-append_right first later (key, piece) is) over.clear;
  }
