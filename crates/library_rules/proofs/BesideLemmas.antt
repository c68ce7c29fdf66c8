-- What a call is due, and what is permitted, doesn't look at the collection that runs. The key lemmas are due_beside and
-- permits_beside.
use Rattle.std.proofs.Common.{◌≡◌, ◌⊎◌, inl, inr, ℕ, zero, suc, ◌+◌, Bool, List, [], ◌∷◌, refl, ap, ◌∙◌, Option, None, Some, if◌then◌else◌, Result, Ok, Err}
use Rattle.std.specs.List.{AllByRecursion}
use Rattle.commit_objects.specs.declared.commit.Commit.{Commit}
use Rattle.library_state.specs.declared.call.Act.{Act}
use Rattle.library_state.specs.declared.call.Act.TheVariants as act
use Rattle.library_state.specs.declared.call.Call.{Call}
use Rattle.library_state.specs.declared.refusal.Refusal.{Refusal}
use Rattle.library_state.specs.declared.refusal.Refusal.TheVariants as refusal
use Rattle.library_state.specs.declared.token.Token.{Token}
use Rattle.object_graph.specs.Objects.{commit_at}
use Rattle.object_graph.specs.Traversal.{walk_commit}
use Rattle.object_graph.specs.declared.fault.TreeFault.{TreeFault}
use Rattle.tree_model.specs.DirectorySurvival.{Sides}
use Rattle.tree_model.specs.Tree.{Tree}
use Rattle.library_rules.specs.Answered.{Fails, IsFault}
use Rattle.library_rules.specs.Calls.{Due, Denies, Says, Stores, Installs, Merges, act_by_objects, act_decided, base_due, by_state, complete_due, due, may, token_due, token_of}
use Rattle.library_rules.specs.LibraryState.{Running, State, is_kept}
use Rattle.library_rules.specs.MergeBase.{Based, Base, NoBase, base_from, base_of, by_commit, by_parent}
use Rattle.library_rules.specs.declared.limits.TheConstants.{MAX_STEPS}
use Rattle.library_rules.specs.MergeCommit.{Clash, Clashes, ClashesAt, IsCommitObject, IsMade, IsMadeOf, IsMergedCommit, IsMergedDirectory, Makes, Partly, another, stored, zeros}
use Rattle.library_rules.specs.Permitted.{DuePermits, MergeFails}
use Rattle.library_rules.specs.declared.entry.Entry.{Entry}
use Rattle.library_rules.specs.declared.entry.Stored.{Stored}

all_as : {A : Type 0} (P Q : A → Type 0) → ((x : A) → P x → Q x) → (xs : List A) → AllByRecursion P xs → AllByRecursion Q xs
all_as P Q each [] all = tt
all_as P Q each (x ∷ xs) all = (each x all.0, all_as P Q each xs all.1)

module _ (s : State) (running : Option Running) where
  -- the same library, with this collection
  abbrev pub beside : State
  beside = record s { running = running }

  -- ---- what is due

  parent_beside : (near far : List ℕ → Based) → ((id : List ℕ) → near id ≡ far id) → (n : ℕ) (o : Option (List ℕ)) → by_parent near n o ≡ by_parent far n o
  parent_beside near far each n None = refl
  parent_beside near far each n (Some parent) = each parent

  commit_beside : (near far : List ℕ → Based) → ((id : List ℕ) → near id ≡ far id) → (n : ℕ) (r : Result Commit TreeFault) → by_commit near n r ≡ by_commit far n r
  commit_beside near far each n (Err fault) = refl
  commit_beside near far each n (Ok commit) = parent_beside near far each n commit.parent

  from_beside : (left n : ℕ) (id : List ℕ) → base_from beside left n id ≡ base_from s left n id
  unfolding base_from
  from_beside zero n id = refl
  from_beside (suc left) n id =
      ap (λ (found : Based). if is_kept s.state.kept id then Base id else found)
      (commit_beside (base_from beside left (n + 1)) (base_from s left (n + 1)) (from_beside left (n + 1)) n (commit_at s.objects id))

  complete_beside : (user base pushed : List ℕ) (o : Option TreeFault) → complete_due beside user base pushed o ≡ complete_due s user base pushed o
  complete_beside user base pushed None = refl
  complete_beside user base pushed (Some fault) = refl

  based_beside : (user pushed : List ℕ) (b : Based) → base_due beside user pushed b ≡ base_due s user pushed b
  based_beside user pushed (NoBase why) = refl
  based_beside user pushed (Base base) = complete_beside user base pushed (walk_commit s.objects pushed).fault

  objects_beside : (token : Token) (a : Act) → act_by_objects beside token a ≡ act_by_objects s token a
  objects_beside token (act.Check o) = refl
  objects_beside token act.Head = refl
  objects_beside token (act.Get key) = refl
  objects_beside token (act.Put key bytes) = refl
  objects_beside token (act.Missing k ids) = refl
  objects_beside token (act.Update commit) =
      ap (base_due beside token.user commit) (from_beside MAX_STEPS 0 commit) ∙ based_beside token.user commit (base_of s commit)
  objects_beside token (act.Limit days) = refl
  objects_beside token (act.Ids server None) = refl
  objects_beside token (act.Ids server (Some client)) = refl

  pub due_beside : (call : Call) → due beside call ≡ due s call
  due_beside call = by (token_of s.state.tokens call.secret)
    where
      by : (o : Option Token) → token_due beside call.act o ≡ token_due s call.act o
      by None = refl
      by (Some token) = ap (λ later. if may token call.act then by_state (act_decided s.state token call.act) later else Denies) (objects_beside token call.act)

  -- ---- what a merge makes

  commit_object : (moment : ℕ) (user pushed root : List ℕ) (conflict : Bool) (x : Stored) → IsCommitObject s moment user pushed root conflict x
      → IsCommitObject beside moment user pushed root conflict x
  commit_object moment user pushed root conflict x is = record { text = is.text; named = is.named }

  merged_directory : (tree : Tree) (x : Stored) → IsMergedDirectory s tree x → IsMergedDirectory beside tree x
  merged_directory tree x is = record { object = is.object; within = is.within }

  is_made : (moment : ℕ) (user pushed root : List ℕ) (conflict : Bool) (x : Stored) → IsMade s moment user pushed root conflict x → IsMade beside moment user pushed root conflict x
  is_made moment user pushed root conflict x (inl dir) = inl dir
  is_made moment user pushed root conflict x (inr commit) = inr (commit_object moment user pushed root conflict x commit)

  made_of : (moment : ℕ) (user pushed root : List ℕ) (conflict : Bool) (tree : Tree) (x : Stored) → IsMadeOf s moment user pushed root conflict tree x
      → IsMadeOf beside moment user pushed root conflict tree x
  made_of moment user pushed root conflict tree x (inl dir) = inl (merged_directory tree x dir)
  made_of moment user pushed root conflict tree x (inr commit) = inr (commit_object moment user pushed root conflict x commit)

  makes_beside : (moment : ℕ) (user base pushed new : List ℕ) (added : List Stored) → Makes s moment user base pushed new added → Makes beside moment user base pushed new added
  makes_beside moment user base pushed new added makes = record {
    root = makes.root;
    conflict = makes.conflict;
    is_commit = makes.is_commit;
    complete = makes.complete;
    tree = makes.tree;
    zeros = makes.zeros;
    told = makes.told;
    needed = makes.needed;
    were_gone = makes.were_gone;
    named = all_as (IsMade s moment user pushed makes.root makes.conflict) (IsMade beside moment user pushed makes.root makes.conflict)
        (is_made moment user pushed makes.root makes.conflict) added makes.named;
    of_merge = λ b h p is_base is_head is_pushed t merged.
        all_as (IsMadeOf s moment user pushed makes.root makes.conflict t) (IsMadeOf beside moment user pushed makes.root makes.conflict t)
        (made_of moment user pushed makes.root makes.conflict t) added (makes.of_merge b h p is_base is_head is_pushed t merged);
    once = makes.once;
  }

  partly_beside : (moment : ℕ) (user base pushed : List ℕ) (added : List Stored) → Partly s moment user base pushed added → Partly beside moment user base pushed added
  partly_beside moment user base pushed added partly = record {
    new = partly.new;
    all = partly.all;
    would = makes_beside moment user base pushed partly.new partly.all partly.would;
    part = partly.part;
    once = partly.once;
  }

  -- ---- objects that can't be stored

  merged_commit : (moment : ℕ) (user pushed : List ℕ) (conflict : Bool) (tree : Tree) (x : Stored) → IsMergedCommit s moment user pushed conflict tree x
      → IsMergedCommit beside moment user pushed conflict tree x
  merged_commit moment user pushed conflict tree x is = record {
    root = is.root;
    dirs = is.dirs;
    made = is.made;
    is_tree = is.is_tree;
    object = commit_object moment user pushed is.root conflict x is.object;
  }

  clash_beside : (tree : Tree) (x : Stored) → Clash s tree x → Clash beside tree x
  clash_beside tree x (zeros is) = zeros is
  clash_beside tree x (stored is) = stored is
  clash_beside tree x (another other dir same differs) = another other (merged_directory tree other dir) same differs

  made_clash : (moment : ℕ) (user pushed : List ℕ) (conflict : Bool) (tree : Tree) (x : Stored) → IsMergedDirectory s tree x ⊎ IsMergedCommit s moment user pushed conflict tree x
      → IsMergedDirectory beside tree x ⊎ IsMergedCommit beside moment user pushed conflict tree x
  made_clash moment user pushed conflict tree x (inl dir) = inl (merged_directory tree x dir)
  made_clash moment user pushed conflict tree x (inr commit) = inr (merged_commit moment user pushed conflict tree x commit)

  clashes_at : (moment : ℕ) (user pushed id : List ℕ) (sides : Sides) → ClashesAt s moment user pushed id sides → ClashesAt beside moment user pushed id sides
  clashes_at moment user pushed id sides at = record {
    tree = at.tree;
    merged = at.merged;
    one = at.one;
    is_made = made_clash moment user pushed _ at.tree at.one at.is_made;
    at = at.at;
    clash = clash_beside at.tree at.one at.clash;
  }

  clashes_beside : (moment : ℕ) (user base pushed id : List ℕ) → Clashes s moment user base pushed id → Clashes beside moment user base pushed id
  clashes_beside moment user base pushed id clashes = record {
    of_trees = λ b h p is_base is_head is_pushed.
        clashes_at moment user pushed id (record { base = b; head = h; pushed = p }) (clashes.of_trees b h p is_base is_head is_pushed);
  }

  -- ---- answers

  module _ (e : Entry) where
    fault_beside : (why : Refusal) → IsFault s e why → IsFault beside e why
    fault_beside refusal.NoMemory is = is
    fault_beside (refusal.Damaged want got) is = is
    fault_beside refusal.Store is = is
    fault_beside other is = absurd is

    pub fails_beside : Fails s e → Fails beside e
    fails_beside fails = record { why = fails.why; reply = fails.reply; fault = fault_beside fails.why fails.fault }

    left_beside : (user base pushed : List ℕ) → (e.added ≡ []) ⊎ Partly s e.moment user base pushed e.added → (e.added ≡ []) ⊎ Partly beside e.moment user base pushed e.added
    left_beside user base pushed (inl none) = inl none
    left_beside user base pushed (inr partly) = inr (partly_beside e.moment user base pushed e.added partly)

    merge_fails : (user base pushed : List ℕ) (why : Refusal) → MergeFails s e user base pushed why → MergeFails beside e user base pushed why
    merge_fails user base pushed (refusal.TooLong path size) is = is
    merge_fails user base pushed (refusal.TooMany paths) is = is
    merge_fails user base pushed (refusal.Taken id) is = (is.0, is.1, clashes_beside e.moment user base pushed id is.2)
    merge_fails user base pushed other cause = (fault_beside other cause.0, left_beside user base pushed cause.1)

    -- an entry is permitted beside a collection as it is where none runs
    pub permits_beside : (d : Due) → DuePermits s e d → DuePermits beside e d
    permits_beside Denies (inl says, none) = (inl (record { reply = says.reply; faults = says.faults }), none)
    permits_beside Denies (inr says, none) = (inr (record { reply = says.reply; faults = says.faults }), none)
    permits_beside (Says r) (inl says, none) = (inl (record { reply = says.reply; faults = says.faults }), none)
    permits_beside (Says r) (inr fails, none) = (inr (fails_beside fails), none)
    permits_beside (Stores x) (inl (says, added)) = inl (record { reply = says.reply; faults = says.faults }, added)
    permits_beside (Stores x) (inr (fails, none)) = inr (fails_beside fails, none)
    permits_beside (Installs pushed) (inl says, none) = (inl (record { reply = says.reply; faults = says.faults }), none)
    permits_beside (Installs pushed) (inr fails, none) = (inr (fails_beside fails), none)
    permits_beside (Merges user base pushed) (inl merged) = inl (record {
      new = merged.new;
      says = record { reply = merged.says.reply; faults = merged.says.faults };
      made = makes_beside e.moment user base pushed merged.new e.added merged.made;
    })
    permits_beside (Merges user base pushed) (inr refuses) =
        inr (record { why = refuses.why; reply = refuses.reply; cause = merge_fails user base pushed refuses.why refuses.cause })
