-- What is known by own ids of the files that are new or changed is what is known of what was offered. The key lemma is knows_by_owns.
use Rattle.std.proofs.Common.{◌≡◌, ℕ, List, Option, None, Some, option_map, refl, ap, ◌∙◌}
use Rattle.std.specs.FinMap as fin
use Rattle.tree_model.specs.Path.{PathV}
use Rattle.folder_side.specs.declared.scan_report.Seen.{Seen}
use Rattle.folder_side.specs.declared.scan_report.Seen.TheVariants as seen
use Rattle.local_index.specs.declared.index.Known.{Known}
use Rattle.tree_push.specs.ChangedOwns.{AreChangedOwns, Owns, changed_own}
use Rattle.tree_push.specs.OfferedEntries.{KnownPaths, SeenPaths, file_entry}
use Rattle.tree_push.proofs.ChangedOwnLemmas.{own_is}
use Rattle.sync_daemon.specs.Bringing.{KnowsOffered, known_by, known_of, offered_known}

known_at : (moment : ℕ) (user : List ℕ) (was : Option Known) (s : Option Seen) (changed : Option (List ℕ)) → changed ≡ changed_own s was
    → option_map (known_by moment user changed was) s ≡ option_map (offered_known moment user was) s
known_at moment user was None changed is = refl
known_at moment user was (Some seen.Dir) changed is = refl
known_at moment user was (Some (seen.File blocks size)) changed is =
    ap (λ (own : List ℕ). Some (known_of own (file_entry moment user was own size))) (own_is blocks size was changed is)

pub knows_by_owns : (moment : ℕ) (user : List ℕ) (knowns : KnownPaths) (seens : SeenPaths) (owns : Owns) (entries : KnownPaths) → AreChangedOwns knowns seens owns
    → ((path : PathV) → fin.get entries path ≡ option_map (known_by moment user (fin.get owns path) (fin.get knowns path)) (fin.get seens path)) → KnowsOffered moment user knowns seens entries
knows_by_owns moment user knowns seens owns entries are made = λ path.
    made path ∙ known_at moment user (fin.get knowns path) (fin.get seens path) (fin.get owns path) (are path)
