-- A directory's object is built over what is left below it, and added to those that were made. The key lemmas are made_stopped,
-- made_many, made_refused, made_added, from_long, level_made and adds_refused.
use Rattle.std.proofs.Common.{◌≡◌, ◌≢◌, ◌+◌, ◌≤◌, ◌<◌, min, true, false, ℕ, List, refl, sym, ap, ◌∙◌, subst, arith, Option, Some, None, IsSome, is_some, true≢false, ◌⊎◌, ◌↔◌, inl, inr}
use Rattle.std.proofs.lemmas.Bool.{or_right}
use Rattle.std.specs.FinMap as map
use Rattle.ids.specs.Key.{Objects}
use Rattle.ids.specs.ObjectId.{nil}
use Rattle.tree_model.specs.Path.{PathV, path_cmp}
use Rattle.object_graph.specs.Objects.{AreEntriesOf, dirents_at, fs_key}
use Rattle.object_graph.specs.Unchanged.{Keeps}
use Rattle.tree_merge.specs.LevelMerge.{AddsDirectory, IsBuiltFrom, IsTakenBelow, MakesDirectory, MakesFrom, MakesLevel, RefusesDirectory, kept_paths}
use Rattle.tree_merge.specs.ConflictNaming.{Places}
use Rattle.tree_merge.specs.Sides.{Entries}
use Rattle.tree_merge.specs.TreeBuilding.{AreDirectoriesOver, AreNamed, AreThere, Given, HasMade, IsClash, IsDirectoryOf, IsNilOrMade, IsShownPart, directory_id_in, kept_ids}
use Rattle.tree_merge.specs.WorkSoFar.{AreFrom, IsRefusedOther, copies_over, is_refused, long_told}
use Rattle.tree_merge.specs.declared.conflict_copies.Named.{Named}
use Rattle.tree_merge.specs.declared.opening.Kept.{Kept}
use Rattle.tree_merge.specs.declared.tree_builder.BuildFault.{BuildFault}
use Rattle.tree_merge.specs.declared.tree_builder.BuildFault.TheVariants.{NoMemory, Taken}
use Rattle.tree_merge.specs.declared.tree_builder.BuiltTree.{BuiltTree}
use Rattle.tree_merge.specs.declared.work.Long.{Long}
use Rattle.tree_merge.specs.declared.work.Stop.{Stop}
use Rattle.tree_merge.specs.declared.work.Stop.TheVariants as why
use Rattle.tree_merge.specs.declared.work.Work.{Work}
use Rattle.tree_merge.proofs.HeadsUsedLemmas.{empty_listed}
use Rattle.tree_merge.proofs.MadeLemmas.{kept_itself, kept_then}
use Rattle.tree_merge.proofs.MergingSoLemmas.{has_more, known_more}

module _ (nodes : Entries) (kept : map.FinMap path_cmp Kept) (paths : ℕ) (old : Work) where
  abbrev K : PathV → Option (List ℕ)
  K = kept_ids kept

  -- the merge is refused already
  pub made_stopped : (id : List ℕ) → is_refused old ≡ true → MakesDirectory nodes kept paths old old id
  made_stopped id refused = record {
    long = refl;
    copies = refl;
    kept_made = kept_itself old.made;
    large = λ big. refl;
    stopped = λ e. (refl, refl);
    makes = λ clear. absurd (true≢false (sym refused ∙ clear));
  }

  not_stopped : is_refused old ≡ false → (x : Stop) → old.stop ≡ Some x → ⊥
  not_stopped clear x is = true≢false (sym (or_right (is_some old.long) (is_some old.stop) (ap is_some is)) ∙ clear)

  -- its paths are too many
  pub made_many : (id : List ℕ) → 1000000 < paths → is_refused old ≡ false
      → MakesDirectory nodes kept paths old (record { made = old.made; copies = old.copies; long = old.long; stop = Some why.Many }) id
  made_many id big clear = record {
    long = refl;
    copies = refl;
    kept_made = kept_itself old.made;
    large = λ big. refl;
    stopped = λ e. absurd (true≢false (sym e ∙ clear));
    makes = λ e. record {
      texts = λ given whole shown key bytes there. inl there;
      taken = λ given whole shown i is. cc is;
      many = λ is. big;
      built = λ none. cc none;
    };
  }

  -- a clash of two directories of the tree
  clashed : (whole : Entries) (made : Objects) (id : List ℕ) → IsClash whole id → IsTakenBelow whole made id
  clashed whole made id clash = record {
    bytes = clash.bytes;
    own = clash.own;
    text = clash.text;
    clash = elim clash.clash [ inl zeros ↦ inl zeros | inr other ↦ inr (other.0, other.1, inl (other.2, other.3)) ];
  }

  -- the builder refuses it
  pub made_refused : (new : Work) (fault : BuildFault) (id : List ℕ) → is_refused old ≡ false → RefusesDirectory fault old new
      → ((i : List ℕ) → fault ≡ Taken i → (given : Given) (whole : Entries) → IsShownPart given K whole nodes → IsClash whole i) → MakesDirectory nodes kept paths old new id
  made_refused new NoMemory id clear refused clash = absurd refused
  made_refused new (Taken i) id clear refused clash = subst (λ (w : Work). MakesDirectory nodes kept paths old w id) (sym refused) (record {
    long = refl;
    copies = refl;
    kept_made = kept_itself old.made;
    large = λ big. refl;
    stopped = λ e. absurd (true≢false (sym e ∙ clear));
    makes = λ e. record {
      texts = λ given whole shown key bytes there. inl there;
      taken = λ given whole shown j is. let same : i ≡ j = cc in subst (IsTakenBelow whole old.made) same (clashed whole old.made i (clash i refl given whole shown));
      many = λ is. cc is;
      built = λ none. cc none;
    };
  })

  -- it is built
  module _ (built : BuiltTree) (named : AreNamed built.made)
      (value : (given : Given) (whole : Entries) → IsShownPart given K whole nodes → (objects : Objects) → AreThere given objects → Keeps built.made objects → AreEntriesOf objects built.root whole)
      (needed : (given : Given) (whole : Entries) → IsShownPart given K whole nodes → (id : List ℕ) → HasMade built.made id → (objects : Objects) → Keeps built.made objects → IsDirectoryOf objects built.root id)
      (ids : (given : Given) (whole : Entries) → IsShownPart given K whole nodes → (dir : PathV) (id : List ℕ) → K dir ≡ Some id → (objects : Objects) → Keeps built.made objects → directory_id_in objects (dirents_at objects built.root) dir ≡ Some id)
      (dirs : (given : Given) (whole : Entries) → IsShownPart given K whole nodes → AreDirectoriesOver K whole built.made × IsNilOrMade built.made built.root)
      (zeros : (given : Given) (whole : Entries) → IsShownPart given K whole nodes → (built.root ≡ nil) ↔ ((path : PathV) → map.get whole path ≡ None)) where
    pub made_added : (new : Work) (id : List ℕ) → paths ≤ 1000000 → is_refused old ≡ false → AddsDirectory built old new id → MakesDirectory nodes kept paths old new id
    made_added new id few clear adds = record {
      long = adds.long;
      copies = adds.copies;
      kept_made = adds.kept;
      large = λ big. absurd (omega (arith, few, big));
      stopped = λ e. absurd (true≢false (sym e ∙ clear));
      makes = λ e. record {
        texts = λ given whole shown key bytes there. elim (adds.told key bytes there) [ inl before ↦ inl before | inr own ↦ inr ((dirs given whole shown).0.texts key bytes own) ];
        taken = λ given whole shown i is. elim (adds.taken i is) [ inl before ↦ absurd (not_stopped clear (why.Taken i) before) | inr other ↦ refused given whole shown i other ];
        many = λ is. absurd (not_stopped clear why.Many (adds.many is));
        built = λ free given whole shown. of_added given whole shown (adds.added free).0 (adds.added free).1;
      };
    }
      where
        refused : (given : Given) (whole : Entries) → IsShownPart given K whole nodes → (i : List ℕ) → IsRefusedOther old.made built.made i → IsTakenBelow whole new.made i
        refused given whole shown i r =
            let own = named r.key r.bytes r.given in
            let same : r.key ≡ fs_key i = ap (λ k. record { kind = k; id = r.key.id }) own.is_fs ∙ ap fs_key (sym r.other.0) in
            record {
              bytes = r.bytes;
              own = r.other.0 ∙ own.is_sha1;
              text = (dirs given whole shown).0.texts r.key r.bytes r.given;
              clash = inr (r.other.1.0, r.other.1.2, inr (ap (map.get new.made) (sym same) ∙ adds.kept.kept r.key r.other.1.0 r.other.1.1));
            }

        of_added : (given : Given) (whole : Entries) → IsShownPart given K whole nodes → Keeps built.made new.made → id ≡ built.root → IsBuiltFrom given K whole old.made new.made id
        of_added given whole shown own is = subst (IsBuiltFrom given K whole old.made new.made) (sym is) (record {
          value = λ objects there keeps. value given whole shown objects there (kept_then built.made new.made objects own keeps);
          needed = λ i has. made_of i (map.get new.made (fs_key i)) refl has;
          ids = λ dir i there objects keeps. ids given whole shown dir i there objects (kept_then built.made new.made objects own keeps);
          below = λ key bytes there. elim (adds.told key bytes there) [
            | inl before ↦ inl before
            | inr made ↦ inr (λ dirents reads name e found dir. known_more K built.made new.made own e.id ((dirs given whole shown).0.below key bytes made dirents reads name e found dir))
          ];
          known = nil_or_made (dirs given whole shown).1;
          empty = λ objects there keeps. let also = kept_then built.made new.made objects own keeps in
              empty_listed given K whole nodes shown built.made built.root (dirs given whole shown).0 (dirs given whole shown).1 objects there also (value given whole shown objects there also);
          zeros = zeros given whole shown;
        })
          where
            nil_or_made : IsNilOrMade built.made built.root → IsNilOrMade new.made built.root
            nil_or_made (inl none) = inl none
            nil_or_made (inr has) = inr (has_more built.made new.made own built.root has)

            made_of : (i : List ℕ) (o : Option (List ℕ)) → map.get new.made (fs_key i) ≡ o → IsSome (map.get new.made (fs_key i)) → (HasMade old.made i) ⊎ ((objects : Objects) → Keeps new.made objects → IsDirectoryOf objects built.root i)
            made_of i None is some = absurd (true≢false (sym some ∙ ap is_some is))
            made_of i (Some bytes) is some = elim (adds.told (fs_key i) bytes is) [
              | inl before ↦ inl (ap is_some before)
              | inr made ↦ inr (λ objects keeps. needed given whole shown i (ap is_some made) objects (kept_then built.made new.made objects own keeps))
            ]

-- ---- made, or the head's own

pub short_none : (o : Option Long) → long_told o ≡ None → is_some o ≡ false
short_none None e = refl
short_none (Some x) e = cc

module _ (nodes : Entries) (kept : map.FinMap path_cmp Kept) (paths : ℕ) (old new : Work) (id : List ℕ) where
  pub from_long : (own : Option (List ℕ)) → MakesFrom own nodes kept paths old new id → long_told new.long ≡ long_told old.long
  from_long None makes = makes.long
  from_long (Some h) makes = ap (λ (w : Work). long_told w.long) makes.1

  from_copies : (own : Option (List ℕ)) → MakesFrom own nodes kept paths old new id → new.copies ≡ old.copies
  from_copies None makes = makes.copies
  from_copies (Some h) makes = ap (λ (w : Work). w.copies) makes.1

-- ---- after the copies of its files

module _ (path : PathV) (named : Named) (kept : map.FinMap path_cmp Kept) (own : Option (List ℕ)) (old : Work) (told : Places) (is : (q : PathV) → map.get told q ≡ copies_over path named.copies old.copies q) where
  abbrev mid : Work
  mid = record { made = old.made; copies = told; long = old.long; stop = old.stop }

  -- there are no entries
  pub level_nothing : map.len named.nodes ≡ 0 → MakesLevel path named kept own old mid None
  level_nothing none = record {
    mid = mid;
    mid_made = refl;
    mid_long = refl;
    mid_stop = refl;
    copies = is;
    makes = record { none = none; made = refl; long = refl; stop = refl };
  }

  -- there are some
  pub level_made : (new : Work) (id : List ℕ) (paths : ℕ) → map.len named.nodes ≢ 0 → paths ≡ min (min (kept_paths kept) 18446744073709551615 + map.len named.nodes) 18446744073709551615
      → MakesFrom own named.nodes kept paths mid new id → MakesLevel path named kept own old new (Some (record { id = id; paths = paths }))
  level_made new id paths some size makes = record {
    mid = mid;
    mid_made = refl;
    mid_long = refl;
    mid_stop = refl;
    copies = λ q. ap (λ (t : Places). map.get t q) (from_copies named.nodes kept paths mid new id own makes) ∙ is q;
    makes = record { some = some; paths = size; makes = makes };
  }

-- ---- adding what was built

-- all is added
pub adds_all : (built : BuiltTree) (old : Work) (now : Objects) → Keeps old.made now → AreFrom old.made built.made now → Keeps built.made now
    → AddsDirectory built old (record { made = now; copies = old.copies; long = old.long; stop = old.stop }) built.root
adds_all built old now kept from there = record {
  long = refl;
  copies = refl;
  kept = kept;
  told = from;
  taken = λ i is. inl is;
  many = λ is. is;
  added = λ free. (there, refl);
}

-- other bytes than those of one of them were made
pub adds_refused : (built : BuiltTree) (old new : Work) (now : Objects) (fault : BuildFault) (id : List ℕ) → Keeps old.made now → AreFrom old.made built.made now
    → ((i : List ℕ) → fault ≡ Taken i → IsRefusedOther old.made built.made i) → RefusesDirectory fault (record { made = now; copies = old.copies; long = old.long; stop = old.stop }) new
    → AddsDirectory built old new id
adds_refused built old new now NoMemory id kept from other refused = absurd refused
adds_refused built old new now (Taken i) id kept from other refused = subst (λ (w : Work). AddsDirectory built old w id) (sym refused) (record {
  long = refl;
  copies = refl;
  kept = kept;
  told = from;
  taken = λ j is. let same : i ≡ j = cc in inr (subst (IsRefusedOther old.made built.made) same (other i refl));
  many = λ is. cc is;
  added = λ free. cc free;
})
