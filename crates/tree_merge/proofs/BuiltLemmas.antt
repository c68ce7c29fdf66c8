-- What directories hold. The key lemmas are distinct_more and to_do_more.
use Rattle.std.proofs.Common.{◌≡◌, ◌≢◌, ℕ, Bool, true, false, cond, if◌then◌else◌, List, [], ◌∷◌, ◌++◌, refl, sym, ap, ap₂, ◌∙◌, subst, None, is_some, IsSome, true≢false}
use Rattle.std.specs.FinMap as map
use Rattle.std.specs.List.{IsDistinct}
use Rattle.std.specs.Str.{bytes_eq}
use Rattle.tree_model.specs.Path.{PathV}
use Rattle.tree_model.specs.PathOrder.{paths_total}
use Rattle.tree_model.proofs.ListedLemmas.{same_path, same_path-true, same_path-itself}
use Rattle.fs_objects.specs.Directory.{names_of}
use Rattle.fs_objects.specs.declared.dirent.Dirent.{Dirent}
use Rattle.object_graph.specs.Objects.{entry_named}
use Rattle.tree_merge.specs.Sides.{Entries}
use Rattle.tree_merge.specs.TreeBuilding.{IsSound}
use Rattle.tree_merge.proofs.DirentLemmas.{named_push_other, distinct_push, distinct_none}

-- ---- names of what directories hold

module _ (R after : Entries) (H H2 : PathV → List Dirent) (path d : PathV) (n : List ℕ) (e : Dirent) (split : path ≡ d ++ n ∷ []) (named : e.name ≡ n)
    (free : entry_named n (H d) ≡ None)
    (listed : (q : PathV) → H2 q ≡ (if same_path q d then (if same_path q path then [] else H q) ++ e ∷ [] else (if same_path q path then [] else H q))) where
  pub distinct_more : ((q : PathV) → IsDistinct bytes_eq (names_of (H q))) → (q : PathV) → IsDistinct bytes_eq (names_of (H2 q))
  distinct_more all q = subst (λ (es : List Dirent). IsDistinct bytes_eq (names_of es)) (sym (listed q)) (by (same_path q d) (same_path q path) refl)
    where
      by : (b c : Bool) → same_path q d ≡ b → IsDistinct bytes_eq (names_of (if b then (if c then [] else H q) ++ e ∷ [] else (if c then [] else H q)))
      by true true tie = distinct_push [] e distinct_none refl
      by true false tie = distinct_push (H q) e (all q) (ap₂ (λ (p : PathV) (k : List ℕ). entry_named k (H p)) (same_path-true q d tie) named ∙ free)
      by false true tie = distinct_none
      by false false tie = all q

  pub to_do_more : ((q : PathV) → map.get after q ≡ cond (same_path q path) None (map.get R q))
      → ((p : PathV) (k : List ℕ) → IsSome (map.get R (p ++ k ∷ [])) → entry_named k (H p) ≡ None)
      → (p : PathV) (k : List ℕ) → IsSome (map.get after (p ++ k ∷ [])) → entry_named k (H2 p) ≡ None
  to_do_more popped before p k some = ap (entry_named k) (listed p) ∙ by (same_path p d) (same_path p path) refl
    where
      waits : (c : Bool) → same_path (p ++ k ∷ []) path ≡ c → (same_path (p ++ k ∷ []) path ≡ false) × IsSome (map.get R (p ++ k ∷ []))
      waits true tie = absurd (true≢false (sym some ∙ ap is_some (popped (p ++ k ∷ []) ∙ ap (λ (b : Bool). cond b None (map.get R (p ++ k ∷ []))) tie)))
      waits false apart = (apart, ap is_some (sym (popped (p ++ k ∷ []) ∙ ap (λ (b : Bool). cond b None (map.get R (p ++ k ∷ []))) apart)) ∙ some)

      old : entry_named k (H p) ≡ None
      old = before p k (waits (same_path (p ++ k ∷ []) path) refl).1

      other : same_path p d ≡ true → k ≢ e.name
      other tie is =
          let same : p ++ k ∷ [] ≡ path = ap₂ (λ (r : PathV) (j : List ℕ). r ++ j ∷ []) (same_path-true p d tie) (is ∙ named) ∙ sym split in
          true≢false (sym (ap (λ (r : PathV). same_path r path) same ∙ same_path-itself path) ∙ (waits (same_path (p ++ k ∷ []) path) refl).0)

      by : (b c : Bool) → same_path p d ≡ b → entry_named k (if b then (if c then [] else H p) ++ e ∷ [] else (if c then [] else H p)) ≡ None
      by true true tie = named_push_other [] e k (other tie)
      by true false tie = named_push_other (H p) e k (other tie) ∙ old
      by false true tie = refl
      by false false tie = old

-- ---- a table without its root

pub same_sound : (W E : Entries) → ((q : PathV) → map.get W q ≡ map.get E q) → IsSound E → IsSound W
same_sound W E same sound = record {
  no_root = same [] ∙ sound.no_root;
  in_dirs = λ d n other there. same d ∙ sound.in_dirs d n other (ap is_some (sym (same (d ++ n ∷ []))) ∙ there);
  modes = λ q file there. sound.modes q file (sym (same q) ∙ there);
}

-- taking out the root leaves a table of entries as it is
pub without_root : (E W : Entries) → W ≡ map.remove E [] → map.get E [] ≡ None → (q : PathV) → map.get W q ≡ map.get E q
without_root E W is none q = ap (λ (m : Entries). map.get m q) is ∙ map.get-remove paths_total E [] q ∙ by (same_path q []) refl
  where
    by : (b : Bool) → same_path q [] ≡ b → cond b None (map.get E q) ≡ map.get E q
    by true tie = sym (ap (map.get E) (same_path-true q [] tie) ∙ none)
    by false apart = refl

pub no_root_left : (E W : Entries) → W ≡ map.remove E [] → map.get W [] ≡ None
no_root_left E W is =
    ap (λ (m : Entries). map.get m []) is ∙ map.get-remove paths_total E [] []
    ∙ ap (λ (b : Bool). cond b None (map.get E [])) (same_path-itself [])
