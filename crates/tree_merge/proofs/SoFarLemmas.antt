-- A directory whose entries are merged name by name. The key lemma is merging_more.
use Rattle.std.proofs.Common.{◌≡◌, ◌≢◌, ◌<◌, ◌||◌, Bool, true, false, cond, if◌then◌else◌, ℕ, List, [], ◌∷◌, ◌++◌, nat_eq, refl, sym, ap, ap₂, ◌∙◌, subst, subst₂, append_assoc, Option, Some, None, IsSome, is_some, option_map, true≢false, ◌⊎◌, inl, inr, Equal, Greater}
use Rattle.std.specs.Cmp.{tied_itself}
use Rattle.std.specs.Cmp.Lexicographic.{bytes_decides, pointwise}
use Rattle.std.specs.FinMap as map
use Rattle.std.specs.Option.{option_or}
use Rattle.ids.specs.Key.{Objects}
use Rattle.ids.specs.declared.key.Key.{Key}
use Rattle.tree_model.specs.Path.{PathV, path_cmp}
use Rattle.tree_model.specs.PathOrder.{paths_total}
use Rattle.tree_model.specs.DirectorySurvival.{Sides, stays}
use Rattle.tree_model.specs.MergeParts.{IsFirst, copy_at, long_at, told_behind}
use Rattle.tree_model.proofs.BelowLemmas.{name_itself}
use Rattle.tree_model.proofs.FirstOfLemmas.{first_same}
use Rattle.tree_model.proofs.ListedLemmas.{same_path, same_path-apart, same_path-itself, same_path-true}
use Rattle.tree_model.proofs.OneLevelLemmas.{IsSingle}
use Rattle.conflict_names.specs.Naming.{naming}
use Rattle.tree_merge.specs.DirectoryMerge.{IsBuiltBelow, IsMergedPart, IsNamedPart}
use Rattle.tree_merge.specs.LevelMerge.{IsTakenBelow, ListsKnown}
use Rattle.tree_merge.specs.Opening.{HasEntry, id_in, paths_in, three_over}
use Rattle.tree_merge.specs.Sides.{Entries}
use Rattle.tree_merge.specs.TreeBuilding.{IsDirectoryOf, IsDirectoryText}
use Rattle.tree_merge.specs.WorkSoFar.{copies_behind, long_told}
use Rattle.tree_merge.specs.declared.level.Level.{Level}
use Rattle.tree_merge.specs.declared.level.Trio.{Trio}
use Rattle.tree_merge.specs.declared.opening.Ids.{Ids}
use Rattle.tree_merge.specs.declared.opening.Kept.{Kept}
use Rattle.tree_merge.specs.declared.opening.Opened.{Opened}
use Rattle.tree_merge.specs.declared.sides.Three.{Three}
use Rattle.tree_merge.specs.declared.work.Stop.TheVariants as why
use Rattle.tree_merge.specs.declared.work.Work.{Work}
use Rattle.tree_merge.proofs.CopiesBehindLemmas.{copies_told}
use Rattle.tree_merge.proofs.DoneNameLemmas.{done_first, done_more, of_done, told_below, waits}
use Rattle.tree_merge.proofs.LevelTreeLemmas.{join_over}
use Rattle.tree_merge.proofs.MadeLemmas.{kept_then}
use Rattle.tree_merge.proofs.SideLemmas.{ids_at, trio_of}
use Rattle.tree_merge.proofs.MergingSoLemmas.{BuiltSoFar, MergingSo, NamedSoFar, PartBuilt, PartSo, built_more, copies_of, lists_more, opens, taken_more}

module _ (objects : Objects) (path : PathV) (ids : Ids) (c : List ℕ → Sides) where
  -- ---- one name more

  module _ (level after : Level) (opened opened_after : Opened) (old mid new : Work) (n : List ℕ) (trio : Trio) (part : Option Kept) (so : MergingSo objects path ids c level opened old mid)
      (waited : waits level n ≡ true) (gone : waits after n ≡ false) (others : (k : List ℕ) → k ≢ n → waits after k ≡ waits level k)
      (left_base : (q : PathV) → map.get after.base q ≡ (if same_path q (n ∷ []) then None else map.get level.base q)) (left_head : (q : PathV) → map.get after.head q ≡ (if same_path q (n ∷ []) then None else map.get level.head q))
      (left_pushed : (q : PathV) → map.get after.pushed q ≡ (if same_path q (n ∷ []) then None else map.get level.pushed q))
      (is_trio : trio ≡ trio_of objects ids n) (some_trio : (is_some trio.base || (is_some trio.head || is_some trio.pushed)) ≡ true)
      (placed : HasEntry (n ∷ []) trio part opened opened_after) (merges : IsMergedPart objects (path ++ n ∷ []) (opens objects path ids c n) (ids_at objects ids n) (c n) mid new part)
      (rooted : copy_at naming (c n) [] ≡ None) where
    other_path : (k : List ℕ) → k ≢ n → same_path (k ∷ []) (n ∷ []) ≡ false
    other_path k other = same_path-apart (k ∷ []) (n ∷ []) (λ e. other (let same : k ≡ n = cc in same))

    kept_here : map.get opened_after.kept (n ∷ []) ≡ part
    kept_here =
        placed.kept (n ∷ []) ∙ ap (λ (b : Bool). if b then option_or part (map.get opened.kept (n ∷ [])) else map.get opened.kept (n ∷ [])) (same_path-itself (n ∷ []))
        ∙ ap (option_or part) (so.kept_waits n waited) ∙ or_none part
      where
        or_none : (o : Option Kept) → option_or o None ≡ o
        or_none None = refl
        or_none (Some x) = refl

    kept_other : (k : List ℕ) → k ≢ n → map.get opened_after.kept (k ∷ []) ≡ map.get opened.kept (k ∷ [])
    kept_other k other = placed.kept (k ∷ []) ∙ ap (λ (b : Bool). if b then option_or part (map.get opened.kept (k ∷ [])) else map.get opened.kept (k ∷ [])) (other_path k other)

    joined_at : (q : PathV) → map.get opened_after.joined q ≡ cond (same_path q (n ∷ [])) (Some (three_over part trio)) (map.get opened.joined q)
    joined_at q = ap (λ (m : map.FinMap path_cmp Three). map.get m q) placed.joined ∙ map.get-insert paths_total opened.joined (n ∷ []) (three_over part trio) q

    -- a name is this one or another
    by_name : (P : List ℕ → Type 0) (k : List ℕ) → P n → (k ≢ n → P k) → P k
    by_name P k here there = by (pointwise nat_eq k n) refl
      where
        by : (b : Bool) → pointwise nat_eq k n ≡ b → P k
        by true is = subst P (sym ((bytes_decides k n).0 is)) here
        by false apart = there (λ e. true≢false (sym (ap (λ (j : List ℕ). pointwise nat_eq j n) e ∙ name_itself n) ∙ apart))

    -- a function of names with another value at this one
    abbrev with_name : {Y : Type 0} → Y → (List ℕ → Y) → List ℕ → Y
    with_name here there k = if pointwise nat_eq k n then here else there k

    at_name : {Y : Type 0} (here : Y) (there : List ℕ → Y) → with_name here there n ≡ here
    at_name here there = ap (λ (b : Bool). if b then here else there n) (name_itself n)

    at_other : {Y : Type 0} (here : Y) (there : List ℕ → Y) (k : List ℕ) → k ≢ n → with_name here there k ≡ there k
    at_other here there k other = by (pointwise nat_eq k n) refl
      where
        by : (b : Bool) → pointwise nat_eq k n ≡ b → (if b then here else there k) ≡ there k
        by true is = absurd (other ((bytes_decides k n).0 is))
        by false is = refl

    -- what was done is done
    was_done : (k : List ℕ) → k ≢ n → waits after k ≡ false → waits level k ≡ false
    was_done k other done = sym (others k other) ∙ done

    still_done : (k : List ℕ) → waits level k ≡ false → waits after k ≡ false
    still_done k done = by_name (λ j. waits level j ≡ false → waits after j ≡ false) k (λ e. gone) (λ other e. others k other ∙ e) done

    joined_more : (k : List ℕ) → map.get opened_after.joined (k ∷ []) ≡ (if waits after k then None else join_over (is_some (map.get opened_after.kept (k ∷ []))) (trio_of objects ids k))
    joined_more k = by_name (λ j. map.get opened_after.joined (j ∷ []) ≡ (if waits after j then None else join_over (is_some (map.get opened_after.kept (j ∷ []))) (trio_of objects ids j))) k here there
      where
        told_some : (b : Bool) (x : Three) → b ≡ true → Some x ≡ (if b then Some x else None)
        told_some true x e = refl
        told_some false x e = absurd (true≢false (sym e))

        here : map.get opened_after.joined (n ∷ []) ≡ (if waits after n then None else join_over (is_some (map.get opened_after.kept (n ∷ []))) (trio_of objects ids n))
        here =
            joined_at (n ∷ []) ∙ ap (λ (b : Bool). cond b (Some (three_over part trio)) (map.get opened.joined (n ∷ []))) (same_path-itself (n ∷ []))
            ∙ told_some (is_some trio.base || (is_some trio.head || is_some trio.pushed)) (three_over part trio) some_trio
            ∙ ap (join_over (is_some part)) is_trio
            ∙ ap (λ (o : Option Kept). join_over (is_some o) (trio_of objects ids n)) (sym kept_here)
            ∙ sym (ap (λ (b : Bool). if b then None else join_over (is_some (map.get opened_after.kept (n ∷ []))) (trio_of objects ids n)) gone)

        there : k ≢ n → map.get opened_after.joined (k ∷ []) ≡ (if waits after k then None else join_over (is_some (map.get opened_after.kept (k ∷ []))) (trio_of objects ids k))
        there other =
            joined_at (k ∷ []) ∙ ap (λ (b : Bool). cond b (Some (three_over part trio)) (map.get opened.joined (k ∷ []))) (other_path k other)
            ∙ so.joined k
            ∙ ap₂ (λ (b : Bool) (o : Option Kept). if b then None else join_over (is_some o) (trio_of objects ids k)) (sym (others k other)) (sym (kept_other k other))

    single_of : {X : Type 0} (b : Bool) (q : PathV) (o p : Option X) → same_path q (n ∷ []) ≡ b → (IsSome p → IsSingle q) → is_some (if b then o else p) ≡ true → IsSingle q
    single_of true q o p tie more some = (n, same_path-true q (n ∷ []) tie)
    single_of false q o p tie more some = more some

    -- the first long name, of the part too
    long_more : (f : PathV → Option ℕ) → IsFirst f (long_told old.long) → IsFirst (λ q. option_or (f q) (told_below path (of_done (waits after) (λ k. long_at naming (c k))) q)) (long_told new.long)
    long_more f first =
        first_same (λ q. option_or (option_or (f q) (told_below path (of_done (waits level) (λ k. long_at naming (c k))) q)) (told_behind (path ++ n ∷ []) (long_at naming (c n)) q))
        (λ q. option_or (f q) (told_below path (of_done (waits after) (λ k. long_at naming (c k))) q))
        (done_more path n (waits level) (waits after) (λ k. long_at naming (c k)) waited gone others f) (long_told new.long)
        (merges.long (λ q. option_or (f q) (told_below path (of_done (waits level) (λ k. long_at naming (c k))) q)) (so.long f first))

    -- nothing was too long before
    short_before : long_told new.long ≡ None → long_told mid.long ≡ None
    short_before short = by (long_told mid.long) refl
      where
        -- one file alone is the first of itself
        only : PathV × ℕ → PathV → Option ℕ
        only x q = if same_path q x.0 then Some x.1 else None

        is_first : (x : PathV × ℕ) → IsFirst (only x) (Some x)
        is_first x = record {
          there = ap (λ (b : Bool). if b then Some x.1 else None) (same_path-itself x.0);
          least = λ q some. at q (same_path q x.0) refl some;
        }
          where
            at : (q : PathV) (b : Bool) → same_path q x.0 ≡ b → is_some (if same_path q x.0 then Some x.1 else None) ≡ true → path_cmp x.0 q ≢ Greater
            at q true tie some e =
                let both : Equal ≡ Greater = sym (tied_itself paths_total x.0) ∙ ap (path_cmp x.0) (sym (same_path-true q x.0 tie)) ∙ e in cc
            at q false tie some e = true≢false (sym some ∙ ap (λ (b : Bool). is_some (if b then Some x.1 else None)) tie)

        by : (o : Option (PathV × ℕ)) → long_told mid.long ≡ o → long_told mid.long ≡ None
        by None is = is
        by (Some x) is =
            let first : IsFirst (λ q. option_or (only x q) (told_behind (path ++ n ∷ []) (long_at naming (c n)) q)) (long_told new.long) =
            merges.long (only x) (subst (IsFirst (only x)) (sym is) (is_first x)) in
            let none : option_or (only x x.0) (told_behind (path ++ n ∷ []) (long_at naming (c n)) x.0) ≡ None =
            (subst (IsFirst (λ q. option_or (only x q) (told_behind (path ++ n ∷ []) (long_at naming (c n)) q))) short first) x.0 in
            let both : Some x.1 ≡ None = sym (ap (λ (b : Bool). option_or (if b then Some x.1 else None) (told_behind (path ++ n ∷ []) (long_at naming (c n)) x.0)) (same_path-itself x.0)) ∙ none in cc

    -- a copy below the entry goes behind the directory
    copies_below : (q : PathV) → copies_behind (path ++ n ∷ []) (copy_at naming (c n)) q ≡ told_below (path ++ n ∷ []) (copies_of objects path ids c n) q
    copies_below q =
        copies_told (path ++ n ∷ []) (copy_at naming (c n)) rooted q
        ∙ ap (λ (f : PathV → PathV). told_below (path ++ n ∷ []) (λ r. option_map f (copy_at naming (c n) r)) q) (λ i p. append_assoc path (n ∷ []) p i)

    -- ---- what is known of the parts

    module _ (short : long_told new.long ≡ None) where
      own : IsNamedPart objects (path ++ n ∷ []) (opens objects path ids c n) (ids_at objects ids n) (c n) mid new part
      own = merges.named short

      was : NamedSoFar objects path ids c (waits level) opened.kept old mid
      was = so.named (short_before short)

      abbrev entries_now : List ℕ → Entries
      entries_now = with_name own.entries was.entries

      not_this : (k : List ℕ) → waits level k ≡ false → k ≢ n
      not_this k done e = true≢false (sym waited ∙ ap (waits level) (sym e) ∙ done)

      parts_more : (k : List ℕ) → waits after k ≡ false → PartSo objects path ids c k (map.get opened_after.kept (k ∷ [])) (entries_now k)
      parts_more k done =
          by_name (λ j. waits after j ≡ false → PartSo objects path ids c j (map.get opened_after.kept (j ∷ [])) (entries_now j)) k
          (λ e. subst₂ (PartSo objects path ids c n) (sym kept_here) (sym (at_name own.entries was.entries)) (record { count = own.count; sound = own.sound; seen = own.seen; whole = own.whole }))
          (λ other e. subst₂ (PartSo objects path ids c k) (sym (kept_other k other)) (sym (at_other own.entries was.entries k other)) (was.parts k (was_done k other e)))
          done

      texts_more : (key : Key) (bytes : List ℕ) → map.get new.made key ≡ Some bytes → (map.get old.made key ≡ Some bytes) ⊎ ((k : List ℕ) × ((waits after k ≡ false) × IsDirectoryText (entries_now k) bytes))
      texts_more key bytes there = elim (own.texts key bytes there) [
        | inr text ↦ inr (n, (gone, subst (λ (E : Entries). IsDirectoryText E bytes) (sym (at_name own.entries was.entries)) text))
        | inl before ↦ elim (was.texts key bytes before) [
          | inl first ↦ inl first
          | inr found ↦ inr (found.0, (still_done found.0 found.1.0, subst (λ (E : Entries). IsDirectoryText E bytes) (sym (at_other own.entries was.entries found.0 (not_this found.0 found.1.0))) found.1.1))
        ]
      ]

      taken_told : (id : List ℕ) → new.stop ≡ Some (why.Taken id) → (old.stop ≡ Some (why.Taken id)) ⊎ ((k : List ℕ) × ((waits after k ≡ false) × IsTakenBelow (entries_now k) new.made id))
      taken_told id is = elim (own.taken id is) [
        | inr taken ↦ inr (n, (gone, subst (λ (E : Entries). IsTakenBelow E new.made id) (sym (at_name own.entries was.entries)) taken))
        | inl before ↦ elim (was.taken id before) [
          | inl first ↦ inl first
          | inr found ↦ inr (found.0, (still_done found.0 found.1.0, subst (λ (E : Entries). IsTakenBelow E new.made id) (sym (at_other own.entries was.entries found.0 (not_this found.0 found.1.0))) (taken_more (was.entries found.0) mid.made new.made own.kept_made id found.1.1)))
        ]
      ]

      many_told : new.stop ≡ Some why.Many → (old.stop ≡ Some why.Many) ⊎ ((k : List ℕ) × ((waits after k ≡ false) × (1000000 < paths_in (map.get opened_after.kept (k ∷ [])))))
      many_told is = elim (own.many is) [
        | inr big ↦ inr (n, (gone, subst (λ (p : Option Kept). 1000000 < paths_in p) (sym kept_here) big))
        | inl before ↦ elim (was.many before) [
          | inl first ↦ inl first
          | inr found ↦ inr (found.0, (still_done found.0 found.1.0, subst (λ (p : Option Kept). 1000000 < paths_in p) (sym (kept_other found.0 (not_this found.0 found.1.0))) found.1.1))
        ]
      ]

      built_now : new.stop ≡ None → BuiltSoFar objects path ids c (waits after) opened_after.kept entries_now old.made new.made
      built_now clear = record {
        kept_of = kept_now;
        parts = λ k done.
            by_name (λ j. waits after j ≡ false → PartBuilt objects path ids c j (map.get opened_after.kept (j ∷ [])) (entries_now j) (kept_now j) new.made) k
            (λ e. subst (λ (p : Option Kept). PartBuilt objects path ids c n p (entries_now n) (kept_now n) new.made) (sym kept_here)
            (subst₂ (λ (E : Entries) (K : PathV → Option (List ℕ)). PartBuilt objects path ids c n part E K new.made) (sym (at_name own.entries was.entries)) (sym (at_name b.kept w.kept_of))
            (record { complete = b.complete; known = b.known; top = b.top; own = b.own; value = b.value; ids_kept = b.ids_kept; same = b.same; heads = b.heads; zeros = b.zeros })))
            (λ other e. subst (λ (p : Option Kept). PartBuilt objects path ids c k p (entries_now k) (kept_now k) new.made) (sym (kept_other k other))
            (subst₂ (λ (E : Entries) (K : PathV → Option (List ℕ)). PartBuilt objects path ids c k (map.get opened.kept (k ∷ [])) E K new.made) (sym (at_other own.entries was.entries k other)) (sym (at_other b.kept w.kept_of k other))
            (built_more objects path ids c k (map.get opened.kept (k ∷ [])) (was.entries k) (w.kept_of k) mid.made new.made own.kept_made (w.parts k (was_done k other e)))))
            done;
        needed = λ id some has. elim (b.needed id some has) [
          | inr reached ↦ inr (n, (gone, λ more there keeps. subst (λ (p : Option Kept). IsDirectoryOf more (id_in p) id) (sym kept_here) (reached more there keeps)))
          | inl before ↦ elim (w.needed id some before) [
            | inl first ↦ inl first
            | inr found ↦ inr (
              found.0,
              (
                still_done found.0 found.1.0,
                λ more there keeps.
                    subst (λ (p : Option Kept). IsDirectoryOf more (id_in p) id) (sym (kept_other found.0 (not_this found.0 found.1.0))) (found.1.1 more there (kept_then mid.made new.made more own.kept_made keeps)),
              ),
            )
          ]
        ];
        below = λ key bytes there. elim (b.below key bytes there) [
          | inr lists ↦ inr (n, (gone, subst (λ (K : PathV → Option (List ℕ)). ListsKnown K new.made bytes) (sym (at_name b.kept w.kept_of)) lists))
          | inl before ↦ elim (w.below key bytes before) [
            | inl first ↦ inl first
            | inr found ↦ inr (
              found.0,
              (
                still_done found.0 found.1.0,
                subst (λ (K : PathV → Option (List ℕ)). ListsKnown K new.made bytes) (sym (at_other b.kept w.kept_of found.0 (not_this found.0 found.1.0)))
                    (lists_more objects path ids c (w.kept_of found.0) mid.made new.made own.kept_made bytes found.1.1),
              ),
            )
          ]
        ];
      }
        where
          b : IsBuiltBelow objects own.entries (opens objects path ids c n) (ids_at objects ids n) mid.made new.made (id_in part)
          b = own.built clear

          w : BuiltSoFar objects path ids c (waits level) opened.kept was.entries old.made mid.made
          w = was.built (own.still clear)

          kept_now : List ℕ → PathV → Option (List ℕ)
          kept_now = with_name b.kept w.kept_of

      named_more : NamedSoFar objects path ids c (waits after) opened_after.kept old new
      named_more = record {
        entries = entries_now;
        parts = parts_more;
        copies = λ q.
            own.copies q ∙ ap₂ (λ (x y : Option PathV). option_or x y) (copies_below q) (was.copies q)
            ∙ done_first path n (waits level) (waits after) (copies_of objects path ids c) waited gone others (map.get old.copies) q;
        kept_made = kept_then old.made mid.made new.made was.kept_made own.kept_made;
        texts = texts_more;
        taken = taken_told;
        many = many_told;
        still = λ clear. was.still (own.still clear);
        built = built_now;
      }

    pub merging_more : MergingSo objects path ids c after opened_after old new
    merging_more = record {
      base = λ k wait. left_waits level.base after.base left_base k wait ∙ so.base k (waited_before k wait);
      head = λ k wait. left_waits level.head after.head left_head k wait ∙ so.head k (waited_before k wait);
      pushed = λ k wait. left_waits level.pushed after.pushed left_pushed k wait ∙ so.pushed k (waited_before k wait);
      only = λ q there. so.only q (elim there [
        | inl b ↦ inl (left_some level.base after.base left_base q b)
        | inr more ↦ inr (elim more [ inl h ↦ inl (left_some level.head after.head left_head q h) | inr p ↦ inr (left_some level.pushed after.pushed left_pushed q p) ])
      ]);
      joined = joined_more;
      kept_waits = λ k wait. let other = not_gone k wait in kept_other k other ∙ so.kept_waits k (waited_before k wait);
      joined_single = λ q some. single_of (same_path q (n ∷ [])) q (Some (three_over part trio)) (map.get opened.joined q) refl (so.joined_single q) (sym (ap is_some (joined_at q)) ∙ some);
      kept_single = λ q some. single_of (same_path q (n ∷ [])) q (option_or part (map.get opened.kept q)) (map.get opened.kept q) refl (so.kept_single q) (sym (ap is_some (placed.kept q)) ∙ some);
      survives = λ k done.
          by_name (λ j. waits after j ≡ false → is_some (map.get opened_after.kept (j ∷ [])) ≡ stays (c j) []) k
          (λ e. ap is_some kept_here ∙ merges.survives)
          (λ other e. ap is_some (kept_other k other) ∙ so.survives k (was_done k other e))
          done;
      long = long_more;
      named = named_more;
    }
      where
        not_gone : (k : List ℕ) → waits after k ≡ true → k ≢ n
        not_gone k wait e = true≢false (sym wait ∙ ap (waits after) e ∙ gone)

        waited_before : (k : List ℕ) → waits after k ≡ true → waits level k ≡ true
        waited_before k wait = sym (others k (not_gone k wait)) ∙ wait

        left_waits : {X : Type 0} (m m2 : map.FinMap path_cmp X) → ((q : PathV) → map.get m2 q ≡ (if same_path q (n ∷ []) then None else map.get m q)) → (k : List ℕ) → waits after k ≡ true
            → map.get m2 (k ∷ []) ≡ map.get m (k ∷ [])
        left_waits m m2 left k wait = left (k ∷ []) ∙ ap (λ (b : Bool). if b then None else map.get m (k ∷ [])) (other_path k (not_gone k wait))

        left_some : {X : Type 0} (m m2 : map.FinMap path_cmp X) → ((q : PathV) → map.get m2 q ≡ (if same_path q (n ∷ []) then None else map.get m q)) → (q : PathV) → IsSome (map.get m2 q) → IsSome (map.get m q)
        left_some m m2 left q some = by (same_path q (n ∷ [])) (sym (ap is_some (left q)) ∙ some)
          where
            by : (b : Bool) → is_some (if b then None else map.get m q) ≡ true → is_some (map.get m q) ≡ true
            by true e = absurd (true≢false (sym e))
            by false e = e
