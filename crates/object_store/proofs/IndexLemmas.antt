-- How an index is read from a shelf, and what a whole one tells. The key lemmas are read-more, read-all, whole-index
-- and next-held.
use Rattle.std.proofs.Common.{◌≡◌, ℕ, Bool, true, false, cond, ◌&&◌, ◌||◌, not, List, length, Option, None, Some, is_some, IsSome, refl, sym, ap, ◌∙◌, true≢false}
use Rattle.std.specs.Prelude.{◌==◌, nat_lt, option_map}
use Rattle.std.specs.Cmp.{tied_itself, upto}
use Rattle.std.specs.FinMap as map
use Rattle.std.specs.Ordering.{eq_by_cmp, is_eq, is_gt, ordering_reverse}
use Rattle.std.specs.declared.cmp.Ordering.{Ordering}
use Rattle.std.specs.declared.cmp.Ordering.TheVariants.{Less, Equal, Greater}
use Rattle.ids.specs.Key.{Objects, key_cmp}
use Rattle.ids.specs.Kind.{kind_place}
use Rattle.ids.specs.MapView.{IsAbove, IsNext}
use Rattle.ids.specs.ObjectId.{id_cmp}
use Rattle.ids.specs.declared.key.Key.{Key}
use Rattle.ids.specs.declared.key.Kind.{Kind}
use Rattle.ids.specs.declared.key.Kind.TheVariants.{Commit, Fs, Block}
use Rattle.ids.proofs.KeyOrderLemmas.{id_cmp_total, id_cmp_exact, key_cmp_total, key_cmp_exact}
use Rattle.object_store.proofs.MapLemmas.{get-retained, tied_key}
use Rattle.object_store.specs.Shelf.{Contents, FindsNext, IsNextFound}
use Rattle.object_store.specs.Steps.{Indexes, is_done, is_read, is_upto}
use Rattle.object_store.specs.StoreView.{Index, IsIndexOf, indexed}
use Rattle.object_store.specs.declared.shelf.Found.{Found}
use Rattle.ids.proofs.BasicLemmas.{is_some-option_map}

-- what the index holds at a key of this kind, where c tells whether its id was read
at_kind : Kind → Kind → Bool → Option ℕ → Option ℕ
at_kind kind own c x = cond (nat_lt (kind_place own) (kind_place kind) || (kind_place own == kind_place kind) && c) x None

-- only keys of the kind that is read are affected by which ids were read
by_kind : (kind own : Kind) (c d : Bool) (x : Option ℕ) → (own ≡ kind → cond c x None ≡ cond d x None) → at_kind kind own c x ≡ at_kind kind own d x
unfolding at_kind
by_kind Commit Commit c d x h = h refl
by_kind Commit Fs c d x h = refl
by_kind Commit Block c d x h = refl
by_kind Fs Commit c d x h = refl
by_kind Fs Fs c d x h = h refl
by_kind Fs Block c d x h = refl
by_kind Block Commit c d x h = refl
by_kind Block Fs c d x h = refl
by_kind Block Block c d x h = h refl

-- a kind is done when all of its ids were read
done_kind : (kind own : Kind) (c : Bool) (x : Option ℕ) → (own ≡ kind → cond c x None ≡ x)
    → at_kind kind own c x ≡ cond (not (nat_lt (kind_place kind) (kind_place own))) x None
unfolding at_kind
done_kind Commit Commit c x h = h refl
done_kind Commit Fs c x h = refl
done_kind Commit Block c x h = refl
done_kind Fs Commit c x h = refl
done_kind Fs Fs c x h = h refl
done_kind Fs Block c x h = refl
done_kind Block Commit c x h = refl
done_kind Block Fs c x h = refl
done_kind Block Block c x h = h refl

-- an id that wasn't read is above the last that was
unread_above : (last : Option (List ℕ)) (id : List ℕ) → is_upto last id ≡ false → IsAbove id_cmp last id
unread_above None id e = tt
unread_above (Some last) id e = turned (id_cmp id last) (id_cmp last id) (id_cmp_total.antisymm last id) e
  where
    turned : (r s : Ordering) → s ≡ ordering_reverse r → not (is_gt r) ≡ false → s ≡ Less
    turned Less s e f = absurd (true≢false f)
    turned Equal s e f = absurd (true≢false f)
    turned Greater s e f = e

-- an id that was read is at most one that is above the last
read_upto : (last : Option (List ℕ)) (id next : List ℕ) → is_upto last id ≡ true → IsAbove id_cmp last next → is_gt (id_cmp id next) ≡ false
read_upto None id next e above = absurd (true≢false (sym e))
read_upto (Some last) id next e above = upto id_cmp_total id last next (negated (is_gt (id_cmp id last)) e) (ap is_gt above)
  where
    negated : (b : Bool) → not b ≡ true → b ≡ false
    negated true e = absurd (true≢false (sym e))
    negated false e = refl

-- what is no longer to come isn't stored
not_there : (o : Option (List ℕ)) → (IsSome o → true ≡ false) → option_map length o ≡ None
not_there None f = refl
not_there (Some x) f = absurd (true≢false (f refl))

-- at an id of the kind: whether it was read before and whether it is now tell the same, but for the one that was found
one_more : (objects : Objects) (kind : Kind) (last : Option (List ℕ)) (found : Found) → IsNextFound objects kind last found → (id : List ℕ)
    → (id ≡ found.id → true ≡ false) → (r : Ordering) (b : Bool) → id_cmp id found.id ≡ r → is_upto last id ≡ b
    → cond b (option_map length (map.get objects (record { kind = kind; id = id }))) None
    ≡ cond (not (is_gt r)) (option_map length (map.get objects (record { kind = kind; id = id }))) None
one_more objects kind last found is id other Less true e f = refl
one_more objects kind last found is id other Less false e f =
    sym (not_there (map.get objects (record { kind = kind; id = id })) (λ there.
    ap is_gt (sym (id_cmp_total.antisymm found.id id ∙ ap ordering_reverse e)) ∙ is.least id (unread_above last id f) there))
one_more objects kind last found is id other Equal b e f = absurd (true≢false (other (id_cmp_exact id found.id e)))
one_more objects kind last found is id other Greater true e f =
    absurd (true≢false (ap is_gt (sym e) ∙ read_upto last id found.id f is.above))
one_more objects kind last found is id other Greater false e f = refl

same_key : (kind : Kind) (q : Key) (id : List ℕ) → q.kind ≡ kind → q.id ≡ id → ◌≡◌ {A = Key} q (record { kind = kind; id = id })
same_key kind q id k i = λ t. record { kind = k t; id = i t }

insert_at : (objects : Objects) (kind : Kind) (last : Option (List ℕ)) (found : Found) (index : Index) → IsNextFound objects kind last found
    → Indexes (is_read kind last) objects index → (q : Key) (b : Bool) → eq_by_cmp key_cmp q (record { kind = kind; id = found.id }) ≡ b
    → cond b (Some found.size) (map.get index q) ≡ cond (is_read kind (Some found.id) q) (option_map length (map.get objects q)) None
unfolding at_kind
insert_at objects kind last found index is read q true e =
    let same = tied_key q (record { kind = kind; id = found.id }) e in
    sym (ap (λ k. cond (is_read kind (Some found.id) k) (option_map length (map.get objects k)) None) same
    ∙ here kind (option_map length (map.get objects (record { kind = kind; id = found.id }))) ∙ is.there)
  where
    own : is_upto (Some found.id) found.id ≡ true
    own = ap (λ r. not (is_gt r)) (tied_itself id_cmp_total found.id)

    here : (kind : Kind) (x : Option ℕ) → cond (nat_lt (kind_place kind) (kind_place kind) || (kind_place kind == kind_place kind) && is_upto (Some found.id) found.id) x None ≡ x
    here Commit x = ap (λ b. cond b x None) own
    here Fs x = ap (λ b. cond b x None) own
    here Block x = ap (λ b. cond b x None) own
insert_at objects kind last found index is read q false e =
    read q ∙ by_kind kind q.kind (is_upto last q.id) (is_upto (Some found.id) q.id) (option_map length (map.get objects q)) (λ k.
    let at = same_key kind q q.id k refl in
    ap (λ o. cond (is_upto last q.id) (option_map length o) None) (ap (map.get objects) at)
    ∙ one_more objects kind last found is q.id (other k) (id_cmp q.id found.id) (is_upto last q.id) refl refl
    ∙ ap (λ o. cond (is_upto (Some found.id) q.id) (option_map length o) None) (sym (ap (map.get objects) at)))
  where
    other : q.kind ≡ kind → q.id ≡ found.id → true ≡ false
    other k i = sym (ap (eq_by_cmp key_cmp q) (sym (same_key kind q found.id k i)) ∙ ap is_eq (tied_itself key_cmp_total q)) ∙ e

-- the index after one more name was read
pub read-more : (objects : Objects) (kind : Kind) (last : Option (List ℕ)) (found : Found) (index : Index) → IsNextFound objects kind last found
    → Indexes (is_read kind last) objects index
    → Indexes (is_read kind (Some found.id)) objects (map.insert index (record { kind = kind; id = found.id }) found.size)
read-more objects kind last found index is read q =
    map.get-insert key_cmp_total index (record { kind = kind; id = found.id }) found.size q
    ∙ insert_at objects kind last found index is read q (eq_by_cmp key_cmp q (record { kind = kind; id = found.id })) refl

rest_none : (objects : Objects) (kind : Kind) (last : Option (List ℕ)) (id : List ℕ) (b : Bool) → is_upto last id ≡ b → FindsNext objects kind last None
    → cond b (option_map length (map.get objects (record { kind = kind; id = id }))) None ≡ option_map length (map.get objects (record { kind = kind; id = id }))
rest_none objects kind last id true e none = refl
rest_none objects kind last id false e none = sym (ap (option_map length) (none id (unread_above last id e)))

-- the index after the last name of a kind
pub read-all : (objects : Objects) (kind : Kind) (last : Option (List ℕ)) (index : Index) → FindsNext objects kind last None
    → Indexes (is_read kind last) objects index → Indexes (is_done kind) objects index
unfolding at_kind
read-all objects kind last index none read q =
    read q ∙ done_kind kind q.kind (is_upto last q.id) (option_map length (map.get objects q)) (λ k.
    let at = same_key kind q q.id k refl in
    ap (λ o. cond (is_upto last q.id) (option_map length o) None) (ap (map.get objects) at)
    ∙ rest_none objects kind last q.id (is_upto last q.id) refl none
    ∙ ap (option_map length) (sym (ap (map.get objects) at)))

-- ---- from kind to kind

first_kind : (own : Kind) (x : Option ℕ) → None ≡ cond (nat_lt (kind_place own) 0 || (kind_place own == 0) && false) x None
first_kind Commit x = refl
first_kind Fs x = refl
first_kind Block x = refl

-- of an empty index no name was read
pub read-none : (objects : Objects) (index : Index) → index ≡ map.empty → Indexes (is_read Commit None) objects index
read-none objects index empty q = ap (λ m. map.get m q) empty ∙ map.get-empty key_cmp q ∙ first_kind q.kind (option_map length (map.get objects q))

to_fs : (own : Kind) (x : Option ℕ) → cond (not (nat_lt 0 (kind_place own))) x None ≡ cond (nat_lt (kind_place own) 1 || (kind_place own == 1) && false) x None
to_fs Commit x = refl
to_fs Fs x = refl
to_fs Block x = refl

pub then-fs : (objects : Objects) (index : Index) → Indexes (is_done Commit) objects index → Indexes (is_read Fs None) objects index
then-fs objects index read q = read q ∙ to_fs q.kind (option_map length (map.get objects q))

to_block : (own : Kind) (x : Option ℕ) → cond (not (nat_lt 1 (kind_place own))) x None ≡ cond (nat_lt (kind_place own) 2 || (kind_place own == 2) && false) x None
to_block Commit x = refl
to_block Fs x = refl
to_block Block x = refl

pub then-block : (objects : Objects) (index : Index) → Indexes (is_done Fs) objects index → Indexes (is_read Block None) objects index
then-block objects index read q = read q ∙ to_block q.kind (option_map length (map.get objects q))

to_end : (own : Kind) (x : Option ℕ) → cond (not (nat_lt 2 (kind_place own))) x None ≡ x
to_end Commit x = refl
to_end Fs x = refl
to_end Block x = refl

pub then-end : (objects : Objects) (index : Index) → Indexes (is_done Block) objects index → IsIndexOf objects index
then-end objects index read q = read q ∙ to_end q.kind (option_map length (map.get objects q))

-- ---- what a whole index tells

unsized : (x : Option (List ℕ)) → None ≡ option_map length x → x ≡ None
unsized None e = refl
unsized (Some x) e = absurd (true≢false (sym (ap is_some e)))

-- a key stands in the index where it is held
pub stands : (objects : Objects) (index : Index) → IsIndexOf objects index → (q : Key) → is_some (map.get index q) ≡ is_some (map.get objects q)
stands objects index is q = ap is_some (is q) ∙ is_some-option_map length (map.get objects q)

-- the next key of the index is the next that is held
pub next-held : (objects : Objects) (index : Index) → IsIndexOf objects index → (after result : Option Key) → IsNext index after result → IsNext objects after result
next-held objects index is after None next = λ q above. unsized (map.get objects q) (sym (next q above) ∙ is q)
next-held objects index is after (Some key) next = record {
  there = sym (stands objects index is key) ∙ next.there;
  above = next.above;
  least = λ q above there. next.least q above (stands objects index is q ∙ there);
}

whole_at : (i : Option ℕ) (x : Option (List ℕ)) → i ≡ option_map length x → cond (is_some i) x None ≡ x
whole_at i None e = ap (λ o. cond (is_some o) None None) e
whole_at i (Some x) e = ap (λ o. cond (is_some o) (Some x) None) e

-- of a whole index all that lies there is held
pub whole-index : (known : Option Contents) (index : Index) → ((held : Contents) → known ≡ Some held → IsIndexOf held.objects index)
    → option_map (indexed index) known ≡ option_map (λ held. held.objects) known
whole-index None index is = refl
whole-index (Some held) index is = ap Some (map.same_map key_cmp_total key_cmp_exact _ _ (λ q.
    get-retained held.objects index q ∙ whole_at (map.get index q) (map.get held.objects q) (is held refl q)))
