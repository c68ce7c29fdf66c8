-- What a look and a reading tell of a path. The key lemmas are looks_none, looks_dir, looks_no_file, looks_file, same_read
-- and same_kept.
use Rattle.std.proofs.Common.{◌≡◌, ℕ, true≢false, Bool, true, false, List, Option, None, Some, option_map, refl, sym, ap, subst, ◌∙◌}
use Rattle.std.specs.Prelude.{◌↔◌, Err, IfOk, IsTrue, Ok, Result}
use Rattle.std.specs.Option.{is_none}
use Rattle.block_chunker.specs.declared.cuts.Cuts.{Cuts}
use Rattle.folder_side.specs.FileRead.{ReadsFile}
use Rattle.folder_side.specs.Folder.{kind_of}
use Rattle.folder_side.specs.declared.file_reader.FileRead.{FileRead}
use Rattle.folder_side.specs.declared.folder.ItemKind.{ItemKind}
use Rattle.folder_side.specs.declared.holding.Holding.{Holding}
use Rattle.folder_side.specs.declared.holding.Holding.TheVariants.{Dir, File, Other}
use Rattle.folder_side.specs.declared.scan_report.Seen.{Seen}
use Rattle.folder_side.specs.declared.scan_report.Seen.TheVariants as seen
use Rattle.tree_checkout.specs.SecondLook.{LooksAs, is_dir_kind, is_file_kind}

-- ---- beside what was seen

apart : (P : Type 0) (told : Bool) → told ≡ false → (P → ⊥) → IsTrue told ↔ P
apart P told is none = (λ t. absurd (true≢false (sym t ∙ is)), λ p. absurd (none p))

pub looks_none : (cuts : Cuts) (h : Option Holding) (k : Option ItemKind) (told : Bool) → k ≡ option_map kind_of h → told ≡ is_none k → IsTrue told ↔ LooksAs cuts h None
looks_none cuts None k told is same = (λ _. tt, λ _. same ∙ ap is_none is)
looks_none cuts (Some Dir) k told is same = apart (LooksAs cuts (Some Dir) None) told (same ∙ ap is_none is) (λ l. l)
looks_none cuts (Some (File bytes)) k told is same = apart (LooksAs cuts (Some (File bytes)) None) told (same ∙ ap is_none is) (λ l. l)
looks_none cuts (Some Other) k told is same = apart (LooksAs cuts (Some Other) None) told (same ∙ ap is_none is) (λ l. l)

pub looks_dir : (cuts : Cuts) (h : Option Holding) (k : Option ItemKind) (told : Bool) → k ≡ option_map kind_of h → told ≡ is_dir_kind k
    → IsTrue told ↔ LooksAs cuts h (Some seen.Dir)
looks_dir cuts None k told is same = apart (LooksAs cuts None (Some seen.Dir)) told (same ∙ ap is_dir_kind is) (λ l. l)
looks_dir cuts (Some Dir) k told is same = (λ _. tt, λ _. same ∙ ap is_dir_kind is)
looks_dir cuts (Some (File bytes)) k told is same = apart (LooksAs cuts (Some (File bytes)) (Some seen.Dir)) told (same ∙ ap is_dir_kind is) (λ l. l)
looks_dir cuts (Some Other) k told is same = apart (LooksAs cuts (Some Other) (Some seen.Dir)) told (same ∙ ap is_dir_kind is) (λ l. l)

-- no file stands there
pub looks_no_file : (cuts : Cuts) (h : Option Holding) (k : Option ItemKind) (blocks : List (List ℕ)) (size : ℕ) → k ≡ option_map kind_of h → is_file_kind k ≡ false
    → IsTrue false ↔ LooksAs cuts h (Some (seen.File blocks size))
looks_no_file cuts None k blocks size is none = apart (LooksAs cuts None (Some (seen.File blocks size))) false refl (λ l. l)
looks_no_file cuts (Some Dir) k blocks size is none = apart (LooksAs cuts (Some Dir) (Some (seen.File blocks size))) false refl (λ l. l)
looks_no_file cuts (Some (File bytes)) k blocks size is none = absurd (true≢false (sym (ap is_file_kind is) ∙ none))
looks_no_file cuts (Some Other) k blocks size is none = apart (LooksAs cuts (Some Other) (Some (seen.File blocks size))) false refl (λ l. l)

pub file_of_kind : (h : Option Holding) (k : Option ItemKind) → k ≡ option_map kind_of h → is_file_kind k ≡ true → (bytes : List ℕ) × (h ≡ Some (File bytes))
file_of_kind None k is some = absurd (true≢false (sym some ∙ ap is_file_kind is))
file_of_kind (Some Dir) k is some = absurd (true≢false (sym some ∙ ap is_file_kind is))
file_of_kind (Some (File bytes)) k is some = (bytes, refl)
file_of_kind (Some Other) k is some = absurd (true≢false (sym some ∙ ap is_file_kind is))

-- a file stands there, and was read
pub looks_file : {E : Type 0} (cuts : Cuts) (h : Option Holding) (bytes : List ℕ) (blocks shown : List (List ℕ)) (size : ℕ) (s : Seen) (r : Result Bool E) → h ≡ Some (File bytes)
    → s ≡ seen.File blocks size → shown ≡ blocks → IfOk r (λ told. IsTrue told ↔ ReadsFile cuts bytes (record { blocks = shown; size = size }))
    → IfOk r (λ told. IsTrue told ↔ LooksAs cuts h (Some s))
looks_file {E} cuts h bytes blocks shown size s r is was same reads =
    subst (λ (o : Option Holding). IfOk r (λ told. IsTrue told ↔ LooksAs cuts o (Some s))) (sym is)
    (subst (λ (t : Seen). IfOk r (λ told. IsTrue told ↔ LooksAs cuts (Some (File bytes)) (Some t))) (sym was)
    (subst (λ (ids : List (List ℕ)). IfOk r (λ told. IsTrue told ↔ ReadsFile cuts bytes (record { blocks = ids; size = size }))) same reads))

pub same_parts : (read : FileRead) (blocks shown : List (List ℕ)) (size : ℕ) (told : Bool) → read.size ≡ size → shown ≡ read.blocks → IsTrue told ↔ (shown ≡ blocks)
    → IsTrue told ↔ (read ≡ record { blocks = blocks; size = size })
same_parts read blocks shown size told sized same is = (
  λ t. λ i. record { blocks = (sym same ∙ is.0 t) i; size = sized i },
  λ e. is.1 (same ∙ ap (λ (r : FileRead). r.blocks) e),
)

pub same_read : (cuts : Cuts) (bytes : List ℕ) (read file : FileRead) (told : Bool) → ReadsFile cuts bytes read → IsTrue told ↔ (read ≡ file)
    → IsTrue told ↔ ReadsFile cuts bytes file
same_read cuts bytes read file told reads same = (
  λ t. subst (ReadsFile cuts bytes) (same.0 t) reads,
  λ others. same.1 (λ i. record { blocks = (reads.blocks ∙ sym others.blocks) i; size = (reads.size ∙ sym others.size) i }),
)

-- it was read as the same, and is as it was opened
pub same_kept : {E : Type 0} (P : Type 0) (told : Bool) (result : Result Bool E) → told ≡ true → IsTrue told ↔ P → IfOk result (λ same. same ≡ true)
    → IfOk result (λ same. IsTrue same ↔ P)
same_kept P told (Ok same) is reads kept = (λ _. reads.0 is, λ _. kept)
same_kept P told (Err e) is reads kept = tt

pub same_other : (P : Type 0) (told : Bool) → told ≡ false → IsTrue told ↔ P → IsTrue false ↔ P
same_other P told is reads = subst (λ (b : Bool). IsTrue b ↔ P) is reads
