-- The orders of ids and of keys are total, and only equal ones tie. The key lemmas are id_cmp_total, id_cmp_exact,
-- key_cmp_total and key_cmp_exact; key_cmp_same says that `Ord` of a key computes this order.
use Rattle.std.proofs.Common.{◌≡◌, refl}
use Rattle.std.specs.Cmp.{IsTotalOrder, then_total, on_total, nat_cmp_total}
use Rattle.std.specs.Cmp.Lexicographic.{nat_list_cmp_total}
use Rattle.std.specs.FinMap.{IsAntisymmetric, nat_cmp-IsAntisymmetric, slice_cmp-IsAntisymmetric}
use Rattle.std.specs.declared.cmp.Ordering.{Ordering}
use Rattle.std.specs.Ordering.{nat_cmp, ordering_then}
use Rattle.std.specs.declared.cmp.Ordering.TheVariants.{Less, Equal, Greater}
use Rattle.ids.specs.Key.{key_cmp}
use Rattle.ids.specs.Kind.{kind_place}
use Rattle.ids.specs.ObjectId.{id_cmp}
use Rattle.ids.specs.contracts.key.KeyOrd.TheImpl as key_ord
use Rattle.ids.specs.contracts.object_id.ObjIdOrd.TheImpl as id_ord
use Rattle.ids.specs.declared.key.Key.{Key}
use Rattle.ids.specs.declared.key.Kind.{Kind}
use Rattle.ids.specs.declared.key.Kind.TheVariants.{Commit, Fs, Block}

pub id_cmp_total : IsTotalOrder id_cmp
id_cmp_total = nat_list_cmp_total

pub id_cmp_exact : IsAntisymmetric id_cmp
id_cmp_exact = slice_cmp-IsAntisymmetric nat_cmp-IsAntisymmetric

pub key_cmp_total : IsTotalOrder key_cmp
key_cmp_total = then_total (on_total (λ (k : Key). kind_place k.kind) nat_cmp_total) (on_total (λ (k : Key). k.id) nat_list_cmp_total)

-- kinds at one place are one kind
kind_at : (a b : Kind) → kind_place a ≡ kind_place b → a ≡ b
kind_at Commit Commit e = refl
kind_at Commit Fs e = cc
kind_at Commit Block e = cc
kind_at Fs Commit e = cc
kind_at Fs Fs e = refl
kind_at Fs Block e = cc
kind_at Block Commit e = cc
kind_at Block Fs e = cc
kind_at Block Block e = refl

-- both parts tie where the whole does
then_equal : (r s : Ordering) → ordering_then r s ≡ Equal → (r ≡ Equal) × (s ≡ Equal)
then_equal Less s e = cc
then_equal Equal s e = (refl, e)
then_equal Greater s e = cc

pub key_cmp_exact : IsAntisymmetric key_cmp
key_cmp_exact a b e =
    let parts = then_equal (nat_cmp (kind_place a.kind) (kind_place b.kind)) (id_cmp a.id b.id) e in
    let kinds : a.kind ≡ b.kind = kind_at a.kind b.kind (nat_cmp-IsAntisymmetric _ _ parts.0) in
    let names : a.id ≡ b.id = id_cmp_exact a.id b.id parts.1 in
    λ i. record { kind = kinds i; id = names i }

-- `Ord` of an id, and of a key, computes these orders
pub id_cmp_same : id_ord.ghosts.cmp ≡ id_cmp
id_cmp_same = refl

pub key_cmp_same : key_ord.ghosts.cmp ≡ key_cmp
key_cmp_same = refl
