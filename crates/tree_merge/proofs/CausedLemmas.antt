-- Over any shelf: what was made stays named, and an id that can't be taken is that of two things. The key lemmas are caused_other,
-- refused_named and refused_caused.
use Rattle.std.proofs.Common.{◌≡◌, refl, sym, ap, ◌∙◌, subst, ℕ, List, Some, inr}
use Rattle.ids.specs.Key.{Objects}
use Rattle.tree_merge.specs.LevelMerge.{RefusesDirectory}
use Rattle.tree_merge.specs.TreeBuilding.{AreNamed, IsCausedInBuild, IsCollision}
use Rattle.tree_merge.specs.WorkSoFar.{IsCausedIn, IsRefusedOther}
use Rattle.tree_merge.specs.declared.tree_builder.BuildFault.{BuildFault}
use Rattle.tree_merge.specs.declared.tree_builder.BuildFault.TheVariants.{NoMemory, Taken}
use Rattle.tree_merge.specs.declared.work.Stop.TheVariants as why
use Rattle.tree_merge.specs.declared.work.Work.{Work}

pub caused_other : (old more : Objects) (id : List ℕ) → AreNamed old → AreNamed more → IsRefusedOther old more id → IsCollision id
caused_other old more id named named_more r =
    let mine = named_more r.key r.bytes r.given in
    let theirs = named r.key r.other.1.0 r.other.1.1 in
    record { bytes = r.bytes; own = r.other.0 ∙ mine.is_sha1; clash = inr (r.other.1.0, r.other.1.2, r.other.0 ∙ theirs.is_sha1) }

-- a refusal makes nothing
pub refused_named : (fault : BuildFault) (old new : Work) → RefusesDirectory fault old new → AreNamed old.made → AreNamed new.made
refused_named NoMemory old new refused named = absurd refused
refused_named (Taken id) old new refused named = subst (λ (w : Work). AreNamed w.made) (sym refused) named

pub refused_caused : (fault : BuildFault) (old new : Work) → RefusesDirectory fault old new → (AreNamed old.made → (id : List ℕ) → fault ≡ Taken id → IsCollision id) → IsCausedIn old new
refused_caused NoMemory old new refused cause named id there = absurd refused
refused_caused (Taken i) old new refused cause named id there =
    let same : i ≡ id = of_some (sym (ap (λ (w : Work). w.stop) refused) ∙ there) in
    inr (subst IsCollision same (cause named i refl))
  where
    of_some : Some (why.Taken i) ≡ Some (why.Taken id) → i ≡ id
    of_some e = cc

pub built_caused : (fault : BuildFault) → IsCausedInBuild fault → (id : List ℕ) → fault ≡ Taken id → IsCollision id
built_caused NoMemory cause id is = cc is
built_caused (Taken i) cause id is = let same : i ≡ id = cc in subst IsCollision same cause
