use Rattle.std.proofs.Common.{◌≡◌, ◌∙◌, ap, sym, pos, ◌*ℤ◌, ℤ, FitsSigned, w64, to_z-of_z, arith}
use Rattle.std.proofs.lemmas.Int.{ints}
use Rattle.conflict_names.specs.CivilTime.{moment_of}
use Rattle.conflict_names.proofs.CivilLemmas.{stamp-civil, year-not_negative}
use Rattle.conflict_names.proofs.civil_time.stamp_at.Goals as goal

pub stamp_of-requires : goal.stamp_of-requires
stamp_of-requires c =
    let fits : FitsSigned w64 c.args.mtime = c.ranges.mtime in
    let moment : c.shown_moment-moment.result ≡ pos (moment_of c.args.mtime) = simp to_z-of_z at c.shown_moment-moment.ensures.value in
    let small : FitsSigned w64 c.shown_moment-moment.result = omega (arith, ints, moment, c.shown_moment-moment.ensures.bound) in
    let time = simp to_z-of_z at c.civil_time-time.ensures.value in
    record { from_zero = year-not_negative c.civil_time-time.result (moment_of c.args.mtime) (time ∙ ap (λ (z : ℤ). z *ℤ pos 1_000_000_000) moment) }

pub returns : goal.returns
returns c =
    let fits : FitsSigned w64 c.args.mtime = c.ranges.mtime in
    let moment : c.shown_moment-moment.result ≡ pos (moment_of c.args.mtime) = simp to_z-of_z at c.shown_moment-moment.ensures.value in
    let small : FitsSigned w64 c.shown_moment-moment.result = omega (arith, ints, moment, c.shown_moment-moment.ensures.bound) in
    let time = simp to_z-of_z at c.civil_time-time.ensures.value in
    record { value = c.stamp_of.ensures.value ∙ sym (stamp-civil c.civil_time-time.result (moment_of c.args.mtime) (time ∙ ap (λ (z : ℤ). z *ℤ pos 1_000_000_000) moment)) }
