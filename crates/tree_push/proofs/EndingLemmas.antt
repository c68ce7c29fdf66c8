-- Which refusals end an upload: each that an order of it can have, but that an update came too late. The key lemmas are upload_ends and
-- update_ends.
use Rattle.std.proofs.Common.{◌≡◌, true, false, refl, sym, true≢false}
use Rattle.http_client.specs.OrderOutcome.{can_refuse, is_update}
use Rattle.http_front.specs.declared.order.What.{What}
use Rattle.http_front.specs.declared.order.What.TheVariants as what
use Rattle.library_state.specs.declared.refusal.Refusal.{Refusal}
use Rattle.library_state.specs.declared.refusal.Refusal.TheVariants as refusal
use Rattle.sync_rules.specs.Causes.{ends_sync}
use Rattle.sync_rules.specs.Named.{is_upload}

pub upload_ends : (asked : What) → is_upload asked ≡ true → is_update asked ≡ false → (why : Refusal) → can_refuse asked why ≡ true → ends_sync asked why ≡ true
upload_ends (what.Missing kind ids) is plain (refusal.Stale last now) can = absurd (true≢false (sym can))
upload_ends (what.Missing kind ids) is plain _ can = refl
upload_ends (what.Put key bytes) is plain (refusal.Stale last now) can = absurd (true≢false (sym can))
upload_ends (what.Put key bytes) is plain _ can = refl
upload_ends (what.PutFs rows) is plain (refusal.Stale last now) can = absurd (true≢false (sym can))
upload_ends (what.PutFs rows) is plain _ can = refl
upload_ends (what.Update commit) is plain why can = absurd (true≢false plain)
upload_ends _ is plain why can = absurd (true≢false (sym is))
