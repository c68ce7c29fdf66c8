-- For how many passes a pass of a hall stands, as a connection begins, at each call, and as it ends.
use Rattle.std.proofs.Common.{◌≡◌, ℕ, ap, sym, ◌∙◌}
use Rattle.sync_calls.specs.Hall.{PassOf, made_with, shares_of}

-- as many of as many
pub keeps_share : {share before begun made among all : ℕ} → (share ≡ before) × (made ≡ among) → (before ≡ begun) × (among ≡ all) → (share ≡ begun) × (made ≡ all)
keeps_share step since = (step.0 ∙ since.0, step.1 ∙ since.1)

module _ {S : Type 0} where
  -- one stands for as many as another, of as many
  abbrev pub SharesAs : PassOf S → PassOf S → Type 0
  SharesAs new old = (shares_of new ≡ shares_of old) × (made_with new ≡ made_with old)

  pub begins_share : (pass begun : PassOf S) → begun ≡ pass → SharesAs pass begun
  begins_share pass begun same = (ap (λ (p : PassOf S). shares_of p) (sym same), ap (λ (p : PassOf S). made_with p) (sym same))

  pub ends_share : (new old begun : PassOf S) → begun ≡ old → SharesAs new begun → SharesAs new old
  ends_share new old begun same since = (since.0 ∙ ap (λ (p : PassOf S). shares_of p) same, since.1 ∙ ap (λ (p : PassOf S). made_with p) same)
