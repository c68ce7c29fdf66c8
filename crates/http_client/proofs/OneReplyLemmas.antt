-- A reply tells one thing, but where only heads of more than 64 fields go on. The key lemma is one_reply.
use Rattle.std.proofs.Common.{◌≡◌, ℕ, ◌+◌, ◌<◌, nat_le, Bool, true, false, List, [], ◌++◌, length, take, drop, Option, None, Some, refl, sym, ap, ap₂, subst, ◌∙◌, ◌⊎◌, inl, inr, arith, append_assoc}
use Rattle.std.proofs.lemmas.Bool.{leb-false, leb-true}
use Rattle.std.proofs.lemmas.List.{take-append-drop, take-take}
use Rattle.httparse.specs.Grammar.{ReadsResponse, ResponseHead, print_response}
use Rattle.library_state.specs.declared.tag.Tag.{Tag}
use Rattle.http_front.specs.NextHead.{IsTagIn}
use Rattle.http_front.specs.declared.order.What.{What}
use Rattle.http_front.specs.declared.outcome.Outcome.{Outcome}
use Rattle.http_front.specs.declared.status.Status.{Status}
use Rattle.http_front.proofs.TagLemmas.{tag_once}
use Rattle.http_client.specs.OutcomeReading.{IsOutcome}
use Rattle.http_client.specs.ReplyHead.{IsHeadAt, IsRight, IsWrong, MayBecomeHead, NeverHasHead, closes, fields_of, tag_field}
use Rattle.http_client.specs.Response.{HasHead, IsBad, IsCut, IsOpen, IsResponse, IsWhole, NeedsManyFields, body_behind, front_of}
use Rattle.http_client.specs.declared.response.Response.{Response}
use Rattle.http_client.specs.declared.response.Response.TheVariants.{Need, Whole, Bad}
use Rattle.http_client.proofs.OutcomeOnceLemmas.{StandsOnce, head_once, outcome_once, stood_once}

-- ---- beginnings

-- what goes on as a head begins with what does
may_before : (front : List ℕ) (k : ℕ) → MayBecomeHead front → MayBecomeHead (take k front)
may_before front k may = record {
  more = drop k front ++ may.more;
  head = may.head;
  reads = subst (λ (bytes : List ℕ). ReadsResponse bytes may.head []) (ap (λ (b : List ℕ). b ++ may.more) (sym (take-append-drop k front)) ∙ append_assoc (take k front) (drop k front) may.more) may.reads;
  newest = may.newest;
}

module _ (buffer : List ℕ) where
  many_by : (k : ℕ) → MayBecomeHead (take k (front_of buffer)) → NeverHasHead (take k (front_of buffer)) → NeedsManyFields buffer
  many_by k may never = record { size = k; may = may; never = never }

  open_never : (at : ℕ) → IsOpen buffer → NeverHasHead (take (at + 1) (front_of buffer)) → NeedsManyFields buffer
  open_never at open_is never = many_by (at + 1) (may_before (front_of buffer) (at + 1) open_is.may) never

  -- two first places at which no head goes on
  two_places : (at place : ℕ) → at < place → MayBecomeHead (take place (front_of buffer)) → NeverHasHead (take (at + 1) (front_of buffer)) → NeedsManyFields buffer
  two_places at place less may never =
      many_by (at + 1)
      (subst MayBecomeHead (take-take (at + 1) place (front_of buffer) (omega (arith, less))) (may_before (take place (front_of buffer)) (at + 1) may)) never

-- ---- a head that stands

module _ (order : What) (buffer : List ℕ) where
  -- where a right head stands its bytes are none that no head goes on, none that are open, and no wrong head
  right_or_wrong : (h k : ResponseHead) (s : Status) (n : ℕ) (rest : List ℕ) → HasHead order buffer h s n → IsHeadAt (front_of buffer) k rest → IsWrong order k → ⊥
  right_or_wrong h k s n rest has at wrong =
      let same = head_once (front_of buffer) h k has.rest rest has.at at in
      wrong s n (subst (λ (x : ResponseHead). IsRight order x s n) same has.right)

  -- what it and its body have in all
  all_same : (h k : ResponseHead) (s t : Status) (n m : ℕ) → StandsOnce h k s t n m → length (print_response h) + n ≡ length (print_response k) + m
  all_same h k s t n m once = ap₂ (λ (x : ResponseHead) (y : ℕ). length (print_response x) + y) once.head once.size

  -- its tag
  tag_same : (h k : ResponseHead) (g f : Option Tag) → h ≡ k → IsTagIn (tag_field (fields_of h)) g → IsTagIn (tag_field (fields_of k)) f → g ≡ f
  tag_same h k g f same is also = tag_once (tag_field (fields_of k)) g f (subst (λ (x : ResponseHead). IsTagIn (tag_field (fields_of x)) g) same is) also

  outcome_same : (h k : ResponseHead) (s t : Status) (n m : ℕ) (g f : Option Tag) (a b : Option Outcome) → StandsOnce h k s t n m → g ≡ f
      → IsOutcome order s g (body_behind buffer h n) a → IsOutcome order t f (body_behind buffer k m) b → a ≡ b
  outcome_same h k s t n m g f a b once tag is also =
      let body : body_behind buffer h n ≡ body_behind buffer k m = ap₂ (λ (x : ResponseHead) (y : ℕ). body_behind buffer x y) once.head once.size in
      outcome_once order t f (body_behind buffer k m) a b
      (subst (λ (x : Status). IsOutcome order x f (body_behind buffer k m) a) once.status_is
      (subst (λ (x : Option Tag). IsOutcome order s x (body_behind buffer k m) a) tag (subst (λ (z : List ℕ). IsOutcome order s g z a) body is))) also

  cut_or_whole : (o : Outcome) (used : ℕ) (ends : Bool) → IsCut order buffer → IsWhole order buffer o used ends → ⊥
  cut_or_whole o used ends (IsCut.in_head less open_is) w = open_is.none w.head w.has.rest w.has.at.reads
  cut_or_whole o used ends (IsCut.in_body h s n has short) w =
      let same = all_same h w.head s w.status n w.size (stood_once order buffer h w.head s w.status n w.size has w.has) in
      let used_is = w.used_is in
      let there = w.there in
      omega (arith, short, same, used_is, there)

  cut_or_bad : (at : ℕ) → IsCut order buffer → IsBad order buffer at → NeedsManyFields buffer
  cut_or_bad at (IsCut.in_head less open_is) (IsBad.in_bytes none inside may never) = open_never buffer at open_is never
  cut_or_bad at (IsCut.in_head less open_is) (IsBad.in_length is full also) = absurd (omega (arith, less, full))
  cut_or_bad at (IsCut.in_head less open_is) (IsBad.in_head head rest is wrong at_is) = absurd (open_is.none head rest is.reads)
  cut_or_bad at (IsCut.in_head less open_is) (IsBad.in_body head s n s_tag has s_tag_is fits tells at_is) = absurd (open_is.none head has.rest has.at.reads)
  cut_or_bad at (IsCut.in_body h s n has short) (IsBad.in_bytes none inside may never) = absurd (none h has.rest has.at)
  cut_or_bad at (IsCut.in_body h s n has short) (IsBad.in_length is full open_is) = absurd (open_is.none h has.rest has.at.reads)
  cut_or_bad at (IsCut.in_body h s n has short) (IsBad.in_head head rest is wrong at_is) = absurd (right_or_wrong h head s n rest has is wrong)
  cut_or_bad at (IsCut.in_body h s n has short) (IsBad.in_body k t m t_tag also t_tag_is fits tells at_is) =
      let same = all_same h k s t n m (stood_once order buffer h k s t n m has also) in
      absurd (omega (arith, short, same, fits))

  whole_or_bad : (o : Outcome) (used : ℕ) (ends : Bool) (at : ℕ) → IsWhole order buffer o used ends → IsBad order buffer at → ⊥
  whole_or_bad o used ends at w (IsBad.in_bytes none inside may never) = none w.head w.has.rest w.has.at
  whole_or_bad o used ends at w (IsBad.in_length is full open_is) = open_is.none w.head w.has.rest w.has.at.reads
  whole_or_bad o used ends at w (IsBad.in_head head rest is wrong at_is) = right_or_wrong w.head head w.status w.size rest w.has is wrong
  whole_or_bad o used ends at w (IsBad.in_body k t m t_tag also t_tag_is fits tells at_is) =
      let once = stood_once order buffer w.head k w.status t w.size m w.has also in
      let bad : ◌≡◌ {A = Option Outcome} (Some o) None =
      outcome_same w.head k w.status t w.size m w.tag t_tag (Some o) None once (tag_same w.head k w.tag t_tag once.head w.tag_is t_tag_is) w.outcome_is tells in
      cc

  two_wholes : (o other : Outcome) (used size : ℕ) (ends closes_too : Bool) → IsWhole order buffer o used ends → IsWhole order buffer other size closes_too
      → Whole o used ends ≡ Whole other size closes_too
  two_wholes o other used size ends closes_too w v =
      let once = stood_once order buffer w.head v.head w.status v.status w.size v.size w.has v.has in
      let outcome : Some o ≡ Some other = outcome_same w.head v.head w.status v.status w.size v.size w.tag v.tag (Some o) (Some other) once (tag_same w.head v.head w.tag v.tag once.head w.tag_is v.tag_is) w.outcome_is v.outcome_is in
      let length_is : used ≡ size = w.used_is ∙ all_same w.head v.head w.status v.status w.size v.size once ∙ sym v.used_is in
      let ends_are : ends ≡ closes_too = w.ends_is ∙ ap closes once.head ∙ sym v.ends_is in
      cc (outcome, length_is, ends_are)

  -- ---- two places

  two_bads : (at place : ℕ) → IsBad order buffer at → IsBad order buffer place → (at ≡ place) ⊎ NeedsManyFields buffer
  two_bads at place (IsBad.in_bytes none inside may never) (IsBad.in_bytes none_too inside_too may_too never_too) = by (nat_le (at + 1) place) (nat_le (place + 1) at) refl refl
    where
      by : (b c : Bool) → nat_le (at + 1) place ≡ b → nat_le (place + 1) at ≡ c → (at ≡ place) ⊎ NeedsManyFields buffer
      by true c less other = let l = leb-true (at + 1) place less in inr (two_places buffer at place (omega (arith, l)) may_too never)
      by false true other less = let l = leb-true (place + 1) at less in inr (two_places buffer place at (omega (arith, l)) may never_too)
      by false false a b = let l = leb-false (at + 1) place a in let m = leb-false (place + 1) at b in inl (omega (arith, l, m))
  two_bads at place (IsBad.in_bytes none inside may never) (IsBad.in_length is full open_is) = inr (open_never buffer at open_is never)
  two_bads at place (IsBad.in_bytes none inside may never) (IsBad.in_head head rest is wrong at_is) = absurd (none head rest is)
  two_bads at place (IsBad.in_bytes none inside may never) (IsBad.in_body head s n s_tag has s_tag_is fits tells at_is) = absurd (none head has.rest has.at)
  two_bads at place (IsBad.in_length is full open_is) (IsBad.in_bytes none inside may never) = inr (open_never buffer place open_is never)
  two_bads at place (IsBad.in_length is full open_is) (IsBad.in_length is_too full_too open_too) = inl (is ∙ sym is_too)
  two_bads at place (IsBad.in_length is full open_is) (IsBad.in_head head rest head_is wrong at_is) = absurd (open_is.none head rest head_is.reads)
  two_bads at place (IsBad.in_length is full open_is) (IsBad.in_body head s n s_tag has s_tag_is fits tells at_is) = absurd (open_is.none head has.rest has.at.reads)
  two_bads at place (IsBad.in_head head rest is wrong at_is) (IsBad.in_bytes none inside may never) = absurd (none head rest is)
  two_bads at place (IsBad.in_head head rest is wrong at_is) (IsBad.in_length same full open_is) = absurd (open_is.none head rest is.reads)
  two_bads at place (IsBad.in_head h rest is wrong at_is) (IsBad.in_head k more also wrong_too place_is) =
      inl (at_is ∙ ap (λ (x : ResponseHead). length (print_response x)) (head_once (front_of buffer) h k rest more is also) ∙ sym place_is)
  two_bads at place (IsBad.in_head head rest is wrong at_is) (IsBad.in_body k t m t_tag has t_tag_is fits tells place_is) = absurd (right_or_wrong k head t m rest has is wrong)
  two_bads at place (IsBad.in_body head s n s_tag has s_tag_is fits tells at_is) (IsBad.in_bytes none inside may never) = absurd (none head has.rest has.at)
  two_bads at place (IsBad.in_body head s n s_tag has s_tag_is fits tells at_is) (IsBad.in_length same full open_is) = absurd (open_is.none head has.rest has.at.reads)
  two_bads at place (IsBad.in_body h s n s_tag has s_tag_is fits tells at_is) (IsBad.in_head head rest is wrong place_is) = absurd (right_or_wrong h head s n rest has is wrong)
  two_bads at place (IsBad.in_body h s n s_tag has s_tag_is fits tells at_is) (IsBad.in_body k t m t_tag also t_tag_is fits_too tells_too place_is) =
      inl (at_is ∙ ap (λ (x : ResponseHead). length (print_response x)) (stood_once order buffer h k s t n m has also).head ∙ sym place_is)

  -- ---- all of it

  pub one_reply : (r s : Response) → IsResponse order buffer r → IsResponse order buffer s → (r ≡ s) ⊎ NeedsManyFields buffer
  one_reply Need Need is also = inl refl
  one_reply Need (Whole o used ends) is also = absurd (cut_or_whole o used ends is also)
  one_reply Need (Bad at) is also = inr (cut_or_bad at is also)
  one_reply (Whole o used ends) Need is also = absurd (cut_or_whole o used ends also is)
  one_reply (Whole o used ends) (Whole other size closes_too) is also = inl (two_wholes o other used size ends closes_too is also)
  one_reply (Whole o used ends) (Bad at) is also = absurd (whole_or_bad o used ends at is also)
  one_reply (Bad at) Need is also = inr (cut_or_bad at also is)
  one_reply (Bad at) (Whole o used ends) is also = absurd (whole_or_bad o used ends at also is)
  one_reply (Bad at) (Bad place) is also = by_place (two_bads at place is also)
    where
      by_place : (at ≡ place) ⊎ NeedsManyFields buffer → (Bad at ≡ Bad place) ⊎ NeedsManyFields buffer
      by_place (inl same) = inl (ap Bad same)
      by_place (inr many) = inr many
