-- A value is read as a refusal just where it tells one that an order can have. The key lemmas are refusal-found,
-- refusal-tells and refusal-is.
use Rattle.std.proofs.Common.{◌≡◌, ℕ, ◌==◌, ◌&&◌, Bool, true, false, if◌then◌else◌, List, Option, None, Some, codes, refl, sym, ap, subst, ◌∙◌, option_map}
use Rattle.std.specs.Option.{option_and_then}
use Rattle.std.specs.Str.{bytes_eq}
use Rattle.std.proofs.lemmas.Bool.{and_parts, and_from, eq-eqb, eqb-true}
use Rattle.ids.proofs.BasicLemmas.{same_from_bytes_eq, same_from_some}
use Rattle.serde_json.specs.Data.{Data, string}
use Rattle.serde_json.specs.Find.{get}
use Rattle.json_words.specs.JsonText.{json_of}
use Rattle.library_state.specs.declared.refusal.Refusal.{Refusal}
use Rattle.library_state.specs.declared.refusal.Refusal.TheVariants as refusal
use Rattle.http_front.specs.RefusalText.{refused_data, refused_status}
use Rattle.http_front.specs.declared.order.What.{What}
use Rattle.http_front.specs.declared.outcome.Outcome.{Outcome}
use Rattle.http_front.specs.declared.outcome.Outcome.TheVariants.{Refused}
use Rattle.http_front.specs.declared.status.Status.{Status}
use Rattle.http_client.specs.OrderOutcome.{can_refuse}
use Rattle.http_client.specs.OutcomeReading.{IsRefusal, TellsWhy, told_in}
use Rattle.http_client.specs.RefusalReading.{HasMembers, NamesThings, TellsRefusal, members_of}
use Rattle.http_client.specs.RefusalWords.{counted_of, damaged_in, got_at, id_at, if_due, keyed_of, located_of, named_of, number_at, or_else, path_at, plain_of, refusal_for, refusal_in, stale_in, text_at, too_long_in}
use Rattle.http_client.specs.ReplyHead.{status_number}
use Rattle.http_client.proofs.MemberLemmas.{got_at-found, got_at-has, id_at-found, id_at-has, integer_at-found, integer_at-has, key_at-found, key_at-has, library_at-found, library_at-has, number_at-found, number_at-has, path_at-found, path_at-has, text_at-found, text_at-has}

-- ---- what tells a refusal that an order can have is read as it

first_found : {A : Type 0} (x y : Option A) (a : A) → x ≡ Some a → or_else x y ≡ Some a
first_found x y a e = ap (λ o. or_else o y) e

module _ (d : Data) where
  because : (word : List ℕ) → get (codes "reason") d ≡ Some (string word) → refusal_in d ≡ refusal_for d word
  unfolding refusal_in
  because word is = ap (option_and_then (refusal_for d)) (text_at-found (codes "reason") d word is)

  pub refusal-found : (order : What) (why : Refusal) → can_refuse order why ≡ true → TellsRefusal d why → refusal_in d ≡ Some why
  refusal-found order refusal.NoLibrary can is = because (codes "no-library") is.has.0
  refusal-found order refusal.NoCall can is = because (codes "no-call") is.has.0
  refusal-found order refusal.BadMethod can is = because (codes "method") is.has.0
  refusal-found order refusal.BadQuery can is = because (codes "bad-query") is.has.0
  refusal-found order (refusal.BadBody at) can is = because (codes "bad-body") is.has.1.0 ∙ first_found _ _ (refusal.BadBody at) (ap (option_map refusal.BadBody) (number_at-found (codes "at") d at is.has.0))
  refusal-found order refusal.Denied can is = because (codes "denied") is.has.0
  refusal-found order (refusal.NoObject key) can is = because (codes "no-object") is.has.1.1.0 ∙ first_found _ _ (refusal.NoObject key) (ap (option_map refusal.NoObject) (key_at-found d key is.named is.has.0 is.has.1.0))
  refusal-found order (refusal.Wrong got) can is = because (codes "wrong") is.has.1.0 ∙ first_found _ _ (refusal.Wrong got) (ap (option_map refusal.Wrong) (id_at-found (codes "got") d got is.named is.has.0))
  refusal-found order (refusal.BadFs code) can is = because (codes "bad-fs") is.has.1.0 ∙ first_found _ _ (refusal.BadFs code) (ap (option_map refusal.BadFs) (number_at-found (codes "code") d code is.has.0))
  refusal-found order (refusal.BadCommit code) can is = because (codes "bad-commit") is.has.1.0 ∙ first_found _ _ (refusal.BadCommit code) (ap (option_map refusal.BadCommit) (number_at-found (codes "code") d code is.has.0))
  refusal-found order (refusal.OtherLibrary lib) can is = because (codes "other-library") is.has.1.0 ∙ first_found _ _ (refusal.OtherLibrary lib) (ap (option_map refusal.OtherLibrary) (library_at-found (codes "lib") d lib is.named is.has.0))
  refusal-found order (refusal.Taken id) can is = because (codes "taken") is.has.1.0 ∙ first_found _ _ (refusal.Taken id) (ap (option_map refusal.Taken) (id_at-found (codes "id") d id is.named is.has.0))
  refusal-found order (refusal.Stale last now) can is =
      because (codes "stale") is.has.1.1.0
      ∙ first_found (stale_in d) _ (refusal.Stale last now)
      (ap (option_and_then (λ l. option_map (refusal.Stale l) (number_at (codes "now") d))) (number_at-found (codes "last") d last is.has.0)
      ∙ ap (option_map (refusal.Stale last)) (number_at-found (codes "now") d now is.has.1.0))
  refusal-found order (refusal.Incomplete key) can is = because (codes "incomplete") is.has.1.1.0 ∙ first_found _ _ (refusal.Incomplete key) (ap (option_map refusal.Incomplete) (key_at-found d key is.named is.has.0 is.has.1.0))
  refusal-found order (refusal.Unrelated count) can is = because (codes "unrelated") is.has.1.0 ∙ first_found _ _ (refusal.Unrelated count) (ap (option_map refusal.Unrelated) (number_at-found (codes "count") d count is.has.0))
  refusal-found order (refusal.Unreadable key) can is = because (codes "unreadable") is.has.1.1.0 ∙ first_found _ _ (refusal.Unreadable key) (ap (option_map refusal.Unreadable) (key_at-found d key is.named is.has.0 is.has.1.0))
  refusal-found order (refusal.WrongKind id) can is = because (codes "wrong-kind") is.has.1.0 ∙ first_found _ _ (refusal.WrongKind id) (ap (option_map refusal.WrongKind) (id_at-found (codes "id") d id is.named is.has.0))
  refusal-found order (refusal.WrongSize id) can is = because (codes "wrong-size") is.has.1.0 ∙ first_found _ _ (refusal.WrongSize id) (ap (option_map refusal.WrongSize) (id_at-found (codes "id") d id is.named is.has.0))
  refusal-found order (refusal.TooDeep path) can is = because (codes "too-deep") is.has.1.0 ∙ ap (option_map refusal.TooDeep) (path_at-found d path is.named is.has.0)
  refusal-found order (refusal.TooMany count) can is = because (codes "too-many") is.has.1.0 ∙ first_found _ _ (refusal.TooMany count) (ap (option_map refusal.TooMany) (number_at-found (codes "count") d count is.has.0))
  refusal-found order (refusal.TooLong path size) can is =
      because (codes "too-long") is.has.1.1.0
      ∙ ap (option_and_then (λ p. option_map (refusal.TooLong p) (number_at (codes "length") d))) (path_at-found d path is.named is.has.1.0)
      ∙ ap (option_map (refusal.TooLong path)) (number_at-found (codes "length") d size is.has.0)
  refusal-found order (refusal.BadDays days) can is = because (codes "bad-days") is.has.1.0 ∙ first_found _ _ (refusal.BadDays days) (ap (option_map refusal.BadDays) (integer_at-found (codes "days") d days is.named is.has.0))
  refusal-found order (refusal.Damaged want got) can is =
      because (codes "damaged") is.has.1.0
      ∙ first_found (damaged_in d) _ (refusal.Damaged want got)
      (ap (option_and_then (λ w. option_map (refusal.Damaged w) (got_at d))) (id_at-found (codes "want") d want is.named.0 is.has.1.1.0)
      ∙ ap (option_map (refusal.Damaged want)) (got_at-found d got is.named.1 is.has.0))
  refusal-found order refusal.Store can is = because (codes "store") is.has.0
  refusal-found order refusal.Spent can is = because (codes "spent") is.has.0
  refusal-found order refusal.NoMemory can is = because (codes "no-memory") is.has.0

-- ---- what is read as a refusal tells it

module _ (d : Data) (reason : List ℕ) (there : get (codes "reason") d ≡ Some (string reason)) where
  -- the refusals that an answer may be
  abbrev pub All_tell : Option Refusal → Type 0
  All_tell o = (why : Refusal) → o ≡ Some why → TellsRefusal d why

  none_tells : All_tell None
  none_tells why e = absurd (cc)

  told : (why : Refusal) → NamesThings why → HasMembers d (members_of (refused_data why)) → All_tell (Some why)
  told why named has other e = subst (TellsRefusal d) (same_from_some why other e) (record { named = named; has = has })

  mapped : {A : Type 0} (f : A → Refusal) (o : Option A) → ((a : A) → o ≡ Some a → TellsRefusal d (f a)) → All_tell (option_map f o)
  mapped f None h why e = absurd (cc)
  mapped f (Some a) h why e = subst (TellsRefusal d) (same_from_some (f a) why e) (h a refl)

  bound : {A : Type 0} (f : A → Option Refusal) (o : Option A) → ((a : A) → o ≡ Some a → All_tell (f a)) → All_tell (option_and_then f o)
  bound f None h why e = absurd (cc)
  bound f (Some a) h why e = h a refl why e

  for_word : (word : List ℕ) (x y : Option Refusal) → (get (codes "reason") d ≡ Some (string word) → All_tell x) → All_tell y
      → All_tell (if bytes_eq reason word then x else y)
  for_word word x y here other = by (bytes_eq reason word) refl
    where
      by : (b : Bool) → bytes_eq reason word ≡ b → All_tell (if b then x else y)
      by true is = here (there ∙ ap (λ t. Some (string t)) (same_from_bytes_eq reason word is))
      by false is = other

  either : (x y : Option Refusal) → All_tell x → All_tell y → All_tell (or_else x y)
  either None y first second = second
  either (Some a) y first second = first

  plain_tells : All_tell (plain_of reason)
  plain_tells =
      for_word (codes "no-library") _ _ (λ r. told refusal.NoLibrary tt (r, tt))
      (for_word (codes "no-call") _ _ (λ r. told refusal.NoCall tt (r, tt))
      (for_word (codes "method") _ _ (λ r. told refusal.BadMethod tt (r, tt))
      (for_word (codes "bad-query") _ _ (λ r. told refusal.BadQuery tt (r, tt))
      (for_word (codes "denied") _ _ (λ r. told refusal.Denied tt (r, tt))
      (for_word (codes "store") _ _ (λ r. told refusal.Store tt (r, tt))
      (for_word (codes "spent") _ _ (λ r. told refusal.Spent tt (r, tt))
      (for_word (codes "no-memory") _ _ (λ r. told refusal.NoMemory tt (r, tt)) none_tells)))))))

  stale_tells : get (codes "reason") d ≡ Some (string (codes "stale")) → All_tell (stale_in d)
  stale_tells r =
      bound (λ last. option_map (refusal.Stale last) (number_at (codes "now") d)) (number_at (codes "last") d)
      (λ last is. mapped (refusal.Stale last) (number_at (codes "now") d)
      (λ now now_is. record { named = tt; has = (number_at-has (codes "last") d last is, (number_at-has (codes "now") d now now_is, (r, tt))) }))

  counted_tells : All_tell (counted_of reason d)
  counted_tells =
      for_word (codes "bad-body") _ _ (λ r. mapped refusal.BadBody _ (λ n is. record { named = tt; has = (number_at-has (codes "at") d n is, (r, tt)) }))
      (for_word (codes "bad-fs") _ _ (λ r. mapped refusal.BadFs _ (λ n is. record { named = tt; has = (number_at-has (codes "code") d n is, (r, tt)) }))
      (for_word (codes "bad-commit") _ _ (λ r. mapped refusal.BadCommit _ (λ n is. record { named = tt; has = (number_at-has (codes "code") d n is, (r, tt)) }))
      (for_word (codes "unrelated") _ _ (λ r. mapped refusal.Unrelated _ (λ n is. record { named = tt; has = (number_at-has (codes "count") d n is, (r, tt)) }))
      (for_word (codes "too-many") _ _ (λ r. mapped refusal.TooMany _ (λ n is. record { named = tt; has = (number_at-has (codes "count") d n is, (r, tt)) }))
      (for_word (codes "stale") _ _ (λ r. stale_tells r)
      (for_word (codes "bad-days") _ _ (λ r. mapped refusal.BadDays _ (λ days is. let has = integer_at-has (codes "days") d days is in record { named = has.0; has = (has.1, (r, tt)) })) none_tells))))))

  keyed_tells : All_tell (keyed_of reason d)
  keyed_tells =
      for_word (codes "no-object") _ _ (λ r. mapped refusal.NoObject _ (λ key is. let has = key_at-has d key is in record { named = has.named; has = (has.id_is, (has.kind_is, (r, tt))) }))
      (for_word (codes "incomplete") _ _ (λ r. mapped refusal.Incomplete _ (λ key is. let has = key_at-has d key is in record { named = has.named; has = (has.id_is, (has.kind_is, (r, tt))) }))
      (for_word (codes "unreadable") _ _ (λ r. mapped refusal.Unreadable _ (λ key is. let has = key_at-has d key is in record { named = has.named; has = (has.id_is, (has.kind_is, (r, tt))) })) none_tells))

  damaged_tells : get (codes "reason") d ≡ Some (string (codes "damaged")) → All_tell (damaged_in d)
  damaged_tells r =
      bound (λ want. option_map (refusal.Damaged want) (got_at d)) (id_at (codes "want") d)
      (λ want is. mapped (refusal.Damaged want) (got_at d) (λ got got_is.
      let wants = id_at-has (codes "want") d want is in
      let gets = got_at-has d got got_is in
      record { named = (wants.named, gets.named); has = (gets.there, (r, (wants.there, tt))) }))

  named_tells : All_tell (named_of reason d)
  named_tells =
      for_word (codes "wrong") _ _ (λ r. mapped refusal.Wrong _ (λ id is. let has = id_at-has (codes "got") d id is in record { named = has.named; has = (has.there, (r, tt)) }))
      (for_word (codes "taken") _ _ (λ r. mapped refusal.Taken _ (λ id is. let has = id_at-has (codes "id") d id is in record { named = has.named; has = (has.there, (r, tt)) }))
      (for_word (codes "wrong-kind") _ _ (λ r. mapped refusal.WrongKind _ (λ id is. let has = id_at-has (codes "id") d id is in record { named = has.named; has = (has.there, (r, tt)) }))
      (for_word (codes "wrong-size") _ _ (λ r. mapped refusal.WrongSize _ (λ id is. let has = id_at-has (codes "id") d id is in record { named = has.named; has = (has.there, (r, tt)) }))
      (for_word (codes "other-library") _ _ (λ r. mapped refusal.OtherLibrary _ (λ lib is. let has = library_at-has (codes "lib") d lib is in record { named = has.named; has = (has.there, (r, tt)) }))
      (for_word (codes "damaged") _ _ (λ r. damaged_tells r) none_tells)))))

  long_tells : get (codes "reason") d ≡ Some (string (codes "too-long")) → All_tell (too_long_in d)
  long_tells r =
      bound (λ path. option_map (refusal.TooLong path) (number_at (codes "length") d)) (path_at d)
      (λ path is. mapped (refusal.TooLong path) (number_at (codes "length") d) (λ size size_is.
      let has = path_at-has d path is in
      record { named = has.named; has = (number_at-has (codes "length") d size size_is, (has.there, (r, tt))) }))

  located_tells : All_tell (located_of reason d)
  located_tells =
      for_word (codes "too-deep") _ _ (λ r. mapped refusal.TooDeep _ (λ path is. let has = path_at-has d path is in record { named = has.named; has = (has.there, (r, tt)) }))
      (for_word (codes "too-long") _ _ (λ r. long_tells r) none_tells)

  pub for_reason : All_tell (refusal_for d reason)
  for_reason =
      either (plain_of reason) _ plain_tells
      (either (counted_of reason d) _ counted_tells
      (either (keyed_of reason d) _ keyed_tells
      (either (named_of reason d) _ named_tells located_tells)))

pub refusal-tells : (d : Data) (why : Refusal) → refusal_in d ≡ Some why → TellsRefusal d why
unfolding refusal_in
refusal-tells d why e = by (text_at (codes "reason") d) refl e
  where
    by : (o : Option (List ℕ)) → text_at (codes "reason") d ≡ o → option_and_then (refusal_for d) o ≡ Some why → TellsRefusal d why
    by None is e = absurd (cc)
    by (Some reason) is e = for_reason d reason (text_at-has (codes "reason") d reason is) why e

-- ---- a body

module _ (order : What) (status : Status) (body : List ℕ) where
  abbrev due_test : Refusal → Bool
  due_test why = (status_number (refused_status why) == status_number status) && can_refuse order why

  due : (why : Refusal) → due_test why ≡ true → if_due order status why ≡ Some (Refused why)
  due why is = ap (λ b. if b then Some (Refused why) else None) is

  -- what tells a refusal that is due is answered
  pub answered_by : (why : Refusal) → TellsWhy order status body why → option_and_then (if_due order status) (told_in refusal_in body) ≡ Some (Refused why)
  answered_by why is =
      ap (λ o. option_and_then (if_due order status) (option_and_then refusal_in o)) is.is_text
      ∙ ap (option_and_then (if_due order status)) (refusal-found is.value order why is.can is.tells)
      ∙ due why (and_from (status_number (refused_status why) == status_number status) (can_refuse order why) (eq-eqb _ _ is.due) is.can)

  tells_why : (d : Data) (why : Refusal) → json_of body ≡ Some d → refusal_in d ≡ Some why → due_test why ≡ true → TellsWhy order status body why
  tells_why d why text is test =
      let parts = and_parts (status_number (refused_status why) == status_number status) (can_refuse order why) test in
      record { value = d; is_text = text; tells = refusal-tells d why is; due = eqb-true _ _ parts.0; can = parts.1 }

  none_told : (o : Option Outcome) → o ≡ option_and_then (if_due order status) (told_in refusal_in body) → o ≡ None → IsRefusal order status body None
  none_told o is none why tells = let bad : ◌≡◌ {A = Option Outcome} None (Some (Refused why)) = sym none ∙ is ∙ answered_by why tells in absurd (cc)

  by_value : (o : Option Data) → json_of body ≡ o → option_and_then (if_due order status) (option_and_then refusal_in o) ≡ option_and_then (if_due order status) (told_in refusal_in body)
      → IsRefusal order status body (option_and_then (if_due order status) (option_and_then refusal_in o))
  by_value None text same = none_told None same refl
  by_value (Some d) text same = by_reading (refusal_in d) refl same
    where
      by_test : (why : Refusal) → refusal_in d ≡ Some why → (b : Bool) → due_test why ≡ b
          → (if b then Some (Refused why) else None) ≡ option_and_then (if_due order status) (told_in refusal_in body)
          → IsRefusal order status body (if b then Some (Refused why) else None)
      by_test why is true test same = tells_why d why text is test
      by_test why is false test same = none_told None same refl

      by_reading : (r : Option Refusal) → refusal_in d ≡ r → option_and_then (if_due order status) r ≡ option_and_then (if_due order status) (told_in refusal_in body)
          → IsRefusal order status body (option_and_then (if_due order status) r)
      by_reading None is same = none_told None same refl
      by_reading (Some why) is same = by_test why is (due_test why) refl same

  -- what is answered is the refusal that the body tells
  pub refusal-is : (found : Option Outcome) → found ≡ option_and_then (if_due order status) (told_in refusal_in body) → IsRefusal order status body found
  refusal-is found is = subst (IsRefusal order status body) (sym is) (by_value (json_of body) refl refl)
