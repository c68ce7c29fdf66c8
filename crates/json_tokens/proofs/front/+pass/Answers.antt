-- A value is what its first token and those behind it say.
use Rattle.std.proofs.Common.{◌≡◌, ℕ, ◌-◌, ◌<◌, List, [], ◌∷◌, ◌++◌, Some, None, Result, Ok, Err, OnOk, OnErr, sym, arith}
use Rattle.json.specs.Token.{Token}
use Rattle.json.specs.Json.{after_end_array, read_key}
use Rattle.serde_json.specs.Data.{Data, array, object, number, Items, Members, no_members, put}
use Rattle.serde_json.specs.View.{items_of, number_view}
use Rattle.json_tokens.specs.Front.{FrontIs, NoFront, ItemsAre, NoItems, MembersAre, NoMembers}
use Rattle.json_tokens.proofs.FrontLemmas.{ItemsAfter-start, ItemsAfter-more, ItemsAfter-bad, ItemsAfter-end, MembersAfter-start, MembersAfter-more, MembersAfter-bad, MembersAfter-no_key, MembersAfter-end, FrontIs-array, NoFront-array, FrontIs-object, NoFront-object, NoFront-too_deep_array, NoFront-too_deep_object, FrontIs-plain, NoFront-no_beginning, FrontIs-number, NoFront-number, NoFront-end}
use Rattle.json_tokens.proofs.front.+pass.Goals as goal

OnErr-always : {A E : Type 0} {P : Type 0} (result : Result A E) → P → OnErr result P
OnErr-always (Ok a) holds = tt
OnErr-always (Err e) holds = holds

passed_array : {A E : Type 0} (depth : ℕ) (rest new : List Token) (result : Result A E) → 0 < depth → OnOk result ((ds : Items) × ItemsAre (depth - 1) rest ds new) → OnOk result ((d : Data) × FrontIs depth (Token.begin_array ∷ rest) d new)
passed_array depth rest new (Ok u) some are = (array are.0, FrontIs-array depth rest are.0 new some are.1)
passed_array depth rest new (Err e) some are = tt

refused_array : {A E : Type 0} (depth : ℕ) (rest : List Token) (result : Result A E) → 0 < depth → OnErr result (NoItems (depth - 1) rest) → OnErr result (NoFront depth (Token.begin_array ∷ rest))
refused_array depth rest (Ok a) some none = tt
refused_array depth rest (Err e) some none = NoFront-array depth rest some none

passed_object : {A E : Type 0} (depth : ℕ) (rest new : List Token) (result : Result A E) → 0 < depth → OnOk result ((ms : Members) × MembersAre (depth - 1) rest ms new) → OnOk result ((d : Data) × FrontIs depth (Token.begin_object ∷ rest) d new)
passed_object depth rest new (Ok u) some are = (object are.0, FrontIs-object depth rest are.0 new some are.1)
passed_object depth rest new (Err e) some are = tt

refused_object : {A E : Type 0} (depth : ℕ) (rest : List Token) (result : Result A E) → 0 < depth → OnErr result (NoMembers (depth - 1) rest) → OnErr result (NoFront depth (Token.begin_object ∷ rest))
refused_object depth rest (Ok a) some none = tt
refused_object depth rest (Err e) some none = NoFront-object depth rest some none

pub pass_value-returns-in-None-clause-err : goal.pass_value-returns-in-None-clause-err
pass_value-returns-in-None-clause-err t c = rw c.in-None.ensures.value.0 (NoFront-end c.args.depth)

pub pass_from-returns-in-String-clause-ok : goal.pass_from-returns-in-String-clause-ok
pass_from-returns-in-String-clause-ok t c = FrontIs-plain c.args.depth c.args.first c.args.reader.now c.in-String.is

pub pass_from-returns-in-EndObject-clause-err : goal.pass_from-returns-in-EndObject-clause-err
pass_from-returns-in-EndObject-clause-err t c = NoFront-no_beginning c.args.depth c.args.first c.args.reader.now c.in-EndObject.is

pub pass_from-returns-in-Some-clause-ok : goal.pass_from-returns-in-Some-clause-ok
pass_from-returns-in-Some-clause-ok t c =
    let n = number_view c.in-Some.field-0 in
    (number n, rw c.in-Number.is (FrontIs-number c.args.depth c.in-Number.text.now n c.args.reader.now (sym c.in-Some.ensures.value)))

pub pass_from-returns-in-None-clause-err : goal.pass_from-returns-in-None-clause-err
pass_from-returns-in-None-clause-err t c = rw c.in-Number.is (NoFront-number c.args.depth c.in-Number.text.now c.args.reader.now (sym c.in-None.ensures.value))

pub pass_from-returns-then-depth-eq0-clause-err : goal.pass_from-returns-then-depth-eq0-clause-err
pass_from-returns-then-depth-eq0-clause-err t c = rw c.in-BeginArray.is (NoFront-too_deep_array c.args.depth c.args.reader.now (omega arith))

pub pass_from-returns-then-depth-eq0-2-clause-err : goal.pass_from-returns-then-depth-eq0-2-clause-err
pass_from-returns-then-depth-eq0-2-clause-err t c = rw c.in-BeginObject.is (NoFront-too_deep_object c.args.depth c.args.reader.now (omega arith))

pub pass_from-returns-else-depth-eq0-clause-ok : goal.pass_from-returns-else-depth-eq0-clause-ok
pass_from-returns-else-depth-eq0-clause-ok t c =
    rw c.in-BeginArray.is (passed_array c.args.depth c.args.reader.now c.pass_items.new.reader c.pass_items.result (omega arith) c.pass_items.ensures.ok)

pub pass_from-returns-else-depth-eq0-clause-err : goal.pass_from-returns-else-depth-eq0-clause-err
pass_from-returns-else-depth-eq0-clause-err t c =
    rw c.in-BeginArray.is (refused_array c.args.depth c.args.reader.now c.pass_items.result (omega arith) c.pass_items.ensures.err)

pub pass_from-returns-else-depth-eq0-2-clause-ok : goal.pass_from-returns-else-depth-eq0-2-clause-ok
pass_from-returns-else-depth-eq0-2-clause-ok t c =
    rw c.in-BeginObject.is (passed_object c.args.depth c.args.reader.now c.pass_members.new.reader c.pass_members.result (omega arith) c.pass_members.ensures.ok)

pub pass_from-returns-else-depth-eq0-2-clause-err : goal.pass_from-returns-else-depth-eq0-2-clause-err
pass_from-returns-else-depth-eq0-2-clause-err t c =
    rw c.in-BeginObject.is (refused_object c.args.depth c.args.reader.now c.pass_members.result (omega arith) c.pass_members.ensures.err)

pub pass_items-items-init : goal.pass_items-items-init
pass_items-items-init t c = ([], ItemsAfter-start c.args.depth c.args.reader.now)

pub pass_items-items-preserved : goal.pass_items-items-preserved
pass_items-items-preserved t c =
    let left = c.items.reader in
    let going : (after_end_array left ≡ None) × (c.take_end_array.new.self ≡ left) = grind arith in
    let passed = c.in_ok-pass_value.ensures in
    let rest = c.pass_value.new.reader in
    let d = passed.ok.0 in (
      c.items.invariant.0 ++ d ∷ [],
      ItemsAfter-more c.args.depth c.args.reader.now c.items.invariant.0 left c.items.invariant.1 d rest going.0 (rw (← going.1) passed.ok.1) (rw (← going.1) passed.shorter),
    )

pub pass_items-returns-in_err-pass_value-clause-err : goal.pass_items-returns-in_err-pass_value-clause-err
pass_items-returns-in_err-pass_value-clause-err t c =
    let left = c.items.reader in
    let going : (after_end_array left ≡ None) × (c.take_end_array.new.self ≡ left) = grind arith in
    let none : NoItems c.args.depth c.args.reader.now = ItemsAfter-bad c.args.depth c.args.reader.now c.items.invariant.0 left c.items.invariant.1 going.0 (rw (← going.1) c.in_err-pass_value.ensures.err) in
    OnErr-always c.from_residual.result none

pub pass_items-returns-clause-ok : goal.pass_items-returns-clause-ok
pass_items-returns-clause-ok t c =
    (items_of c.items.invariant.0, ItemsAfter-end c.args.depth c.args.reader.now c.items.invariant.0 c.items.reader c.items.invariant.1 c.take_end_array.new.self (grind arith))

pub pass_members-members-init : goal.pass_members-members-init
pass_members-members-init t c = (no_members, MembersAfter-start c.args.depth c.args.reader.now)

pub pass_members-members-preserved : goal.pass_members-members-preserved
pass_members-members-preserved t c =
    let left = c.members.reader in
    let name = c.in-Some.field-0.now in
    let named : read_key left ≡ Some (Some name, c.next_key.new.self) = grind arith in
    let passed = c.in_ok-pass_value.ensures in
    let d = passed.ok.0 in (
      put name d c.members.invariant.0,
      MembersAfter-more c.args.depth c.args.reader.now c.members.invariant.0 left c.members.invariant.1 name c.next_key.new.self d c.pass_value.new.reader named passed.ok.1 passed.shorter,
    )

pub pass_members-returns-in_err-next_key-clause-err : goal.pass_members-returns-in_err-next_key-clause-err
pass_members-returns-in_err-next_key-clause-err t c =
    let none : NoMembers c.args.depth c.args.reader.now = MembersAfter-no_key c.args.depth c.args.reader.now c.members.invariant.0 c.members.reader c.members.invariant.1 c.in_err-next_key.ensures.value in
    OnErr-always c.from_residual.result none

pub pass_members-returns-in_err-pass_value-clause-err : goal.pass_members-returns-in_err-pass_value-clause-err
pass_members-returns-in_err-pass_value-clause-err t c =
    let left = c.members.reader in
    let name = c.in-Some.field-0.now in
    let named : read_key left ≡ Some (Some name, c.next_key.new.self) = grind arith in
    let none : NoMembers c.args.depth c.args.reader.now = MembersAfter-bad c.args.depth c.args.reader.now c.members.invariant.0 left c.members.invariant.1 name c.next_key.new.self named c.in_err-pass_value.ensures.err in
    OnErr-always c.from_residual-in_err-pass_value.result none

pub pass_members-returns-clause-ok : goal.pass_members-returns-clause-ok
pass_members-returns-clause-ok t c =
    (c.members.invariant.0, MembersAfter-end c.args.depth c.args.reader.now c.members.invariant.0 c.members.reader c.members.invariant.1 c.next_key.new.self (grind arith))
