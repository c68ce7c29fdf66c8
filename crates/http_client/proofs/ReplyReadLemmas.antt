-- The reply that a server writes for an outcome is read as the outcome. The key lemmas are head_written and reply_read.
use Rattle.std.proofs.Common.{◌≡◌, ℕ, ◌+◌, ◌^◌, ◌<◌, ◌≤◌, ◌==◌, Bool, true, false, List, [], ◌++◌, length, take, drop, refl, sym, ap, ◌∙◌, subst, arith, lit≤, length-append, Option, None, Some, codes}
use Rattle.std.specs.Prelude.{⊤}
use Rattle.std.specs.List.{list_all}
use Rattle.std.proofs.lemmas.Bool.{false≢true, true≢false}
use Rattle.std.proofs.lemmas.List.{take-append-drop, take-take, take_at, drop_at}
use Rattle.httparse.specs.Grammar.{IsResponseHead, ResponseHead, print_response}
use Rattle.library_state.specs.declared.refusal.Refusal.{Refusal}
use Rattle.library_state.specs.declared.refusal.Refusal.TheVariants as refusal
use Rattle.library_state.specs.declared.reply.Reply.TheVariants as reply
use Rattle.library_state.specs.declared.tag.Tag.{Tag}
use Rattle.http_front.specs.NextHead.{IsTag}
use Rattle.http_front.specs.RefusalText.{refused_status}
use Rattle.http_front.specs.ReplyText.{Parts, parts_by, parts_of, refused_parts, tagged_parts, text, written}
use Rattle.http_front.specs.declared.order.What.{What}
use Rattle.http_front.specs.declared.order.What.TheVariants as what
use Rattle.http_front.specs.declared.outcome.Outcome.{Outcome}
use Rattle.http_front.specs.declared.outcome.Outcome.TheVariants.{Version, Same, Plain, Packed, Collected, Refused}
use Rattle.http_front.specs.declared.row.Row.{Row}
use Rattle.http_front.specs.declared.status.Status.{Status}
use Rattle.http_front.specs.declared.status.Status.TheVariants.{Success}
use Rattle.http_client.specs.OrderOutcome.{CanHave, CanMiss, CanPack, asks_collection, asks_list, asks_object, asks_right, asks_version, is_limit, stores}
use Rattle.http_client.specs.OutcomeReading.{IsOutcome, TellsThings, as_read}
use Rattle.http_client.specs.ReadOrder.{IsTagOrNone}
use Rattle.http_client.specs.ReplyHead.{IsHeadAt, tag_due, tells_state}
use Rattle.http_client.specs.Response.{HasHead, IsWhole, body_behind}
use Rattle.http_client.proofs.OutcomeBodyLemmas.{outcome_read}
use Rattle.http_client.proofs.TargetTextLemmas.{is_visible}
use Rattle.http_client.proofs.ReplySizeLemmas.{reply_head_short}
use Rattle.http_client.proofs.WrittenReplyLemmas.{HasDue, closes_so, few_so, has_body, is_head, reply_head, reply_printed, right_so, tag_so}

-- ---- a head at the front of some bytes

-- a short head in front of some bytes is one of their first 16,384
head_in_front : (head : ResponseHead) (behind : List ℕ) → IsResponseHead head → head.minor ≡ 1 → length head.fields ≤ 64 → length (print_response head) ≤ 16384
    → (after : List ℕ) × IsHeadAt (take 16384 (print_response head ++ behind)) head after
head_in_front head behind is newest few short =
    let printed = print_response head in
    let n = length printed in
    let all = printed ++ behind in
    let begins : take n (take 16384 all) ≡ printed = take-take n 16384 all short ∙ take_at printed behind n refl in
    let after = drop n (take 16384 all) in (
      after,
      record {
        reads = (is, sym (take-append-drop n (take 16384 all)) ∙ ap (λ (f : List ℕ). f ++ after) begins);
        newest = newest;
        few = few;
      },
    )

-- ---- what outcomes are written with

refused_has : (why : Refusal) → has_body (refused_status why) ≡ true
refused_has refusal.NoLibrary = refl
refused_has other = refl

-- a type of content that replies have
pub data IsType : List ℕ → Type 0 where
  json : IsType (codes "application/json")
  octets : IsType (codes "application/octet-stream")

type_seen : (content_type : List ℕ) → IsType content_type → list_all is_visible content_type ≡ true
type_seen _ json = refl
type_seen _ octets = refl

type_short : (content_type : List ℕ) → IsType content_type → length content_type ≤ 24
type_short _ json = lit≤ tt
type_short _ octets = lit≤ tt

-- ---- which tags are due

version_due : (order : What) → asks_version order ≡ true → HasDue (tells_state order) None
version_due what.Version can = tt
version_due other can = absurd (false≢true can)

right_due : (order : What) → asks_right order ≡ true → HasDue (tells_state order) None
right_due (what.Check op) can = tt
right_due other can = absurd (false≢true can)

object_due : (order : What) → asks_object order ≡ true → HasDue (tells_state order) None
object_due (what.Get key) can = tt
object_due other can = absurd (false≢true can)

stored_due : (order : What) → stores order ≡ true → HasDue (tells_state order) None
stored_due (what.Put key bytes) can = tt
stored_due (what.PutFs rows) can = tt
stored_due other can = absurd (false≢true can)

absent_due : (order : What) (ids : List (List ℕ)) → CanMiss order ids → HasDue (tells_state order) None
absent_due (what.Missing kind asked) ids can = tt
absent_due other ids can = absurd can

limit_due : (order : What) → is_limit order ≡ true → HasDue (tells_state order) None
limit_due (what.Limit days) can = tt
limit_due other can = absurd (false≢true can)

list_due : (order : What) → asks_list order ≡ true → HasDue (tells_state order) None
list_due (what.Ids server client) can = tt
list_due other can = absurd (false≢true can)

rows_due : (order : What) (rows : List Row) → CanPack order rows → HasDue (tells_state order) None
rows_due (what.GetFs ids) rows can = tt
rows_due other rows can = absurd can

collected_due : (order : What) → asks_collection order ≡ true → HasDue (tells_state order) None
collected_due what.Collect can = tt
collected_due other can = absurd (false≢true can)

refused_due : (order : What) (why : Refusal) → HasDue (tag_due order (refused_status why)) None
refused_due order refusal.NoLibrary = tt
refused_due order other = tt

there_due : (due : Bool) (tag : Tag) → IsTag tag → HasDue due (Some tag)
there_due false tag is = tt
there_due true tag is = is

-- what an order can have is written with a type of content, with no body where no length is told, and with the tag that is due
record IsWritten (order : What) (parts : Parts) : Type 0 where
  type_is : IsType parts.content_type
  bodied : has_body parts.status ≡ false → length parts.body ≡ 0
  tag_is : IsTagOrNone parts.tag
  due : HasDue (tag_due order parts.status) parts.tag

-- a status with a body
bodied_by : (s : Status) (size : ℕ) → has_body s ≡ true → has_body s ≡ false → size ≡ 0
bodied_by s size has none = absurd (true≢false (sym has ∙ none))

refused_so : (order : What) (why : Refusal) → IsWritten order (refused_parts why)
refused_so order why = record {
  type_is = json;
  bodied = bodied_by (refused_status why) _ (refused_has why);
  tag_is = tt;
  due = refused_due order why;
}

-- one that comes with success, without a tag
plain_so : (order : What) (content_type body : List ℕ) → IsType content_type → HasDue (tells_state order) None → IsWritten order (parts_by Success content_type None body)
plain_so order content_type body type_is due = record { type_is = type_is; bodied = bodied_by Success _ refl; tag_is = tt; due = due }

state_so : (order : What) (body : List ℕ) (tag : Tag) → IsTag tag → IsWritten order (tagged_parts body tag)
state_so order body tag is = record { type_is = json; bodied = bodied_by Success _ refl; tag_is = is; due = there_due (tells_state order) tag is }

written_so : (order : What) (o : Outcome) → CanHave order o → TellsThings o → IsWritten order (parts_of o)
written_so order Version can tells = plain_so order _ _ json (version_due order can)
written_so order (Same tag) can tells = record { type_is = json; bodied = λ none. refl; tag_is = tells; due = tells }
written_so order (Plain reply.Checked tag) can tells = plain_so order _ _ json (right_due order can)
written_so order (Plain (reply.HeadIs id) tag) can tells = state_so order _ tag tells.1
written_so order (Plain (reply.Got bytes) tag) can tells = plain_so order _ _ octets (object_due order can)
written_so order (Plain (reply.Stored is_new) tag) can tells = plain_so order _ _ json (stored_due order can)
written_so order (Plain (reply.Absent ids) tag) can tells = plain_so order _ _ json (absent_due order ids can)
written_so order (Plain (reply.Updated id) tag) can tells = state_so order _ tag tells.1
written_so order (Plain reply.Limited tag) can tells = plain_so order _ _ json (limit_due order can)
written_so order (Plain (reply.Listed ids) tag) can tells = plain_so order _ _ json (list_due order can)
written_so order (Plain (reply.Refused why) tag) can tells = refused_so order why
written_so order (Packed rows) can tells = plain_so order _ _ octets (rows_due order rows can)
written_so order (Collected number removed) can tells = plain_so order _ _ json (collected_due order can)
written_so order (Refused why) can tells = refused_so order why

-- ---- the whole reply

-- the head of what was written stands in front, and its body behind it
pub record WritesHead (order : What) (s : Status) (content_type body rest : List ℕ) (tag : Option Tag) (ends : Bool) : Type 0 where
  pub has : HasHead order (written (parts_by s content_type tag body) ends ++ rest) (reply_head s (length body == 0) content_type (length body) tag ends) s (length body)
  pub long : length (written (parts_by s content_type tag body) ends) ≡ length (print_response (reply_head s (length body == 0) content_type (length body) tag ends)) + length body
  pub behind : body_behind (written (parts_by s content_type tag body) ends ++ rest) (reply_head s (length body == 0) content_type (length body) tag ends) (length body) ≡ body

pub head_written : (order : What) (s : Status) (content_type body rest : List ℕ) (tag : Option Tag) (ends : Bool) → IsType content_type
    → (has_body s ≡ false → length body ≡ 0) → IsTagOrNone tag → HasDue (tag_due order s) tag
    → length body < 10 ^ 19 → length body < 2 ^ 64 → WritesHead order s content_type body rest tag ends
head_written order s content_type body rest tag ends type_is bodied tag_is due small fits =
    let empty = (length body == 0) in
    let size = length body in
    let head = reply_head s empty content_type size tag ends in
    let printed = print_response head in
    let whole = written (parts_by s content_type tag body) ends in
    let bytes_are : whole ++ rest ≡ printed ++ (body ++ rest) = reply_printed s empty content_type body rest tag ends refl in
    let alone : whole ++ [] ≡ printed ++ (body ++ []) = reply_printed s empty content_type body [] tag ends refl in
    let there = head_in_front head (body ++ rest) (is_head s empty content_type size tag ends (type_seen content_type type_is) fits tag_is) refl
    (few_so empty (has_body s) content_type size tag ends) (reply_head_short s empty content_type size tag ends (type_short content_type type_is) small fits tag_is) in
    record {
      has = record {
        rest = there.0;
        at = subst (λ (b : List ℕ). IsHeadAt (take 16384 b) head there.0) (sym bytes_are) there.1;
        right = right_so order s empty content_type size tag ends small fits bodied due;
      };
      long = omega (arith, ap length alone, length-append whole [], length-append printed (body ++ []), length-append body []);
      behind = ap (λ (b : List ℕ). take size (drop (length printed) b)) bytes_are ∙ ap (take size) (drop_at printed (body ++ rest) (length printed) refl) ∙ take_at body rest size refl;
    }

parts_read : (order : What) (p : Parts) (rest : List ℕ) (ends : Bool) (o : Outcome) → IsWritten order p
    → length p.body < 10 ^ 19 → length p.body < 2 ^ 64 → IsOutcome order p.status p.tag p.body (Some o)
    → IsWhole order (written p ends ++ rest) o (length (written p ends)) ends
parts_read order p rest ends o is small fits tells =
    let empty = (length p.body == 0) in
    let head = head_written order p.status p.content_type p.body rest p.tag ends is.type_is is.bodied is.tag_is is.due small fits in
    record {
      head = reply_head p.status empty p.content_type (length p.body) p.tag ends;
      status = p.status;
      size = length p.body;
      has = head.has;
      used_is = head.long;
      there = omega (arith, length-append (written p ends) rest);
      tag = p.tag;
      tag_is = tag_so empty (has_body p.status) p.content_type (length p.body) p.tag ends is.tag_is;
      outcome_is = subst (λ (b : List ℕ). IsOutcome order p.status p.tag b (Some o)) (sym head.behind) tells;
      ends_is = sym (closes_so empty (has_body p.status) p.content_type (length p.body) p.tag ends);
    }

pub reply_read : (order : What) (o : Outcome) (ends : Bool) (rest : List ℕ) → CanHave order o → TellsThings o
    → length (parts_of o).body < 10 ^ 19 → length (parts_of o).body < 2 ^ 64 → IsWhole order (text o ends ++ rest) (as_read o) (length (text o ends)) ends
unfolding text
reply_read order o ends rest can tells small fits =
    parts_read order (parts_of o) rest ends (as_read o) (written_so order o can tells) small fits (outcome_read order o can tells)
