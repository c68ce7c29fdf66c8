-- The body that a server writes for a refusal is read as the refusal. The key lemma is refusal_read.
use Rattle.std.proofs.Common.{◌≡◌, ◌≤◌, pos, negsuc, true, None, Some, codes, refl, lit≤, IsUtf8}
use Rattle.ids.specs.Kind.{kind_word}
use Rattle.ids.specs.declared.key.Kind.{Kind}
use Rattle.ids.specs.declared.key.Kind.TheVariants.{Commit, Fs, Block}
use Rattle.ids.proofs.DigitsLemmas.{IsUtf8-encode_lower}
use Rattle.serde_json.specs.Data.{depth}
use Rattle.json_words.proofs.WrittenLemmas.{IsSpelled, IsUtf8-are_ascii, json_of-compact_text}
use Rattle.library_state.specs.declared.refusal.Refusal.{Refusal}
use Rattle.library_state.specs.declared.refusal.Refusal.TheVariants as refusal
use Rattle.http_front.specs.RefusalText.{refused_body, refused_data, refused_status}
use Rattle.http_front.specs.declared.order.What.{What}
use Rattle.http_front.specs.declared.outcome.Outcome.TheVariants.{Refused}
use Rattle.http_client.specs.OrderOutcome.{can_refuse}
use Rattle.http_client.specs.OutcomeReading.{IsOutcome, TellsWhy}
use Rattle.http_client.specs.RefusalReading.{HasMembers, IsSpoken, NamesThings, members_of}
use Rattle.ids.proofs.LibraryTextLemmas.{IsUtf8-hyphenated}

kind_utf8 : (kind : Kind) → IsUtf8 (kind_word kind)
kind_utf8 Commit = IsUtf8-are_ascii (codes "commit") refl
kind_utf8 Fs = IsUtf8-are_ascii (codes "fs") refl
kind_utf8 Block = IsUtf8-are_ascii (codes "block") refl

-- its own text has its own members
has_own : (why : Refusal) → HasMembers (refused_data why) (members_of (refused_data why))
has_own refusal.NoLibrary = (refl, tt)
has_own refusal.NoCall = (refl, tt)
has_own refusal.BadMethod = (refl, tt)
has_own refusal.BadQuery = (refl, tt)
has_own (refusal.BadBody at) = (refl, (refl, tt))
has_own refusal.Denied = (refl, tt)
has_own (refusal.NoObject key) = (refl, (refl, (refl, tt)))
has_own (refusal.Wrong got) = (refl, (refl, tt))
has_own (refusal.BadFs code) = (refl, (refl, tt))
has_own (refusal.BadCommit code) = (refl, (refl, tt))
has_own (refusal.OtherLibrary lib) = (refl, (refl, tt))
has_own (refusal.Taken id) = (refl, (refl, tt))
has_own (refusal.Stale last now) = (refl, (refl, (refl, tt)))
has_own (refusal.Incomplete key) = (refl, (refl, (refl, tt)))
has_own (refusal.Unrelated count) = (refl, (refl, tt))
has_own (refusal.Unreadable key) = (refl, (refl, (refl, tt)))
has_own (refusal.WrongKind id) = (refl, (refl, tt))
has_own (refusal.WrongSize id) = (refl, (refl, tt))
has_own (refusal.TooDeep path) = (refl, (refl, tt))
has_own (refusal.TooMany count) = (refl, (refl, tt))
has_own (refusal.TooLong path size) = (refl, (refl, (refl, tt)))
has_own refusal.Store = (refl, tt)
has_own refusal.Spent = (refl, tt)
has_own refusal.NoMemory = (refl, tt)
has_own (refusal.Damaged want got) = (refl, (refl, (refl, tt)))
has_own (refusal.BadDays days) = (refl, (refl, tt))

spelled : (why : Refusal) → IsSpoken why → IsSpelled (refused_data why)
spelled refusal.NoLibrary said = (IsUtf8-are_ascii (codes "reason") refl, IsUtf8-are_ascii (codes "no-library") refl, refl, tt)
spelled refusal.NoCall said = (IsUtf8-are_ascii (codes "reason") refl, IsUtf8-are_ascii (codes "no-call") refl, refl, tt)
spelled refusal.BadMethod said = (IsUtf8-are_ascii (codes "reason") refl, IsUtf8-are_ascii (codes "method") refl, refl, tt)
spelled refusal.BadQuery said = (IsUtf8-are_ascii (codes "reason") refl, IsUtf8-are_ascii (codes "bad-query") refl, refl, tt)
spelled (refusal.BadBody at) said = (IsUtf8-are_ascii (codes "at") refl, said, refl, (IsUtf8-are_ascii (codes "reason") refl, IsUtf8-are_ascii (codes "bad-body") refl, refl, tt))
spelled refusal.Denied said = (IsUtf8-are_ascii (codes "reason") refl, IsUtf8-are_ascii (codes "denied") refl, refl, tt)
spelled (refusal.NoObject key) said = (IsUtf8-are_ascii (codes "id") refl, IsUtf8-encode_lower key.id, refl, (IsUtf8-are_ascii (codes "kind") refl, kind_utf8 key.kind, refl, (IsUtf8-are_ascii (codes "reason") refl, IsUtf8-are_ascii (codes "no-object") refl, refl, tt)))
spelled (refusal.Wrong got) said = (IsUtf8-are_ascii (codes "got") refl, IsUtf8-encode_lower got, refl, (IsUtf8-are_ascii (codes "reason") refl, IsUtf8-are_ascii (codes "wrong") refl, refl, tt))
spelled (refusal.BadFs code) said = (IsUtf8-are_ascii (codes "code") refl, said, refl, (IsUtf8-are_ascii (codes "reason") refl, IsUtf8-are_ascii (codes "bad-fs") refl, refl, tt))
spelled (refusal.BadCommit code) said = (IsUtf8-are_ascii (codes "code") refl, said, refl, (IsUtf8-are_ascii (codes "reason") refl, IsUtf8-are_ascii (codes "bad-commit") refl, refl, tt))
spelled (refusal.OtherLibrary lib) said = (IsUtf8-are_ascii (codes "lib") refl, IsUtf8-hyphenated lib, refl, (IsUtf8-are_ascii (codes "reason") refl, IsUtf8-are_ascii (codes "other-library") refl, refl, tt))
spelled (refusal.Taken id) said = (IsUtf8-are_ascii (codes "id") refl, IsUtf8-encode_lower id, refl, (IsUtf8-are_ascii (codes "reason") refl, IsUtf8-are_ascii (codes "taken") refl, refl, tt))
spelled (refusal.Stale last now) said = (IsUtf8-are_ascii (codes "last") refl, said.0, refl, (IsUtf8-are_ascii (codes "now") refl, said.1, refl, (IsUtf8-are_ascii (codes "reason") refl, IsUtf8-are_ascii (codes "stale") refl, refl, tt)))
spelled (refusal.Incomplete key) said = (IsUtf8-are_ascii (codes "id") refl, IsUtf8-encode_lower key.id, refl, (IsUtf8-are_ascii (codes "kind") refl, kind_utf8 key.kind, refl, (IsUtf8-are_ascii (codes "reason") refl, IsUtf8-are_ascii (codes "incomplete") refl, refl, tt)))
spelled (refusal.Unrelated count) said = (IsUtf8-are_ascii (codes "count") refl, said, refl, (IsUtf8-are_ascii (codes "reason") refl, IsUtf8-are_ascii (codes "unrelated") refl, refl, tt))
spelled (refusal.Unreadable key) said = (IsUtf8-are_ascii (codes "id") refl, IsUtf8-encode_lower key.id, refl, (IsUtf8-are_ascii (codes "kind") refl, kind_utf8 key.kind, refl, (IsUtf8-are_ascii (codes "reason") refl, IsUtf8-are_ascii (codes "unreadable") refl, refl, tt)))
spelled (refusal.WrongKind id) said = (IsUtf8-are_ascii (codes "id") refl, IsUtf8-encode_lower id, refl, (IsUtf8-are_ascii (codes "reason") refl, IsUtf8-are_ascii (codes "wrong-kind") refl, refl, tt))
spelled (refusal.WrongSize id) said = (IsUtf8-are_ascii (codes "id") refl, IsUtf8-encode_lower id, refl, (IsUtf8-are_ascii (codes "reason") refl, IsUtf8-are_ascii (codes "wrong-size") refl, refl, tt))
spelled (refusal.TooDeep path) said = (IsUtf8-are_ascii (codes "path") refl, said, refl, (IsUtf8-are_ascii (codes "reason") refl, IsUtf8-are_ascii (codes "too-deep") refl, refl, tt))
spelled (refusal.TooMany count) said = (IsUtf8-are_ascii (codes "count") refl, said, refl, (IsUtf8-are_ascii (codes "reason") refl, IsUtf8-are_ascii (codes "too-many") refl, refl, tt))
spelled (refusal.TooLong path size) said = (IsUtf8-are_ascii (codes "length") refl, said.1, refl, (IsUtf8-are_ascii (codes "path") refl, said.0, refl, (IsUtf8-are_ascii (codes "reason") refl, IsUtf8-are_ascii (codes "too-long") refl, refl, tt)))
spelled refusal.Store said = (IsUtf8-are_ascii (codes "reason") refl, IsUtf8-are_ascii (codes "store") refl, refl, tt)
spelled refusal.Spent said = (IsUtf8-are_ascii (codes "reason") refl, IsUtf8-are_ascii (codes "spent") refl, refl, tt)
spelled refusal.NoMemory said = (IsUtf8-are_ascii (codes "reason") refl, IsUtf8-are_ascii (codes "no-memory") refl, refl, tt)
spelled (refusal.Damaged want None) said = (IsUtf8-are_ascii (codes "got") refl, tt, refl, (IsUtf8-are_ascii (codes "reason") refl, IsUtf8-are_ascii (codes "damaged") refl, refl, (IsUtf8-are_ascii (codes "want") refl, IsUtf8-encode_lower want, refl, tt)))
spelled (refusal.Damaged want (Some got)) said = (IsUtf8-are_ascii (codes "got") refl, IsUtf8-encode_lower got, refl, (IsUtf8-are_ascii (codes "reason") refl, IsUtf8-are_ascii (codes "damaged") refl, refl, (IsUtf8-are_ascii (codes "want") refl, IsUtf8-encode_lower want, refl, tt)))
spelled (refusal.BadDays (pos days)) said = (IsUtf8-are_ascii (codes "days") refl, said, refl, (IsUtf8-are_ascii (codes "reason") refl, IsUtf8-are_ascii (codes "bad-days") refl, refl, tt))
spelled (refusal.BadDays (negsuc days)) said = (IsUtf8-are_ascii (codes "days") refl, said, refl, (IsUtf8-are_ascii (codes "reason") refl, IsUtf8-are_ascii (codes "bad-days") refl, refl, tt))

shallow : (why : Refusal) → depth (refused_data why) ≤ 127
shallow (refusal.Damaged want None) = lit≤ tt
shallow (refusal.Damaged want (Some got)) = lit≤ tt
shallow other = lit≤ tt

told : (order : What) (why : Refusal) → can_refuse order why ≡ true → NamesThings why → IsSpoken why → TellsWhy order (refused_status why) (refused_body why) why
unfolding refused_body
told order why can named said = record {
  value = refused_data why;
  is_text = json_of-compact_text (refused_data why) (spelled why said) (shallow why);
  tells = record { named = named; has = has_own why };
  due = refl;
  can = can;
}

pub refusal_read : (order : What) (why : Refusal) → can_refuse order why ≡ true → NamesThings why → IsSpoken why
    → IsOutcome order (refused_status why) None (refused_body why) (Some (Refused why))
refusal_read order refusal.NoLibrary can named said = told order refusal.NoLibrary can named said
refusal_read order other can named said = told order other can named said
