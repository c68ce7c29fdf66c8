-- What is left of an input has one end. The key lemmas are nothing_cut, nothing_refused, one_cut, one_status and
-- cut_or_refused.
use Rattle.std.proofs.Common.{◌≡◌, ℕ, zero, suc, ◌<◌, ◌⊎◌, inl, inr, List, [], ◌∷◌, length, take, drop, refl, sym, ap, ◌∙◌, arith, append-nil, length-append, Result, Ok, Err}
use Rattle.std.proofs.lemmas.List.{take-append-drop}
use Rattle.std.proofs.lemmas.List.Elements.{All-nil}
use Rattle.std.proofs.lemmas.List.Sums.{AllPass-from_list_all}
use Rattle.std.proofs.lemmas.Str.{IsUtf8-from_ascii}
use Rattle.std.specs.Prelude.{slice_index}
use Rattle.std.specs.Str.{IsAscii}
use Rattle.httparse.specs.Grammar.{RequestHead, IsRequestHead, ReadsRequest, IsField, HasNoRequest, print_request, is_token_byte, is_uri_byte, crlf}
use Rattle.httparse.specs.Spans.{RequestOverflows}
use Rattle.http_front.specs.RequestHead.{judge}
use Rattle.http_front.specs.RequestStream.{IsHeadAt, IsCutAfter, in_head, in_body, IsRefused, by_head, by_bytes, by_length, NeedsManyFields, front_of, interim_of}
use Rattle.http_front.proofs.StreamLemmas.{one_head, reads_front, too_many}

-- ---- where nothing is left

some_head : (head : RequestHead) (rest : List ℕ) → ReadsRequest [] head rest → ⊥
unfolding print_request
some_head head rest reads = omega (arith, simp length-append at (ap length reads.1))

-- the shortest kind of head
abbrev shortest : RequestHead
shortest = record { blank = []; method = 71 ∷ []; target = 47 ∷ []; minor = 1; line_end = crlf; fields = []; last = crlf }

slash_ascii : IsAscii (47 ∷ [])
slash_ascii zero = omega arith
slash_ascii (suc i) = past_end i
  where
    past_end : (k : ℕ) → slice_index [] k < 128
    past_end zero = omega arith
    past_end (suc k) = omega arith

shortest_is : IsRequestHead shortest
unfolding is_token_byte
shortest_is = record {
  method = (omega arith, AllPass-from_list_all is_token_byte (71 ∷ []) refl);
  target = (omega arith, AllPass-from_list_all is_uri_byte (47 ∷ []) refl);
  target_text = IsUtf8-from_ascii (47 ∷ []) slash_ascii;
  minor = omega arith;
  fields = All-nil IsField;
}

-- no bytes at all can still become a head
no_overflow : (n : ℕ) → RequestOverflows 64 (take n []) → ⊥
no_overflow zero over = absurd (omega (arith, over (print_request shortest) shortest [] (shortest_is, sym (append-nil (print_request shortest)))))
no_overflow (suc n) over = absurd (omega (arith, over (print_request shortest) shortest [] (shortest_is, sym (append-nil (print_request shortest)))))

-- nothing is cut short
pub nothing_cut : (given : List ℕ) → IsCutAfter [] given → ⊥
nothing_cut given (in_head some short unread none) = some refl
nothing_cut given (in_body head after size at judged short due) = some_head head after at.reads

-- nothing is refused
pub nothing_refused : (status : ℕ) → IsRefused [] status → ⊥
nothing_refused status (by_head head after at judged) = some_head head after at.reads
nothing_refused status (by_bytes is over) = no_overflow 16384 over
nothing_refused status (by_length is long unread) = absurd (omega (arith, long))

-- ---- a head, and none

abbrev accepted_as : ℕ → Result ℕ ℕ
accepted_as size = Ok size

abbrev refused_as : ℕ → Result ℕ ℕ
refused_as status = Err status

-- where a head stands, the front has one
head_and_none : (rest : List ℕ) (head : RequestHead) (after : List ℕ) → IsHeadAt rest head after → HasNoRequest (front_of rest) → ⊥
head_and_none rest head after at none = none head _ (reads_front 16384 rest head after at.reads at.short)

-- and not one of too many fields
head_and_many : (rest : List ℕ) (head : RequestHead) (after : List ℕ) → IsHeadAt rest head after
    → RequestOverflows 64 (front_of rest) → ⊥
head_and_many rest head after at over =
    too_many (length head.fields) (over (drop 16384 rest) head after (at.reads.0, take-append-drop 16384 rest ∙ at.reads.1)) at.few

-- a head is accepted or refused
accepted_and_refused : (rest : List ℕ) (head other : RequestHead) (after more : List ℕ) (size status : ℕ) → IsHeadAt rest head after
    → IsHeadAt rest other more → judge head ≡ Ok size → judge other ≡ Err status → ⊥
accepted_and_refused rest head other after more size status at also accepted refused =
    let same = one_head rest head other after more at also in
    let differ : accepted_as size ≡ refused_as status = sym accepted ∙ ap judge same.0 ∙ refused in
    absurd (cc)

same_status : (a b : ℕ) → refused_as a ≡ refused_as b → a ≡ b
same_status a b same = cc

-- ---- one end

-- what is cut short is so with one reply at most
pub one_cut : (rest first second : List ℕ) → IsCutAfter rest first → IsCutAfter rest second → first ≡ second
one_cut rest first second (in_head some short unread none) (in_head also_some also_short also_unread also_none) = none ∙ sym also_none
one_cut rest first second (in_head some short unread none) (in_body head after size at judged few due) =
    absurd (head_and_none rest head after at unread.none)
one_cut rest first second (in_body head after size at judged few due) (in_head some short unread none) =
    absurd (head_and_none rest head after at unread.none)
one_cut rest first second (in_body head after size at judged few due) (in_body other more length_due also also_judged also_few also_due) =
    let same = one_head rest head other after more at also in
    due ∙ ap interim_of same.0 ∙ sym also_due

-- what is refused is so with one status
pub one_status : (rest : List ℕ) (first second : ℕ) → IsRefused rest first → IsRefused rest second
    → (first ≡ second) ⊎ NeedsManyFields rest
one_status rest first second (by_head head after at judged) (by_head other more also also_judged) =
    let same = one_head rest head other after more at also in
    inl (same_status first second (sym judged ∙ ap judge same.0 ∙ also_judged))
one_status rest first second (by_head head after at judged) (by_bytes is over) = absurd (head_and_many rest head after at over)
one_status rest first second (by_head head after at judged) (by_length is long unread) =
    absurd (head_and_none rest head after at unread.none)
one_status rest first second (by_bytes is over) (by_head head after at judged) = absurd (head_and_many rest head after at over)
one_status rest first second (by_bytes is over) (by_bytes also also_over) = inl (is ∙ sym also)
one_status rest first second (by_bytes is over) (by_length also long unread) = inr (record { none = unread.none; may = unread.may; many = over })
one_status rest first second (by_length is long unread) (by_head head after at judged) =
    absurd (head_and_none rest head after at unread.none)
one_status rest first second (by_length is long unread) (by_bytes also over) = inr (record { none = unread.none; may = unread.may; many = over })
one_status rest first second (by_length is long unread) (by_length also also_long also_unread) = inl (is ∙ sym also)

-- what is cut short is not refused
pub cut_or_refused : (rest given : List ℕ) (status : ℕ) → IsCutAfter rest given → IsRefused rest status → NeedsManyFields rest
cut_or_refused rest given status (in_head some short unread none) (by_head head after at judged) =
    absurd (head_and_none rest head after at unread.none)
cut_or_refused rest given status (in_head some short unread none) (by_bytes is over) = record { none = unread.none; may = unread.may; many = over }
cut_or_refused rest given status (in_head some short unread none) (by_length is long also) = absurd (omega (arith, short, long))
cut_or_refused rest given status (in_body head after size at judged few due) (by_head other more also refused) =
    absurd (accepted_and_refused rest head other after more size status at also judged refused)
cut_or_refused rest given status (in_body head after size at judged few due) (by_bytes is over) =
    absurd (head_and_many rest head after at over)
cut_or_refused rest given status (in_body head after size at judged few due) (by_length is long unread) =
    absurd (head_and_none rest head after at unread.none)
