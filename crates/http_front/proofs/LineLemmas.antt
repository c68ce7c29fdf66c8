-- A head ends with the end of a line, so where a line ends no more none comes. The key lemma is none_by_lines.
use Rattle.std.proofs.Common.{◌≡◌, ◌≢◌, inl, inr, ℕ, ◌+◌, ◌<◌, ◌≤◌, List, [], ◌∷◌, ◌++◌, length, take, drop, flat_map, refl, sym, ap, subst, ◌∙◌, arith, append_assoc, length-append, All}
use Rattle.std.proofs.lemmas.Bool.{cases_lt}
use Rattle.std.proofs.lemmas.List.{drop-append-le}
use Rattle.std.proofs.lemmas.List.Elements.{All-drop, All-head}
use Rattle.httparse.specs.Grammar.{LineEnd, crlf, lf, RequestHead, HasNoRequest, print_end, print_field, print_request, print_section, print_blank, print_version}
use Rattle.http_front.proofs.StreamLemmas.{reads_front}

-- the bytes end with a line feed
abbrev EndsLine : List ℕ → Type 0
EndsLine bytes = (front : List ℕ) × (bytes ≡ front ++ 10 ∷ [])

after_more : (bytes more : List ℕ) → EndsLine more → EndsLine (bytes ++ more)
after_more bytes more ends = (bytes ++ ends.0, ap (λ m. bytes ++ m) ends.1 ∙ sym (append_assoc bytes ends.0 (10 ∷ [])))

end_ends : (end : LineEnd) → EndsLine (print_end end)
end_ends crlf = (13 ∷ [], refl)
end_ends lf = ([], refl)

head_ends : (head : RequestHead) → EndsLine (print_request head)
unfolding print_request
head_ends head =
    after_more (print_blank head.blank ++ head.method ++ 32 ∷ head.target ++ 32 ∷ print_version head.minor ++ print_end head.line_end) (print_section head.fields head.last)
    (after_more (flat_map print_field head.fields) (print_end head.last) (end_ends head.last))

-- a line feed after the first so many bytes is one of those that follow
feed_behind : (seen : ℕ) (front rest : List ℕ) → seen ≤ length front → All (λ byte. byte ≢ 10) (drop seen (front ++ 10 ∷ rest)) → ⊥
feed_behind seen front rest within none =
    let tail : drop seen (front ++ 10 ∷ rest) ≡ drop seen front ++ 10 ∷ rest = drop-append-le seen front (10 ∷ rest) within in
    let here = All-drop (λ (byte : ℕ). byte ≢ 10) (length (drop seen front)) (drop seen front ++ 10 ∷ rest) (subst (All (λ (byte : ℕ). byte ≢ 10)) tail none) in
    let there : drop (length (drop seen front)) (drop seen front ++ 10 ∷ rest) ≡ 10 ∷ rest = drop_front (drop seen front) (10 ∷ rest) in
    All-head (λ (byte : ℕ). byte ≢ 10) 10 rest (subst (All (λ (byte : ℕ). byte ≢ 10)) there here) refl
  where
    drop_front : (xs ys : List ℕ) → drop (length xs) (xs ++ ys) ≡ ys
    drop_front [] ys = refl
    drop_front (x ∷ xs) ys = drop_front xs ys

-- no head stands in the first so many bytes, and after them no line ends: no head stands there
pub none_by_lines : (seen : ℕ) (unread : List ℕ) → HasNoRequest (take seen unread) → All (λ byte. byte ≢ 10) (drop seen unread) → HasNoRequest unread
none_by_lines seen unread none lines head rest reads =
    let ends = head_ends head in
    let size : length (print_request head) ≡ length ends.0 + 1 = ap length ends.1 ∙ length-append ends.0 (10 ∷ []) in
    let whole : unread ≡ ends.0 ++ 10 ∷ rest = reads.1 ∙ ap (λ p. p ++ rest) ends.1 ∙ append_assoc ends.0 (10 ∷ []) rest in
    elim (cases_lt (length ends.0) seen) [
      | inl short ↦ none head _ (reads_front seen unread head rest reads (enough (length (print_request head)) (length ends.0) size short))
      | inr long ↦ feed_behind seen ends.0 rest long (subst (λ u. All (λ (byte : ℕ). byte ≢ 10) (drop seen u)) whole lines)
    ]
  where
    enough : (n front : ℕ) → n ≡ front + 1 → front < seen → n ≤ seen
    enough n front is lt = omega (arith, is, lt)
