-- The texts of lines, one behind another, and what was put of them. The key lemmas are lines_more, put_so and tried_so.
use Rattle.std.proofs.Common.{◌≡◌, ◌+◌, ◌<◌, inl, ℕ, List, [], ◌∷◌, ◌++◌, length, take, get_or, Result, sym, ap, subst, ◌∙◌}
use Rattle.std.specs.List.{flat_map}
use Rattle.std.proofs.lemmas.List.{append-nil}
use Rattle.std.proofs.lemmas.List.Concat.{flat_map-append}
use Rattle.http_front.specs.declared.link.LinkFailed.{LinkFailed}
use Rattle.client_words.specs.Lines.{line_text}
use Rattle.client_words.specs.declared.line.Line.{Line}
use Rattle.client_commands.specs.Printing.{Prints, PrintsBy, Puts, PutsBy}
use Rattle.client_commands.specs.Views.{SinkView}
use Rattle.client_commands.proofs.StatusLemmas.{next_taken}

pub lines_more : (lines : List Line) (i : ℕ) (line : Line) (now said text later : List ℕ) → i < length lines → line ≡ get_or lines i line → now ≡ flat_map line_text (take i lines) → text ≡ line_text line
    → said ≡ text → later ≡ now ++ said → later ≡ flat_map line_text (take (i + 1) lines)
lines_more lines i line now said text later within is so told same grown =
    grown ∙ ap (λ (t : List ℕ). now ++ t) (same ∙ told) ∙ ap (λ (n : List ℕ). n ++ line_text line) so
    ∙ ap (λ (t : List ℕ). flat_map line_text (take i lines) ++ t) (sym (append-nil (line_text line)))
    ∙ sym (flat_map-append line_text (take i lines) (line ∷ [])) ∙ ap (flat_map line_text) (sym (next_taken lines i line within is))

-- ---- what was put of a text that is lent

pub put_so : (text due : List ℕ) (code wanted : ℕ) (before now : SinkView) (status : ℕ) → text ≡ due → code ≡ wanted → Puts (record { text = text; status = code }) before now status
    → Prints (record { text = due; status = wanted }) before now status
put_so text due code wanted before now status is same puts =
    inl (subst (λ (n : ℕ). Puts (record { text = due; status = n }) before now status) same (subst (λ (t : List ℕ). Puts (record { text = t; status = code }) before now status) is puts))

pub tried_so : (text due : List ℕ) (code wanted : ℕ) (before now : SinkView) (r : Result ℕ LinkFailed) → text ≡ due → code ≡ wanted → PutsBy (record { text = text; status = code }) before now r
    → PrintsBy (record { text = due; status = wanted }) before now r
tried_so text due code wanted before now r is same puts =
    inl (subst (λ (n : ℕ). PutsBy (record { text = due; status = n }) before now r) same (subst (λ (t : List ℕ). PutsBy (record { text = t; status = code }) before now r) is puts))
