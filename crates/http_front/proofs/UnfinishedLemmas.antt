-- Less than a request is no whole one, and short. The key lemmas are no_whole_unfinished and unfinished_bound.
use Rattle.std.proofs.Common.{◌≡◌, ℕ, ◌+◌, ◌<◌, ◌≤◌, Bool, true, false, cond, Option, None, Some, Result, Ok, Err, List, length, ap, subst, sym, ◌∙◌, arith, length-append, nat_le, refl}
use Rattle.std.proofs.lemmas.Bool.{leb-true}
use Rattle.std.proofs.lemmas.List.{take_all}
use Rattle.httparse.specs.Grammar.{RequestHead, HasNoRequest, print_request}
use Rattle.ids.specs.declared.key.Kind.{Kind}
use Rattle.ids.specs.declared.key.Kind.TheVariants.{Commit, Fs, Block}
use Rattle.http_front.specs.RequestHead.{judge, judged, judged_by, has_coding, body_length, has_host, fields_of, method_of}
use Rattle.http_front.specs.RequestStream.{IsUnfinished, head_open, body_open, HasNoWhole, front_of}
use Rattle.http_front.specs.Route.{limit_of, limit_at, route_of, object_limit}
use Rattle.http_front.specs.declared.method.Method.{Method}
use Rattle.http_front.specs.declared.route.Route.{Route}
use Rattle.http_front.specs.declared.route.Route.TheVariants as route
use Rattle.http_front.proofs.StreamLemmas.{no_whole_open, no_whole_short}

-- what is shorter than a head may be is looked at whole
front_none : (unread : List ℕ) → length unread < 16384 → HasNoRequest unread → HasNoRequest (front_of unread)
front_none unread short none = subst HasNoRequest (sym (take_all 16384 unread (below (length unread) short))) none
  where
    below : (n : ℕ) → n < 16384 → n ≤ 16384
    below n lt = omega (arith, lt)

-- less than a request is no whole one
pub no_whole_unfinished : (unread given : List ℕ) → IsUnfinished unread given → HasNoWhole unread
no_whole_unfinished unread given (head_open seen short none looked due) = no_whole_open unread (front_none unread short none)
no_whole_unfinished unread given (body_open head after size at judged short due) = no_whole_short unread head after size at judged short

-- ---- how long a body may be

kind_bound : (kind : Kind) → object_limit kind ≤ 67108864
kind_bound Commit = omega arith
kind_bound Fs = omega arith
kind_bound Block = omega arith

pub limit_at_bound : (call : Option Route) → limit_at call ≤ 67108864
limit_at_bound None = omega arith
limit_at_bound (Some route.Version) = omega arith
limit_at_bound (Some (route.Check lib)) = omega arith
limit_at_bound (Some (route.Head lib)) = omega arith
limit_at_bound (Some (route.Update lib)) = omega arith
limit_at_bound (Some (route.Get lib key)) = omega arith
limit_at_bound (Some (route.Put lib key)) = kind_bound key.kind
limit_at_bound (Some (route.CheckFs lib)) = omega arith
limit_at_bound (Some (route.CheckBlocks lib)) = omega arith
limit_at_bound (Some (route.PutFs lib)) = omega arith
limit_at_bound (Some (route.GetFs lib)) = omega arith
limit_at_bound (Some (route.Ids lib)) = omega arith
limit_at_bound (Some (route.Limit lib)) = omega arith
limit_at_bound (Some (route.Collect lib)) = omega arith

pub limit_bound : (method : Method) (target : List ℕ) → limit_of method target ≤ 67108864
unfolding limit_of
limit_bound method target = limit_at_bound (route_of method target)

abbrev accepted_as : ℕ → Result ℕ ℕ
accepted_as size = Ok size

abbrev refused_as : ℕ → Result ℕ ℕ
refused_as status = Err status

judged_bound : (coded : Bool) (size : Option ℕ) (host : Bool) (limit n : ℕ) → judged coded size host limit ≡ Ok n → n ≤ limit
judged_bound true size host limit n e = absurd (cc)
judged_bound false None host limit n e = absurd (cc)
judged_bound false (Some size) false limit n e = absurd (cc)
judged_bound false (Some size) true limit n e = by_size (nat_le size limit) refl e
  where
    by_size : (fits : Bool) → nat_le size limit ≡ fits → cond fits (accepted_as size) (refused_as 413) ≡ Ok n → n ≤ limit
    by_size true le e =
        let same : size ≡ n = cc in
        subst (λ (k : ℕ). k ≤ limit) same (leb-true size limit le)
    by_size false le e = absurd (cc)

judge_bound : (head : RequestHead) (size : ℕ) → judge head ≡ Ok size → size ≤ 67108864
unfolding judged_by
judge_bound head size judged =
    let fields = fields_of head in
    let method = method_of head.method in
    let fits = judged_bound (has_coding fields) (body_length fields) (has_host head.minor fields) (limit_of method head.target) size judged in
    omega (arith, fits, limit_bound method head.target)

-- less than a request has fewer bytes than the longest head and the longest body
pub unfinished_bound : (unread given : List ℕ) → IsUnfinished unread given → length unread < 67125248
unfinished_bound unread given (head_open seen short none looked due) = omega (arith, short)
unfinished_bound unread given (body_open head after size at judged short due) =
    let whole : length unread ≡ length (print_request head) + length after = ap length at.reads.1 ∙ length-append (print_request head) after in
    within (length unread) (length (print_request head)) (length after) size whole at.short short (judge_bound head size judged)
  where
    within : (all text after size : ℕ) → all ≡ text + after → text ≤ 16384 → after < size → size ≤ 67108864 → all < 67125248
    within all text after size whole short few bound = omega (arith, whole, short, few, bound)
