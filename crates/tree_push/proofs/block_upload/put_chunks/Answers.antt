-- One chunk more was met.
use Rattle.std.proofs.Common.{◌≡◌, ◌++◌, ◌∷◌, ◌∙◌, [], ℕ, List, ap, map, refl, reverse, subst, sym}
use Rattle.std.proofs.lemmas.List.{nil_from_length, reverse-reverse}
use Rattle.sha1.specs.Sha1.{sha1}
use Rattle.tree_push.specs.BlockUpload.{IsPutting}
use Rattle.tree_push.proofs.BlockUploadLemmas.{IsTaking, one_taken, putting_end, putting_more, putting_next, putting_start, taking_end, taking_more, taking_start, taking_stop}
use Rattle.tree_push.proofs.SentOnceLemmas.{takes_none, takes_then}
use Rattle.tree_push.proofs.block_upload.put_chunks.Goals as goal

pub loop-chunk-init : goal.loop-chunk-init
loop-chunk-init g c =
    let all : reverse c.reverse.new.self.items ≡ c.args.chunks = ap reverse c.reverse.ensures.items ∙ reverse-reverse c.into_vec-waiting.result.items ∙ c.into_vec-waiting.ensures.value in
    record {
      peer = refl;
      taking = subst
          (λ (more : List (List ℕ)). IsTaking c.args.library.now (map sha1 c.args.chunks) (map sha1 more) c.args.lacking.now c.args.lacking.now (g.R.Remote.sends c.args.remote.now)
          (g.R.Remote.sends c.args.remote.now))
          (sym all) (taking_start c.args.library.now (map sha1 c.args.chunks) c.args.lacking.now (g.R.Remote.sends c.args.remote.now));
      once = takes_none c.args.lacking.now (g.R.Remote.sends c.args.remote.now);
      putting = subst (λ (more : List (List ℕ)). IsPutting c.args.chunks c.args.left.now more c.args.left.now) (sym all) (putting_start c.args.chunks c.args.left.now);
    }

pub loop-chunk-preserved : goal.loop-chunk-preserved
loop-chunk-preserved g c =
    let taken = one_taken c.loop-chunk.waiting.items c.pop.new.self.items c.in-Some.chunk c.in-Some.ensures.items in
    record {
      peer = c.in-Ok.ensures.stays ∙ c.loop-chunk.invariant.peer;
      taking = taking_more c.args.library.now (map sha1 c.args.chunks) (map sha1 (reverse c.loop-chunk.waiting.items)) c.args.lacking.now c.loop-chunk.lacking (g.R.Remote.sends c.args.remote.now)
          (g.R.Remote.sends c.loop-chunk.remote) c.loop-chunk.invariant.taking (sha1 c.in-Some.chunk ∷ []) (map sha1 (reverse c.pop.new.self.items)) c.put_chunk.new.lacking
          (g.R.Remote.sends c.put_chunk.new.remote) (ap (map sha1) taken) c.in-Ok.ensures.value;
      once = takes_then c.args.lacking.now c.loop-chunk.lacking c.put_chunk.new.lacking _ _ _ c.loop-chunk.invariant.once c.in-Ok.ensures.once;
      putting = putting_more c.args.chunks c.args.left.now (reverse c.pop.new.self.items) c.loop-chunk.rest.now c.in-Ok.behind.now c.in-Some.chunk
          (subst (λ (more : List (List ℕ)). IsPutting c.args.chunks c.args.left.now more c.loop-chunk.rest.now) taken c.loop-chunk.invariant.putting) c.in-Ok.ensures.rest;
    }

pub returns-in-Err-clause-value : goal.returns-in-Err-clause-value
returns-in-Err-clause-value g c =
    taking_stop c.args.library.now (map sha1 c.args.chunks) (map sha1 (reverse c.loop-chunk.waiting.items)) c.args.lacking.now c.loop-chunk.lacking _ _ c.loop-chunk.invariant.taking _ c.in-Err.fault
    c.in-Err.ensures.value

pub returns-in-Err-clause-cause : goal.returns-in-Err-clause-cause
returns-in-Err-clause-cause g c = λ rest is.
    let taken = one_taken c.loop-chunk.waiting.items c.pop.new.self.items c.in-Some.chunk c.in-Some.ensures.items in
    c.in-Err.ensures.cause (map sha1 (reverse c.pop.new.self.items) ++ rest)
    (putting_next c.args.chunks c.args.left.now (reverse c.pop.new.self.items) c.loop-chunk.rest.now rest c.in-Some.chunk
    (subst (λ (more : List (List ℕ)). IsPutting c.args.chunks c.args.left.now more c.loop-chunk.rest.now) taken c.loop-chunk.invariant.putting) is)

pub returns-clause-rest : goal.returns-clause-rest
returns-clause-rest g c =
    let none : reverse c.loop-chunk.waiting.items ≡ [] = ap reverse (nil_from_length c.loop-chunk.waiting.items (sym c.loop-chunk.waiting.ok.0 ∙ c.in_default.ensures.cases.0)) in
    putting_end c.args.chunks c.args.left.now c.loop-chunk.rest.now
    (subst (λ (more : List (List ℕ)). IsPutting c.args.chunks c.args.left.now more c.loop-chunk.rest.now) none c.loop-chunk.invariant.putting)

pub returns-clause-value : goal.returns-clause-value
returns-clause-value g c =
    let none : reverse c.loop-chunk.waiting.items ≡ [] = ap reverse (nil_from_length c.loop-chunk.waiting.items (sym c.loop-chunk.waiting.ok.0 ∙ c.in_default.ensures.cases.0)) in
    taking_end c.args.library.now (map sha1 c.args.chunks) (map sha1 (reverse c.loop-chunk.waiting.items)) c.args.lacking.now c.loop-chunk.lacking _ _ c.loop-chunk.invariant.taking (ap (map sha1) none)

pub returns-in-Err-clause-once : goal.returns-in-Err-clause-once
returns-in-Err-clause-once g c = takes_then c.args.lacking.now c.loop-chunk.lacking c.put_chunk.new.lacking _ _ _ c.loop-chunk.invariant.once c.in-Err.ensures.once
