-- Links that are served one after another. The key lemmas are works_more and works_all.
use Rattle.std.proofs.Common.{◌≡◌, ℕ, ◌+◌, ◌<◌, List, [], ◌∷◌, ◌++◌, length, length-append, append_assoc, append-nil, refl, sym, ap, subst, ◌∙◌, arith, Option, None, Some, Ok}
use Rattle.std.specs.Prelude.{◌-◌, map as map_list}
use Rattle.std.proofs.lemmas.List.{map-append}
use Rattle.ids.specs.FaultCount.{Rose}
use Rattle.link_ears.specs.Ear.{Accepts, EarTells, LinkView}
use Rattle.worker_server.specs.declared.served.Served.{Served}
use Rattle.hall_workers.specs.Workers.{Had, InTurn, ServesGiven, ServesOne, Stops, StopsNow, WorkerView, Works, WorksYet, back_of, came_of, how_of}
use Rattle.hall_workers.specs.declared.worker.Ending.{Ending}
use Rattle.hall_workers.specs.declared.worker.Ending.TheVariants as ending

-- a list that grew by what a function makes of a list, and then of one more
grown : {A B : Type 0} (f : A → B) (old mid new : List B) (xs : List A) (x : A) → mid ≡ old ++ map_list f xs → new ≡ mid ++ f x ∷ []
    → new ≡ old ++ map_list f (xs ++ x ∷ [])
grown {B = B} f old mid new xs x first more =
    more ∙ (ap (λ (ys : List B). ys ++ f x ∷ []) first ∙ (append_assoc old (map_list f xs) (f x ∷ []) ∙ ap (λ (ys : List B). old ++ ys) (sym (map-append f xs (x ∷ [])))))

module _ {P L : Type 0} (serves : P → LinkView → Served → LinkView → P → Type 0) (seen : L → LinkView) where
  -- one more link
  in_turn_more : (u mid v : P) (had : List (Had L)) (one : Had L) → InTurn serves seen u had mid → serves mid (seen one.came) one.how (seen one.went) v
      → InTurn serves seen u (had ++ one ∷ []) v
  in_turn_more u mid v [] one same by = (v, subst (λ (p : P). serves p (seen one.came) one.how (seen one.went) v) same by, refl)
  in_turn_more u mid v (x ∷ had) one (next, first, rest) by = (next, first, in_turn_more next mid v had one rest by)

  pub works_none : (old : WorkerView P L) → WorksYet serves seen old old
  works_none old = record {
    works = record {
      had = [];
      gave = sym (append-nil old.tells.gave);
      left = omega arith;
      back = sym (append-nil old.back);
      served = sym (append-nil old.served);
      through = refl;
    };
    over = refl;
    faults = refl;
  }

  pub works_more : (old mid new : WorkerView P L) → WorksYet serves seen old mid → ServesOne serves seen mid new → WorksYet serves seen old new
  works_more old mid new yet more =
      let size = length-append yet.works.had (more.one ∷ []) in
      let before = yet.works.left in
      let less = more.left in
      record {
        works = record {
          had = yet.works.had ++ more.one ∷ [];
          gave = grown came_of old.tells.gave mid.tells.gave new.tells.gave yet.works.had more.one yet.works.gave more.gave;
          left = omega (arith, size, before, less);
          back = grown back_of old.back mid.back new.back yet.works.had more.one yet.works.back more.back;
          served = grown how_of old.served mid.served new.served yet.works.had more.one yet.works.served more.served;
          through = in_turn_more old.pass mid.pass new.pass yet.works.had more.one yet.works.through more.by;
        };
        over = more.over ∙ yet.over;
        faults = more.faults ∙ yet.faults;
      }

  -- where it stops then
  pub works_all : (old mid new : WorkerView P L) (why : Ending) → WorksYet serves seen old mid → StopsNow mid why new → Works serves seen old new
  works_all old mid new why yet stops = record {
    had = yet.works.had;
    gave = stops.gave ∙ yet.works.gave;
    left = subst (λ (n : ℕ). n + length yet.works.had ≡ old.tells.left) (sym stops.left) yet.works.left;
    back = stops.back ∙ yet.works.back;
    served = stops.served ∙ yet.works.served;
    through = subst (λ (p : P). InTurn serves seen old.pass yet.works.had p) (sym stops.pass) yet.works.through;
  }

  pub stops_all : (old mid new : WorkerView P L) (why : Ending) → WorksYet serves seen old mid → StopsNow mid why new → Stops old why new
  stops_all old mid new why yet stops = by why stops.stops
    where
      by : (why : Ending) → Stops mid why new → Stops old why new
      by ending.Idle none = none
      by ending.Ended (left, over, kept) = (left, over, kept ∙ yet.faults)
      by ending.EarFault (rose, over) = (subst (λ (n : ℕ). Rose n new.faults) yet.faults rose, over ∙ yet.over)
      by ending.NoMemory (kept, over) = (kept ∙ yet.faults, over ∙ yet.over)

  -- what each link keeps of the pass, all keep
  pub in_turn_keeps : (Q : P → P → Type 0) → ((u : P) → Q u u) → ((u mid v : P) → Q u mid → Q mid v → Q u v)
      → ((u v : P) (before now : LinkView) (how : Served) → serves u before how now v → Q u v)
      → (u v : P) (had : List (Had L)) → InTurn serves seen u had v → Q u v
  in_turn_keeps Q itself then one u v [] same = subst (Q u) (sym same) (itself u)
  in_turn_keeps Q itself then one u v (x ∷ had) (mid, first, rest) =
      then u mid v (one u mid (seen x.came) (seen x.went) x.how first) (in_turn_keeps Q itself then one mid v had rest)

-- ---- one link

module _ {P L : Type 0} (serves : P → LinkView → Served → LinkView → P → Type 0) (seen : L → LinkView) where
  -- an ear gave a link, which was served
  pub one_more : (old mid new : WorkerView P L) (link : L) → Accepts old.tells mid.tells (Ok (Some link)) → mid.pass ≡ old.pass → mid.back ≡ old.back → mid.served ≡ old.served → mid.faults ≡ old.faults
      → ServesGiven serves seen mid link new → ServesOne serves seen old new
  one_more old mid new link accepts pass back served faults given =
      let some = accepts.0 in
      let less : mid.tells.left ≡ old.tells.left - 1 = ap (λ (t : EarTells L). t.left) accepts.1 in
      let kept : new.tells.left ≡ mid.tells.left = ap (λ (t : EarTells L). t.left) given.tells in
      record {
        one = record { came = link; how = given.how; went = given.went };
        gave = ap (λ (t : EarTells L). t.gave) given.tells ∙ ap (λ (t : EarTells L). t.gave) accepts.1;
        left = omega (arith, some, less, kept);
        over = ap (λ (t : EarTells L). t.over) given.tells ∙ ap (λ (t : EarTells L). t.over) accepts.1;
        back = given.back ∙ ap (λ (b : List (L × Served)). b ++ (given.went, given.how) ∷ []) back;
        served = given.served ∙ ap (λ (b : List Served). b ++ given.how ∷ []) served;
        faults = given.faults ∙ faults;
        by = subst (λ (p : P). serves p (seen link) given.how (seen given.went) new.pass) pass given.by;
      }

-- an ear said that no more links come, or failed
module _ {P L : Type 0} where
  pub ended_now : (old new : WorkerView P L) → Accepts old.tells new.tells (Ok None) → new.pass ≡ old.pass → new.back ≡ old.back → new.served ≡ old.served → new.faults ≡ old.faults
      → StopsNow old ending.Ended new
  ended_now old new accepts pass back served faults = record {
    gave = ap (λ (t : EarTells L). t.gave) accepts.1;
    left = ap (λ (t : EarTells L). t.left) accepts.1;
    back = back;
    served = served;
    pass = pass;
    stops = (ap (λ (t : EarTells L). t.left) accepts.1 ∙ accepts.0, ap (λ (t : EarTells L). t.over) accepts.1, faults);
  }

  pub failed_now : (old new : WorkerView P L) → new.tells ≡ old.tells → new.pass ≡ old.pass → new.back ≡ old.back → new.served ≡ old.served → Rose old.faults new.faults
      → StopsNow old ending.EarFault new
  failed_now old new tells pass back served rose = record {
    gave = ap (λ (t : EarTells L). t.gave) tells;
    left = ap (λ (t : EarTells L). t.left) tells;
    back = back;
    served = served;
    pass = pass;
    stops = (rose, ap (λ (t : EarTells L). t.over) tells);
  }
