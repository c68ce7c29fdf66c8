-- The connection so far, and one request more. The key lemmas are SoFar-more, Session-closed, Session-limit and
-- Session-stopped.
use Rattle.std.proofs.Common.{◌≡◌, ℕ, ◌+◌, ◌<◌, ◌==◌, Bool, true, false, ◌||◌, inl, inr, List, [], ◌∷◌, ◌++◌, length, drop, Option, Some, refl, sym, ap, subst, ◌∙◌, arith, append_assoc, append-nil, length-append, add-zero}
use Rattle.std.specs.Prelude.{⊤}
use Rattle.std.proofs.lemmas.Bool.{or_parts}
use Rattle.std.proofs.lemmas.List.{drop_at}
use Rattle.std.proofs.lemmas.Bool.Decides.{nat_tests}
use Rattle.std.proofs.lemmas.List.Elements.{All-nil, All-cons, All-head, All-tail, All-append}
use Rattle.std.specs.Io.KnownBytes.{append_known}
use Rattle.httparse.specs.Grammar.{print_request}
use Rattle.http_front.specs.Buffer.{to_read}
use Rattle.http_front.specs.Link.{LinkTells}
use Rattle.http_front.specs.RequestHead.{closes}
use Rattle.http_front.specs.RequestStream.{Request, Reads, IsRequest, IsUnfinished, MayFollow}
use Rattle.worker_server.specs.Calls.{HostRules}
use Rattle.worker_server.specs.ServedConnection.{Exchange, requests, texts, text_at, closes_at, AllOpen, LastCloses, Answers, Run, Stops, Ends, NeverWaits, SessionInTime, not_yet}
use Rattle.worker_server.specs.RequestSteps.{AsksFor, OneMore, OneStop}
use Rattle.worker_server.specs.declared.served.Served.{Served}
use Rattle.worker_server.specs.declared.served.Served.TheVariants as served
use Rattle.worker_server.proofs.ReadingLemmas.{append_known-more, append_known-nil, to_read-some}
use Rattle.worker_server.proofs.TimingLemmas.{AsksFor-none, AsksFor-turn, InTimeFor, NeverWaits-from_asks, Reads-append}

-- ---- one exchange more

module _ {Operation : Type 0} where
  abbrev IsOpenAfter : Exchange Operation → Type 0
  IsOpenAfter x = closes x.request.head ≡ false

  -- a request follows one that doesn't close
  follows : (y : Exchange Operation) (ys : List (Exchange Operation)) (x : Exchange Operation) → closes y.request.head ≡ false
      → MayFollow y.request (requests (ys ++ x ∷ []))
  follows y [] x open_y = open_y
  follows y (z ∷ zs) x open_y = open_y

  Reads-more : (input : List ℕ) (xs : List (Exchange Operation)) (mid : List ℕ) (x : Exchange Operation) (rest : List ℕ)
      → Reads input (requests xs) mid → AllOpen xs → IsRequest mid x.request rest
      → Reads input (requests (xs ++ x ∷ [])) rest
  Reads-more input [] mid x rest e opens is =
      (rest, subst (λ z. IsRequest z x.request rest) (sym e) is, tt, refl)
  Reads-more input (y ∷ ys) mid x rest reads opens is =
      (reads.0, reads.1, follows y ys x (All-head IsOpenAfter y ys opens), Reads-more reads.0 ys mid x rest reads.3 (All-tail IsOpenAfter y ys opens) is)

  texts-more : (n : ℕ) (xs : List (Exchange Operation)) (x : Exchange Operation)
      → texts n (xs ++ x ∷ []) ≡ texts n xs ++ text_at (n + length xs) x
  texts-more n [] x = append-nil (text_at n x) ∙ ap (λ k. text_at k x) (sym (add-zero n))
  texts-more n (y ∷ ys) x =
      let place : (n + 1) + length ys ≡ n + length (y ∷ ys) = omega arith in
      ap (λ l. text_at n y ++ l) (texts-more (n + 1) ys x)
      ∙ sym (append_assoc (text_at n y) (texts (n + 1) ys) (text_at ((n + 1) + length ys) x))
      ∙ ap (λ k. (text_at n y ++ texts (n + 1) ys) ++ text_at k x) place

  LastCloses-more : (xs : List (Exchange Operation)) (x : Exchange Operation) → closes x.request.head ≡ true → LastCloses (xs ++ x ∷ [])
  LastCloses-more [] x is = is
  LastCloses-more (y ∷ []) x is = is
  LastCloses-more (y ∷ (z ∷ zs)) x is = LastCloses-more (z ∷ zs) x is

  AllOpen-more : (xs : List (Exchange Operation)) (x : Exchange Operation) → AllOpen xs → closes x.request.head ≡ false → AllOpen (xs ++ x ∷ [])
  AllOpen-more xs x opens is = All-append IsOpenAfter xs (x ∷ []) opens (All-cons IsOpenAfter x [] is (All-nil IsOpenAfter))

length-more : {X : Type 0} (xs : List X) (x : X) → length (xs ++ x ∷ []) ≡ length xs + 1
length-more xs x = length-append xs (x ∷ [])

-- a request before the 10,000th closes the connection where it asks to
stays_open : (r : Request) (n : ℕ) → false ≡ closes_at n r → closes r.head ≡ false
stays_open r n e = (or_parts (closes r.head) (n == 9999) (sym e)).0

asks_to_close : (r : Request) (n : ℕ) → n < 9999 → true ≡ closes_at n r → closes r.head ≡ true
asks_to_close r n before e = or_left (closes r.head) (n == 9999) e (before_last n before)
  where
    before_last : (k : ℕ) → k < 9999 → (k == 9999) ≡ false
    before_last k lt = grind (arith, nat_tests)

    or_left : (a b : Bool) → true ≡ (a || b) → b ≡ false → a ≡ true
    or_left true b e none = refl
    or_left false b e none = sym (e ∙ none)

-- what follows a front of a list
left_of : (front left piece more : List ℕ) → front ++ left ≡ front ++ (piece ++ more) → left ≡ piece ++ more
left_of front left piece more same =
    sym (drop_at front left (length front) refl) ∙ ap (drop (length front)) same ∙ drop_at front (piece ++ more) (length front) refl

-- a request of a longer input is one of the bytes that it has
request_of : (bytes rest : List ℕ) (r : Request) (after input : List ℕ) → IsRequest input r after
    → bytes ≡ (print_request r.head ++ r.body) ++ rest → IsRequest bytes r rest
request_of bytes rest r after input is same = record {
  head = record {
    reads = (is.head.reads.0, same ∙ append_assoc (print_request r.head) r.body rest);
    few = is.head.few;
    short = is.head.short;
  };
  accepted = is.accepted;
}

module _ {V Operation : Type 0} (rules : HostRules V Operation) where
  Run-more : (u v w : V) (xs : List (Exchange Operation)) (x : Exchange Operation) → Run rules u xs v → Answers rules v x w
      → Run rules u (xs ++ x ∷ []) w
  Run-more u v w [] x e answers = (w, subst (λ z. Answers rules z x w) e answers, refl)
  Run-more u v w (y ∷ ys) x run answers = (run.0, run.1, Run-more run.0 v w ys x run.2 answers)

  -- what was taken so far: the requests that were answered, and then what the buffer holds; and it was asked for in time
  pub record TakenSoFar (input rest buffer : List ℕ) (old now : LinkTells) (xs : List (Exchange Operation)) : Type 0 where
    pub taken : List ℕ
    pub taken_is : now.taken ≡ append_known old.taken taken
    pub holds : Reads taken (requests xs) buffer
    pub left : List ℕ
    pub left_is : rest ≡ buffer ++ left
    pub whole : input ≡ taken ++ left
    pub asked : AsksFor ⊥ (InTimeFor input xs) old now taken

  -- after n requests, none of which closed: `ahead` is what is left to read
  pub record SoFar (n : ℕ) (input buffer : List ℕ) (old now : LinkTells) (ahead : Option (List ℕ)) (u v : V) : Type 0 where
    pub exchanges : List (Exchange Operation)
    pub count : length exchanges ≡ n
    pub all_open : AllOpen exchanges
    pub rest : List ℕ
    pub ahead_is : ahead ≡ Some rest
    pub read : Reads input (requests exchanges) rest
    pub run : Run rules u exchanges v
    pub text : now.given ≡ append_known old.given (texts 0 exchanges)
    pub so_taken : TakenSoFar input rest buffer old now exchanges

  unfoldable pub SoFar-begin : (input : List ℕ) (old : LinkTells) (ahead : Option (List ℕ)) (u : V) → ahead ≡ Some input → SoFar 0 input [] old old ahead u u
  SoFar-begin input old ahead u is = record {
    exchanges = [];
    count = refl;
    all_open = All-nil (λ x. closes x.request.head ≡ false);
    rest = input;
    ahead_is = is;
    read = refl;
    run = refl;
    text = sym (append_known-nil old.given);
    so_taken = record {
      taken = [];
      taken_is = sym (append_known-nil old.taken);
      holds = refl;
      left = input;
      left_is = refl;
      whole = refl;
      asked = AsksFor-none ⊥ (InTimeFor input []) old old refl;
    };
  }

  pub SoFar-counted : (n k : ℕ) (input buffer : List ℕ) (old now : LinkTells) (ahead : Option (List ℕ)) (u v : V) → n ≡ k
      → SoFar n input buffer old now ahead u v → SoFar k input buffer old now ahead u v
  SoFar-counted n k input buffer old now ahead u v same so_far = subst (λ z. SoFar z input buffer old now ahead u v) same so_far

  -- the exchanges with one more
  module _ (n : ℕ) (input buffer : List ℕ) (old now : LinkTells) (ahead : Option (List ℕ)) (u v : V) (so_far : SoFar n input buffer old now ahead u v)
      (held : List ℕ) (later : LinkTells) (left : Option (List ℕ)) (w : V) (closed : Bool)
      (more : OneMore rules n so_far.rest buffer held (to_read held left) v w now later closed) (few : n < 10000) where
    all_read : Reads input (requests (so_far.exchanges ++ more.exchange ∷ [])) more.after
    all_read = Reads-more input so_far.exchanges so_far.rest more.exchange more.after so_far.read so_far.all_open more.is

    all_run : Run rules u (so_far.exchanges ++ more.exchange ∷ []) w
    all_run = Run-more u v w so_far.exchanges more.exchange so_far.run more.answers

    all_count : length (so_far.exchanges ++ more.exchange ∷ []) ≡ n + 1
    all_count = length-more so_far.exchanges more.exchange ∙ ap (λ k. k + 1) so_far.count

    all_text : later.given ≡ append_known old.given (texts 0 (so_far.exchanges ++ more.exchange ∷ []))
    all_text =
        let place : n ≡ 0 + length so_far.exchanges = omega (arith, so_far.count) in
        more.text ∙ ap (λ z. append_known z (text_at n more.exchange)) so_far.text
        ∙ append_known-more old.given (texts 0 so_far.exchanges) (text_at n more.exchange)
        ∙ ap (λ k. append_known old.given (texts 0 so_far.exchanges ++ text_at k more.exchange)) place
        ∙ ap (append_known old.given) (sym (texts-more 0 so_far.exchanges more.exchange))

    -- what the buffer holds of what is left
    left_after : (ahead_left : List ℕ) × (left ≡ Some ahead_left) × (more.after ≡ held ++ ahead_left)
    left_after = to_read-some held left more.after more.ahead

    all_taken : TakenSoFar input more.after held old later (so_far.exchanges ++ more.exchange ∷ [])
    all_taken =
        let t = so_far.so_taken in
        let r = more.reading in
        let text = print_request more.exchange.request.head ++ more.exchange.request.body in
        let front : text ++ held ≡ buffer ++ r.piece = r.grown in
        -- what was left is the piece and what is left now
        let split : t.left ≡ r.piece ++ left_after.0 = left_of buffer t.left r.piece left_after.0 (
        sym t.left_is ∙ more.is.head.reads.1
        ∙ sym (append_assoc (print_request more.exchange.request.head) more.exchange.request.body more.after)
        ∙ ap (λ b. text ++ b) left_after.2 ∙ sym (append_assoc text held left_after.0) ∙ ap (λ b. b ++ left_after.0) front ∙ append_assoc buffer r.piece left_after.0
        ) in
        let fits : length so_far.exchanges < 10000 = omega (arith, so_far.count, few) in
        let one : IsRequest (buffer ++ r.piece) more.exchange.request held = request_of (buffer ++ r.piece) held more.exchange.request more.after so_far.rest more.is (sym front) in
        record {
          taken = t.taken ++ r.piece;
          taken_is = r.taken ∙ ap (λ (z : Option (List ℕ)). append_known z r.piece) t.taken_is ∙ append_known-more old.taken t.taken r.piece;
          holds = Reads-more (t.taken ++ r.piece) so_far.exchanges (buffer ++ r.piece) more.exchange held
              (Reads-append t.taken r.piece (requests so_far.exchanges) buffer t.holds) so_far.all_open one;
          left = left_after.0;
          left_is = left_after.2;
          whole = t.whole ∙ ap (λ l. t.taken ++ l) split ∙ sym (append_assoc t.taken r.piece left_after.0);
          asked = AsksFor-turn ⊥ input t.taken buffer (text ++ held) left_after.0 so_far.exchanges (more.exchange ∷ []) old now later t.taken_is so_far.text fits so_far.all_open
              t.holds t.asked r (t.whole ∙ ap (λ l. t.taken ++ l) split);
        }

    never_waits : NeverWaits input (so_far.exchanges ++ more.exchange ∷ []) old later
    never_waits = NeverWaits-from_asks ⊥ input (so_far.exchanges ++ more.exchange ∷ []) old later all_taken.taken all_taken.taken_is all_taken.asked

    pub SoFar-more : closed ≡ false → SoFar (n + 1) input held old later (to_read held left) u w
    SoFar-more is = record {
      exchanges = so_far.exchanges ++ more.exchange ∷ [];
      count = all_count;
      all_open = AllOpen-more so_far.exchanges more.exchange so_far.all_open (stays_open more.exchange.request n (sym is ∙ more.closes_is));
      rest = more.after;
      ahead_is = more.ahead;
      read = all_read;
      run = all_run;
      text = all_text;
      so_taken = all_taken;
    }

    pub Session-closed : closed ≡ true → n < 9999 → SessionInTime rules input old later u w served.Ended
    Session-closed is before = (
      record {
        exchanges = so_far.exchanges ++ more.exchange ∷ [];
        rest = more.after;
        mid = w;
        read = all_read;
        run = all_run;
        ended = (omega (arith, all_count, before), inl (LastCloses-more so_far.exchanges more.exchange (asks_to_close more.exchange.request n before (sym is ∙ more.closes_is)), refl, all_text));
      },
      never_waits,
    )

    pub Session-limit : n ≡ 9999 → SessionInTime rules input old later u w served.Limit
    Session-limit last = (
      record {
        exchanges = so_far.exchanges ++ more.exchange ∷ [];
        rest = more.after;
        mid = w;
        read = all_read;
        run = all_run;
        ended = (all_count ∙ ap (λ k. k + 1) last, refl, all_text);
      },
      never_waits,
    )

  Ends-stopped : (how : Served) (xs : List (Exchange Operation)) (rest : List ℕ) (u v : V) (given now : Option (List ℕ))
      → length xs < 10000 → AllOpen xs → Stops rules how (length xs) rest u v given now → Ends rules how xs rest u v given now
  Ends-stopped served.Ended xs rest u v given now few opens stops = (few, inr (opens, stops))
  Ends-stopped served.Limit xs rest u v given now few opens stops = absurd (elim stops [ inl first ↦ first.1 | inr later ↦ later ])
  Ends-stopped (served.Cut read) xs rest u v given now few opens stops = (few, opens, stops)
  Ends-stopped (served.Refused status) xs rest u v given now few opens stops = (few, opens, stops)
  Ends-stopped served.ReadFault xs rest u v given now few opens stops = (few, opens, stops)
  Ends-stopped served.WriteFault xs rest u v given now few opens stops = (few, opens, stops)
  Ends-stopped served.NoMemory xs rest u v given now few opens stops = (few, opens, stops)

  -- the connection stops in place of a next reply
  pub Session-stopped : (how : Served) (n : ℕ) (input buffer : List ℕ) (old now : LinkTells) (ahead : Option (List ℕ)) (u v : V)
      → (so_far : SoFar n input buffer old now ahead u v) → n < 10000 → (later : LinkTells) (left : Option (List ℕ)) (w : V)
      → OneStop rules n so_far.rest buffer left v w now later how → SessionInTime rules input old later u w how
  Session-stopped how n input buffer old now ahead u v so_far few later left w stop =
      let counted : Stops rules how (length so_far.exchanges) so_far.rest v w now.given later.given =
      subst (λ k. Stops rules how k so_far.rest v w now.given later.given) (sym so_far.count) stop.stops in
      let placed : Stops rules how (length so_far.exchanges) so_far.rest v w (append_known old.given (texts 0 so_far.exchanges)) later.given =
      subst (λ z. Stops rules how (length so_far.exchanges) so_far.rest v w z later.given) so_far.text counted in
      let fits : length so_far.exchanges < 10000 = omega (arith, so_far.count, few) in
      let t = so_far.so_taken in
      let r = stop.reading in
      let ahead_now = to_read-some stop.held left so_far.rest stop.still in
      let split : t.left ≡ r.piece ++ ahead_now.0 = left_of buffer t.left r.piece ahead_now.0 (
      sym t.left_is ∙ ahead_now.2 ∙ ap (λ b. b ++ ahead_now.0) r.grown ∙ append_assoc buffer r.piece ahead_now.0
      ) in
      let taken_is : later.taken ≡ append_known old.taken (t.taken ++ r.piece) =
      r.taken ∙ ap (λ (z : Option (List ℕ)). append_known z r.piece) t.taken_is ∙ append_known-more old.taken t.taken r.piece in
      let in_time = AsksFor-turn ⊤ input t.taken buffer stop.held ahead_now.0 so_far.exchanges [] old now later t.taken_is so_far.text fits so_far.all_open
      t.holds t.asked r (t.whole ∙ ap (λ l. t.taken ++ l) split) in
      let never : NeverWaits input so_far.exchanges old later = NeverWaits-from_asks ⊤ input so_far.exchanges old later (t.taken ++ r.piece) taken_is
      (subst (λ (ys : List (Exchange Operation)). AsksFor ⊤ (InTimeFor input ys) old later (t.taken ++ r.piece)) (append-nil so_far.exchanges) in_time) in (
        record {
          exchanges = so_far.exchanges;
          rest = so_far.rest;
          mid = v;
          read = so_far.read;
          run = so_far.run;
          ended = Ends-stopped how so_far.exchanges so_far.rest v w (append_known old.given (texts 0 so_far.exchanges)) later.given fits so_far.all_open placed;
        },
        never,
      )

  -- there was no memory for a buffer
  pub Session-unbegun : (input : List ℕ) (old : LinkTells) (left : Option (List ℕ)) (u : V) → left ≡ Some input
      → SessionInTime rules input old old u u served.NoMemory
  unfolding SoFar-begin
  Session-unbegun input old left u is =
      let ahead : to_read [] left ≡ Some input = ap (to_read []) is in
      let stop : OneStop rules 0 input [] left u u old old served.NoMemory = record {
        stops = inl (refl, ([], not_yet refl, sym (append_known-nil old.given)));
        held = [];
        still = ahead;
        reading = record {
          piece = [];
          grown = refl;
          taken = sym (append_known-nil old.taken);
          asks = AsksFor-none ⊤ (λ come gave. IsUnfinished ([] ++ come) gave) old old refl;
        };
      } in
      Session-stopped served.NoMemory 0 input [] old old (to_read [] left) u u (SoFar-begin input old (to_read [] left) u ahead) (omega arith) old left u stop
