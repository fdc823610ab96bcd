-- How bytes are read until a message stands at their front.
use Rattle.std.proofs.Common.{◌≡◌, ◌∷◌, [], ◌++◌, ◌≤◌, ◌+◌, ◌-◌, ℕ, List, length, take, drop, Bool, true, false, Option, Err, sym, refl, ap, ◌∙◌, subst, append_assoc, length-append, arith}
use Rattle.std.proofs.lemmas.List.{append-nil, take-append-drop, take-append-le}
use Rattle.std.specs.List.{AllByRecursion}
use Rattle.std.specs.Io.KnownBytes.{Appends}
use Rattle.http_wire.specs.declared.request.Request.{Request}
use Rattle.http_wire.specs.declared.request.Next.TheVariants as next
use Rattle.http_wire.specs.Requests.{Front, Unfinished, Whole, Wrong, front, is_due}
use Rattle.http_wire.specs.RequestFeed.{Held, Gives}
use Rattle.http_wire.specs.Answers.{continue_text}
use Rattle.http_wire.proofs.RequestLaws.{whole_takes, due_more}
use Rattle.connection_loop.specs.Session.{due_text}
use Rattle.connection_loop.specs.Account.{LinkState, LinkPassed, shifted}
use Rattle.connection_loop.specs.Steps.{due, IsSendError, IsBetween, ReadsPiece, IsWaiting, ReadsWaiting, FindsRequest, Finds}
use Rattle.connection_loop.specs.declared.served.ServeError.{ServeError}
use Rattle.connection_loop.specs.declared.served.ServeError.TheVariants.{Truncated, ReadFault, WriteFault, RandomFault, Worn, OutOfMemory}
use Rattle.connection_loop.proofs.Passing.{LinkPassed_join, LinkPassed_none, LinkPassed_wrote}
use Rattle.connection_loop.proofs.Sessions.{due_grows}

-- ---- what passed so far

-- these bytes were read and written so far, in these reads
pub record Reading (u v : LinkState) (ahead got put : List ℕ) (reads : List (ℕ × ℕ)) : Type 0 where
  pub link : LinkPassed u v got put reads
  pub each : AllByRecursion (ReadsWaiting ahead got put) reads

-- more was read and written since
waiting_more : (ahead got put got' put' : List ℕ) (r : ℕ × ℕ) → ReadsWaiting ahead got put r → ReadsWaiting ahead (got ++ got') (put ++ put') r
waiting_more ahead got put got' put' r p =
    let front_of = take-append-le r.0 got got' p.in_got in
    record {
      in_got = let size : length (got ++ got') ≡ length got + length got' = length-append got got' in omega (arith, p.in_got);
      in_put = let size : length (put ++ put') ≡ length put + length put' = length-append put put' in omega (arith, p.in_put);
      waiting = record {
        waits = p.waiting.waits;
        unfinished = ap (λ (l : List ℕ). front (ahead ++ l)) front_of ∙ p.waiting.unfinished;
        wrote = ap (λ (l : List ℕ). due (ahead ++ l)) front_of ∙ p.waiting.wrote ∙ sym (take-append-le r.1 put put' p.in_put);
      };
    }

each_more : (ahead got put got' put' : List ℕ) (reads : List (ℕ × ℕ)) → AllByRecursion (ReadsWaiting ahead got put) reads → AllByRecursion (ReadsWaiting ahead (got ++ got') (put ++ put')) reads
each_more ahead got put got' put' [] each = tt
each_more ahead got put got' put' (r ∷ reads) each = (waiting_more ahead got put got' put' r each.0, each_more ahead got put got' put' reads each.1)

each_push : (P : ℕ × ℕ → Type 0) (reads : List (ℕ × ℕ)) (r : ℕ × ℕ) → AllByRecursion P reads → P r → AllByRecursion P (reads ++ r ∷ [])
each_push P [] r each here = (here, tt)
each_push P (x ∷ reads) r each here = (each.0, each_push P reads r each.1 here)

pub reading_none : (u : LinkState) (ahead : List ℕ) → Reading u u ahead [] [] []
reading_none u ahead = record { link = LinkPassed_none u; each = tt }

-- only a write
pub reading_wrote : (u v w : LinkState) (ahead got put more : List ℕ) (reads : List (ℕ × ℕ)) → Reading u v ahead got put reads →
    w.left ≡ v.left → w.given ≡ v.given → w.reads ≡ v.reads → Appends v.written w.written more → Reading u w ahead got (put ++ more) reads
reading_wrote u v w ahead got put more reads r left given same wrote =
    let i = append-nil got in
    let s = append-nil reads in
    let linked = LinkPassed_join u v w got put [] more reads [] r.link (LinkPassed_wrote v w more left given same wrote) in
    record {
      link = subst (λ (x : List ℕ). LinkPassed u w x (put ++ more) reads) i (subst (λ (x : List (ℕ × ℕ)). LinkPassed u w (got ++ []) (put ++ more) x) s linked);
      each = subst (λ (x : List ℕ). AllByRecursion (ReadsWaiting ahead x (put ++ more)) reads) i (each_more ahead got put [] more reads r.each);
    }

take_all : (xs : List ℕ) → take (length xs) xs ≡ xs
take_all [] = refl
take_all (x ∷ xs) = ap (λ (l : List ℕ). x ∷ l) (take_all xs)

-- only a read
pub reading_read : (u v w : LinkState) (ahead got put piece : List ℕ) (reads : List (ℕ × ℕ)) → Reading u v ahead got put reads → LinkPassed v w piece [] ((0, 0) ∷ []) → IsWaiting (ahead ++ got) put →
    Reading u w ahead (got ++ piece) put (reads ++ (length got, length put) ∷ [])
reading_read u v w ahead got put piece reads r passed waiting =
    let o = append-nil put in
    let first : length got + 0 ≡ length got = omega arith in
    let second : length put + 0 ≡ length put = omega arith in
    let entry : shifted (length got) (length put) (0, 0) ≡ (length got, length put) = λ i. (first i, second i) in
    let linked = LinkPassed_join u v w got put piece [] reads ((0, 0) ∷ []) r.link passed in
    let here : ReadsWaiting ahead got put (length got, length put) = record {
      in_got = omega arith;
      in_put = omega arith;
      waiting = record {
        waits = waiting.waits;
        unfinished = ap (λ (l : List ℕ). front (ahead ++ l)) (take_all got) ∙ waiting.unfinished;
        wrote = ap (λ (l : List ℕ). due (ahead ++ l)) (take_all got) ∙ waiting.wrote ∙ sym (take_all put);
      };
    } in
    record {
      link = subst (λ (x : List ℕ). LinkPassed u w (got ++ piece) x (reads ++ (length got, length put) ∷ [])) o
          (subst (λ (x : ℕ × ℕ). LinkPassed u w (got ++ piece) (put ++ []) (reads ++ x ∷ [])) entry linked);
      each = subst (λ (x : List ℕ). AllByRecursion (ReadsWaiting ahead (got ++ piece) x) (reads ++ (length got, length put) ∷ [])) o
          (each_more ahead got put piece [] (reads ++ (length got, length put) ∷ []) (each_push (ReadsWaiting ahead got put) reads (length got, length put) r.each here));
    }

-- nothing passed
pub reading_still : (u v w : LinkState) (ahead got put : List ℕ) (reads : List (ℕ × ℕ)) → Reading u v ahead got put reads → LinkPassed v w [] [] [] → Reading u w ahead got put reads
reading_still u v w ahead got put reads r passed = record {
  link = subst (λ (x : List ℕ). LinkPassed u w x put reads) (append-nil got) (subst (λ (x : List ℕ). LinkPassed u w (got ++ []) x reads) (append-nil put)
      (subst (λ (x : List (ℕ × ℕ)). LinkPassed u w (got ++ []) (put ++ []) x) (append-nil reads) (LinkPassed_join u v w got put [] [] reads [] r.link passed)));
  each = r.each;
}

-- ---- what the feed holds

-- all of it, and whether a Continue was written
pub record Kept (old kept : Held) (got put : List ℕ) : Type 0 where
  pub all : kept.rest ≡ old.rest ++ got
  pub place : kept.at ≡ old.at
  pub going : kept.stopped ≡ false
  pub wrote : put ≡ due_text kept.told
  pub told : kept.told ≡ true → is_due (front kept.rest) ≡ true

pub kept_none : (old : Held) → IsBetween old → Kept old old [] []
kept_none old between = record {
  all = sym (append-nil old.rest);
  place = refl;
  going = between.going;
  wrote = sym (ap due_text between.fresh);
  told = λ told. absurd (let no : false ≡ true = sym between.fresh ∙ told in cc);
}

both_ways : (a b : Bool) → (a ≡ true → b ≡ true) → (b ≡ true → a ≡ true) → a ≡ b
both_ways true b f g = sym (f refl)
both_ways false true f g = g refl
both_ways false false f g = refl

abbrev due_of : Front → List ℕ
due_of at = due_text (is_due at)

front_all : (old kept : Held) (got put : List ℕ) (at : Front) → Kept old kept got put → front kept.rest ≡ at → front (old.rest ++ got) ≡ at
front_all old kept got put at k here = ap front (sym k.all) ∙ here

-- where the feed needs more or gives a message, all that is due was written
wrote_due : (old kept : Held) (got put : List ℕ) (at : Front) → Kept old kept got put → front kept.rest ≡ at → (is_due at ≡ true → kept.told ≡ true) → due (old.rest ++ got) ≡ put
wrote_due old kept got put at k here owed =
    ap due_of (front_all old kept got put at k here)
    ∙ ap due_text (both_ways (is_due at) kept.told owed (λ told. sym (ap is_due here) ∙ k.told told))
    ∙ sym k.wrote

pub found_message : (old kept new : Held) (got put : List ℕ) (request : Request) → Kept old kept got put → Gives kept new (next.Message request) → FindsRequest (old.rest ++ got) put old.at request new
found_message old kept new got put request k gives =
    let waits = gives.0 in
    let rest = gives.1 in
    let is = gives.4 in
    let rest_is : new.rest ≡ rest = ap (λ (h : Held). h.rest) is in
    let whole = front_all old kept got put (Whole waits request rest) k gives.2 in
    record {
      waits = waits;
      whole = whole ∙ ap (λ (l : List ℕ). Whole waits request l) (sym rest_is);
      wrote = wrote_due old kept got put (Whole waits request rest) k gives.2 gives.3;
      place = ap (λ (h : Held). h.at) is
          ∙ ap (λ (n : ℕ). n + (length kept.rest - length rest)) k.place
          ∙ ap (λ (l : List ℕ). old.at + (length l - length rest)) k.all
          ∙ ap (λ (l : List ℕ). old.at + (length (old.rest ++ got) - length l)) (sym rest_is);
      between = record { fresh = ap (λ (h : Held). h.told) is; going = ap (λ (h : Held). h.stopped) is };
    }

-- the feed holds no more than before
pub message_within : (kept new : Held) (request : Request) (given : ℕ) → Gives kept new (next.Message request) → kept.at + length kept.rest ≤ given → new.at + length new.rest ≤ given
message_within kept new request given gives within =
    let takes = whole_takes kept.rest gives.0 request gives.1 gives.2 in
    let rest_is : length new.rest ≡ length gives.1 = ap (λ (h : Held). length h.rest) gives.4 in
    let at_is : new.at ≡ kept.at + (length kept.rest - length gives.1) = ap (λ (h : Held). h.at) gives.4 in
    omega (arith, takes, rest_is, at_is, within)

-- at a bad message nothing is due
pub found_bad : (old kept new : Held) (got put : List ℕ) (status at : ℕ) → Kept old kept got put → Gives kept new (next.Bad status at) → (front (old.rest ++ got) ≡ Wrong status) × (put ≡ [])
found_bad old kept new got put status at k gives = (
  front_all old kept got put (Wrong status) k gives.0,
  k.wrote ∙ ap due_text (both_ways kept.told false (λ told. absurd (let no : false ≡ true = sym (ap is_due gives.0) ∙ k.told told in cc)) (λ no. absurd (cc))),
)

pub found_waiting : (old kept new : Held) (got put : List ℕ) → Kept old kept got put → Gives kept new next.NeedMore → IsWaiting (old.rest ++ got) put
found_waiting old kept new got put k gives = record {
  waits = gives.0;
  unfinished = front_all old kept got put (Unfinished gives.0) k gives.1;
  wrote = wrote_due old kept got put (Unfinished gives.0) k gives.1 gives.2;
}

due_if : (t t' : Bool) → (t ≡ true → t' ≡ true) → (rest : List ℕ) × (due_text t' ≡ due_text t ++ rest)
due_if true t' up = ([], ap due_text (up refl) ∙ sym (append-nil continue_text))
due_if false t' up = (due_text t', refl)

-- what was written is the front of what is due
pub due_front : (old kept : Held) (got put : List ℕ) → Kept old kept got put → (rest : List ℕ) × (due (old.rest ++ got) ≡ put ++ rest)
due_front old kept got put k =
    let more = due_if kept.told (is_due (front kept.rest)) k.told in
    (more.0, ap (λ (l : List ℕ). due l) (sym k.all) ∙ more.1 ∙ ap (λ (l : List ℕ). l ++ more.0) (sym k.wrote))

-- nothing was written before a Continue
none_put : (old kept new : Held) (got put : List ℕ) → Kept old kept got put → Gives kept new next.Continue → put ≡ []
none_put old kept new got put k gives = k.wrote ∙ ap due_text gives.1

pub kept_continue : (old kept new : Held) (got put : List ℕ) → Kept old kept got put → Gives kept new next.Continue → Kept old new got (put ++ continue_text)
kept_continue old kept new got put k gives =
    let told : new.told ≡ true = ap (λ (h : Held). h.told) gives.2 in
    let same : new.rest ≡ kept.rest = ap (λ (h : Held). h.rest) gives.2 in
    record {
      all = same ∙ k.all;
      place = ap (λ (h : Held). h.at) gives.2 ∙ k.place;
      going = ap (λ (h : Held). h.stopped) gives.2 ∙ k.going;
      wrote = ap (λ (l : List ℕ). l ++ continue_text) (none_put old kept new got put k gives) ∙ sym (ap due_text told);
      told = λ is. ap (λ (l : List ℕ). is_due (front l)) same ∙ gives.0;
    }

-- the front of a Continue was written
pub continue_front : (old kept new : Held) (got put : List ℕ) (n : ℕ) → Kept old kept got put → Gives kept new next.Continue → (rest : List ℕ) × (due (old.rest ++ got) ≡ (put ++ take n continue_text) ++ rest)
continue_front old kept new got put n k gives = (
  drop n continue_text,
  ap (λ (l : List ℕ). due l) (sym k.all) ∙ ap due_text gives.0 ∙ sym (take-append-drop n continue_text)
      ∙ ap (λ (l : List ℕ). (l ++ take n continue_text) ++ drop n continue_text) (sym (none_put old kept new got put k gives)),
)

-- a piece came
pub kept_piece : (old kept waiting new : Held) (got put piece : List ℕ) → Kept old kept got put → waiting ≡ kept → new ≡ record waiting { rest = waiting.rest ++ piece } → Kept old new (got ++ piece) put
kept_piece old kept waiting new got put piece k same is =
    let new_is : new ≡ record kept { rest = kept.rest ++ piece } = is ∙ ap (λ (h : Held). let g : Held = record h { rest = h.rest ++ piece } in g) same in
    let rest_is : new.rest ≡ kept.rest ++ piece = ap (λ (h : Held). h.rest) new_is in
    let told_is : new.told ≡ kept.told = ap (λ (h : Held). h.told) new_is in
    record {
      all = rest_is ∙ ap (λ (l : List ℕ). l ++ piece) k.all ∙ append_assoc old.rest got piece;
      place = ap (λ (h : Held). h.at) new_is ∙ k.place;
      going = ap (λ (h : Held). h.stopped) new_is ∙ k.going;
      wrote = k.wrote ∙ sym (ap due_text told_is);
      told = λ told. ap (λ (l : List ℕ). is_due (front l)) rest_is ∙ due_more kept.rest piece (k.told (sym told_is ∙ told));
    }

-- the feed holds no more than the link gave
pub piece_within : (kept waiting new : Held) (piece : List ℕ) (given given' : ℕ) → kept.at + length kept.rest ≤ given → waiting ≡ kept → new ≡ record waiting { rest = waiting.rest ++ piece } → given' ≡ given + length piece →
    new.at + length new.rest ≤ given'
piece_within kept waiting new piece given given' within same is counted =
    let at_is : new.at ≡ kept.at = ap (λ (h : Held). h.at) is ∙ ap (λ (h : Held). h.at) same in
    let rest_is : length new.rest ≡ length kept.rest + length piece = ap (λ (h : Held). length h.rest) is ∙ ap (λ (h : Held). length (h.rest ++ piece)) same ∙ length-append kept.rest piece in
    omega (arith, at_is, rest_is, within, counted)

-- more bytes came, of which nothing is written yet
pub due_later : (ahead got put piece : List ℕ) → IsWaiting (ahead ++ got) put → (rest : List ℕ) × (due (ahead ++ (got ++ piece)) ≡ put ++ rest)
due_later ahead got put piece waiting =
    let more = due_grows (ahead ++ got) piece in
    (more.0, ap (λ (l : List ℕ). due l) (sym (append_assoc ahead got piece)) ∙ more.1 ∙ ap (λ (l : List ℕ). l ++ more.0) waiting.wrote)

-- no piece came
pub waiting_still : (ahead got put piece : List ℕ) → IsWaiting (ahead ++ got) put → piece ≡ [] → IsWaiting (ahead ++ (got ++ piece)) put
waiting_still ahead got put piece waiting none = subst (λ (l : List ℕ). IsWaiting (ahead ++ l) put) (sym (ap (λ (l : List ℕ). got ++ l) none ∙ append-nil got)) waiting

-- ---- errors

-- a Continue was not written whole
pub continue_error : (all : List ℕ) (at : ℕ) (put : List ℕ) (kept : Held) (left : Option (List ℕ)) (e : ServeError) → IsSendError e → (rest : List ℕ) × (due all ≡ put ++ rest) → Finds all at put kept left (Err e)
continue_error all at put kept left (Truncated place) kind front_is = absurd kind
continue_error all at put kept left ReadFault kind front_is = absurd kind
continue_error all at put kept left WriteFault kind front_is = front_is
continue_error all at put kept left RandomFault kind front_is = absurd kind
continue_error all at put kept left (Worn calls) kind front_is = absurd kind
continue_error all at put kept left OutOfMemory kind front_is = front_is

-- a piece was not read, or there was no memory for it
pub read_error : (u v w : LinkState) (waiting kept : Held) (ahead got put : List ℕ) (reads : List (ℕ × ℕ)) (at : ℕ) (e : ServeError) → Reading u v ahead got put reads → IsWaiting (ahead ++ got) put → ReadsPiece v w waiting kept (Err e) →
    (got' : List ℕ) × (put' : List ℕ) × (reads' : List (ℕ × ℕ)) × LinkPassed u w got' put' reads' × AllByRecursion (ReadsWaiting ahead got' put') reads' × Finds (ahead ++ got') at put' kept w.left (Err e)
read_error u v w waiting kept ahead got put reads at (Truncated place) r is piece = absurd piece
read_error u v w waiting kept ahead got put reads at ReadFault r is piece =
    let now = reading_still u v w ahead got put reads r piece in
    (got, put, reads, now.link, now.each, is)
read_error u v w waiting kept ahead got put reads at WriteFault r is piece = absurd piece
read_error u v w waiting kept ahead got put reads at RandomFault r is piece = absurd piece
read_error u v w waiting kept ahead got put reads at (Worn calls) r is piece = absurd piece
read_error u v w waiting kept ahead got put reads at OutOfMemory r is piece =
    let now = reading_read u v w ahead got put piece.0 reads r piece.1 is in
    (got ++ piece.0, put, reads ++ (length got, length put) ∷ [], now.link, now.each, due_later ahead got put piece.0 is)
