-- What was taken and given in two parts was taken and given in one.
use Rattle.std.proofs.Common.{◌≡◌, ℕ, Bool, List, [], ◌++◌, map, Option, Some, refl, sym, ap, ◌∙◌, inl, inr, subst, append_assoc, arith}
use Rattle.std.proofs.lemmas.List.{append-nil, map-append}
use Rattle.auth_io.specs.Causes.{Rose}
use Rattle.auth_io.specs.Dialling.{Dialled}
use Rattle.auth_io.specs.Handing.{HandsAll}
use Rattle.auth_io.proofs.Handing.{HandsAll_none, HandsAll_then, TakesAll_none, TakesAll_then}
use Rattle.auth_io.proofs.Passing.{Adds_none, Adds_trans}
use Rattle.authget.specs.Fetched.{Round}
use Rattle.authget.specs.Outside.{Account, DialPassed, DialRose, DialState, HasSameFaults, Outside, Passed, SomeRose, account_of, bytes_of, join, made_by, moment_of, no_account, whole, words_of}

abbrev told : List ℕ → Option (List ℕ)
told bytes = Some bytes

pub dial_none : (u : DialState) → DialPassed u u [] [] []
dial_none u = record { dialled = Adds_none u.dialled; coming = HandsAll_none u.coming; handed = TakesAll_none u.handed }

pub dial_then : (u v w : DialState) (c d : Dialled) (xs ys : List (List ℕ)) (k l : List (List ℕ × Bool)) → DialPassed u v c xs k → DialPassed v w d ys l →
    DialPassed u w (c ++ d) (xs ++ ys) (k ++ l)
dial_then u v w c d xs ys k l p q = record {
  dialled = Adds_trans u.dialled v.dialled w.dialled c d p.dialled q.dialled;
  coming = subst (HandsAll u.coming w.coming) (sym (map-append told xs ys)) (HandsAll_then u.coming v.coming w.coming (map told xs) (map told ys) p.coming q.coming);
  handed = TakesAll_then u.handed v.handed w.handed k l p.handed q.handed;
}

pub passed_none : (u : Outside) → Passed u u no_account
passed_none u = record { shown = Adds_none u.shown; drawn = Adds_none u.drawn; dial = dial_none u.dial }

pub passed_then : (u v w : Outside) (a b : Account) → Passed u v a → Passed v w b → Passed u w (join a b)
passed_then u v w a b p q = record {
  shown = Adds_trans u.shown v.shown w.shown a.moments b.moments p.shown q.shown;
  drawn = Adds_trans u.drawn v.drawn w.drawn a.draws b.draws p.drawn q.drawn;
  dial = dial_then u.dial v.dial w.dial a.dials b.dials a.bytes b.bytes a.ended b.ended p.dial q.dial;
}

abbrev account_with : List ℕ → List (List ℕ) → Dialled → List (List ℕ) → List (List ℕ × Bool) → Account
account_with moments draws dials bytes ended = record { moments = moments; draws = draws; dials = dials; bytes = bytes; ended = ended }

-- the rounds of two parts in one
pub account_then : (peer : List ℕ) (xs ys : List Round) (ts us : List (List ℕ)) → join (account_of peer xs ts) (account_of peer ys us) ≡ account_of peer (xs ++ ys) (ts ++ us)
account_then peer xs ys ts us =
    let m = sym (map-append moment_of xs ys) in
    let d = sym (map-append words_of xs ys) in
    let p = sym (map-append (made_by peer) xs ys) in
    let b = sym (map-append bytes_of xs ys) in
    let e = sym (map-append whole ts us) in
    (λ i. account_with (m i) (d i) (p i) (b i) (e i))

pub rounds_then : (peer : List ℕ) (u v w : Outside) (xs ys : List Round) (ts us : List (List ℕ)) → Passed u v (account_of peer xs ts) → Passed v w (account_of peer ys us) →
    Passed u w (account_of peer (xs ++ ys) (ts ++ us))
rounds_then peer u v w xs ys ts us p q = subst (Passed u w) (account_then peer xs ys ts us) (passed_then u v w (account_of peer xs ts) (account_of peer ys us) p q)

join_assoc : (a b c : Account) → join a (join b c) ≡ join (join a b) c
join_assoc a b c =
    let m = sym (append_assoc a.moments b.moments c.moments) in
    let d = sym (append_assoc a.draws b.draws c.draws) in
    let p = sym (append_assoc a.dials b.dials c.dials) in
    let l = sym (append_assoc a.bytes b.bytes c.bytes) in
    let e = sym (append_assoc a.ended b.ended c.ended) in
    (λ i. account_with (m i) (d i) (p i) (l i) (e i))

-- and what was begun last behind them
pub join_three : (peer : List ℕ) (xs ys : List Round) (ts us : List (List ℕ)) (last : Account) →
    join (account_of peer xs ts) (join (account_of peer ys us) last) ≡ join (account_of peer (xs ++ ys) (ts ++ us)) last
join_three peer xs ys ts us last = join_assoc (account_of peer xs ts) (account_of peer ys us) last ∙ ap (λ (a : Account). join a last) (account_then peer xs ys ts us)

pub join_none : (a : Account) → join a no_account ≡ a
join_none a =
    let m = append-nil a.moments in
    let d = append-nil a.draws in
    let p = append-nil a.dials in
    let l = append-nil a.bytes in
    let e = append-nil a.ended in
    (λ i. account_with (m i) (d i) (p i) (l i) (e i))

-- ---- counts

pub same_none : (u : Outside) → HasSameFaults u u
same_none u = record { dial = refl; link = refl; word = refl }

pub same_then : (u v w : Outside) → HasSameFaults u v → HasSameFaults v w → HasSameFaults u w
same_then u v w p q = record { dial = q.dial ∙ p.dial; link = q.link ∙ p.link; word = q.word ∙ p.word }

rose_after : (a b c : ℕ) → b ≡ a → Rose b c → Rose a c
rose_after a b c same r = omega (arith, same, r)

dial_rose_after : (u v w : DialState) → v.faults ≡ u.faults → v.link_faults ≡ u.link_faults → DialRose v w → DialRose u w
dial_rose_after u v w p q (inl r) = inl (rose_after u.faults v.faults w.faults p r)
dial_rose_after u v w p q (inr r) = inr (rose_after u.link_faults v.link_faults w.link_faults q r)

-- a count that rose later has risen over the whole
pub some_rose_after : (u v w : Outside) → HasSameFaults u v → SomeRose v w → SomeRose u w
some_rose_after u v w p (inl r) = inl (dial_rose_after u.dial v.dial w.dial p.dial p.link r)
some_rose_after u v w p (inr r) = inr (rose_after u.word_faults v.word_faults w.word_faults p.word r)
