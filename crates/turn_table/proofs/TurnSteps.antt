-- The steps from an idle pass to the turn, at the turn, and to the end of the turn keep the rule.
use Rattle.std.proofs.Common.{◌≡◌, ◌≢◌, ℕ, zero, suc, ◌+◌, ◌%◌, ◌^◌, ◌<◌, ◌≤◌, ◌⊎◌, true, List, [], ◌∷◌, ◌++◌, length, set, get_or, Option, Some, sym, refl, ap, ◌∙◌, subst, inl, inr, ⊎_elim, arith, length-append}
use mathlib.Core.Logic.{dite}
use mathlib.Core.Option.{some, none, some-injective}
use Rattle.std.proofs.Math.Nat.{mod-add-mod}
use native.Mathlib.Decide.{ℕ_discrete, dec_le}
use lib.ListN.{get_elem?}
use Rattle.atomic_table.specs.Table.{State, Me, keeps, takes, gives, Allows, rest, put_back}
use Rattle.atomic_table.proofs.Lists.{set_here, at_longer, at_last, one_turn}
use Rattle.turn_table.specs.declared.object.TheConstants.{MOST_CALLS}
use Rattle.turn_table.specs.declared.view.View.{View}
use Rattle.turn_table.specs.declared.view.Turn.{Turn}
use Rattle.turn_table.specs.declared.view.Turn.TheVariants.{Idle, Waiting, Ready, Holding}
use Rattle.turn_table.specs.Lists.{Each, Lacks, Differ}
use Rattle.turn_table.specs.History.{Entry, calls_in}
use Rattle.turn_table.specs.Rule.{Slot, IsHolding, TurnFits, IsAtHome, IsOut, Account}
use Rattle.turn_table.specs.Steps.{Drew, Watched, Counted, CanPassOn, Passed}
use Rattle.turn_table.proofs.ListFacts.{each_append, each_as, at_short, head_of, differ_snoc, differ_below}
use Rattle.turn_table.proofs.Revising.{slot_still, revised}

module _ {C : Type 0} where
  waiting_same : (n j : ℕ) (t : Turn C) → t ≡ Waiting n → t ≡ Waiting j → n ≡ j
  waiting_same n j t d e = cc

some_same : {A : Type 0} (x y : A) → Some x ≡ Some y → x ≡ y
some_same x y e = cc

behind : (served n : ℕ) (q : List ℕ) (mine o k : ℕ) → o ≢ mine → n ≡ served + k → get_elem? (mine ∷ q) k ≡ some o → (j : ℕ) × (n ≡ (served + 1) + j) × (get_elem? q j ≡ some o)
behind served n q mine o zero ne e h = absurd (ne (sym (some-injective mine o h)))
behind served n q mine o (suc k) ne e h = (k, omega arith, h)

next_number : (n : ℕ) → (n % 2 ^ 64 + 1) % 2 ^ 64 ≡ (n + 1) % 2 ^ 64
next_number n = mod-add-mod n (2 ^ 64) 1

module _ {D C : Type 0} where
  pub drawn_else : (log : List (Entry C)) (served : ℕ) (q : List ℕ) (homes : List (Slot D)) (mine o : ℕ) (u : Turn C) → o ≢ mine → TurnFits log served q homes o u → TurnFits log served (q ++ mine ∷ []) homes o u
  drawn_else log served q homes mine o Idle ne f = each_append (λ y. y ≢ o) q (mine ∷ []) f ((λ e. ne (sym e)), tt)
  drawn_else log served q homes mine o (Waiting n) ne f = (f.0, f.1, at_longer q (mine ∷ []) f.0 o f.2)
  drawn_else log served q homes mine o Ready ne f = at_longer q (mine ∷ []) 0 o f
  drawn_else log served q homes mine o (Holding l) ne f = (at_longer q (mine ∷ []) 0 o f.0, f.1, f.2)

  pub taken_else : (log : List (Entry C)) (served : ℕ) (q : List ℕ) (homes hs : List (Slot D)) (mine o : ℕ) (u : Turn C) → get_elem? q 0 ≡ some mine → o ≢ mine → TurnFits log served q homes o u → TurnFits log served q hs o u
  taken_else log served q homes hs mine o Idle h ne f = f
  taken_else log served q homes hs mine o (Waiting n) h ne f = f
  taken_else log served q homes hs mine o Ready h ne f = f
  taken_else log served q homes hs mine o (Holding l) h ne f = absurd (ne (some-injective o mine (sym f.0 ∙ h)))

  pub passed_else : (log : List (Entry C)) (served : ℕ) (q : List ℕ) (homes hs : List (Slot D)) (mine o : ℕ) (u : Turn C) → o ≢ mine → TurnFits log served (mine ∷ q) homes o u → TurnFits log (served + 1) q hs o u
  passed_else log served q homes hs mine o Idle ne f = f.1
  passed_else log served q homes hs mine o (Waiting n) ne f = behind served n q mine o f.0 ne f.1 f.2
  passed_else log served q homes hs mine o Ready ne f = absurd (ne (sym (some-injective mine o f)))
  passed_else log served q homes hs mine o (Holding l) ne f = absurd (ne (sym (some-injective mine o f.0)))

  pub holds_head : (log : List (Entry C)) (served : ℕ) (q : List ℕ) (homes : List (Slot D)) (o : ℕ) (u : Turn C) → IsHolding u → TurnFits log served q homes o u → get_elem? q 0 ≡ some o
  holds_head log served q homes o Idle h f = absurd h
  holds_head log served q homes o (Waiting n) h f = absurd h
  holds_head log served q homes o Ready h f = absurd h
  holds_head log served q homes o (Holding l) h f = f.0

module _ {D C S : Type 0} (stands : D → List C → Type 0) (setting : D → S) (st : S) where
  -- a view has another turn, or has noted a number, and the log is as it was
  pub turned : (s : State (Option D) (View C S)) (g : Account stands setting st s) (id : ℕ) (v : View C S) → get_elem? s.views id ≡ some v → v.named ≡ true
      → (t : Turn C) (n : ℕ) → n ≤ length g.log → (ws : List ℕ) (hs : List (Slot D)) (served : ℕ) (queue : List ℕ)
      → ws ≡ length g.log ∷ (served + length queue) % 2 ^ 64 ∷ served % 2 ^ 64 ∷ []
      → Differ queue → Each (λ o. o ≤ g.made) queue
      → IsAtHome stands setting st g.log hs ⊎ IsOut hs (set s.views id (record v { turn = t; noted = n }))
      → TurnFits g.log served queue hs v.owner t
      → ((o : ℕ) (u : Turn C) → o ≢ v.owner → TurnFits g.log g.served g.queue s.homes o u → TurnFits g.log served queue hs o u)
      → Account stands setting st (record { words = ws; homes = hs; views = set s.views id (record v { turn = t; noted = n }) })
  turned s g id v at nm t n small ws hs served queue words once waiting slot mine others =
      let a = g.all id v at in
      let b = g.passes id v at nm in
      revised stands setting st s g id v at nm (record v { turn = t; noted = n }) refl ws hs served queue words once waiting slot
      (record { seen = a.seen; heard = a.heard; noted = small })
      (record { owner = b.owner; not_joined = b.not_joined; setting = b.setting; own = b.own; was = b.was; turn = mine; opening = b.opening })
      others

  pub draws : (id : ℕ) (m : Me (Option D) (View C S)) → m.0.named ≡ true → m.0.turn ≡ Idle → Allows (Account stands setting st) 1 id m 1 (λ n. (n + 1) % 2 ^ 64) (Drew m)
  draws id m nm idle s g wide at fits =
      let v = m.0 in
      let a = g.passes id v at nm in
      let q = g.queue in
      let n : ℕ = g.served + length q in
      let lacks : Lacks v.owner q = subst (λ (t : Turn C). TurnFits g.log g.served q s.homes v.owner t) idle a.turn in
      let long : length (q ++ v.owner ∷ []) ≡ length q + 1 = omega (arith, length-append q (v.owner ∷ [])) in
      let sum : g.served + length (q ++ v.owner ∷ []) ≡ n + 1 = omega arith in
      let next : (n % 2 ^ 64 + 1) % 2 ^ 64 ≡ (g.served + length (q ++ v.owner ∷ [])) % 2 ^ 64 = next_number n ∙ ap (λ (k : ℕ). k % 2 ^ 64) (sym sum) in (
        record v { turn = Waiting n },
        keeps,
        tt,
        turned s g id v at nm (Waiting n) v.noted (g.all id v at).noted _ s.homes g.served (q ++ v.owner ∷ [])
            (ap (λ (ws : List ℕ). set ws 1 ((get_or ws 1 0 + 1) % 2 ^ 64)) g.words ∙ ap (λ (k : ℕ). length g.log ∷ k ∷ g.served % 2 ^ 64 ∷ []) next)
            (differ_snoc q v.owner g.once lacks)
            (each_append (λ o. o ≤ g.made) q (v.owner ∷ []) g.waiting (a.owner, tt))
            (slot_still stands setting st s g id v _ at (λ i. subst IsHolding idle i))
            (length q, refl, at_last q v.owner (length q) refl)
            (λ o u ne. drawn_else g.log g.served q s.homes v.owner o u ne),
        (n, ap (λ (ws : List ℕ). get_or ws 1 0) g.words, refl),
      )

  -- nobody else holds the value while this view has the turn
  pub not_out : (s : State (Option D) (View C S)) (g : Account stands setting st s) (id : ℕ) (v : View C S) → get_elem? s.views id ≡ some v → v.named ≡ true → get_elem? g.queue 0 ≡ some v.owner → (IsHolding v.turn → ⊥) → IsOut s.homes s.views → ⊥
  not_out s g id v at nm head not out =
      let i = out.1 in let x = out.2 in
      let b = g.passes i x out.3 out.4 in
      let h = holds_head g.log g.served g.queue s.homes x.owner x.turn out.5 b.turn in
      let same : x.owner ≡ v.owner = some-injective x.owner v.owner (sym h ∙ head) in
      let here : i ≡ id = g.apart i id x v out.3 at out.4 nm same in
      not (subst (λ (z : View C S). IsHolding z.turn) (some-injective x v (sym out.3 ∙ ap (λ (k : ℕ). get_elem? s.views k) here ∙ at)) out.5)

  -- no more numbers wait than there are owners
  pub few_wait : (s : State (Option D) (View C S)) (g : Account stands setting st s) → length g.queue ≤ 2 ^ 32
  few_wait s g = let h = differ_below (suc g.made) g.queue g.once (each_as (λ o. o ≤ g.made) (λ o. o < suc g.made) (λ o e. omega arith) g.queue g.waiting) in omega arith

  pub watches : (id : ℕ) (m : Me (Option D) (View C S)) (n : ℕ) → m.0.named ≡ true → m.0.turn ≡ Waiting n → Allows (Account stands setting st) 1 id m 2 (λ n. n) (Watched m)
  watches id m n nm waits s g wide at fits =
      let v = m.0 in
      let a = g.passes id v at nm in
      let found = get_or s.words 2 0 in
      let is : found ≡ g.served % 2 ^ 64 = ap (λ (ws : List ℕ). get_or ws 2 0) g.words in
      let words : set s.words 2 found ≡ length g.log ∷ (g.served + length g.queue) % 2 ^ 64 ∷ g.served % 2 ^ 64 ∷ [] = ap (λ (ws : List ℕ). set ws 2 (get_or ws 2 0)) g.words in
      let f : TurnFits g.log g.served g.queue s.homes v.owner (Waiting n) = subst (λ (t : Turn C). TurnFits g.log g.served g.queue s.homes v.owner t) waits a.turn in
      let k = f.0 in
      let number : n ≡ g.served + k = f.1 in
      let not : IsHolding v.turn → ⊥ = λ i. subst (λ (t : Turn C). IsHolding t) waits i in
      dite (ℕ_discrete found (n % 2 ^ 64))
      (λ yes.
      let short : k < length g.queue = at_short g.queue k v.owner f.2 in
      let few = few_wait s g in
      let same : g.served ≡ n = one_turn g.served n (2 ^ 64) (omega arith) (omega arith) (sym is ∙ yes) in
      let first : k ≡ 0 = omega arith in (
        record v { turn = Ready },
        keeps,
        tt,
        turned s g id v at nm Ready v.noted (g.all id v at).noted _ s.homes g.served g.queue words g.once g.waiting
            (slot_still stands setting st s g id v _ at not)
            (ap (λ (j : ℕ). get_elem? g.queue j) (sym first) ∙ f.2)
            (λ o u ne t. t),
        λ j e. (λ _. refl, λ no. absurd (no (yes ∙ ap (λ (i : ℕ). i % 2 ^ 64) (waiting_same n j v.turn waits e)))),
      ))
      (λ no. (
        v,
        keeps,
        tt,
        turned s g id v at nm v.turn v.noted (g.all id v at).noted _ s.homes g.served g.queue words g.once g.waiting
            (slot_still stands setting st s g id v _ at not)
            a.turn
            (λ o u ne t. t),
        λ j e. (λ yes. absurd (no (yes ∙ ap (λ (i : ℕ). i % 2 ^ 64) (sym (waiting_same n j v.turn waits e)))), λ _. refl),
      ))

  pub counts : (id : ℕ) (m : Me (Option D) (View C S)) → m.0.named ≡ true → m.0.turn ≡ Ready → Allows (Account stands setting st) 1 id m 0 (λ n. n) (Counted stands setting m)
  counts id m nm ready s g wide at fits =
      let v = m.0 in
      let a = g.passes id v at nm in
      let found = get_or s.words 0 0 in
      let is : found ≡ length g.log = ap (λ (ws : List ℕ). get_or ws 0 0) g.words in
      let words : set s.words 0 found ≡ length g.log ∷ (g.served + length g.queue) % 2 ^ 64 ∷ g.served % 2 ^ 64 ∷ [] = ap (λ (ws : List ℕ). set ws 0 (get_or ws 0 0)) g.words in
      let head : get_elem? g.queue 0 ≡ some v.owner = subst (λ (t : Turn C). TurnFits g.log g.served g.queue s.homes v.owner t) ready a.turn in
      let not : IsHolding v.turn → ⊥ = λ i. subst (λ (t : Turn C). IsHolding t) ready i in
      let short = g.short in
      dite (dec_le MOST_CALLS found)
      (λ full. (
        record v { turn = Ready; noted = found },
        keeps,
        tt,
        turned s g id v at nm Ready found (omega arith) _ s.homes g.served g.queue words g.once g.waiting
            (slot_still stands setting st s g id v _ at not)
            head
            (λ o u ne t. t),
        (λ lt. absurd (omega arith), λ _. record { most = omega arith; below = let b = (g.all id v at).noted in omega arith; me = refl }),
      ))
      (λ room. ⊎_elim
      (λ h.
      let w : View C S = record v { turn = Holding g.log } in
      let empty : set s.homes 0 none ≡ none ∷ [] = ap (λ (hs : List (Slot D)). set hs 0 none) h.1 in (
        w,
        takes 0 (Some h.0),
        ap (λ (hs : List (Slot D)). get_elem? hs 0) h.1,
        turned s g id v at nm (Holding g.log) v.noted (g.all id v at).noted _ (set s.homes 0 none) g.served g.queue words g.once g.waiting
            (inr (empty, id, w, set_here s.views id w (at_short s.views id v at), nm, tt))
            (head, refl, empty)
            (λ o u ne t. taken_else g.log g.served g.queue s.homes (set s.homes 0 none) v.owner o u head ne t),
        (λ lt. record { object = h.0; log = g.log; long = sym is; me = refl; stands_is = h.2; setting_is = a.setting ∙ ap Some (sym h.3); own = a.own }, λ full. absurd (room full)),
      ))
      (λ out. absurd (not_out s g id v at nm head not out))
      g.slot)

  -- the turn goes to the next number
  goes_on : (s : State (Option D) (View C S)) (g : Account stands setting st s) (id : ℕ) (v : View C S) (at : get_elem? s.views id ≡ some v) → v.named ≡ true → get_elem? g.queue 0 ≡ some v.owner → (hs : List (Slot D))
      → IsAtHome stands setting st g.log hs ⊎ IsOut hs (set s.views id (record v { turn = Idle }))
      → Account stands setting st (record { words = set s.words 2 ((get_or s.words 2 0 + 1) % 2 ^ 64); homes = hs; views = set s.views id (record v { turn = Idle }) })
  goes_on s g id v at nm head hs slot =
      let t = head_of g.queue v.owner head in
      let q = t.0 in
      let is : g.queue ≡ v.owner ∷ q = t.1 in
      let long : length g.queue ≡ suc (length q) = ap length is in
      let once : Differ (v.owner ∷ q) = subst Differ is g.once in
      let waiting : Each (λ o. o ≤ g.made) (v.owner ∷ q) = subst (Each (λ o. o ≤ g.made)) is g.waiting in
      let sum : g.served + length g.queue ≡ (g.served + 1) + length q = omega arith in
      turned s g id v at nm Idle v.noted (g.all id v at).noted _ hs (g.served + 1) q
      (ap (λ (ws : List ℕ). set ws 2 ((get_or ws 2 0 + 1) % 2 ^ 64)) g.words
      ∙ ap (λ (k : ℕ). length g.log ∷ k ∷ (g.served % 2 ^ 64 + 1) % 2 ^ 64 ∷ []) (ap (λ (k : ℕ). k % 2 ^ 64) sum)
      ∙ ap (λ (k : ℕ). length g.log ∷ ((g.served + 1) + length q) % 2 ^ 64 ∷ k ∷ []) (next_number g.served))
      once.1 waiting.1 slot once.0
      (λ o u ne f. passed_else g.log g.served q s.homes hs v.owner o u ne (subst (λ (x : List ℕ). TurnFits g.log g.served x s.homes o u) is f))

  -- the turn ends, with the object given back or never taken
  pub passes_on : (id : ℕ) (m : Me (Option D) (View C S)) → m.0.named ≡ true → CanPassOn stands setting m
      → Allows (Account stands setting st) 1 id m 2 (λ n. (n + 1) % 2 ^ 64) (λ _. Passed m)
  passes_on id m nm can s g wide at fits =
      let v = m.0 in
      let a = g.passes id v at nm in
      ⊎_elim
      (λ c.
      let head : get_elem? g.queue 0 ≡ some v.owner = subst (λ (t : Turn C). TurnFits g.log g.served g.queue s.homes v.owner t) c.0 a.turn in
      let not : IsHolding v.turn → ⊥ = λ i. subst (λ (t : Turn C). IsHolding t) c.0 i in (
        record v { turn = Idle },
        keeps,
        tt,
        goes_on s g id v at nm head s.homes (slot_still stands setting st s g id v _ at not),
        ap (λ (x : List (ℕ × Option D)). (record v { turn = Idle }, x)) (c.1 ∙ sym (ap rest c.1)),
      ))
      (λ c.
      let o = c.0 in
      let l = c.1 in
      let f : TurnFits g.log g.served g.queue s.homes v.owner (Holding l) = subst (λ (t : Turn C). TurnFits g.log g.served g.queue s.homes v.owner t) c.2 a.turn in
      let full : put_back s.homes m.1 ≡ some (Some o) ∷ [] = ap (λ (x : List (ℕ × Option D)). put_back s.homes x) c.3 ∙ ap (λ (hs : List (Slot D)). set hs 0 (some (Some o))) f.2 in (
        record v { turn = Idle },
        gives,
        tt,
        goes_on s g id v at nm f.0 (put_back s.homes m.1) (inl (o, full, subst (λ (x : List (Entry C)). stands o (calls_in x)) f.1 c.4, some_same (setting o) st (sym c.5 ∙ a.setting))),
        refl,
      ))
      can
