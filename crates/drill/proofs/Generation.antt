-- What is generated, and how steps that are generated go on.
use Rattle.std.proofs.Common.{◌≡◌, ◌≢◌, ◌≤◌, ◌<◌, ◌+◌, ◌-◌, ◌*◌, ◌^◌, ◌++◌, ℕ, zero, suc, min, Bool, true, false, nat_le, ◌==◌, List, [], ◌∷◌, length, slice_index_or, Some, IfOk, refl, sym, ap, subst, ◌∙◌, arith}
use Rattle.std.specs.Prelude.{Result, Ok, Err, if◌then◌else◌, ◌%◌, ◌/◌}
use Rattle.std.proofs.lemmas.Nat.{mod_below}
use Rattle.std.specs.Int.{w32, to_be_bytes}
use Rattle.auth_io.specs.Causes.{Rose}
use Rattle.auth_io.specs.Told.{Adds}
use Rattle.nonce_shard.specs.Journal.{Journal}
use Rattle.nonce_shard.specs.Sizes.{single_sizes}
use Rattle.drill.specs.declared.event.DrillEvent.{DrillEvent}
use Rattle.drill.specs.declared.event.DrillEvent.TheVariants.{Challenge, Make, Deliver, Pass}
use Rattle.drill.specs.Drilling.{HasRoom, IsNext, told_from}
use Rattle.drill.specs.Generator.{AreGenerated, IsDrillLine, behind, behind_words, event_by, generated_delivery, generated_event, moved, upper, words_from, words_in_turn}
use Rattle.drill.specs.Steps.{CanHappen, IsStep, IsWornBy, world_at}
use Rattle.drill.specs.World.{Happening, Scene, World, draws, line_of, run, start, step}
use Rattle.drill.proofs.Bounds.{IsWithin, PassesFew, calls_next, few_draws, within_next}

-- ---- numbers

-- a sum is the same where a part of it was cut before
pub moved_by_parts : (x : ℕ) → (x * 6364136223846793005 % 2 ^ 64 + 1442695040888963407) % 2 ^ 64 ≡ moved x
unfolding moved
moved_by_parts x = omega arith

pub upper_is : (x : ℕ) → x / 2 ^ 32 ≡ upper x
unfolding upper
upper_is x = refl

-- ---- words

-- the first four of these bytes
abbrev four_of : List ℕ → List ℕ → List ℕ
four_of bytes rest = slice_index_or bytes 0 0 ∷ slice_index_or bytes 1 0 ∷ slice_index_or bytes 2 0 ∷ slice_index_or bytes 3 0 ∷ rest

-- the bytes of four numbers, one after the other
pub same_bytes : (p q r s : List ℕ) (a b c d : ℕ) → p ≡ to_be_bytes w32 a → q ≡ to_be_bytes w32 b → r ≡ to_be_bytes w32 c → s ≡ to_be_bytes w32 d
    → four_of p (four_of q (four_of r (four_of s []))) ≡ to_be_bytes w32 a ++ to_be_bytes w32 b ++ to_be_bytes w32 c ++ to_be_bytes w32 d
same_bytes p q r s a b c d p_is q_is r_is s_is =
    ap (λ (l : List ℕ). four_of l (four_of q (four_of r (four_of s [])))) p_is
    ∙ ap (λ (l : List ℕ). four_of (to_be_bytes w32 a) (four_of l (four_of r (four_of s [])))) q_is
    ∙ ap (λ (l : List ℕ). four_of (to_be_bytes w32 a) (four_of (to_be_bytes w32 b) (four_of l (four_of s [])))) r_is
    ∙ ap (λ (l : List ℕ). four_of (to_be_bytes w32 a) (four_of (to_be_bytes w32 b) (four_of (to_be_bytes w32 c) (four_of l [])))) s_is

-- four numbers, the greatest byte of each first
pub four_numbers : (x a b c d : ℕ) → a ≡ upper (moved x) → b ≡ upper (moved (moved x)) → c ≡ upper (moved (moved (moved x))) → d ≡ upper (moved (moved (moved (moved x))))
    → to_be_bytes w32 a ++ to_be_bytes w32 b ++ to_be_bytes w32 c ++ to_be_bytes w32 d ≡ words_from x
unfolding words_from
four_numbers x a b c d a_is b_is c_is d_is =
    ap (λ (n : ℕ). to_be_bytes w32 n ++ to_be_bytes w32 b ++ to_be_bytes w32 c ++ to_be_bytes w32 d) a_is
    ∙ ap (λ (n : ℕ). to_be_bytes w32 (upper (moved x)) ++ to_be_bytes w32 n ++ to_be_bytes w32 c ++ to_be_bytes w32 d) b_is
    ∙ ap (λ (n : ℕ). to_be_bytes w32 (upper (moved x)) ++ to_be_bytes w32 (upper (moved (moved x))) ++ to_be_bytes w32 n ++ to_be_bytes w32 d) c_is
    ∙ ap (λ (n : ℕ). to_be_bytes w32 (upper (moved x)) ++ to_be_bytes w32 (upper (moved (moved x))) ++ to_be_bytes w32 (upper (moved (moved (moved x)))) ++ to_be_bytes w32 n) d_is

length_in_turn : (n x : ℕ) → length (words_in_turn n x) ≡ n
length_in_turn zero x = refl
length_in_turn (suc n) x = ap suc (length_in_turn n (behind_words 1 x))

pub behind_more : (n x : ℕ) → behind_words (suc n) x ≡ behind_words 1 (behind_words n x)
behind_more zero x = refl
behind_more (suc n) x = behind_more n (behind_words 1 x)

words_more : (n x : ℕ) → words_in_turn (suc n) x ≡ words_in_turn n x ++ words_from (behind_words n x) ∷ []
words_more zero x = refl
words_more (suc n) x = ap (λ (l : List (List ℕ)). words_from x ∷ l) (words_more n (behind_words 1 x))

-- one more draw, where the count has room
pub drew_next : (drawn next begun state : ℕ) (words : List ℕ) → next ≡ min (drawn + 1) (2 ^ 64 - 1) → (drawn < 2 ^ 64 - 1 → state ≡ behind_words drawn begun) → words ≡ words_from state
    → Adds (Some (told_from drawn begun)) (Some (told_from next begun)) (words ∷ [])
drew_next drawn next begun state words is goes gives room =
    let size = length_in_turn drawn begun in
    let more : next ≡ suc drawn = omega (arith, room, size, is) in
    let here : words ≡ words_from (behind_words drawn begun) = gives ∙ ap words_from (goes (omega (arith, room, size))) in
    ap (λ (n : ℕ). told_from n begun) more ∙ ap (λ (l : List (List ℕ)). (begun ∷ []) ∷ l) (words_more drawn begun)
    ∙ ap (λ (w : List ℕ). (begun ∷ []) ∷ (words_in_turn drawn begun ++ w ∷ [])) (sym here)

pub stands_next : (drawn next begun state after : ℕ) → next ≡ min (drawn + 1) (2 ^ 64 - 1) → (drawn < 2 ^ 64 - 1 → state ≡ behind_words drawn begun) → after ≡ behind_words 1 state
    → next < 2 ^ 64 - 1 → after ≡ behind_words next begun
stands_next drawn next begun state after is goes gives room =
    let more : next ≡ suc drawn = omega (arith, room, is) in
    gives ∙ ap (behind_words 1) (goes (omega (arith, room, is))) ∙ sym (behind_more drawn begun) ∙ ap (λ (n : ℕ). behind_words n begun) (sym more)

-- ---- events

pub delivery_some : (made x : ℕ) → made ≢ 0 → (Deliver (upper (moved x) % made), moved x) ≡ generated_delivery made x
delivery_some zero x some = absurd (some refl)
delivery_some (suc made) x some = refl

-- a generated event is one that can happen
record IsFit (s : Scene) (event : DrillEvent) : Type 0 where
  pub can : CanHappen s event
  pub few : PassesFew event

fit_delivery : (s : Scene) (made x : ℕ) → made ≡ length s.made → s.clock + 120 ≤ 2 ^ 64 → IsFit s (generated_delivery made x).0
fit_delivery s zero x is clock = record { can = omega (arith, clock); few = omega arith }
fit_delivery s (suc made) x is clock = record { can = subst (λ (m : ℕ). upper (moved x) % suc made < m) is (mod_below (upper (moved x)) (suc made) (omega arith)); few = tt }

fit_pass : (s : Scene) (n : ℕ) → s.clock + 120 ≤ 2 ^ 64 → IsFit s (Pass (n % 120))
fit_pass s n clock = let few = mod_below n 120 (omega arith) in record { can = omega (arith, few, clock); few = few }

fit_by : (s : Scene) (kind made x : ℕ) → made ≡ length s.made → s.clock + 120 ≤ 2 ^ 64 → IsFit s (event_by kind made x).0
fit_by s kind made x is clock = by (kind == 0) (nat_le kind 4) (nat_le kind 8)
  where
    by : (a b c : Bool) → IsFit s (if a then (Challenge, x) else if b then (Make, x) else if c then generated_delivery made x else (Pass (upper (moved x) % 120), moved x)).0
    by true b c = record { can = tt; few = tt }
    by false true c = record { can = tt; few = tt }
    by false false true = fit_delivery s made x is clock
    by false false false = fit_pass s (upper (moved x)) clock

fit_event : (s : Scene) (made x : ℕ) → made ≡ length s.made → s.clock + 120 ≤ 2 ^ 64 → IsFit s (generated_event made x).0
fit_event s made x is clock = fit_by s (upper (moved x) % 10) made (moved x) is clock

pub can_happen : (s : Scene) (made x y : ℕ) (event : DrillEvent) → made ≡ length s.made → s.clock + 120 ≤ 2 ^ 64 → (event, y) ≡ generated_event made x → CanHappen s event
can_happen s made x y event is clock generated = subst (λ (p : DrillEvent × ℕ). CanHappen s p.0) (sym generated) (fit_event s made x is clock).can

-- ---- a step

record IsToldOf (n b y : ℕ) (since : List (List ℕ)) : Type 0 where
  pub begun : b ≡ y
  pub words : words_in_turn n b ≡ since

told_apart : (n b y : ℕ) (words : List (List ℕ)) → told_from n b ≡ (y ∷ []) ∷ words → IsToldOf n b y words
told_apart n b y words same = record { begun = (let e : (b ∷ []) ∷ words_in_turn n b ≡ (y ∷ []) ∷ words = same in cc); words = (let e : (b ∷ []) ∷ words_in_turn n b ≡ (y ∷ []) ∷ words = same in cc) }

-- the step's words are those that were generated
pub next_of : (x y z b made n : ℕ) (event : DrillEvent) (old new : Scene) (before now : Journal) → made ≡ length old.made → (event, y) ≡ generated_event made x
    → IsStep event old new before now (Some (told_from 0 y)) (Some (told_from n b)) → (n < 2 ^ 64 - 1 → z ≡ behind_words n b) → IsNext x z old new before now
next_of x y z b made n event old new before now is generated s stands =
    let w : World = world_at old before in
    let h : Happening = s.happening in
    let few = few_draws w h in
    let apart : IsToldOf n b y (draws w h) = told_apart n b y (draws w h) (s.draws (omega (arith, few))) in
    let drawn : words_in_turn n y ≡ draws w h = ap (λ (v : ℕ). words_in_turn n v) (sym apart.begun) ∙ apart.words in
    let number : n ≡ length (draws w h) = sym (length_in_turn n y) ∙ ap (λ (l : List (List ℕ)). length l) drawn in
    let here : (event, y) ≡ generated_event (length old.made) x = generated ∙ ap (λ (m : ℕ). generated_event m x) is in
    let it : y ≡ (generated_event (length old.made) x).1 = ap (λ (p : DrillEvent × ℕ). p.1) here in
    record {
      happening = h;
      generated = record {
        event = s.its_event ∙ ap (λ (p : DrillEvent × ℕ). p.0) here;
        words = sym drawn ∙ ap (λ (m : ℕ). words_in_turn m y) number ∙ ap (λ (v : ℕ). words_in_turn (length (draws w h)) v) it;
        sound = s.sound;
      };
      world = s.world;
      its_table = s.its_table;
      generator = stands (omega (arith, few, number)) ∙ ap (λ (v : ℕ). behind_words n v) apart.begun ∙ ap (λ (m : ℕ). behind_words m y) number ∙ ap (λ (v : ℕ). behind_words (length (draws w h)) v) it;
    }

-- where there is room the table isn't worn
pub never_worn : (event : DrillEvent) (old : Scene) (before now : Journal) (calls : ℕ) → length before.calls + 3 ≤ before.limit → IsWornBy event old before now calls → ⊥
never_worn event old before now calls room w = (let most = calls_next (world_at old before) w.happening in let over = w.over in omega (arith, room, most, over))

pub no_fault : Rose 0 0 → ⊥
no_fault rose = omega arith

-- ---- all steps

-- So many steps that a seed generates lead to this world and this generator: what goes on from there goes on from the start.
abbrev pub LeadsTo : ℕ → ℕ → ℕ → World → Type 0
LeadsTo seed n x w = (rest : List Happening) → AreGenerated x rest w
    → (all : List Happening) × (length all ≡ n + length rest) × AreGenerated seed all start × (run all start ≡ run rest w)

pub leads_none : (seed : ℕ) → LeadsTo seed 0 seed start
leads_none seed = λ rest g. (rest, omega arith, g, refl)

pub leads_more : (seed n x y : ℕ) (old new : Scene) (before now : Journal) → LeadsTo seed n x (world_at old before) → IsNext x y old new before now → LeadsTo seed (n + 1) y (world_at new now)
leads_more seed n x y old new before now leads k = λ rest g.
    let w : World = world_at old before in
    let h : Happening = k.happening in
    let at_world : AreGenerated y rest (step w h) = subst (λ (v : World). AreGenerated y rest v) k.world g in
    let later : AreGenerated (behind x w h) rest (step w h) = subst (λ (v : ℕ). AreGenerated v rest (step w h)) k.generator at_world in
    let all = leads (h ∷ rest) (k.generated, later) in
    (all.0, (let size = all.1 in omega (arith, size)), all.2, all.3 ∙ ap (λ (v : World). run rest v) (sym k.world))

pub leads_line : (seed n x : ℕ) (s : Scene) (table : Journal) (text : List ℕ) → LeadsTo seed n x (world_at s table) → text ≡ line_of s n → IsDrillLine seed n text
leads_line seed n x s table text leads is =
    let all = leads [] tt in
    record {
      happenings = all.0;
      number = let size = all.1 in omega (arith, size);
      generated = all.2;
      is = is ∙ ap (λ (w : World). line_of w.scene n) (sym all.3);
    }

pub line_told : {E : Type 0} (seed n x : ℕ) (s : Scene) (table : Journal) (r : Result (List ℕ) E) → LeadsTo seed n x (world_at s table) → IfOk r (λ text. text ≡ line_of s n) → IfOk r (IsDrillLine seed n)
line_told seed n x s table (Ok text) leads is = leads_line seed n x s table text leads is
line_told seed n x s table (Err error) leads is = tt

-- the world is within its bounds
pub within_step : (n x y : ℕ) (old new : Scene) (before now : Journal) → n < 4096 → IsWithin n (world_at old before) → IsNext x y old new before now → IsWithin (n + 1) (world_at new now)
within_step n x y old new before now few a k =
    let w : World = world_at old before in
    let fit = fit_event old (length old.made) x refl (let c = a.clock in omega (arith, c)) in
    let passes : PassesFew k.happening.event = subst (λ (e : DrillEvent). PassesFew e) (sym k.generated.event) fit.few in
    subst (λ (m : ℕ). IsWithin m (world_at new now)) (omega arith) (subst (λ (v : World). IsWithin (suc n) v) (sym k.world) (within_next n w k.happening passes a))

pub within_start : IsWithin 0 start
within_start = record { made = omega arith; calls = omega arith; clock = omega arith; tally = record { delivered = omega arith; admitted = omega arith; stale = omega arith; refused = omega arith } }

pub room_within : (n : ℕ) (s : Scene) (table : Journal) → n < 4096 → table.limit ≡ 12288 → table.sizes ≡ single_sizes → IsWithin n (world_at s table) → HasRoom s table
room_within n s table few limit sizes a = record {
  low = record {
    delivered = let t = a.tally.delivered in omega (arith, t);
    admitted = let t = a.tally.admitted in omega (arith, t);
    stale = let t = a.tally.stale in omega (arith, t);
    refused = let t = a.tally.refused in omega (arith, t);
  };
  made = let m = a.made in omega (arith, m);
  clock = let c = a.clock in omega (arith, c);
  calls = let c = a.calls in omega (arith, c, limit);
  sizes = sizes;
}
