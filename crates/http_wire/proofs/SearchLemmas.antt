-- The search for a head's end, step by step.
use Rattle.std.proofs.Common.{◌≡◌, ◌∷◌, [], ◌++◌, ◌<◌, ◌≤◌, ◌+◌, ◌-◌, ℕ, zero, suc, List, length, take, drop, Option, Some, None, Bool, true, false, cond, sym, refl, ap, ◌∙◌, subst, length-append, length-drop, arith}
use Rattle.std.specs.Prelude.{◌==◌, ◌&&◌, nat_lt}
use Rattle.std.specs.Option.{option_map}
use Rattle.std.proofs.lemmas.Bool.{false_from_ne_true, lt-ltb}
use Rattle.std.proofs.Math.ListN.{get_or}
use Rattle.std.proofs.lemmas.List.{append-nil, drop-append-le, drop-drop, get_or-drop, take_all}
use Rattle.memchr.specs.Find.{Nowhere, Passes, IsFirstByte, is_byte}
use Rattle.http_wire.specs.declared.search.Place.TheVariants.{Blank, Head}
use Rattle.http_wire.specs.HeadPlace.{empty_line, ends_here, blank_len, head_len, place_after, head_place}
use Rattle.http_wire.specs.Search.{IsOpen, TellsLine, end_here, IsOpenEnd, TellsEnd, end_from, GoesOn, Tracks}

-- ---- one empty line

blank_if : (t s : Bool) (b c : ℕ) (bytes : List ℕ) → 0 < cond t 1 (cond s 2 0) →
    cond t (suc (blank_len (c ∷ bytes))) (cond s (suc (suc (blank_len bytes))) 0) ≡ cond t 1 (cond s 2 0) + blank_len (drop (cond t 1 (cond s 2 0)) (b ∷ c ∷ bytes))
blank_if true s b c bytes h = omega arith
blank_if false true b c bytes h = omega arith
blank_if false false b c bytes h = absurd (omega arith)

one_if : (t : Bool) (b : ℕ) → 0 < cond t 1 0 → cond t 1 0 ≡ cond t 1 0 + blank_len (drop (cond t 1 0) (b ∷ []))
one_if true b h = refl
one_if false b h = absurd (omega arith)

blank_front : (bytes : List ℕ) → 0 < empty_line bytes → blank_len bytes ≡ empty_line bytes + blank_len (drop (empty_line bytes) bytes)
blank_front [] h = absurd (omega arith)
blank_front (b ∷ []) h = one_if (b == 10) b h
blank_front (b ∷ c ∷ bytes) h = blank_if (b == 10) (b == 13 && c == 10) b c bytes h

-- the empty lines begin with the first
pub blank_len_step : (bytes : List ℕ) (n : ℕ) → empty_line bytes ≡ n → 0 < n → blank_len bytes ≡ n + blank_len (drop n bytes)
blank_len_step bytes n e h = let P : ℕ → Type 0 = λ k. 0 < k → blank_len bytes ≡ k + blank_len (drop k bytes) in subst P e (blank_front bytes) h

none_if : (t s : Bool) (k l : ℕ) → ◌≡◌ {A = ℕ} (cond t 1 (cond s 2 0)) 0 → ◌≡◌ {A = ℕ} (cond t (suc k) (cond s (suc (suc l)) 0)) 0
none_if true s k l h = absurd (omega arith)
none_if false true k l h = absurd (omega arith)
none_if false false k l h = refl

pub blank_len_none : (bytes : List ℕ) → empty_line bytes ≡ 0 → blank_len bytes ≡ 0
blank_len_none [] h = refl
blank_len_none (b ∷ []) h = h
blank_len_none (b ∷ c ∷ bytes) h = none_if (b == 10) (b == 13 && c == 10) (blank_len (c ∷ bytes)) (blank_len bytes) h

-- what is open holds no head
pub open_blank : (bytes : List ℕ) → IsOpen bytes → (blank_len bytes ≡ 0) × (empty_line bytes ≡ 0) × (head_len bytes ≡ None)
open_blank [] h = (refl, refl, refl)
open_blank (b ∷ []) h = let P : ℕ → Type 0 = λ x. (blank_len (x ∷ []) ≡ 0) × (empty_line (x ∷ []) ≡ 0) × (head_len (x ∷ []) ≡ None) in subst P (sym h) (refl, refl, refl)
open_blank (b ∷ c ∷ bytes) h = absurd h

-- ---- a head's end

added : (o : Option ℕ) (at : ℕ) → option_map (λ n. at + n) (option_map suc o) ≡ option_map (λ n. (at + 1) + n) o
added None at = refl
added (Some n) at = let e : at + suc n ≡ (at + 1) + n = omega arith in ap (λ (k : ℕ). Some k) e

abbrev pair_with : ℕ → ℕ → ℕ × ℕ
pair_with start end = (start, end)

paired : (o : Option ℕ) (start at : ℕ) → option_map (λ n. pair_with start (at + n)) o ≡ option_map (pair_with start) (option_map (λ n. at + n) o)
paired None start at = refl
paired (Some n) start at = refl

end_if : (t : Bool) (n : ℕ) (o : Option ℕ) → cond t (suc n) 0 ≡ 0 → cond t (Some (suc n)) o ≡ o
end_if true n o h = absurd (omega arith)
end_if false n o h = refl

-- no end at the first byte
head_len_step : (b : ℕ) (bytes : List ℕ) → end_here (b ∷ bytes) ≡ 0 → head_len (b ∷ bytes) ≡ option_map suc (head_len bytes)
head_len_step b bytes h = end_if (ends_here b bytes) (empty_line bytes) (option_map suc (head_len bytes)) h

found_if : (t : Bool) (n m : ℕ) (o : Option ℕ) → cond t (suc n) 0 ≡ m → 0 < m → cond t (Some (suc n)) o ≡ Some m
found_if true n m o h l = ap Some h
found_if false n m o h l = absurd (omega arith)

head_len_here : (bytes : List ℕ) (n : ℕ) → end_here bytes ≡ n → 0 < n → head_len bytes ≡ Some n
head_len_here [] n h l = absurd (omega arith)
head_len_here (b ∷ bytes) n h l = found_if (ends_here b bytes) (empty_line bytes) n (option_map suc (head_len bytes)) h l

open_end : (bytes : List ℕ) → IsOpenEnd bytes → head_len bytes ≡ None
open_end [] h = refl
open_end (b ∷ bytes) h =
    let parts = open_blank bytes h.1 in
    ap (λ (e : ℕ). cond (b == 10 && nat_lt 0 e) (Some (suc e)) (option_map suc (head_len bytes))) parts.1
    ∙ none (b == 10) (option_map suc (head_len bytes)) ∙ ap (option_map suc) parts.2
  where
    none : (t : Bool) (o : Option ℕ) → cond (t && nat_lt 0 0) (Some 1) o ≡ o
    none true o = refl
    none false o = refl

-- ---- the steps of the search

cut : (at : ℕ) (bytes more : List ℕ) → at ≤ length bytes → drop at (bytes ++ more) ≡ drop at bytes ++ more
cut at bytes more l = drop-append-le at bytes more l

drop_none : (at : ℕ) (bytes : List ℕ) → drop at (bytes ++ []) ≡ drop at bytes
drop_none at bytes = ap (drop at) (append-nil bytes)

module _ (bytes : List ℕ) (at : ℕ) where
  pub blank_step : (n : ℕ) → Tracks bytes (Blank at) → TellsLine (drop at bytes) (Some n) → 0 < n → Tracks bytes (Blank (at + n))
  blank_step n t tells l =
      let size : length (drop at bytes) ≡ length bytes - at = length-drop at bytes in
      let within : at ≤ length bytes = t.within in
      record {
        within = let le : n ≤ length (drop at bytes) = tells.0 in omega arith;
        goes_on = λ more.
            let s = bytes ++ more in
            let step : blank_len (drop at s) ≡ n + blank_len (drop n (drop at s)) = blank_len_step (drop at s) n (ap empty_line (cut at bytes more within) ∙ tells.1 more) l in
            let both : drop n (drop at s) ≡ drop (at + n) s = drop-drop n at s in
            let sum : at + blank_len (drop at s) ≡ (at + n) + blank_len (drop (at + n) s) =
            ap (λ (k : ℕ). at + k) (step ∙ ap (λ (d : List ℕ). n + blank_len d) both) ∙ regroup at n (blank_len (drop (at + n) s)) in
            t.goes_on more ∙ ap (λ (k : ℕ). place_after k s) sum;
      }
    where
      regroup : (a b c : ℕ) → a + (b + c) ≡ (a + b) + c
      regroup a b c = omega arith

  pub blank_end : Tracks bytes (Blank at) → TellsLine (drop at bytes) (Some 0) → Tracks bytes (Head at at)
  blank_end t tells = record {
    within = t.within;
    goes_on = λ more.
        let none : blank_len (drop at (bytes ++ more)) ≡ 0 = blank_len_none (drop at (bytes ++ more)) (ap empty_line (cut at bytes more t.within) ∙ tells.1 more) in
        let sum : at + blank_len (drop at (bytes ++ more)) ≡ at = omega arith in
        t.goes_on more ∙ ap (λ (k : ℕ). place_after k (bytes ++ more)) sum;
  }

  pub blank_open : Tracks bytes (Blank at) → TellsLine (drop at bytes) None → head_place bytes ≡ None
  blank_open t unsure =
      let parts = open_blank (drop at bytes) unsure in
      let none : blank_len (drop at (bytes ++ [])) ≡ 0 = ap blank_len (drop_none at bytes) ∙ parts.0 in
      let sum : at + blank_len (drop at (bytes ++ [])) ≡ at = omega arith in
      ap head_place (sym (append-nil bytes)) ∙ t.goes_on [] ∙ ap (λ (k : ℕ). place_after k (bytes ++ [])) sum
      ∙ ap (λ (o : Option ℕ). option_map (λ n. (at, at + n)) o) (ap head_len (drop_none at bytes) ∙ parts.2)

module _ (bytes : List ℕ) (from at : ℕ) where
  pub end_step : GoesOn bytes from at → TellsEnd (drop at bytes) (Some 0) → GoesOn bytes from (at + 1)
  end_step g tells =
      let size : length (drop at bytes) ≡ length bytes - at = length-drop at bytes in
      record {
        within = omega (arith, tells.1);
        goes_on = λ more.
            let s = bytes ++ more in
            let one : drop 1 (drop at s) ≡ drop (at + 1) s = drop-drop 1 at s in
            let none : end_here (drop at s) ≡ 0 = ap end_here (cut at bytes more g.within) ∙ tells.2 more in
            let size2 : length (drop at s) ≡ length (bytes ++ more) - at = length-drop at s in
            let all : length (bytes ++ more) ≡ length bytes + length more = length-append bytes more in
            let long : 0 < length (drop at s) = omega (arith, tells.1) in
            g.goes_on more ∙ ap (λ (o : Option ℕ). option_map (λ n. at + n) o) (step (drop at s) long none ∙ ap (λ (d : List ℕ). option_map suc (head_len d)) one)
            ∙ added (head_len (drop (at + 1) s)) at;
      }
    where
      step : (d : List ℕ) → 0 < length d → end_here d ≡ 0 → head_len d ≡ option_map suc (head_len (drop 1 d))
      step [] l h = absurd (omega arith)
      step (b ∷ d) l h = head_len_step b d h

  end_so_far : GoesOn bytes from at → end_from from bytes ≡ end_from at bytes
  end_so_far g = ap (end_from from) (sym (append-nil bytes)) ∙ g.goes_on [] ∙ ap (end_from at) (append-nil bytes)

  pub end_found : (n : ℕ) → GoesOn bytes from at → TellsEnd (drop at bytes) (Some n) → 0 < n → end_from from bytes ≡ Some (at + n)
  end_found n g tells l =
      end_so_far g ∙ ap (λ (o : Option ℕ). option_map (λ k. at + k) o) (head_len_here (drop at bytes) n (ap end_here (sym (append-nil (drop at bytes))) ∙ tells.2 []) l)

  pub end_open : GoesOn bytes from at → TellsEnd (drop at bytes) None → end_from from bytes ≡ None
  end_open g unsure = end_so_far g ∙ ap (λ (o : Option ℕ). option_map (λ k. at + k) o) (open_end (drop at bytes) unsure)

pub goes_start : (bytes : List ℕ) (from : ℕ) → from ≤ length bytes → GoesOn bytes from from
goes_start bytes from l = record { within = l; goes_on = λ more. refl }

pub goes_further : (bytes : List ℕ) (from at to : ℕ) → GoesOn bytes from at → GoesOn bytes at to → GoesOn bytes from to
goes_further bytes from at to g h = record { within = h.within; goes_on = λ more. g.goes_on more ∙ h.goes_on more }

-- ---- no line feed, no end

other_byte : (d : List ℕ) → 0 < length d → (get_or d 0 0 == 10) ≡ false → TellsEnd d (Some 0)
other_byte [] l other = absurd (omega arith)
other_byte (b ∷ d) l other = (omega arith, l, λ more. ap (λ (t : Bool). cond (t && nat_lt 0 (empty_line (d ++ more))) (suc (empty_line (d ++ more))) 0) other)

-- no end before the first line feed
pub goes_over : (bytes : List ℕ) (from n : ℕ) → from + n ≤ length bytes → ((k : ℕ) → k < n → (get_or (drop from bytes) k 0 == 10) ≡ false) → GoesOn bytes from (from + n)
goes_over bytes from zero within other = subst (GoesOn bytes from) (omega arith) (goes_start bytes from (omega arith))
goes_over bytes from (suc n) within other =
    let size : length (drop (from + n) bytes) ≡ length bytes - (from + n) = length-drop (from + n) bytes in
    let here : get_or (drop from bytes) n 0 ≡ get_or (drop (from + n) bytes) 0 0 = get_or-drop from bytes n 0 ∙ sym (get_or-drop (from + n) bytes 0 0 ∙ ap (λ (k : ℕ). get_or bytes k 0) (omega arith)) in
    let more : 0 < length (drop (from + n) bytes) = omega arith in
    let no_feed : (get_or (drop (from + n) bytes) 0 0 == 10) ≡ false = ap (λ (b : ℕ). b == 10) (sym here) ∙ other n (omega arith) in
    let before = goes_over bytes from n (omega arith) (λ k l. other k (omega arith)) in
    subst (GoesOn bytes from) (omega arith) (end_step bytes from (from + n) before (other_byte (drop (from + n) bytes) more no_feed))

-- ---- a head whose beginning was found

module _ (bytes : List ℕ) (start from : ℕ) (t : Tracks bytes (Head start from)) where
  head_so_far : head_place bytes ≡ option_map (pair_with start) (end_from from bytes)
  head_so_far =
      ap head_place (sym (append-nil bytes)) ∙ t.goes_on [] ∙ ap (λ (s : List ℕ). option_map (λ n. pair_with start (from + n)) (head_len (drop from s))) (append-nil bytes)
      ∙ paired (head_len (drop from bytes)) start from

  pub head_found : (end : ℕ) → end_from from bytes ≡ Some end → head_place bytes ≡ Some (start, end)
  head_found end is = head_so_far ∙ ap (λ (o : Option ℕ). option_map (pair_with start) o) is

  pub head_unfound : end_from from bytes ≡ None → head_place bytes ≡ None
  head_unfound is = head_so_far ∙ ap (λ (o : Option ℕ). option_map (pair_with start) o) is

  pub head_goes_on : (to : ℕ) → GoesOn bytes from to → Tracks bytes (Head start to)
  head_goes_on to g = record {
    within = g.within;
    goes_on = λ more.
        t.goes_on more ∙ paired (head_len (drop from (bytes ++ more))) start from
        ∙ ap (λ (o : Option ℕ). option_map (pair_with start) o) (g.goes_on more)
        ∙ sym (paired (head_len (drop to (bytes ++ more))) start to);
  }

-- ---- the same at what `&bytes[at..]` is

pub rest_is : (bytes : List ℕ) (at : ℕ) → take (length bytes - at) (drop at bytes) ≡ drop at bytes
rest_is bytes at = let size : length (drop at bytes) ≡ length bytes - at = length-drop at bytes in take_all (length bytes - at) (drop at bytes) (omega arith)

-- ---- at what a search of these bytes for a line feed gives

no_feed : (d : List ℕ) (n : ℕ) → Nowhere (Passes (is_byte 10) d) 0 n → (k : ℕ) → k < n → (get_or d k 0 == 10) ≡ false
no_feed d n none k l = false_from_ne_true (get_or d k 0 == 10) (none k (omega arith) l)

pub over_found : (bytes : List ℕ) (from n : ℕ) → from ≤ length bytes → IsFirstByte (is_byte 10) (take (length bytes - from) (drop from bytes)) (Some n) → GoesOn bytes from (from + n)
over_found bytes from n l first =
    let found : IsFirstByte (is_byte 10) (drop from bytes) (Some n) = subst (λ (d : List ℕ). IsFirstByte (is_byte 10) d (Some n)) (rest_is bytes from) first in
    let size : length (drop from bytes) ≡ length bytes - from = length-drop from bytes in
    let high : n < length (drop from bytes) = found.0.high in
    goes_over bytes from n (omega arith) (no_feed (drop from bytes) n found.0.before)

pub over_all : (bytes : List ℕ) (from : ℕ) → from ≤ length bytes → IsFirstByte (is_byte 10) (take (length bytes - from) (drop from bytes)) None → GoesOn bytes from (length bytes)
over_all bytes from l first =
    let none : IsFirstByte (is_byte 10) (drop from bytes) None = subst (λ (d : List ℕ). IsFirstByte (is_byte 10) d None) (rest_is bytes from) first in
    let size : length (drop from bytes) ≡ length bytes - from = length-drop from bytes in
    let same : from + length (drop from bytes) ≡ length bytes = omega arith in
    subst (GoesOn bytes from) same (goes_over bytes from (length (drop from bytes)) (omega arith) (no_feed (drop from bytes) (length (drop from bytes)) none))

pub line_at : (bytes : List ℕ) (at : ℕ) (o : Option ℕ) → TellsLine (take (length bytes - at) (drop at bytes)) o → TellsLine (drop at bytes) o
line_at bytes at o t = subst (λ (d : List ℕ). TellsLine d o) (rest_is bytes at) t

pub ends_at : (bytes : List ℕ) (at : ℕ) (o : Option ℕ) → TellsEnd (take (length bytes - at) (drop at bytes)) o → TellsEnd (drop at bytes) o
ends_at bytes at o t = subst (λ (d : List ℕ). TellsEnd d o) (rest_is bytes at) t

pub line_none : (bytes : List ℕ) (at n : ℕ) → n ≡ 0 → TellsLine (take (length bytes - at) (drop at bytes)) (Some n) → TellsLine (drop at bytes) (Some 0)
line_none bytes at n e t = subst (λ (k : ℕ). TellsLine (drop at bytes) (Some k)) e (line_at bytes at (Some n) t)

pub end_none : (bytes : List ℕ) (at n : ℕ) → n ≡ 0 → TellsEnd (take (length bytes - at) (drop at bytes)) (Some n) → TellsEnd (drop at bytes) (Some 0)
end_none bytes at n e t = subst (λ (k : ℕ). TellsEnd (drop at bytes) (Some k)) e (ends_at bytes at (Some n) t)

-- ---- empty lines alone

pub begun_open : (bytes : List ℕ) (at : ℕ) → blank_len bytes ≡ at + blank_len (drop at bytes) → TellsLine (drop at bytes) None → blank_len bytes ≡ at
begun_open bytes at blank t = let none : blank_len (drop at bytes) ≡ 0 = (open_blank (drop at bytes) t).0 in omega arith

some_byte : (d : List ℕ) → TellsLine d (Some 0) → 0 < length d
some_byte [] t = let one : ◌≡◌ {A = ℕ} 1 0 = t.1 (10 ∷ []) in absurd (omega arith)
some_byte (b ∷ d) t = omega arith

pub begun_some : (bytes : List ℕ) (at : ℕ) → blank_len bytes ≡ at + blank_len (drop at bytes) → TellsLine (drop at bytes) (Some 0) → nat_lt (blank_len bytes) (length bytes) ≡ true
begun_some bytes at blank t =
    let size : length (drop at bytes) ≡ length bytes - at = length-drop at bytes in
    let more : 0 < length (drop at bytes) = some_byte (drop at bytes) t in
    let none : blank_len (drop at bytes) ≡ 0 = blank_len_none (drop at bytes) (ap empty_line (sym (append-nil (drop at bytes))) ∙ t.1 []) in
    lt-ltb (blank_len bytes) (length bytes) (omega arith)

pub begun_more : (bytes : List ℕ) (at n : ℕ) → blank_len bytes ≡ at + blank_len (drop at bytes) → TellsLine (drop at bytes) (Some n) → 0 < n → blank_len bytes ≡ at + n + blank_len (drop (at + n) bytes)
begun_more bytes at n blank t l =
    let step : blank_len (drop at bytes) ≡ n + blank_len (drop n (drop at bytes)) = blank_len_step (drop at bytes) n (ap empty_line (sym (append-nil (drop at bytes))) ∙ t.1 []) l in
    let both : blank_len (drop n (drop at bytes)) ≡ blank_len (drop (at + n) bytes) = ap blank_len (drop-drop n at bytes) in
    omega arith
