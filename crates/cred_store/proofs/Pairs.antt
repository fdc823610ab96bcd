-- What the lines of a text of htdigest say.
use Rattle.std.proofs.Common.{◌≡◌, ◌≢◌, ◌==◌, ◌+◌, ◌<◌, ◌≤◌, ℕ, suc, Bool, true, false, not, List, [], ◌∷◌, ◌++◌, length, All, refl, sym, subst, ap, ◌∙◌, arith, if◌then◌else◌, Option, None, Some, IfNone}
use Rattle.std.specs.List.{AllZip, list_any, slice_split}
use Rattle.std.specs.Str.Lines.{lines, lines_of_parts, strip_carriage_return}
use Rattle.std.proofs.lemmas.Bool.Decides.{nat_tests}
use Rattle.std.proofs.lemmas.List.{append-nil, append_assoc, length-append}
use Rattle.std.proofs.lemmas.List.Elements.{All-cons, All-nil, filter-append}
use Rattle.std.proofs.lemmas.List.Sums.{count_by-le-length, length-filter}
use Rattle.std.proofs.lemmas.List.Splits.{length-slice_split, slice_split_at, slice_split_none}
use Rattle.cred_store.specs.Faults.{colons}
use Rattle.cred_store.specs.Htdigest.{ArePairs, IsPair, PairFault, PairFaultBehind, full_lines}
use Rattle.cred_store.specs.Texts.{IsEntry}
use Rattle.cred_store.specs.Values.{HasNo}
use Rattle.cred_store.specs.declared.entry.Entry.{Entry}
use Rattle.cred_store.specs.declared.error.StoreError.{StoreError}
use Rattle.cred_store.specs.declared.version.Version.TheVariants.{Two}
use Rattle.cred_store.proofs.Bytes.{neither_first, neither_second}
use Rattle.cred_store.proofs.Parts.{colons_at, no_colons, some_colon}

-- ---- lines

none_passes : (text : List ℕ) → HasNo 10 text → All (λ b. (b == 10) ≡ false) text
none_passes [] h = All-nil (λ b. (b == 10) ≡ false)
none_passes (b ∷ text) h =
    All-cons (λ c. (c == 10) ≡ false) b text (neither_first (b == 10) _ h) (none_passes text (neither_second (b == 10) _ h))

some_part : (line : List ℕ) (parts : List (List ℕ)) → 0 < length parts → lines_of_parts (line ∷ parts) ≡ strip_carriage_return line ∷ lines_of_parts parts
some_part line [] lt = absurd (omega arith)
some_part line (x ∷ parts) lt = refl

pub line_ended : (text line rest : List ℕ) → text ≡ line ++ 10 ∷ rest → HasNo 10 line → lines text ≡ strip_carriage_return line ∷ lines rest
line_ended text line rest is none =
    ap lines is ∙ ap lines_of_parts (slice_split_at (λ b. b == 10) line 10 rest (none_passes line none) refl)
    ∙ some_part line (slice_split (λ b. b == 10) rest) (omega (arith, length-slice_split (λ b. b == 10) rest))

pub not_zero : (n : ℕ) → (suc n == 0) ≡ false
not_zero n = grind (arith, nat_tests)

pub line_open : (text : List ℕ) → text ≢ [] → HasNo 10 text → lines text ≡ text ∷ lines []
line_open [] some none = absurd (some refl)
line_open (b ∷ text) some none =
    ap lines_of_parts (slice_split_none (λ b. b == 10) (b ∷ text) (none_passes (b ∷ text) none))
    ∙ ap (λ (v : Bool). if v then [] else (b ∷ text) ∷ []) (not_zero (length text))

-- ---- the entries that they say

full_push : (all : List (List ℕ)) (line : List ℕ) → full_lines (all ++ line ∷ []) ≡ full_lines all ++ full_lines (line ∷ [])
full_push all line = filter-append (λ line. not (length line == 0)) all (line ∷ [])

zip_append : (xs : List (List ℕ)) (ys : List Entry) (us : List (List ℕ)) (vs : List Entry) → AllZip IsPair xs ys → AllZip IsPair us vs → AllZip IsPair (xs ++ us) (ys ++ vs)
zip_append [] [] us vs h g = g
zip_append [] (y ∷ ys) us vs h g = absurd h
zip_append (x ∷ xs) [] us vs h g = absurd h
zip_append (x ∷ xs) (y ∷ ys) us vs h g = (h.0, zip_append xs ys us vs h.1 g)

pub pairs_more : (all : List (List ℕ)) (line : List ℕ) (said added : List Entry) → ArePairs all said → ArePairs (line ∷ []) added → ArePairs (all ++ line ∷ []) (said ++ added)
pairs_more all line said added h g = rw (full_push all line) (zip_append (full_lines all) said (full_lines (line ∷ [])) added h g)

zip_length : (xs : List (List ℕ)) (ys : List Entry) → AllZip IsPair xs ys → length ys ≡ length xs
zip_length [] [] h = refl
zip_length [] (y ∷ ys) h = absurd h
zip_length (x ∷ xs) [] h = absurd h
zip_length (x ∷ xs) (y ∷ ys) h = ap (λ (n : ℕ). suc n) (zip_length xs ys h.1)

full_length : (all : List (List ℕ)) → length (full_lines all) ≤ length all
full_length all = omega (arith, length-filter (λ line. not (length line == 0)) all, count_by-le-length (λ line. not (length line == 0)) all)

pub few_pairs : (all : List (List ℕ)) (said : List Entry) → ArePairs all said → length said ≤ length all
few_pairs all said h = omega (arith, zip_length (full_lines all) said h, full_length all)

zip_entries : (xs : List (List ℕ)) (ys : List Entry) → AllZip IsPair xs ys → All (IsEntry Two) ys
zip_entries [] [] h = All-nil (IsEntry Two)
zip_entries [] (y ∷ ys) h = absurd h
zip_entries (x ∷ xs) [] h = absurd h
zip_entries (x ∷ xs) (y ∷ ys) h = All-cons (IsEntry Two) y ys h.0.is_entry (zip_entries xs ys h.1)

-- what they say can stand in a store
pub pairs_entries : (all : List (List ℕ)) (said : List Entry) → ArePairs all said → All (IsEntry Two) said
pairs_entries all said h = zip_entries (full_lines all) said h

-- ---- colons

pub none_of_two : (line : List ℕ) → HasNo 58 line → colons line ≢ 2
none_of_two line p e = omega (arith, no_colons line p)

pub one_of_two : (line a rest : List ℕ) → line ≡ a ++ 58 ∷ rest → HasNo 58 a → HasNo 58 rest → colons line ≢ 2
one_of_two line a rest cut p q e = omega (arith, ap colons cut, colons_at a rest p, no_colons rest q)

pub more_than_two : (line a b more value : List ℕ) → line ≡ a ++ 58 ∷ more → HasNo 58 a → more ≡ b ++ 58 ∷ value → HasNo 58 b → list_any (λ b. b == 58) value ≡ true → colons line ≢ 2
more_than_two line a b more value cut p again q some e =
    omega (arith, ap colons cut, colons_at a more p, ap colons again, colons_at b value q, some_colon value some)

-- ---- reading line by line

-- so many lines are read, and this is left
pub record HasRead (text rest : List ℕ) (number : ℕ) (said : List Entry) : Type 0 where
  pub done : List (List ℕ)
  pub splits : lines text ≡ done ++ lines rest
  pub counts : number ≡ length done
  pub are_pairs : ArePairs done said
  pub leaves : number + length rest ≤ length text

pub read_none : (text : List ℕ) → HasRead text text 0 []
read_none text = record { done = []; splits = refl; counts = refl; are_pairs = tt; leaves = omega arith }

pub read_more : (text rest : List ℕ) (number : ℕ) (said : List Entry) → HasRead text rest number said →
    (line more : List ℕ) (added : List Entry) → lines rest ≡ line ∷ lines more → length more < length rest → ArePairs (line ∷ []) added → HasRead text more (number + 1) (said ++ added)
read_more text rest number said h line more added first shorter says = record {
  done = h.done ++ line ∷ [];
  splits = h.splits ∙ ap (λ (l : List (List ℕ)). h.done ++ l) first ∙ sym (append_assoc h.done (line ∷ []) (lines more));
  counts = omega (arith, length-append h.done (line ∷ []), h.counts);
  are_pairs = pairs_more h.done line said added h.are_pairs says;
  leaves = omega (arith, h.leaves);
}

pub read_all : (text rest : List ℕ) (number : ℕ) (said : List Entry) → HasRead text rest number said → rest ≡ [] → ArePairs (lines text) said
read_all text rest number said h ends =
    let whole : lines text ≡ h.done = h.splits ∙ ap (λ (l : List ℕ). h.done ++ lines l) ends ∙ append-nil h.done in
    rw whole h.are_pairs

pub read_few : (text rest : List ℕ) (number : ℕ) (said : List Entry) → HasRead text rest number said → length said ≤ length text
read_few text rest number said h = omega (arith, few_pairs h.done said h.are_pairs, h.counts, h.leaves)

pub pair_fault : (text rest : List ℕ) (number : ℕ) (said : List Entry) → HasRead text rest number said → (line more : List ℕ) (error : StoreError) → lines rest ≡ line ∷ lines more →
    PairFault line (number + 1) error → PairFaultBehind text error
pair_fault text rest number said h line more error first fault = record {
  before = h.done;
  line = line;
  after = lines more;
  said = said;
  splits = h.splits ∙ ap (λ (l : List (List ℕ)). h.done ++ l) first;
  are_pairs = h.are_pairs;
  fault = subst (λ n. PairFault line (n + 1) error) h.counts fault;
}

pub none_weaker : {A P Q : Type 0} (r : Option A) → (P → Q) → IfNone r P → IfNone r Q
none_weaker None f p = f p
none_weaker (Some x) f p = tt
