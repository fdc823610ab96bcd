-- How far a text goes on as a given word.
use Rattle.std.proofs.Common.{◌≡◌, ◌≢◌, ◌+◌, ◌≤◌, ◌<◌, ℕ, List, [], ◌∷◌, ◌++◌, refl, sym, ◌∙◌, ap, length, append-nil, take, drop, get_or, length-drop, arith}
use Rattle.std.proofs.lemmas.List.{drop_more, length-take-le, take-append-drop, take_all}
use Rattle.scram_text.specs.Reaching.{Reaches}
use Rattle.scram_text.proofs.PartLaws.{same_front}

pub word_stops : (word text : List ℕ) (at : ℕ) → at < length text → at ≤ length word → take at text ≡ take at word → (at < length word → get_or word at 0 ≢ get_or text at 0) → Reaches (λ t. t ≡ word) text at
word_stops word text at within inside same other = record {
  front = take at text;
  back = drop at text;
  cut = sym (take-append-drop at text);
  long = length-take-le at text (omega arith);
  rest = drop at word;
  lives = ap (λ (w : List ℕ). w ++ drop at word) same ∙ take-append-drop at word;
  stuck = λ b left more e is.
      let f : get_or text at 0 ∷ drop (at + 1) text ≡ b ∷ left = sym (drop_more text at 0 within) ∙ e in
      let here : get_or text at 0 ≡ b = cc in
      let cut : take at text ++ b ∷ more ≡ take at text ++ drop at word = is ∙ sym (ap (λ (w : List ℕ). w ++ drop at word) same ∙ take-append-drop at word) in
      let rest : b ∷ more ≡ drop at word = same_front (take at text) (b ∷ more) (drop at word) cut in
      let below : at < length word = omega (arith, length-drop at word, ap length rest) in
      let g : b ∷ more ≡ get_or word at 0 ∷ drop (at + 1) word = rest ∙ drop_more word at 0 below in
      let there : b ≡ get_or word at 0 = cc in
      other below (sym (here ∙ there));
}

pub word_whole : (word text : List ℕ) (at : ℕ) → length text ≤ at → take at text ≡ take at word → Reaches (λ t. t ≡ word) text (length text)
word_whole word text at over same = record {
  front = text;
  back = [];
  cut = sym (append-nil text);
  long = refl;
  rest = drop at word;
  lives = ap (λ (w : List ℕ). w ++ drop at word) (sym (take_all at text over) ∙ same) ∙ take-append-drop at word;
  stuck = λ b left more e is. cc;
}
