-- Names as they are written, byte by byte (RFC 5802 section 7: saslname).
use Rattle.std.specs.Prelude.{◌≡◌, ℕ, List, ◌++◌, ◌∷◌, length, true}
use Rattle.std.specs.List.{list_all}
use Rattle.auth_grammar.specs.Plain.{is_printable}
use Rattle.scram_text.specs.Bytes.{escape, escaped}

-- the text begins with a byte of a name as it is written
pub record BeginsByte (text : List ℕ) (byte : ℕ) (more : List ℕ) : Type 0 where
  pub plain : is_printable byte ≡ true
  pub cut : text ≡ escape byte ++ more

-- the text begins with no whole byte, and goes so far into one
pub record GoesInto (text : List ℕ) (at : ℕ) : Type 0 where
  pub front : List ℕ
  pub back : List ℕ
  pub cut : text ≡ front ++ back
  pub long : length front ≡ at
  pub rest : List ℕ
  pub byte : ℕ
  pub plain : is_printable byte ≡ true
  pub lives : front ++ rest ≡ escape byte
  pub stuck : (b other : ℕ) (left more behind : List ℕ) → back ≡ b ∷ left → is_printable other ≡ true
      → front ++ b ∷ more ≡ escape other ++ behind → ⊥

-- bytes of a name stand first in the text, and then no further one
pub record BeginsName (text name more : List ℕ) : Type 0 where
  pub plain : list_all is_printable name ≡ true
  pub cut : text ≡ escaped name ++ more
  pub none : (byte : ℕ) (behind : List ℕ) → BeginsByte more byte behind → ⊥
