-- The text of a name, and the name of a text.
use Rattle.std.proofs.Common.{◌≡◌, ◌≢◌, ℕ, zero, suc, ◌^◌, ◌<◌, ◌≤◌, List, [], ◌∷◌, ◌++◌, length, take, drop, slice_index, refl, sym, ◌∙◌, ap, subst, arith, length-drop, append-nil, replicate, true, Ok, Err, Option, Some, None, IfSome, IfNone}
use Rattle.std.specs.Int.{w16, w64, to_be_bytes, from_be_bytes}
use Rattle.std.proofs.lemmas.Nat.{be_bytes_2, be_bytes_8}
use Rattle.std.proofs.Math.Seq.{take-length}
use Rattle.std.proofs.lemmas.List.{length-take-le}
use Rattle.base64.specs.Engines.{standard}
use Rattle.base64.specs.GeneralPurpose.{encode_of, decode_of, IsBytes, IsStrict}
use Rattle.base64.specs.Rfc4648.{encode, encode_symbols, padding_len, unpadded_len}
use Rattle.base64.proofs.RoundTrip.{length-encode_symbols}
use Rattle.base64.proofs.EngineFacts.{decode_of_strict, decode_of_iff}
use Rattle.nonce_shard.specs.declared.names.TableName.{TableName}
use Rattle.nonce_shard.specs.declared.names.NameKind.{NameKind}
use Rattle.nonce_shard.specs.declared.names.NameKind.TheVariants.{Nonce, Exchange}
use Rattle.nonce_shard.specs.Names.{kind_byte, name_bytes, name_text, IsName}

strict : IsStrict standard
strict = (refl, refl)

cons_bytes : (x : ℕ) (xs : List ℕ) → x < 256 → IsBytes xs → IsBytes (x ∷ xs)
cons_bytes x xs h hs zero = h
cons_bytes x xs h hs (suc i) = hs i

small_kind : (k : NameKind) → kind_byte k < 256
small_kind Nonce = omega arith
small_kind Exchange = omega arith

pub name_bytes_fit : (n : TableName) → IsName n → IsBytes (name_bytes n)
name_bytes_fit n is zero = small_kind n.kind
name_bytes_fit n is (suc zero) = omega arith
name_bytes_fit n is (suc (suc zero)) = omega arith
name_bytes_fit n is (suc (suc (suc zero))) = omega arith
name_bytes_fit n is (suc (suc (suc (suc zero)))) = omega arith
name_bytes_fit n is (suc (suc (suc (suc (suc zero))))) = omega arith
name_bytes_fit n is (suc (suc (suc (suc (suc (suc zero)))))) = omega arith
name_bytes_fit n is (suc (suc (suc (suc (suc (suc (suc zero))))))) = omega arith
name_bytes_fit n is (suc (suc (suc (suc (suc (suc (suc (suc zero)))))))) = omega arith
name_bytes_fit n is (suc (suc (suc (suc (suc (suc (suc (suc (suc zero))))))))) = omega arith
name_bytes_fit n is (suc (suc (suc (suc (suc (suc (suc (suc (suc (suc zero)))))))))) = omega arith
name_bytes_fit n is (suc (suc (suc (suc (suc (suc (suc (suc (suc (suc (suc i))))))))))) = is.bytes i

pub name_bytes_long : (n : TableName) → IsName n → length (name_bytes n) ≡ 27
name_bytes_long n is = ap (λ (k : ℕ). suc (suc (suc (suc (suc (suc (suc (suc (suc (suc (suc k))))))))))) is.long

-- what decodes to the bytes of a name is its text
pub text_is : (text bytes : List ℕ) (n : TableName) → IsBytes text → decode_of standard text ≡ Ok bytes → bytes ≡ name_bytes n → text ≡ name_text n
text_is text bytes n fit decoded is = decode_of_strict standard text bytes strict fit decoded ∙ ap (encode_of standard) is

-- and its text decodes to them
pub text_decodes : (text : List ℕ) (n : TableName) → IsBytes text → IsName n → text ≡ name_text n → decode_of standard text ≡ Ok (name_bytes n)
text_decodes text n fit is h = (decode_of_iff standard text (name_bytes n) strict fit (name_bytes_fit n is)).1 h

no_bytes : IsBytes []
no_bytes i = omega arith

pub spelled : (bs : List ℕ) (kind : NameKind) (shard serial : ℕ) (random : List ℕ) → length bs ≡ 27 → IsBytes bs → kind_byte kind ≡ slice_index bs 0
    → shard < 2 ^ 16 → serial < 2 ^ 64
    → shard ≡ from_be_bytes w16 (slice_index bs 1 ∷ slice_index bs 2 ∷ [])
    → serial ≡ from_be_bytes w64 (slice_index bs 3 ∷ slice_index bs 4 ∷ slice_index bs 5 ∷ slice_index bs 6 ∷ slice_index bs 7 ∷ slice_index bs 8 ∷ slice_index bs 9 ∷ slice_index bs 10 ∷ [])
    → random ≡ drop 11 bs
    → IsName (record { kind = kind; shard = shard; serial = serial; random = random }) × (bs ≡ name_bytes (record { kind = kind; shard = shard; serial = serial; random = random }))
spelled (b0 ∷ b1 ∷ b2 ∷ b3 ∷ b4 ∷ b5 ∷ b6 ∷ b7 ∷ b8 ∷ b9 ∷ b10 ∷ rest) kind shard serial random long fit kind_is small_shard small_serial shard_is serial_is random_is = (
  record { shard = small_shard; serial = small_serial; long = ap length random_is ∙ (let l : length rest ≡ 16 = omega arith in l); bytes = subst IsBytes (sym random_is) (λ i. fit (suc (suc (suc (suc (suc (suc (suc (suc (suc (suc (suc i)))))))))))) },
  sym (ap (λ (k : ℕ). k ∷ (to_be_bytes w16 shard ++ to_be_bytes w64 serial ++ random)) kind_is
      ∙ ap (λ (s : List ℕ). b0 ∷ (s ++ to_be_bytes w64 serial ++ random)) two
      ∙ ap (λ (s : List ℕ). b0 ∷ ((b1 ∷ b2 ∷ []) ++ s ++ random)) eight
      ∙ ap (λ (s : List ℕ). b0 ∷ b1 ∷ b2 ∷ b3 ∷ b4 ∷ b5 ∷ b6 ∷ b7 ∷ b8 ∷ b9 ∷ b10 ∷ s) random_is),
)
  where
    two : to_be_bytes w16 shard ≡ b1 ∷ b2 ∷ []
    two = be_bytes_2 (b1 ∷ b2 ∷ []) shard refl (cons_bytes b1 (b2 ∷ []) (fit 1) (cons_bytes b2 [] (fit 2) no_bytes)) shard_is

    eight : to_be_bytes w64 serial ≡ b3 ∷ b4 ∷ b5 ∷ b6 ∷ b7 ∷ b8 ∷ b9 ∷ b10 ∷ []
    eight = be_bytes_8 (b3 ∷ b4 ∷ b5 ∷ b6 ∷ b7 ∷ b8 ∷ b9 ∷ b10 ∷ []) serial refl
        (cons_bytes b3 (b4 ∷ b5 ∷ b6 ∷ b7 ∷ b8 ∷ b9 ∷ b10 ∷ []) (fit 3) (cons_bytes b4 (b5 ∷ b6 ∷ b7 ∷ b8 ∷ b9 ∷ b10 ∷ []) (fit 4) (cons_bytes b5 (b6 ∷ b7 ∷ b8 ∷ b9 ∷ b10 ∷ []) (fit 5) (cons_bytes b6 (b7 ∷ b8 ∷ b9 ∷ b10 ∷ []) (fit 6) (cons_bytes b7 (b8 ∷ b9 ∷ b10 ∷ []) (fit 7) (cons_bytes b8 (b9 ∷ b10 ∷ []) (fit 8) (cons_bytes b9 (b10 ∷ []) (fit 9) (cons_bytes b10 ([]) (fit 10) no_bytes)))))))) serial_is
spelled _ kind shard serial random long fit kind_is small_shard small_serial shard_is serial_is random_is = absurd (omega arith)

encode_long : (t m : List ℕ) (pad : ℕ) → length m ≡ 27 → length (encode t pad true m) ≡ 36
encode_long t m pad h =
    ap (λ (k : ℕ). length (encode_symbols t m ++ replicate k pad)) (ap padding_len h)
    ∙ ap length (append-nil (encode_symbols t m)) ∙ length-encode_symbols t m ∙ ap unpadded_len h

pub name_text_long : (n : TableName) → IsName n → length (name_text n) ≡ 36
name_text_long n is = encode_long standard.encode_table (name_bytes n) standard.padding.value (name_bytes_long n is)

pub tail_whole : (xs : List ℕ) → length xs ≡ 27 → take 16 (drop 11 xs) ≡ drop 11 xs
tail_whole xs h = subst (λ (k : ℕ). take k (drop 11 xs) ≡ drop 11 xs) sixteen (take-length (drop 11 xs))
  where
    sixteen : length (drop 11 xs) ≡ 16
    sixteen = omega (arith, length-drop 11 xs)

pub whole : (xs : List ℕ) → length xs ≡ 27 → take 27 xs ≡ xs
whole xs h = subst (λ (k : ℕ). take k xs ≡ xs) h (take-length xs)

-- the name that was found is that of the text
pub found_some : (text new : List ℕ) (o : Option TableName) → IsBytes text → length new ≡ 27 → decode_of standard text ≡ Ok (take 27 new)
    → IfSome o (λ n. IsName n × (new ≡ name_bytes n)) → IfSome o (λ n. IsName n × (text ≡ name_text n))
found_some text new None fit long decoded h = h
found_some text new (Some n) fit long decoded h = (h.0, text_is text (take 27 new) n fit decoded (whole new long ∙ h.1))

pub found_none : (text new : List ℕ) (o : Option TableName) → IsBytes text → length new ≡ 27 → decode_of standard text ≡ Ok (take 27 new)
    → IfNone o ((n : TableName) → IsName n → new ≢ name_bytes n) → IfNone o ((n : TableName) → IsName n → text ≢ name_text n)
found_none text new (Some n) fit long decoded h = h
found_none text new None fit long decoded h =
    λ n is e. h n is (let d : decode_of standard text ≡ Ok (name_bytes n) = text_decodes text n fit is e in let same : take 27 new ≡ name_bytes n = cc in sym (whole new long) ∙ same)

pub no_error : (text : List ℕ) (n : TableName) (e : _) → IsBytes text → IsName n → decode_of standard text ≡ Err e → text ≢ name_text n
no_error text n e fit is failed h = let d : decode_of standard text ≡ Ok (name_bytes n) = text_decodes text n fit is h in cc

pub no_other_length : (text new : List ℕ) (n : TableName) (m : ℕ) → IsBytes text → IsName n → m ≤ length new → m ≢ 27 → decode_of standard text ≡ Ok (take m new) → text ≢ name_text n
no_other_length text new n m fit is inside other decoded h =
    let d : decode_of standard text ≡ Ok (name_bytes n) = text_decodes text n fit is h in
    let same : take m new ≡ name_bytes n = cc in
    other (sym (length-take-le m new inside) ∙ ap length same ∙ name_bytes_long n is)
