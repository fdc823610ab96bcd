-- The date of a moment is what `httpdate` writes.
use Rattle.std.proofs.Common.{◌≡◌, ◌<◌, ◌≤◌, ◌+◌, ◌-◌, ◌*◌, ◌/◌, ◌%◌, ℕ, zero, suc, List, [], ◌++◌, append_assoc, Bool, true, false, cond, inl, inr, sym, ap, ◌∙◌, subst, arith}
use Rattle.std.specs.Prelude.{nat_le, codes}
use Rattle.std.proofs.lemmas.Bool.{cases_lt, le-leb, lt-leb, lt-ltb}
use Rattle.httpdate.specs.declared.date.HttpDate.{HttpDate}
use Rattle.httpdate.specs.Calendar.{IsCivilDate, IsTimeOfDay, days_from_civil, weekday, days_of_months}
use Rattle.httpdate.specs.Text.{imf_fixdate}
use Rattle.httpdate.specs.Date.{date_text, unix_secs}
use Rattle.httpdate.proofs.CalendarLemmas.{days_from_civil_year, days_from_civil_month}
use Rattle.http_wire.specs.Dates.{last_up_to, year_of, month_of, parts_of, date_of}
use Rattle.http_wire.specs.Answers.{date_line}
use Rattle.http_wire.specs.FieldLines.{crlf}

last_is : (test : ℕ → Bool) (n k : ℕ) → k ≤ n → (0 < k → test k ≡ true) → ((j : ℕ) → k < j → test j ≡ false) → last_up_to test n ≡ k
last_is test zero k l here above = omega arith
last_is test (suc n) k l here above = elim (cases_lt k (suc n)) [
  | inl less ↦ ap (λ (t : Bool). cond t (suc n) (last_up_to test n)) (above (suc n) less) ∙ last_is test n k (omega arith) here above
  | inr same ↦
      let is : k ≡ suc n = omega arith in
      let some : 0 < k = omega arith in
      ap (λ (t : Bool). cond t (suc n) (last_up_to test n)) (ap test (sym is) ∙ here some) ∙ sym is
]

first_of : (y m d : ℕ) → days_from_civil y 1 1 ≤ days_from_civil y m d
unfolding days_of_months
first_of y m d = omega arith

module _ (y m d : ℕ) (civil : IsCivilDate y m d) where
  first_day : (x : ℕ) → x ≡ y → days_from_civil x 1 1 ≤ days_from_civil y m d
  first_day x e = let le : days_from_civil y 1 1 ≤ days_from_civil y m d = first_of y m d in subst (λ (z : ℕ). days_from_civil z 1 1 ≤ days_from_civil y m d) (sym e) le

  year_is : year_of (days_from_civil y m d) ≡ y
  unfolding year_of
  year_is =
      let day = days_from_civil y m d in
      let k = y - 1970 in
      let since : 1970 + k ≡ y = omega arith in
      let last : last_up_to (λ n. nat_le (days_from_civil (1970 + n) 1 1) day) 8029 ≡ k =
      last_is (λ n. nat_le (days_from_civil (1970 + n) 1 1) day) 8029 k (omega arith)
      (λ _. le-leb (days_from_civil (1970 + k) 1 1) day (first_day (1970 + k) since))
      (λ j l. lt-leb (days_from_civil (1970 + j) 1 1) day (days_from_civil_year y m d (1970 + j) 1 1 civil (omega arith))) in
      ap (λ (n : ℕ). 1970 + n) last ∙ since

  month_is : month_of y (days_from_civil y m d) ≡ m
  unfolding month_of
  month_is =
      let day = days_from_civil y m d in
      last_is (λ n. nat_le (days_from_civil y n 1) day) 12 m (omega arith)
      (λ _. le-leb (days_from_civil y m 1) day (omega arith))
      (λ j l. lt-leb (days_from_civil y j 1) day (days_from_civil_month y m d j 1 civil l))

  day_is : suc (days_from_civil y m d - days_from_civil y m 1) ≡ d
  day_is = omega arith

module _ (t h mi s : ℕ) (day : ℕ) (clock : IsTimeOfDay h mi s) (is : day * 86400 + h * 3600 + mi * 60 + s ≡ t) where
  days_are : t / 86400 ≡ day
  days_are = omega arith

  hour_is : t % 86400 / 3600 ≡ h
  hour_is = omega arith

  min_is : t % 3600 / 60 ≡ mi
  min_is = omega arith

  sec_is : t % 60 ≡ s
  sec_is = omega arith

-- the text of the date of a moment
pub date_is : (date : HttpDate) (moment : ℕ) → unix_secs date ≡ moment → date_text date ≡ date_of moment
unfolding parts_of date_of
date_is date moment e =
    let p = date.parts in
    let day = days_from_civil p.year p.mon p.day in
    let d : moment / 86400 ≡ day = days_are moment p.hour p.min p.sec day date.time e in
    let y : year_of (moment / 86400) ≡ p.year = ap year_of d ∙ year_is p.year p.mon p.day date.civil in
    let m : month_of (year_of (moment / 86400)) (moment / 86400) ≡ p.mon = (λ i. month_of (y i) (d i)) ∙ month_is p.year p.mon p.day date.civil in
    let n : suc (moment / 86400 - days_from_civil (year_of (moment / 86400)) (month_of (year_of (moment / 86400)) (moment / 86400)) 1) ≡ p.day =
    (λ i. suc (d i - days_from_civil (y i) (m i) 1)) ∙ day_is p.year p.mon p.day date.civil in
    sym (λ i. imf_fixdate (record {
      year = y i;
      mon = m i;
      day = n i;
      hour = hour_is moment p.hour p.min p.sec day date.time e i;
      min = min_is moment p.hour p.min p.sec day date.time e i;
      sec = sec_is moment p.hour p.min p.sec day date.time e i;
      wday = (ap weekday d ∙ sym date.right_day) i;
    }))

pub date_line_some : (moment : ℕ) (date : List ℕ) → moment < 253402300800 → date ≡ date_of moment → date_line moment ≡ codes "Date: " ++ date ++ crlf
unfolding date_line
date_line_some moment date l e =
    ap (λ (t : Bool). cond t (codes "Date: " ++ date_of moment ++ crlf) []) (lt-ltb moment 253402300800 l) ∙ ap (λ (x : List ℕ). codes "Date: " ++ x ++ crlf) (sym e)

pub three_more : (old a b c : List ℕ) → ((old ++ a) ++ b) ++ c ≡ old ++ (a ++ b ++ c)
three_more old a b c = simp append_assoc
