-- The date of a moment.
use Rattle.std.specs.Prelude.{ℕ, suc, zero, ◌+◌, ◌-◌, ◌/◌, ◌%◌, Bool, List, if◌then◌else◌, nat_le}
use Rattle.httpdate.specs.declared.parts.Parts.{Parts}
use Rattle.httpdate.specs.Calendar.{days_from_civil, weekday}
use Rattle.httpdate.specs.Text.{imf_fixdate}

-- ---- the date of a moment

-- the last number up to n that passes, 0 where none does
abbrev pub last_up_to : (ℕ → Bool) → ℕ → ℕ
last_up_to test zero = 0
last_up_to test (suc n) = if test (suc n) then suc n else last_up_to test n

-- the last year since 1970 that begins on the day or before it, and then the last month
unfoldable pub year_of : ℕ → ℕ
year_of day = 1970 + last_up_to (λ n. nat_le (days_from_civil (1970 + n) 1 1) day) 8029

unfoldable pub month_of : ℕ → ℕ → ℕ
month_of year day = last_up_to (λ n. nat_le (days_from_civil year n 1) day) 12

-- the date and time of a moment, in seconds since 1970
unfoldable pub parts_of : ℕ → Parts
parts_of moment =
    let day = moment / 86400 in
    let year = year_of day in
    let month = month_of year day in
    record {
      year = year;
      mon = month;
      day = suc (day - days_from_civil year month 1);
      hour = moment % 86400 / 3600;
      min = moment % 3600 / 60;
      sec = moment % 60;
      wday = weekday day;
    }

-- `Sun, 06 Nov 1994 08:49:37 GMT`
unfoldable pub date_of : ℕ → List ℕ
date_of moment = imf_fixdate (parts_of moment)
