-- A stamp shows jiff's civil time. The key lemma is stamp-civil.
use Rattle.std.proofs.Common.{◌≡◌, ℕ, zero, suc, ◌+◌, ◌-◌, ◌*◌, ◌/◌, ◌%◌, ◌<◌, ◌≤◌, inl, inr, Bool, true, false, nat_le, refl, sym, ap, ◌∙◌, subst, arith, ℤ, pos, negsuc, ◌*ℤ◌, ◌+ℤ◌, ◌≤ℤ◌, unsigned_abs, le-leb}
use Rattle.std.proofs.lemmas.Bool.{cases_order, lt-leb}
use Rattle.jiff_core.specs.declared.civil.date.Date.{Date}
use Rattle.jiff_core.specs.declared.civil.datetime.DateTime.{DateTime}
use Rattle.jiff_core.specs.Calendar.{IsCivilDate, day_count}
use Rattle.jiff_core.specs.Date.{epoch_day}
use Rattle.jiff_core.specs.DateTime.{civil_nanos}
use Rattle.jiff_core.specs.Time.{time_nanos}
use Rattle.jiff_core.proofs.CalendarLemmas.{day_count-epoch, days_from_civil-day_count, day_count-day_of_year, day_count-day, day_count-lt_year, day_count-lt_month}
use Rattle.jiff_core.proofs.DateLemmas.{civil}
use Rattle.jiff_core.proofs.DateTimeLemmas.{civil_nanos-parts, time_nanos_bound}
use Rattle.jiff_core.proofs.SignedLemmas.{signed_arith}
use Rattle.conflict_names.specs.CivilTime.{greatest, count_of, year_of, month_of, day_of, stamp, stamp_text}

greatest-is : (passes : ℕ → Bool) (top n : ℕ) → n ≤ top → passes n ≡ true → ((q : ℕ) → n < q → q ≤ top → passes q ≡ false) → greatest passes top ≡ n
unfolding greatest
greatest-is passes zero n low passed above = omega arith
greatest-is passes (suc top) n low passed above =
    elim (cases_order n (suc top)) [
      | inl same ↦ let now : passes (suc top) ≡ true = subst (λ (m : ℕ). passes m ≡ true) same passed in rw now (sym same)
      | inr (inl lt) ↦ let failed : passes (suc top) ≡ false = above (suc top) lt (omega arith) in
          rw failed (greatest-is passes top n (omega arith) passed (λ q a b. above q a (omega arith)))
      | inr (inr gt) ↦ absurd (omega arith)
    ]

-- of the years that begin no later than a date, its own is the last
year_is : (y m d c : ℕ) → IsCivilDate (pos y) m d → c ≡ day_count (pos y) m d → greatest (λ year. nat_le (day_count (pos year) 1 1) c) 9999 ≡ y
year_is y m d c is e =
    let first = day_count-day_of_year (pos y) m d is.2.0 in
    greatest-is (λ year. nat_le (day_count (pos year) 1 1) c) 9999 y (omega (arith, signed_arith, is.0.1))
    (le-leb _ _ (omega (arith, first, e, is.2.0)))
    (λ q more fits. let later = day_count-lt_year (pos y) m d (pos q) 1 1 is (omega arith) (omega (arith, signed_arith)) in lt-leb _ _ (omega (arith, later, e)))

-- of the months that begin no later, its own
month_is : (y m d c : ℕ) → IsCivilDate (pos y) m d → c ≡ day_count (pos y) m d → greatest (λ month. nat_le (day_count (pos y) month 1) c) 12 ≡ m
month_is y m d c is e =
    let first = day_count-day (pos y) m d 1 is.2.0 (omega arith) in
    greatest-is (λ month. nat_le (day_count (pos y) month 1) c) 12 m is.1.1
    (le-leb _ _ (omega (arith, first, e, is.2.0)))
    (λ q more fits. let later = day_count-lt_month (pos y) m d q 1 is (omega arith) more in lt-leb _ _ (omega (arith, later, e)))

-- a date from 1970 on, found from its day
record IsDateOf (of_day : ℕ) (date : Date) : Type 0 where
  pub year : pos (year_of of_day) ≡ date.year
  pub month : month_of of_day ≡ date.month
  pub day : day_of of_day ≡ date.day

date_by_year : (day y : ℕ) (date : Date) → date.year ≡ pos y → count_of day ≡ day_count (pos y) date.month date.day → IsCivilDate (pos y) date.month date.day → IsDateOf day date
date_by_year day y date e counted is =
    let year : year_of day ≡ y = year_is y date.month date.day (count_of day) is counted in
    let month_at : greatest (λ month. nat_le (day_count (pos y) month 1) (count_of day)) 12 ≡ date.month = month_is y date.month date.day (count_of day) is counted in
    let month : month_of day ≡ date.month = subst (λ (x : ℕ). greatest (λ month. nat_le (day_count (pos x) month 1) (count_of day)) 12 ≡ date.month) (sym year) month_at in
    let first = day_count-day (pos y) date.month date.day 1 is.2.0 (omega arith) in
    let day_at : count_of day + 1 - day_count (pos y) date.month 1 ≡ date.day = omega (arith, first, counted) in
    record {
      year = ap pos year ∙ sym e;
      month = month;
      day = ap (λ (x : ℕ). count_of day + 1 - day_count (pos x) (month_of day) 1) year
          ∙ ap (λ (x : ℕ). count_of day + 1 - day_count (pos y) x 1) month ∙ day_at;
    }

date_is : (day : ℕ) (date : Date) → epoch_day date ≡ pos day → IsDateOf day date
date_is day date e = by date.year refl
  where
    counted : count_of day ≡ day_count date.year date.month date.day
    counted = omega (arith, signed_arith, days_from_civil-day_count date.year date.month date.day, day_count-epoch, e)

    by : (z : ℤ) → date.year ≡ z → IsDateOf day date
    by (pos y) same = date_by_year day y date same (subst (λ (z : ℤ). count_of day ≡ day_count z date.month date.day) same counted) (subst (λ (z : ℤ). IsCivilDate z date.month date.day) same (civil date))
    by (negsuc n) same =
        let early = day_count-lt_year date.year date.month date.day (pos 1970) 1 1 (civil date) (omega arith) (omega (arith, signed_arith, same)) in
        absurd (omega (arith, early, counted))

-- the day and the time of day, from the seconds of a datetime
record IsTimeOf (seconds : ℕ) (time : DateTime) : Type 0 where
  pub day : epoch_day time.date ≡ pos (seconds / 86400)
  pub hour : seconds % 86400 / 3600 ≡ time.time.hour
  pub minute : seconds % 86400 % 3600 / 60 ≡ time.time.minute
  pub second : seconds % 86400 % 60 ≡ time.time.second

clock_is : (seconds day hour minute second part : ℕ) → day * 86_400_000_000_000 + ((hour * 3600 + minute * 60 + second) * 1_000_000_000 + part) ≡ seconds * 1_000_000_000
    → hour < 24 → minute < 60 → second < 60 → part < 1_000_000_000
    → (seconds / 86400 ≡ day) × (seconds % 86400 / 3600 ≡ hour) × (seconds % 86400 % 3600 / 60 ≡ minute) × (seconds % 86400 % 60 ≡ second)
clock_is seconds day hour minute second part e a b c d =
    let whole : day * 86400 + (hour * 3600 + minute * 60 + second) ≡ seconds = omega arith in
    let days : seconds / 86400 ≡ day = omega arith in
    let clock : seconds % 86400 ≡ hour * 3600 + minute * 60 + second = omega arith in
    let hours : seconds % 86400 / 3600 ≡ hour = omega arith in
    let past_hour : seconds % 86400 % 3600 ≡ minute * 60 + second = omega arith in
    let minutes : seconds % 86400 % 3600 / 60 ≡ minute = omega arith in
    let seconds_at : seconds % 86400 % 60 ≡ second = omega arith in
    (days, hours, minutes, seconds_at)

time_is : (time : DateTime) (seconds : ℕ) → civil_nanos time ≡ pos seconds *ℤ pos 1_000_000_000 → IsTimeOf seconds time
time_is time seconds e = by (epoch_day time.date) refl (sym (civil_nanos-parts time) ∙ e)
  where
    by : (z : ℤ) → epoch_day time.date ≡ z → z *ℤ pos 86_400_000_000_000 +ℤ pos (time_nanos time.time) ≡ pos seconds *ℤ pos 1_000_000_000 → IsTimeOf seconds time
    by (pos day) at same =
        let nanos : day * 86_400_000_000_000 + time_nanos time.time ≡ seconds * 1_000_000_000 = cc in
        let clock = clock_is seconds day time.time.hour time.time.minute time.time.second time.time.subsec_nanosecond nanos time.time.hour_in time.time.minute_in time.time.second_in time.time.subsec_in in
        record { day = at ∙ ap pos (sym clock.0); hour = clock.1; minute = clock.2; second = clock.3 }
    by (negsuc n) at same = absurd (omega (arith, signed_arith, time_nanos_bound time.time))

pub stamp-civil : (time : DateTime) (seconds : ℕ) → civil_nanos time ≡ pos seconds *ℤ pos 1_000_000_000
    → stamp seconds ≡ stamp_text (unsigned_abs time.date.year) time.date.month time.date.day time.time.hour time.time.minute time.time.second
unfolding stamp
stamp-civil time seconds e =
    let t = time_is time seconds e in
    let d = date_is (seconds / 86400) time.date t.day in
    let year : year_of (seconds / 86400) ≡ unsigned_abs time.date.year = ap unsigned_abs d.year in
    λ i. stamp_text (year i) (d.month i) (d.day i) (t.hour i) (t.minute i) (t.second i)

-- such a datetime lies after the year 0
pub year-not_negative : (time : DateTime) (seconds : ℕ) → civil_nanos time ≡ pos seconds *ℤ pos 1_000_000_000 → pos 0 ≤ℤ time.date.year
year-not_negative time seconds e =
    let t = time_is time seconds e in
    let d = date_is (seconds / 86400) time.date t.day in
    subst (λ (z : ℤ). pos 0 ≤ℤ z) d.year (omega (arith, signed_arith))
