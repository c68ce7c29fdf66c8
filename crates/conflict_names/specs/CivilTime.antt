-- The civil time of a moment as a text of 19 bytes, on jiff's calendar. Our own form. Read year_of, then stamp.
use Rattle.std.specs.Prelude.{ℕ, zero, suc, ◌+◌, ◌-◌, ◌/◌, ◌%◌, ◌++◌, Bool, List, [], ◌∷◌, ℤ, pos, negsuc, min, nat_le, if◌then◌else◌}
use Rattle.jiff_core.specs.Calendar.{day_count}

-- the greatest number up to `top` that passes, or 0
unfoldable pub greatest : (ℕ → Bool) → ℕ → ℕ
greatest passes zero = 0
greatest passes (suc top) = if passes (suc top) then suc top else greatest passes top

-- a day, counted from 1970-01-01 on, as the calendar counts its days
abbrev pub count_of : ℕ → ℕ
count_of day = day + day_count (pos 1970) 1 1

-- the year of a day: the last one that begins no later
abbrev pub year_of : ℕ → ℕ
year_of day = greatest (λ year. nat_le (day_count (pos year) 1 1) (count_of day)) 9999

-- its month: the last one of the year that begins no later
abbrev pub month_of : ℕ → ℕ
month_of day = greatest (λ month. nat_le (day_count (pos (year_of day)) month 1) (count_of day)) 12

-- its place in the month, from 1
abbrev pub day_of : ℕ → ℕ
day_of day = count_of day + 1 - day_count (pos (year_of day)) (month_of day) 1

-- the last decimal digit of a number
abbrev pub digit : ℕ → ℕ
digit n = 48 + n % 10

abbrev pub two_digits : ℕ → List ℕ
two_digits n = digit (n / 10) ∷ digit n ∷ []

abbrev pub four_digits : ℕ → List ℕ
four_digits n = digit (n / 1000) ∷ digit (n / 100) ∷ two_digits n

-- YYYY-MM-DD-HH-MM-SS
abbrev pub stamp_text : (year month day hour minute second : ℕ) → List ℕ
stamp_text year month day hour minute second =
    four_digits year ++ 45 ∷ two_digits month ++ 45 ∷ two_digits day
    ++ 45 ∷ two_digits hour ++ 45 ∷ two_digits minute ++ 45 ∷ two_digits second

-- the moment that a time shows, in seconds from 1970-01-01 UTC on: none before it, and none after 9999-01-01
abbrev pub moment_of : ℤ → ℕ
moment_of (pos seconds) = min seconds 253370764800
moment_of (negsuc n) = 0

-- the civil time in UTC of a moment
unfoldable pub stamp : ℕ → List ℕ
stamp seconds =
    let day : ℕ = seconds / 86400 in
    let of_day : ℕ = seconds % 86400 in
    stamp_text (year_of day) (month_of day) (day_of day) (of_day / 3600) (of_day % 3600 / 60) (of_day % 60)
