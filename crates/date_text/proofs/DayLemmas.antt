-- The date of a day number, and the day number of a date.
use Rattle.std.proofs.Common.{◌≡◌, ℕ, zero, suc, ◌+◌, ◌-◌, ◌<◌, ◌≤◌, inl, inr, Bool, true, false, cond, nat_lt, refl, sym, subst, ap, ◌∙◌, arith, ℤ, pos, negsuc, ◌+ℤ◌, ◌-ℤ◌, ◌<ℤ◌, ◌≤ℤ◌, unsigned_abs, rules}
use Rattle.std.proofs.lemmas.Bool.{and_parts, and_right, cases_order, ltb-false, ltb-true}
use Rattle.std.proofs.lemmas.Int.{by_lt_z, ints}
use Rattle.jiff_core.specs.Calendar.{days_from_civil, days_in_month, IsCivilDate, IsEpochDay, IsYear}
use Rattle.jiff_core.proofs.SignedLemmas.{signed_arith}
use Rattle.jiff_core.proofs.CalendarLemmas.{day_count-day, day_count-day_of_year, day_count-later_year, day_count-lt_month, day_count-lt_year, day_count_bounds, days_from_civil-day_count, days_in_month_bounds}
use Rattle.jiff_core.proofs.DateLemmas.{days_from_civil-day, days_from_civil-max, days_from_civil-next_month, days_from_civil-next_year}
use Rattle.date_text.specs.Calendar.{CivilDate, IsInCalendar, count_to, date_at, day_at, day_number, has_come, is_in_years, month_at, next_date, year_at}
use borrow.Author.Differences.{up, down}

-- the count is `x`, where exactly the numbers up to `x` pass
pub count_is : (n x : ℕ) (passes : ℕ → Bool) → x ≤ n → ((k : ℕ) → 1 ≤ k → k ≤ x → passes k ≡ true) → ((k : ℕ) → x < k → k ≤ n → passes k ≡ false) → count_to n passes ≡ x
unfolding count_to
count_is zero x passes h below above = omega arith
count_is (suc n) x passes h below above =
    elim (cases_order x (suc n)) [
      | inl same ↦
          ap (λ b. cond b (suc (count_to n passes)) (count_to n passes)) (below (suc n) (omega arith) (omega arith))
          ∙ ap suc (count_is n n passes (omega arith) (λ k low le. below k low (omega arith)) (λ k lt le. absurd (omega arith)))
          ∙ sym same
      | inr (inl lt) ↦
          ap (λ b. cond b (suc (count_to n passes)) (count_to n passes)) (above (suc n) lt (omega arith))
          ∙ count_is n x passes (omega arith) below (λ k more le. above k more (omega arith))
      | inr (inr gt) ↦ absurd (omega arith)
    ]

-- comparisons of day numbers
come : (a b : ℤ) → a ≤ℤ b → has_come a b ≡ true
come a b h = grind (arith, ints)

not_come : (a b : ℤ) → b <ℤ a → has_come a b ≡ false
not_come a b h = grind (arith, ints)

-- dates that don't come later have no greater day numbers
year_come : (y m d k : ℕ) → IsCivilDate (pos y) m d → k ≤ y → days_from_civil (pos k) 1 1 ≤ℤ days_from_civil (pos y) m d
year_come y m d k h le =
    elim (cases_order k y) [
      | inl same ↦ rw same (omega (arith, signed_arith, days_from_civil-day_count, day_count-day_of_year (pos y) m d h.2.0))
      | inr (inl lt) ↦ omega (arith, signed_arith, days_from_civil-day_count, day_count-later_year (pos k) (pos y) (omega (arith, signed_arith)) (omega (arith, signed_arith)), day_count-day_of_year (pos y) m d h.2.0)
      | inr (inr gt) ↦ absurd (omega arith)
    ]

year_not_come : (y m d k : ℕ) → IsCivilDate (pos y) m d → y < k → days_from_civil (pos y) m d <ℤ days_from_civil (pos k) 1 1
year_not_come y m d k h lt =
    omega (arith, signed_arith, days_from_civil-day_count, day_count-lt_year (pos y) m d (pos k) 1 1 h (omega arith) (omega (arith, signed_arith)))

first_of_month : (y m d k : ℕ) → IsCivilDate (pos y) m d → 1 ≤ k → k ≤ m → IsCivilDate (pos y) k 1
first_of_month y m d k h low le =
    let long = days_in_month_bounds (pos y) k in
    (h.0, (omega arith, omega arith), (omega arith, omega arith))

month_come : (y m d k : ℕ) → IsCivilDate (pos y) m d → 1 ≤ k → k ≤ m → days_from_civil (pos y) k 1 ≤ℤ days_from_civil (pos y) m d
month_come y m d k h low le =
    elim (cases_order k m) [
      | inl same ↦ rw same (omega (arith, signed_arith, days_from_civil-day_count, day_count-day (pos y) m d 1 h.2.0 (omega arith)))
      | inr (inl lt) ↦ omega (arith, signed_arith, days_from_civil-day_count, day_count-lt_month (pos y) k 1 m d (first_of_month y m d k h low le) h.2.0 lt)
      | inr (inr gt) ↦ absurd (omega arith)
    ]

month_not_come : (y m d k : ℕ) → IsCivilDate (pos y) m d → m < k → days_from_civil (pos y) m d <ℤ days_from_civil (pos y) k 1
month_not_come y m d k h lt =
    omega (arith, signed_arith, days_from_civil-day_count, day_count-lt_month (pos y) m d k 1 h (omega arith) lt)

-- the year, the month and the day of the day number of a date
pub year_at-date : (y m d : ℕ) → IsCivilDate (pos y) m d → year_at (days_from_civil (pos y) m d) ≡ y
year_at-date y m d h =
    let day = days_from_civil (pos y) m d in
    count_is 9999 y (λ year. has_come (days_from_civil (pos year) 1 1) day) (omega (arith, signed_arith))
    (λ k _ le. come (days_from_civil (pos k) 1 1) day (year_come y m d k h le))
    (λ k lt _. not_come (days_from_civil (pos k) 1 1) day (year_not_come y m d k h lt))

pub month_at-date : (y m d : ℕ) → IsCivilDate (pos y) m d → month_at y (days_from_civil (pos y) m d) ≡ m
month_at-date y m d h =
    let day = days_from_civil (pos y) m d in
    count_is 12 m (λ month. has_come (days_from_civil (pos y) month 1) day) h.1.1
    (λ k low le. come (days_from_civil (pos y) k 1) day (month_come y m d k h low le))
    (λ k lt _. not_come (days_from_civil (pos y) k 1) day (month_not_come y m d k h lt))

pub day_at-date : (y m d : ℕ) → IsCivilDate (pos y) m d → day_at y m (days_from_civil (pos y) m d) ≡ d
day_at-date y m d h =
    let since : days_from_civil (pos y) m d -ℤ days_from_civil (pos y) m 1 ≡ pos (d - 1) = omega (arith, signed_arith, days_from_civil-day_count, day_count-day (pos y) m d 1 h.2.0 (omega arith)) in
    let low = h.2.0 in
    ap (λ z. unsigned_abs z + 1) since ∙ omega arith

-- the date of the day number of a date
pub date_at-day_number : (date : CivilDate) → IsInCalendar date → date_at (day_number date) ≡ date
date_at-day_number date h =
    let day = day_number date in
    let year = year_at-date date.year date.month date.day h in
    let month : month_at (year_at day) day ≡ date.month = ap (λ y. month_at y day) year ∙ month_at-date date.year date.month date.day h in
    let number : day_at (year_at day) (month_at (year_at day) day) day ≡ date.day = ap (λ y. day_at y (month_at (year_at day) day) day) year ∙ ap (λ m. day_at date.year m day) month ∙ day_at-date date.year date.month date.day h in
    rw (number, month, year) refl

-- the day number of a date of the years 0 to 9999 lies among theirs
pub in_years : (y m d : ℕ) → IsCivilDate (pos y) m d → is_in_years (days_from_civil (pos y) m d) ≡ true
in_years y m d h =
    let low = come (days_from_civil (pos 0) 1 1) (days_from_civil (pos y) m d) (year_come y m d 0 h (omega arith)) in
    let high : has_come (days_from_civil (pos y) m d) (days_from_civil (pos 9999) 12 31) ≡ true = come (days_from_civil (pos y) m d) (days_from_civil (pos 9999) 12 31) (omega (arith, signed_arith, days_from_civil-max, days_from_civil-day_count, day_count_bounds (pos y) m d h)) in
    rw (low, high) refl

first_is : IsCivilDate (pos 0) 1 1
first_is = search rules

-- a day before the year 0 isn't in the years 0 to 9999, and none past the calendar's last is
pub before_years : (y : ℤ) (m d : ℕ) → IsCivilDate y m d → y <ℤ pos 0 → is_in_years (days_from_civil y m d) ≡ false
before_years y m d h lt =
    let low = not_come (days_from_civil (pos 0) 1 1) (days_from_civil y m d) (omega (arith, signed_arith, days_from_civil-day_count, day_count-lt_year y m d (pos 0) 1 1 h (omega arith) lt)) in
    rw low refl

past_last : (day : ℤ) → (IsEpochDay day → ⊥) → days_from_civil (pos 0) 1 1 ≤ℤ day → days_from_civil (pos 9999) 12 31 <ℤ day
past_last day past ge =
    by_lt_z (days_from_civil (pos 9999) 12 31) day (λ lt. lt)
    (λ le. absurd (past (omega (arith, signed_arith, days_from_civil-day_count, day_count_bounds (pos 0) 1 1 first_is), omega (arith, signed_arith, days_from_civil-max))))

pub past_days : (day : ℤ) → (IsEpochDay day → ⊥) → is_in_years day ≡ false
past_days day past =
    by_lt_z day (days_from_civil (pos 0) 1 1)
    (λ lt. let low = not_come (days_from_civil (pos 0) 1 1) day lt in rw low refl)
    (λ ge. and_right (has_come (days_from_civil (pos 0) 1 1) day) (has_come day (days_from_civil (pos 9999) 12 31)) (not_come day (days_from_civil (pos 9999) 12 31) (past_last day past ge)))

-- a date from the year 0 on, whose year is an integer, lies in the years 0 to 9999
pub late_in_years : (y : ℤ) (m d : ℕ) → IsCivilDate y m d → pos 0 ≤ℤ y → is_in_years (days_from_civil y m d) ≡ true
late_in_years (pos y) m d h late = in_years y m d h
late_in_years (negsuc y) m d h late = absurd (omega (arith, signed_arith))

pub late_date : (y : ℤ) (m d : ℕ) → IsCivilDate y m d → pos 0 ≤ℤ y → record { year = unsigned_abs y; month = m; day = d } ≡ date_at (days_from_civil y m d)
late_date (pos y) m d h late = sym (date_at-day_number (record { year = y; month = m; day = d }) h)
late_date (negsuc y) m d h late = absurd (omega (arith, signed_arith))

-- THE NEXT DATE

-- the day after a date, by whether it is of the same month and of the same year
abbrev IsNext : CivilDate → CivilDate → Type 0
IsNext date next = (day_number next ≡ day_number date +ℤ pos 1) × (day_number date <ℤ days_from_civil (pos 9999) 12 31 → IsInCalendar next)

same_month : (y m d : ℕ) → IsCivilDate (pos y) m d → d < days_in_month (pos y) m → IsNext (record { year = y; month = m; day = d }) (record { year = y; month = m; day = d + 1 })
same_month y m d h more = (
  omega (arith, signed_arith, days_from_civil-day (pos y) m d (d + 1) h.2.0 (omega arith)),
  λ _. (h.0, h.1, (omega arith, omega arith)),
)

next_month : (y m d : ℕ) → IsCivilDate (pos y) m d → d ≡ days_in_month (pos y) m → m < 12 → IsNext (record { year = y; month = m; day = d }) (record { year = y; month = m + 1; day = 1 })
next_month y m d h last more =
    let long = days_in_month_bounds (pos y) (m + 1) in (
      days_from_civil-next_month (pos y) m d h.1.0 last,
      λ _. (h.0, (omega arith, omega arith), (omega arith, omega arith)),
    )

december : (y d : ℕ) → d ≡ days_in_month (pos y) 12 → d ≡ 31
december y d last = last

year_left : (y m d : ℕ) → IsCivilDate (pos y) m d → days_from_civil (pos y) m d ≡ days_from_civil (pos y) 12 31 → days_from_civil (pos y) m d <ℤ days_from_civil (pos 9999) 12 31 → IsYear (pos (y + 1))
year_left y m d h number before =
    elim (cases_order y 9999) [
      | inl same ↦ let last = number ∙ ap (λ year. days_from_civil (pos year) 12 31) same in absurd (omega (arith, signed_arith))
      | inr (inl lt) ↦ (omega (arith, signed_arith), omega (arith, signed_arith))
      | inr (inr gt) ↦ let high = h.0.1 in absurd (omega (arith, signed_arith))
    ]

next_year : (y m d : ℕ) → IsCivilDate (pos y) m d → d ≡ days_in_month (pos y) m → m ≡ 12 → IsNext (record { year = y; month = m; day = d }) (record { year = y + 1; month = 1; day = 1 })
next_year y m d h last twelve =
    let day : d ≡ 31 = december y d (last ∙ ap (days_in_month (pos y)) twelve) in
    let number : days_from_civil (pos y) m d ≡ days_from_civil (pos y) 12 31 = ap (λ month. days_from_civil (pos y) month d) twelve ∙ ap (days_from_civil (pos y) 12) day in
    let next : days_from_civil (pos (y + 1)) 1 1 ≡ days_from_civil (pos y) 12 31 +ℤ pos 1 = days_from_civil-next_year (pos y) (pos (y + 1)) (omega (arith, signed_arith)) refl in
    let long = days_in_month_bounds (pos (y + 1)) 1 in (
      next ∙ ap (λ z. z +ℤ pos 1) (sym number),
      λ before. (year_left y m d h number before, (omega arith, omega arith), (omega arith, omega arith)),
    )

next_step : (y m d : ℕ) (within early : Bool) → nat_lt d (days_in_month (pos y) m) ≡ within → nat_lt m 12 ≡ early → IsCivilDate (pos y) m d → IsNext (record { year = y; month = m; day = d }) (cond within (record { year = y; month = m; day = d + 1 }) (cond early (record { year = y; month = m + 1; day = 1 }) (record { year = y + 1; month = 1; day = 1 })))
next_step y m d true early is_within is_early h = same_month y m d h (ltb-true _ _ is_within)
next_step y m d false true is_within is_early h =
    let long = ltb-false d (days_in_month (pos y) m) is_within in
    let high = h.2.1 in
    next_month y m d h (omega arith) (ltb-true m 12 is_early)
next_step y m d false false is_within is_early h =
    let long = ltb-false d (days_in_month (pos y) m) is_within in
    let high = h.2.1 in
    let late = ltb-false m 12 is_early in
    let last = h.1.1 in
    next_year y m d h (omega arith) (omega arith)

pub next_is : (date : CivilDate) → IsInCalendar date → IsNext date (next_date date)
next_is date h = next_step date.year date.month date.day (nat_lt date.day (days_in_month (pos date.year) date.month)) (nat_lt date.month 12) refl refl h

-- each day number from that of 0000-01-01 to that of 9999-12-31 is that of a date
days_on : (n : ℕ) → (days_from_civil (pos 0) 1 1 +ℤ pos n) ≤ℤ days_from_civil (pos 9999) 12 31 → (date : CivilDate) × IsInCalendar date × (day_number date ≡ days_from_civil (pos 0) 1 1 +ℤ pos n)
days_on zero h = (record { year = 0; month = 1; day = 1 }, first_is, omega (arith, signed_arith))
days_on (suc n) h =
    let before = days_on n (omega (arith, signed_arith)) in
    let next = next_is before.0 before.1 in
    let number = before.2 in
    (next_date before.0, next.1 (omega (arith, signed_arith)), next.0 ∙ omega (arith, signed_arith))

come_is : (a b : ℤ) → has_come a b ≡ true → a ≤ℤ b
come_is a b h = grind (arith, ints)

date_at_same : (day : ℤ) (date : CivilDate) → IsInCalendar date → day_number date ≡ day → IsInCalendar (date_at day) × (day_number (date_at day) ≡ day)
date_at_same day date h number =
    let is : date_at day ≡ date = sym (ap date_at number) ∙ date_at-day_number date h in
    (subst IsInCalendar (sym is) h, ap day_number is ∙ number)

days_since : (first last day : ℤ) → first ≤ℤ day → day ≤ℤ last → (n : ℕ) × (first +ℤ pos n ≡ day) × ((first +ℤ pos n) ≤ℤ last)
days_since first last day low high = (up day + down first - (down day + up first), omega (arith, signed_arith), omega (arith, signed_arith))

-- each day of the years has its date
pub date_at_is : (day : ℤ) → is_in_years day ≡ true → IsInCalendar (date_at day) × (day_number (date_at day) ≡ day)
date_at_is day h =
    let ends = and_parts (has_come (days_from_civil (pos 0) 1 1) day) (has_come day (days_from_civil (pos 9999) 12 31)) h in
    let low = come_is (days_from_civil (pos 0) 1 1) day ends.0 in
    let high = come_is day (days_from_civil (pos 9999) 12 31) ends.1 in
    let since = days_since (days_from_civil (pos 0) 1 1) (days_from_civil (pos 9999) 12 31) day low high in
    let found = days_on since.0 since.2 in
    date_at_same day found.0 found.1 (found.2 ∙ since.1)
